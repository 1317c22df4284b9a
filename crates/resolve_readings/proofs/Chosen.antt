-- What the code chooses is what is chosen of the filtered lists.
use Rattle.std.proofs.Common.{◌≡◌, Bool, true, false, not, ◌&&◌, List, [], ◌∷◌, refl, ◌∙◌, ap, cond}
use Rattle.std.specs.List.{filter}
use Rattle.resolve_readings.specs.Meanings.{is_none}
use Rattle.resolve_readings.specs.Found.{single, relevant_of, plain_of, else_all, first_of_two, chosen, passes, passing, chosen_by, outcome_of, picked}
use Rattle.resolve_readings.specs.declared.part.Found.{Found}

filter_same : {X : Type 0} (p q : X → Bool) → ((x : X) → p x ≡ q x) → (xs : List X) → filter p xs ≡ filter q xs
filter_same p q e [] = refl
filter_same p q e (x ∷ xs) = ap (λ b. cond b (x ∷ filter p xs) (filter p xs)) (e x) ∙ ap (λ ys. cond (q x) (x ∷ ys) ys) (filter_same p q e xs)

filter_all : {X : Type 0} (p : X → Bool) → ((x : X) → p x ≡ true) → (xs : List X) → filter p xs ≡ xs
filter_all p e [] = refl
filter_all p e (x ∷ xs) = ap (λ b. cond b (x ∷ filter p xs) (filter p xs)) (e x) ∙ ap (λ ys. x ∷ ys) (filter_all p e xs)

twice_step : {X : Type 0} (q : X → Bool) (a : Bool) (x : X) (fs gs : List X) → gs ≡ filter q fs → cond (a && q x) (x ∷ gs) gs ≡ filter q (cond a (x ∷ fs) fs)
twice_step q true x fs gs e = ap (λ zs. cond (q x) (x ∷ zs) zs) e
twice_step q false x fs gs e = e

filter_twice : {X : Type 0} (p q : X → Bool) (xs : List X) → filter (λ x. p x && q x) xs ≡ filter q (filter p xs)
filter_twice p q [] = refl
filter_twice p q (x ∷ xs) = twice_step q (p x) x (filter p xs) (filter (λ y. p y && q y) xs) (filter_twice p q xs)

and_true : (b : Bool) → (b && true) ≡ b
and_true true = refl
and_true false = refl

all_pass : (all : List Found) → passing false false all ≡ all
all_pass all = filter_all (passes false false) (λ f. refl) all

relevant_pass : (all : List Found) → passing true false all ≡ relevant_of all
relevant_pass all = filter_same (passes true false) (λ f. f.meaning.relevant) (λ f. and_true f.meaning.relevant) all

plain_pass : (all relevant : List Found) → relevant_of all ≡ relevant → passing (not (is_none relevant)) true all ≡ plain_of (else_all relevant all)
plain_pass all [] e = refl
plain_pass all (f ∷ fs) e = filter_twice (λ g. g.meaning.relevant) (λ g. not g.meaning.integer) all ∙ ap plain_of e

pub chosen_same : (all : List Found) → chosen_by all ≡ chosen all
chosen_same all =
    ap (λ fs. first_of_two (single fs) (first_of_two (single (passing true false all)) (single (passing (not (is_none (passing true false all))) true all)))) (all_pass all)
    ∙ ap (λ fs. first_of_two (single all) (first_of_two (single fs) (single (passing (not (is_none fs)) true all)))) (relevant_pass all)
    ∙ ap (λ fs. first_of_two (single all) (first_of_two (single (relevant_of all)) (single fs))) (plain_pass all (relevant_of all) refl)

pub picked_same : (all : List Found) → outcome_of all (chosen_by all) ≡ picked all
picked_same all = ap (outcome_of all) (chosen_same all)
