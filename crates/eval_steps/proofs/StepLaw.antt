-- Lists that grow item by item.
use Rattle.std.proofs.Common.{◌≡◌, ◌⊎◌, ◌↔◌, ℕ, ◌+◌, ◌<◌, ◌≤◌, List, [], ◌∷◌, ◌++◌, map, length, take, drop, get_or, Contains, inl, inr, refl, sym, ap, subst, ◌∙◌, arith, take_all, ℤ, pos, ◌+ℤ◌}
use Rattle.std.proofs.Math.IntN.{+ℤ_comm, +ℤ_assoc}
use Rattle.std.proofs.lemmas.List.{take_more, map-append}
use Rattle.std.proofs.lemmas.List.Elements.{Contains-append_left, Contains-push, Contains-push_cases}
use Rattle.core_meaning.specs.Integers.{sum_of}
use Rattle.core_tuples.specs.Sets.{TupleList, In}
use Rattle.eval_sets.specs.SetOf.{IsSetOf, Gathers}
use Rattle.eval_steps.proofs.Gather.{gathered}
use Rattle.eval_steps.specs.Judged.{GivesHead, GivesTail}
use Rattle.eval_steps.specs.declared.rows.Row.{Row}

pub take_push : {X : Type 0} (xs : List X) (k : ℕ) (x : X) → k < length xs → x ≡ get_or xs k x → take (k + 1) xs ≡ take k xs ++ x ∷ []
take_push xs k x lt at = take_more xs k x lt ∙ ap (λ y. take k xs ++ y ∷ []) (sym at)

pub prefix_more : (a : ℕ) (ns : List ℕ) (k : ℕ) (old new : List ℕ) → k < length ns → old ≡ a ∷ take k ns → new ≡ old ++ get_or ns k 0 ∷ [] → new ≡ a ∷ take (k + 1) ns
prefix_more a ns k old new lt e h = h ∙ ap (λ (l : List ℕ). l ++ get_or ns k 0 ∷ []) e ∙ ap (λ (l : List ℕ). a ∷ l) (sym (take_more ns k 0 lt))

pub prefix_all : (a : ℕ) (ns t : List ℕ) (k : ℕ) (all : List ℕ) → length ns ≤ k → ns ≡ t → all ≡ a ∷ take k ns → all ≡ a ∷ t
prefix_all a ns t k all over same e = e ∙ ap (λ (l : List ℕ). a ∷ l) (take_all k ns over ∙ same)

-- a row with an atom before its choice
abbrev pub longer : ℕ → Row → Row
longer x r = record { chosen = x ∷ r.chosen; value = r.value }

pub append_assoc' : {X : Type 0} (xs ys zs : List X) → (xs ++ ys) ++ zs ≡ xs ++ (ys ++ zs)
append_assoc' [] ys zs = refl
append_assoc' (x ∷ xs) ys zs = ap (λ l. x ∷ l) (append_assoc' xs ys zs)

pub rows_more : (a : ℕ) (more : List Row) (k : ℕ) (r q : Row) (start old new : List Row) → k < length more → r ≡ get_or more k r → q ≡ longer a r → old ≡ start ++ map (longer a) (take k more) → new ≡ old ++ q ∷ [] → new ≡ start ++ map (longer a) (take (k + 1) more)
rows_more a more k r q start old new lt at is e h =
    h
    ∙ ap (λ (l : List Row). l ++ q ∷ []) e
    ∙ ap (λ (x : Row). (start ++ map (longer a) (take k more)) ++ x ∷ []) is
    ∙ append_assoc' start (map (longer a) (take k more)) (longer a r ∷ [])
    ∙ ap (λ (l : List Row). start ++ l) (sym (map-append (longer a) (take k more) (r ∷ [])) ∙ ap (map (longer a)) (sym (take_push more k r lt at)))

pub rows_all : (a : ℕ) (more : List Row) (k : ℕ) (start all : List Row) → length more ≤ k → all ≡ start ++ map (longer a) (take k more) → all ≡ start ++ map (longer a) more
rows_all a more k start all over e = e ∙ ap (λ (l : List Row). start ++ map (longer a) l) (take_all k more over)

-- a set of the choices of the first rows
abbrev pub chosen_of : Row → List ℕ
chosen_of r = r.chosen

pub record HasChosen (set : TupleList) (rows : List Row) : Type 0 where
  pub just : (t : List ℕ) → In t set ↔ Contains (map chosen_of rows) t

pub chosen_none : (set : TupleList) (rows : List Row) → IsSetOf set (λ t. ⊥) → HasChosen set (take 0 rows)
chosen_none set rows h = record { just = λ t. ((λ c. absurd ((h.just t).0 c)), (λ c. absurd (nothing rows t c))) }
  where
    nothing : (rs : List Row) (t : List ℕ) → Contains (map chosen_of (take 0 rs)) t → ⊥
    nothing [] t (k, lt, e) = omega arith
    nothing (r ∷ rs) t (k, lt, e) = omega arith

pub chosen_more : (old new : TupleList) (rows : List Row) (k : ℕ) (r : Row) (t : List ℕ) → k < length rows → r ≡ get_or rows k r → t ≡ r.chosen → HasChosen old (take k rows) → IsSetOf new (λ u. In u old ⊎ (u ≡ t)) → HasChosen new (take (k + 1) rows)
chosen_more old new rows k r t lt at is h n =
    let more : map chosen_of (take (k + 1) rows) ≡ map chosen_of (take k rows) ++ r.chosen ∷ [] = ap (map chosen_of) (take_push rows k r lt at) ∙ map-append chosen_of (take k rows) (r ∷ []) in
    record {
      just = λ u. (
        (λ i. subst (λ (l : List (List ℕ)). Contains l u) (sym more) (elim ((n.just u).0 i) [
          | inl o ↦ Contains-append_left (map chosen_of (take k rows)) (r.chosen ∷ []) u ((h.just u).0 o)
          | inr e ↦ subst (λ (v : List ℕ). Contains (map chosen_of (take k rows) ++ r.chosen ∷ []) v) (sym (e ∙ is)) (Contains-push (map chosen_of (take k rows)) r.chosen)
        ])),
        (λ c. (n.just u).1 (elim (Contains-push_cases (map chosen_of (take k rows)) r.chosen u (subst (λ (l : List (List ℕ)). Contains l u) more c)) [
          | inl o ↦ inl ((h.just u).1 o)
          | inr e ↦ inr (sym e ∙ sym is)
        ])),
      );
    }

pub chosen_all : (set : TupleList) (rows : List Row) (k : ℕ) → length rows ≤ k → HasChosen set (take k rows) → IsSetOf set (Contains (map chosen_of rows))
chosen_all set rows k over h =
    let whole : HasChosen set rows = subst (λ (l : List Row). HasChosen set l) (take_all k rows over) h in
    record { just = whole.just }

-- sums
abbrev pub value_of : Row → ℤ
value_of r = r.value

sum_push : (zs : List ℤ) (z : ℤ) → sum_of (zs ++ z ∷ []) ≡ sum_of zs +ℤ z
sum_push [] z = +ℤ_comm z (pos 0)
sum_push (y ∷ zs) z = ap (λ s. y +ℤ s) (sum_push zs z) ∙ sym (+ℤ_assoc y (sum_of zs) z)

pub sum_more : (rows : List Row) (k : ℕ) (r : Row) (v old new : ℤ) → k < length rows → r ≡ get_or rows k r → v ≡ r.value → old ≡ sum_of (map value_of (take k rows)) → new ≡ old +ℤ v → new ≡ sum_of (map value_of (take (k + 1) rows))
sum_more rows k r v old new lt at f e h =
    h
    ∙ ap (λ (z : ℤ). old +ℤ z) f
    ∙ ap (λ (z : ℤ). z +ℤ r.value) e
    ∙ sym (sum_push (map value_of (take k rows)) r.value)
    ∙ ap sum_of (sym (map-append value_of (take k rows) (r ∷ [])) ∙ ap (map value_of) (sym (take_push rows k r lt at)))

pub sum_all : (rows : List Row) (k : ℕ) (all : ℤ) → length rows ≤ k → all ≡ sum_of (map value_of (take k rows)) → sum_of (map value_of rows) ≡ all
sum_all rows k all over e = ap (λ (l : List Row). sum_of (map value_of l)) (sym (take_all k rows over)) ∙ sym e

-- sets that are gathered
pub gives_all : (set all : TupleList) (G : List ℕ → List ℕ → Type 0) (ts : List (List ℕ)) (k : ℕ) → length ts ≤ k → ts ≡ set.tuples → Gathers all G (take k ts) → IsSetOf all (λ u. (t : List ℕ) × In t set × G t u)
gives_all set all G ts k over is h = gathered set all G ts k (λ u. (t : List ℕ) × In t set × G t u) over is h (λ t. ((λ x. x), (λ x. x)))

pub head_row : (ns : List ℕ) (n : ℕ) (row : List ℕ) → n ≤ length ns → (cut : List ℕ) → row ≡ cut → cut ≡ take n ns → (t : List ℕ) → (t ≡ row) ↔ GivesHead n ns t
head_row ns n row le cut e f t = ((λ g. (le, g ∙ e ∙ f)), (λ (l, g). g ∙ sym (e ∙ f)))

pub tail_row : (ns : List ℕ) (n : ℕ) (row : List ℕ) → n ≤ length ns → (cut : List ℕ) → row ≡ cut → cut ≡ drop n ns → (t : List ℕ) → (t ≡ row) ↔ GivesTail n ns t
tail_row ns n row le cut e f t = ((λ g. (le, g ∙ e ∙ f)), (λ (l, g). g ∙ sym (e ∙ f)))
