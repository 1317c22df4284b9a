-- Hints that pass still do where what they name is found again.
use Rattle.std.proofs.Common.{◌≡◌, ℕ, ℤ, neg_ℤ, Bool, true, false, cond, ◌&&◌, List, [], ◌∷◌, Option, Some, None, refl, sym, subst}
use Rattle.std.specs.List.{list_all}
use Rattle.sat_lrat.specs.declared.line.Rest.{Rest}
use Rattle.sat_lrat.specs.declared.line.Rest.TheVariants.{Nothing, One, Several}
use Rattle.sat_lrat.specs.Step.{with_literal, rest_of, at_rest, at_hint, walk}

pub and_first : (a b : Bool) → (a && b) ≡ true → a ≡ true
and_first true b e = refl
and_first false b e = cc

pub and_second : (a b : Bool) → (a && b) ≡ true → b ≡ true
and_second true b e = e
and_second false b e = cc

-- the second finds what the first does, at each number that is known
abbrev pub Finds : (ℕ → Bool) → (ℕ → Option (List ℤ)) → (ℕ → Option (List ℤ)) → Type 0
Finds known f g = (number : ℕ) (clause : List ℤ) → known number ≡ true → f number ≡ Some clause → g number ≡ Some clause

rest_again : (fails : ℤ → Bool) (f g : ℤ → Option ℕ) → ((x : ℤ) → f x ≡ None → g x ≡ None) → (rest : Rest) → at_rest fails f rest ≡ None → at_rest fails g rest ≡ None
rest_again fails f g on Nothing e = refl
rest_again fails f g on (One x) e =
    elim (fails (neg_ℤ x)) as (λ b. cond b (Some 3) (f x) ≡ None → cond b (Some 3) (g x) ≡ None) [ true ↦ λ h. h | false ↦ λ h. on x h ] e
rest_again fails f g on Several e = e

hint_again : (fails : ℤ → Bool) (f g : ℤ → Option ℕ) → ((x : ℤ) → f x ≡ None → g x ≡ None)
    → (found other : Option (List ℤ)) → ((clause : List ℤ) → found ≡ Some clause → other ≡ Some clause) → at_hint fails f found ≡ None → at_hint fails g other ≡ None
hint_again fails f g on None other finds e = cc
hint_again fails f g on (Some clause) other finds e =
    subst (λ o. at_hint fails g o ≡ None) (sym (finds clause refl)) (rest_again fails f g on (rest_of fails clause) e)

pub walk_again : (known : ℕ → Bool) (f g : ℕ → Option (List ℤ)) → Finds known f g → (hints : List ℕ) (fails : ℤ → Bool) → list_all known hints ≡ true
    → walk f fails hints ≡ None → walk g fails hints ≡ None
walk_again known f g finds [] fails each e = cc
walk_again known f g finds (hint ∷ hints) fails each e =
    hint_again fails (λ x. walk f (with_literal (neg_ℤ x) fails) hints) (λ x. walk g (with_literal (neg_ℤ x) fails) hints)
    (λ x passes. walk_again known f g finds hints (with_literal (neg_ℤ x) fails) (and_second (known hint) (list_all known hints) each) passes)
    (f hint) (g hint) (λ clause found. finds hint clause (and_first (known hint) (list_all known hints) each) found) e
