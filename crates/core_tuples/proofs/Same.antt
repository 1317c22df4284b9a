-- The test of membership.
use Rattle.std.proofs.Common.{◌≡◌, ℕ, List, [], ◌∷◌, refl, sym, ap, ◌∙◌, arith, subst, Bool, true, false, ◌&&◌, ◌||◌, eqb, Contains, inl, inr}
use Rattle.std.specs.declared.cmp.Ordering.TheVariants.{Less}
use Rattle.std.specs.Ordering.{nat_cmp, is_eq}
use Rattle.std.specs.BTreeMap.{is_at}
use Rattle.std.specs.List.{AllByRecursion}
use Rattle.std.specs.Cmp.{unsigned_ties}
use Rattle.std.specs.Cmp.Lexicographic.{lists_ties, nat_list_eq_equiv}
use Rattle.std.proofs.lemmas.Bool.{cases_Bool, false≢true}
use Rattle.std.proofs.lemmas.Bool.Decides.{nat_tests}
use Rattle.core_tuples.specs.Sets.{tuple_cmp, is_same}
use Rattle.core_tuples.specs.Merged.{has}
use Rattle.core_tuples.proofs.OrderedLemmas.{same_exact, same_itself}
use Rattle.core_tuples.proofs.OrderLemmas.{cons_cases, cons_here, cons_later, no_members}

-- the test of membership
pub has_in : (ts : List (List ℕ)) (t : List ℕ) → has ts t ≡ true → Contains ts t
has_in [] t h = absurd (false≢true h)
has_in (u ∷ ts) t h = elim (cases_Bool (is_same u t)) [
  | inl e ↦ cons_here u ts t (sym (same_exact u t e))
  | inr e ↦ cons_later u ts t (has_in ts t (sym (ap (λ (b : Bool). b || has ts t) e) ∙ h))
]

pub in_has : (ts : List (List ℕ)) (t : List ℕ) → Contains ts t → has ts t ≡ true
in_has [] t h = absurd (no_members t h)
in_has (u ∷ ts) t h = elim (cons_cases u ts t h) [
  | inl e ↦ ap (λ (b : Bool). b || has ts t) (subst (λ (v : List ℕ). is_same v t ≡ true) e (same_itself t))
  | inr later ↦ ap (λ (b : Bool). is_same u t || b) (in_has ts t later) ∙ or_true (is_same u t)
]
  where
    or_true : (b : Bool) → b || true ≡ true
    or_true true = refl
    or_true false = refl
