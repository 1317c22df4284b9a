-- What closed formulas and expressions have at a position, by what they have at an early one.
use Rattle.std.proofs.Common.{◌≡◌, ◌↔◌, ℕ, List, sym, subst, Result, IfOk, Bool, IsTrue}
use Rattle.core_tree.specs.Trees.{Term, Claim}
use Rattle.core_meaning.specs.Meaning.{no_names}
use Rattle.core_window.proofs.SameLemmas.{same_trans}
use Rattle.core_tuples.specs.Sets.{TupleList}
use Rattle.eval_sets.specs.SetOf.{IsSetOf}
use Rattle.eval_context.specs.Settings.{SettingValue}
use Rattle.eval_steps.specs.Judged.{Means, HoldsIn, IsFound, set_in}
use Rattle.eval_steps.specs.declared.held.Held.{Held}
use Rattle.eval_tree.proofs.FoundLemmas.{if_ok_to, set_to}

module _ (q s : SettingValue) (e : q ≡ s) (place i : ℕ) where
  pub truth_is : (f : Claim) → HoldsIn q f no_names place ↔ HoldsIn q f no_names i → (E : Type 0) (r : Result Bool E) → IfOk r (λ b. IsTrue b ↔ HoldsIn q f no_names place) → IfOk r (λ b. IsTrue b ↔ HoldsIn s f no_names i)
  truth_is f same E r k = subst (λ (z : SettingValue). IfOk r (λ b. IsTrue b ↔ HoldsIn z f no_names i)) e (if_ok_to _ (λ b. IsTrue b ↔ HoldsIn q f no_names i) (λ b g. same_trans g same) r k)

  pub tuples_are : (t : Term) → ((u : List ℕ) → Means q t no_names place u ↔ Means q t no_names i u) → (h : Held) → IsFound h (Means q t no_names place) → (E : Type 0) (r : Result TupleList E) → IfOk r (λ set. set ≡ set_in h) → IfOk r (λ set. IsSetOf set (Means s t no_names i))
  tuples_are t same h has E r k = if_ok_to _ (λ set. IsSetOf set (Means s t no_names i))
      (λ set is. subst (λ (z : SettingValue). IsSetOf set (Means z t no_names i)) e (subst (λ (z : TupleList). IsSetOf z (Means q t no_names i)) (sym is) (set_to (set_in h) (Means q t no_names place) (Means q t no_names i) same has))) r k
