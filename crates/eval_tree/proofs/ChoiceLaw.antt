-- Choices of atoms for variables, atom by atom.
use Rattle.std.proofs.Common.{◌≡◌, ◌≢◌, ◌↔◌, ℕ, ◌<◌, List, [], ◌∷◌, sym, length, slice_get, Some, true, false, IsTrue}
use Rattle.core_tree.specs.declared.tree.Variable.{Variable}
use Rattle.core_tree.specs.Trees.{Variables, term_of, more_variables}
use Rattle.core_meaning.specs.Meaning.{Names, with_name, atom, IsApart, ForEach}
use Rattle.core_tuples.specs.Sets.{TupleList, IsTupleSet}
use Rattle.eval_context.specs.Settings.{SettingValue, world}
use Rattle.eval_sets.specs.SetOf.{IsSetOf}
use Rattle.eval_steps.specs.Judged.{bodies, Means, ForEachAtom}
use Rattle.eval_tree.proofs.FoundLemmas.{true_holds, false_fails}
use Rattle.eval_tree.proofs.FrontLemmas.{columns_of, place_in}

module _ (s : SettingValue) (v : Variable) (rest : Variables) (Passes : Names → Type 0) (names : Names) (i : ℕ) (earlier : List ℕ) where
  -- what is asked of an atom
  abbrev pub ForAtom : ℕ → Type 0
  ForAtom a = IsApart v.apart a earlier → ForEach (world s) (bodies s) rest Passes (with_name names v.name (atom a)) i (a ∷ earlier)

  pub each_is : (set : TupleList) → IsSetOf set (Means s (term_of v.bound) names i) → ForEachAtom s v set rest Passes names i earlier ↔ ForEach (world s) (bodies s) (more_variables v.name v.apart (term_of v.bound) rest) Passes names i earlier
  each_is set has = (
    (λ f a m apart. f a ((has.just (a ∷ [])).1 m) apart),
    (λ f a m apart. f a ((has.just (a ∷ [])).0 m) apart),
  )

  pub no_atoms_each : (set : TupleList) → IsTupleSet set → set.arity ≢ 1 → IsTrue true ↔ ForEachAtom s v set rest Passes names i earlier
  no_atoms_each set is other = true_holds (λ a c apart. absurd (other (sym (columns_of set (a ∷ []) is c))))

  pub each_fails : (set : TupleList) (k x : ℕ) → k < length set.tuples → slice_get set.tuples k ≡ Some (x ∷ []) → IsApart v.apart x earlier → ¬ ForEach (world s) (bodies s) rest Passes (with_name names v.name (atom x)) i (x ∷ earlier) → IsTrue false ↔ ForEachAtom s v set rest Passes names i earlier
  each_fails set k x lt at apart no' = false_fails (λ f. no' (f x (place_in set.tuples k (x ∷ []) lt at) apart))
