-- The refusals of a loaded model: the text that they name, and their rules.
use Rattle.std.proofs.Common.{◌≡◌, ◌∙◌, ◌≤◌, ℕ, zero, suc, List, [], ◌∷◌, length, Result, Err, Option, Some, None, option_map, sym, ap, subst, refl, arith}
use Rattle.std.specs.Prelude.{IfErr, IfSome, slice_get}
use Rattle.base_types.specs.declared.place.Refusal.{Refusal}
use Rattle.syntax_tree.specs.declared.instance.Text.{Text}
use Rattle.syntax_tree.specs.declared.loaded.Loaded.{Loaded}
use Rattle.core_tree.specs.declared.model.Command.{Command}
use Rattle.core_tree.specs.declared.model.Model.{Model}
use Rattle.core_meaning.specs.declared.scopes.Scopes.{Scopes}
use Rattle.bound_definitions.specs.Refusals.{IsRefusal}
use Rattle.bound_scopes.specs.Limits.{IsFaultOf, no_command}
use Rattle.base_types.specs.declared.fault.Fault.{Fault}
use Rattle.base_types.specs.declared.fault.Fault.TheVariants.{Refused}
use Rattle.answer_analysis.specs.Found.{IsLoadedFault, IsModelIn, IsOfCommand, IsOfModel, no_such, on_scopes}
use Rattle.answer_analysis.specs.declared.fault.AnalyseFault.TheVariants as analyse

-- a refusal with the name of the text of its place
pub named_fault : (loaded : Loaded) (number : ℕ) (refusal : Refusal) (text : Text) (name : List ℕ) → slice_get loaded.texts refusal.place.module ≡ Some text → name ≡ text.name → IsOfModel loaded number refusal →
    IsLoadedFault loaded number (analyse.Refused refusal name)
named_fault loaded number refusal text name get at why = (ap (option_map (λ (t : Text). t.name)) get ∙ ap (λ n. Some n) (sym at), why)

some_none : {X : Type 0} (x : X) → Some x ≡ None → ⊥
some_none x none = cc

-- where nothing stands at a place, the list is no longer
past_end : {X : Type 0} (xs : List X) (k : ℕ) → slice_get xs k ≡ None → length xs ≤ k
past_end [] k none = omega arith
past_end (x ∷ xs) zero none = absurd (some_none x none)
past_end (x ∷ xs) (suc k) none = let le : length xs ≤ k = past_end xs k none in omega (arith, le)

-- a refusal of scopes is that of the command of this number, or says that there is none
module _ (loaded : Loaded) (model : Model) (number : ℕ) (r : Result Scopes Fault) (refusal : Refusal) (made : IsModelIn loaded number model) (is : r ≡ Err (Refused refusal)) (none : length model.commands ≤ number → r ≡ Err (Refused no_command)) where
  by_command : (o : Option Command) → slice_get model.commands number ≡ o → IfSome o (λ c. IfErr r (IsFaultOf (IsRefusal model c))) → IsOfCommand loaded number refusal
  by_command (Some command) at fault = on_scopes model made command at (subst (λ x. IfErr x (IsFaultOf (IsRefusal model command))) is fault)
  by_command None at fault =
      let far : length model.commands ≤ number = past_end model.commands number at in
      let other : r ≡ Err (Refused no_command) = none far in
      let same : refusal ≡ no_command = cc (is, other) in
      no_such model made far same

  pub of_scopes : IfSome (slice_get model.commands number) (λ c. IfErr r (IsFaultOf (IsRefusal model c))) → IsOfCommand loaded number refusal
  of_scopes fault = by_command (slice_get model.commands number) refl fault
