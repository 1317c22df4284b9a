use Rattle.std.proofs.Common.{◌≡◌, ◌∙◌, ℕ, ◌||◌, if◌then◌else◌, List, ap}
use Rattle.std.specs.List.{list_any}
use Rattle.core_tree.specs.declared.model.Model.{Model}
use Rattle.core_tree.specs.declared.model.Sig.{Sig}
use Rattle.core_tree.specs.declared.model.Field.{Field}
use Rattle.core_tree.specs.declared.model.ScopeEntry.{ScopeEntry}
use Rattle.bound_definitions.specs.Numbers.{steps_in, states_in}
use Rattle.bound_definitions.specs.Refusals.{IsRefusal}
use Rattle.bound_scopes.specs.Limits.{IsFaultOf}
use Rattle.bound_scopes.proofs.Answering.{handed}
use Rattle.bound_scopes.proofs.Refusing.{bad_first, exact_first, word_first, bits_first, steps_first, atoms_first, trees_first, memory_fault}
use Rattle.bound_scopes.proofs.limits.scopes_of.Goals as goal

states_by : (model : Model) (entries : List ScopeEntry) (steps states : ℕ) → steps ≡ steps_in entries → states ≡ (if list_any (λ (d : Sig). d.is_var) model.sigs || list_any (λ (f : Field). f.is_var) model.fields then steps else 1) → states ≡ states_in model entries
states_by model entries steps states e is = is ∙ ap (λ (n : ℕ). if list_any (λ (d : Sig). d.is_var) model.sigs || list_any (λ (f : Field). f.is_var) model.fields then n else 1) e

pub returns-clause-by : goal.returns-clause-by
returns-clause-by c =
    let is = c.in_ok-numbers.ensures.numbered in
    record {
      sums = is.sums;
      numbers = is.numbers;
      are_sums = is.are_sums;
      are_numbers = is.are_numbers;
      each = is.each;
      bits = c.in_ok-bits.ensures.is;
      states = states_by c.args.model.now c.args.command.now.scope c.in_ok-steps.steps c.states_of-states.result c.in_ok-steps.ensures.is c.states_of-states.ensures.is;
    }

pub returns-clause-kept : goal.returns-clause-kept
returns-clause-kept c = (
  c.in_ok-check_entries.ensures.ok,
  (c.in_ok-check_exact.ensures.ok, (c.in_ok-check_words.ensures.ok, (c.in_ok-bits.ensures.ok, (c.in_ok-steps.ensures.ok, (c.in_ok-check_atoms.ensures.ok, c.in_ok-check_trees.ensures.ok))))),
)

pub returns-in_err-check_entries-clause-refused : goal.returns-in_err-check_entries-clause-refused
returns-in_err-check_entries-clause-refused c =
    handed (IsFaultOf (IsRefusal c.args.model.now c.args.command.now)) c.from_residual-in_err-check_entries.result c.in_err-check_entries.field-0.0 c.from_residual-in_err-check_entries.ensures.1
    (bad_first c.args.model.now c.args.command.now c.in_ok-numbers.numbers c.in_ok-numbers.ensures.numbered c.in_err-check_entries.field-0.0 c.in_err-check_entries.ensures.refused)

pub returns-in_err-check_exact-clause-refused : goal.returns-in_err-check_exact-clause-refused
returns-in_err-check_exact-clause-refused c =
    handed (IsFaultOf (IsRefusal c.args.model.now c.args.command.now)) c.from_residual-in_err-check_exact.result c.in_err-check_exact.field-0.0 c.from_residual-in_err-check_exact.ensures.1
    (exact_first c.args.model.now c.args.command.now c.in_ok-numbers.numbers c.in_ok-numbers.ensures.numbered c.in_ok-check_entries.ensures.ok c.in_err-check_exact.field-0.0 c.in_err-check_exact.ensures.refused)

pub returns-in_err-check_words-clause-refused : goal.returns-in_err-check_words-clause-refused
returns-in_err-check_words-clause-refused c =
    handed (IsFaultOf (IsRefusal c.args.model.now c.args.command.now)) c.from_residual-in_err-check_words.result c.in_err-check_words.field-0.0 c.from_residual-in_err-check_words.ensures.1
    (word_first c.args.model.now c.args.command.now c.in_ok-numbers.numbers c.in_ok-numbers.ensures.numbered c.in_ok-check_entries.ensures.ok c.in_ok-check_exact.ensures.ok c.in_err-check_words.field-0.0 c.in_err-check_words.ensures.refused)

pub returns-in_err-bits-clause-refused : goal.returns-in_err-bits-clause-refused
returns-in_err-bits-clause-refused c =
    handed (IsFaultOf (IsRefusal c.args.model.now c.args.command.now)) c.from_residual-in_err-bits.result c.in_err-bits.field-0.0 c.from_residual-in_err-bits.ensures.1
    (bits_first c.args.model.now c.args.command.now c.in_ok-numbers.numbers c.in_ok-numbers.ensures.numbered c.in_ok-check_entries.ensures.ok c.in_ok-check_exact.ensures.ok c.in_ok-check_words.ensures.ok c.in_err-bits.field-0.0 c.in_err-bits.ensures.refused)

pub returns-in_err-steps-clause-refused : goal.returns-in_err-steps-clause-refused
returns-in_err-steps-clause-refused c =
    handed (IsFaultOf (IsRefusal c.args.model.now c.args.command.now)) c.from_residual-in_err-steps.result c.in_err-steps.field-0.0 c.from_residual-in_err-steps.ensures.1
    (steps_first c.args.model.now c.args.command.now c.in_ok-numbers.numbers c.in_ok-numbers.ensures.numbered c.in_ok-check_entries.ensures.ok c.in_ok-check_exact.ensures.ok c.in_ok-check_words.ensures.ok c.in_ok-bits.ensures.ok c.in_err-steps.field-0.0 c.in_err-steps.ensures.refused)

pub returns-in_err-check_atoms-clause-refused : goal.returns-in_err-check_atoms-clause-refused
returns-in_err-check_atoms-clause-refused c =
    handed (IsFaultOf (IsRefusal c.args.model.now c.args.command.now)) c.from_residual-in_err-check_atoms.result c.in_err-check_atoms.field-0.0 c.from_residual-in_err-check_atoms.ensures.1
    (atoms_first c.args.model.now c.args.command.now c.in_ok-numbers.numbers c.in_ok-numbers.ensures.numbered c.in_ok-check_entries.ensures.ok c.in_ok-check_exact.ensures.ok c.in_ok-check_words.ensures.ok c.in_ok-bits.ensures.ok c.in_ok-steps.ensures.ok c.in_ok-bits.bits c.in_ok-bits.ensures.is c.in_err-check_atoms.field-0.0 c.in_err-check_atoms.ensures.refused)

pub returns-in_err-check_trees-clause-refused : goal.returns-in_err-check_trees-clause-refused
returns-in_err-check_trees-clause-refused c =
    handed (IsFaultOf (IsRefusal c.args.model.now c.args.command.now)) c.from_residual-in_err-check_trees.result c.in_err-check_trees.field-0.0 c.from_residual-in_err-check_trees.ensures.1
    (trees_first c.args.model.now c.args.command.now c.in_ok-numbers.numbers c.in_ok-numbers.ensures.numbered c.in_ok-check_entries.ensures.ok c.in_ok-check_exact.ensures.ok c.in_ok-check_words.ensures.ok c.in_ok-bits.ensures.ok c.in_ok-steps.ensures.ok c.in_ok-bits.bits c.in_ok-bits.ensures.is c.in_ok-check_atoms.ensures.ok c.in_err-check_trees.field-0.0 c.in_err-check_trees.ensures.refused)

pub returns-in_err-are_kept-clause-refused : goal.returns-in_err-are_kept-clause-refused
returns-in_err-are_kept-clause-refused c =
    handed (IsFaultOf (IsRefusal c.args.model.now c.args.command.now)) c.from_residual-in_err-are_kept.result c.in_err-are_kept.field-0.0 c.from_residual-in_err-are_kept.ensures.1
    (memory_fault (IsRefusal c.args.model.now c.args.command.now) c.in_err-are_kept.field-0.0 c.in_err-are_kept.ensures.fault)
