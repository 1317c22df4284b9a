-- What a model is made ready with, and what an analysis may answer.
use Rattle.std.specs.Prelude.{◌≡◌, ◌≤◌, ◌<◌, ◌^◌, ◌⊎◌, ℕ, List, length, All, ⊤, Option, Some, option_map, slice_get}
use Rattle.base_types.specs.declared.place.Refusal.{Refusal}
use Rattle.base_types.specs.declared.place.Rule.TheVariants.{Cells}
use Rattle.syntax_tree.specs.declared.loaded.Loaded.{Loaded}
use Rattle.bound_uppers.specs.Candidates.{IsCandidate}
use Rattle.bound_uppers.specs.Shortest.{HasFewestStates}
use Rattle.bound_uppers.specs.Table.{IsTable, bounds_over}
use Rattle.bound_uppers.specs.Counts.{IsLarge, IsSmall}
use Rattle.bound_laws.specs.Satisfying.{AreBoundsOf, IsLassoOver}
use Rattle.bound_laws.specs.Placed.{ArePlaced}
use Rattle.core_meaning.specs.Kept.{universe_size}
use Rattle.core_meaning.specs.Satisfied.{Satisfies}
use Rattle.core_meaning.specs.declared.scopes.Scopes.{Scopes}
use Rattle.core_meaning.specs.Sequence.{LassoValue}
use Rattle.core_tree.specs.Trees.{claim_of}
use Rattle.core_tree.specs.declared.model.Command.{Command}
use Rattle.core_tree.specs.Models.{IsModel}
use Rattle.core_tree.specs.declared.model.Model.{Model}
use Rattle.bound_scopes.specs.Limits.{AreScopes, no_command}
use Rattle.bound_scopes.specs.Numbers.{IsListed}
use Rattle.core_laws.specs.Typed.{ExtendsPlain, BoundsNameOwned}
use Rattle.bound_definitions.specs.Numbers.{AreScopesBy}
use Rattle.bound_definitions.specs.Refusals.{AreKept, Breaks, IsRefusal, command_rules}
use Rattle.form_skolem.specs.Opened.{IsOpened}
use Rattle.form_target.specs.Targets.{IsTargetOf}
use Rattle.resolve_check.specs.Kept.{IsModelButTypes}
use Rattle.resolve_model.specs.Refused.{IsOfReadings}
use Rattle.resolve_read.specs.declared.types.Readings.{Readings}
use Rattle.resolve_told.specs.Texts.{IsOfTexts}
use Rattle.answer_search.specs.Clauses.{IsRuledOut, SayTarget}
use Rattle.answer_search.specs.Found.{AreNewWithin}
use Rattle.answer_texts.specs.Table.{IsTableOf}
use Rattle.answer_trace.specs.Made.{AreRelationsOf, relation_labels_of, universe_texts}
use Rattle.answer_laws.specs.Form.{HaveLassos, IsLassoOf}
use Rattle.answer_analysis.specs.declared.ready.Prepared.{Prepared}
use Rattle.answer_analysis.specs.declared.ready.Ready.{Ready}
use Rattle.sat_lrat.specs.Step.{Refutes}
use Rattle.sat_lrat.specs.Spent.{Spends}
use Rattle.answer_analysis.specs.declared.answer.Answer.{Answer}
use Rattle.answer_analysis.specs.declared.answer.Answer.TheVariants.{Trace, Refuted, Unknown}
use Rattle.answer_analysis.specs.declared.fault.AnalyseFault.{AnalyseFault}
use Rattle.answer_analysis.specs.declared.fault.AnalyseFault.TheVariants.{Refused, Read, Memory}

-- A model is the one that these texts declare by these readings, in which each relation parameter of the predicate that the command
-- of this number runs is a field, and over these fields the command asks.
pub record OpensResolved (loaded : Loaded) (number : ℕ) (model : Model) (readings : Readings) : Type 0 where
  pub resolved : Model
  pub kept : IsModelButTypes resolved
  pub of_texts : IsOfTexts loaded resolved readings
  pub opens : IsOpened resolved number model

-- a model made ready for its command of this number: the model keeps what resolved models keep, and no sig of it extends an
-- `in` sig; each field belongs to a sig, or is one of those that stand for relation parameters and the command places it; the
-- scopes are the ones that the rules give the command, which breaks none of the rules on scopes, and the table is small enough;
-- the bounds are those of the model and the scopes and have a table; the labels are exactly those of its relations and of its
-- universe, an atom for each number of it, and each text under them is that of one lasso
pub record IsReady (number : ℕ) (ready : Ready) : Type 0 where
  pub kept : IsModel ready.model
  pub plain : ExtendsPlain ready.model.sigs
  pub opened : OpensResolved ready.loaded number ready.model ready.readings
  pub command : Command
  pub asked : ready.command ≡ number
  pub chosen : slice_get ready.model.commands number ≡ Some command
  pub counted : length ready.scopes.numbers ≡ length ready.model.sigs
  pub scopes_are : AreScopes ready.model ready.scopes
  pub scoped_by : AreScopesBy ready.model command ready.scopes
  pub named : BoundsNameOwned ready.model
  pub placed : ArePlaced ready.model (claim_of command.formula)
  pub unbroken : AreKept (Breaks ready.model command ready.scopes) command_rules
  pub listed : All (IsListed ready.scopes.numbers) command.scope
  pub fits : IsSmall ready.model ready.scopes
  pub table : IsTable ready.bounds
  pub bounds_are : AreBoundsOf ready.model ready.scopes ready.bounds
  pub states : ready.bounds.states ≡ ready.scopes.states
  pub relations_are : AreRelationsOf ready.model ready.labels
  pub labels_are : ready.labels.relations ≡ relation_labels_of ready.model ready.scopes
  pub atoms_are : ready.labels.atoms ≡ universe_texts ready.model ready.scopes
  pub read : HaveLassos ready.labels
  pub universe : length ready.labels.atoms ≡ universe_size ready.scopes

-- the same made ready for a search: the target is that of the command under the scopes
pub record IsPrepared (number : ℕ) (prepared : Prepared) : Type 0 where
  pub ready : IsReady number prepared.ready
  pub target_is : IsTargetOf prepared.ready.model prepared.ready.scopes (claim_of ready.command.formula) prepared.target prepared.first_fact
  pub scoped : prepared.target.scopes ≡ prepared.ready.scopes

-- a lasso satisfies a model that was made ready and its command
pub record IsTraceOf (ready : Ready) (lasso : LassoValue) : Type 0 where
  pub command : Command
  pub chosen : slice_get ready.model.commands ready.command ≡ Some command
  pub satisfies : Satisfies ready.model ready.scopes lasso (claim_of command.formula)

-- no lasso of at most so many states satisfies the model and its command
abbrev pub NoneWithin : Prepared → ℕ → Type 0
NoneWithin prepared most =
    (lasso : LassoValue) → IsLassoOver prepared.ready.model prepared.ready.scopes lasso → length lasso.states ≤ most → IsTraceOf prepared.ready lasso → ⊥

-- what is ruled out within the bounds of the model over some number of states
abbrev pub RuledOutMeansNone : Type 0
RuledOutMeansNone = (number : ℕ) (prepared : Prepared) (states : ℕ) → IsPrepared number prepared → 0 < states → IsRuledOut prepared.target (bounds_over prepared.ready.bounds.relations states) → NoneWithin prepared states

-- what the refutation of a search means
pub record NoneSatisfies (prepared : Prepared) : Type 0 where
  -- no lasso within the bounds, of as many states as they have, satisfies the model and its command
  pub candidates : (lasso : LassoValue) → IsCandidate prepared.ready.bounds lasso → IsTraceOf prepared.ready lasso → ⊥
  -- and none at all of at most as many states as the scopes say
  pub lassos : NoneWithin prepared prepared.ready.scopes.states

-- the rows of a table say what the variables of the bounds stand for
abbrev pub RowsOf : Prepared → List (List ℕ) → Type 0
RowsOf prepared = λ table. IsTableOf prepared.ready.labels prepared.ready.bounds table

-- A trace satisfies the model and the command, is a lasso of the labels, and has the fewest states that show its sequence. Where
-- there is no lasso, the lines refute the clauses, their lemmas are new and at most as many as the budget, and no lasso satisfies
-- the model and the command, as `NoneSatisfies` says. Only a budget that is
-- spent leaves it open: there are just as many lemmas, each new and none empty, and one more would pass; and it is below 3 to the
-- power of the number of variables. The clauses say what the target does, as `SayTarget` tells, and the rows of the table what
-- their variables stand for.
abbrev pub IsFoundIn : Prepared → Option ℕ → Answer → Type 0
IsFoundIn prepared budget (Trace labels lasso) = (labels ≡ prepared.ready.labels) × IsTraceOf prepared.ready lasso × IsLassoOf prepared.ready.labels lasso × (length lasso.states ≤ prepared.ready.bounds.states) × HasFewestStates lasso
IsFoundIn prepared budget (Refuted table states cnf lines) = (states ≡ prepared.ready.bounds.states) × Refutes cnf.clauses lines × ((number : ℕ) → IsPrepared number prepared → NoneSatisfies prepared) × SayTarget prepared.target prepared.ready.bounds cnf × AreNewWithin budget cnf.clauses lines × RowsOf prepared table
IsFoundIn prepared budget (Unknown table cnf lines) = (budget ≡ Some (length lines)) × Spends cnf.clauses (length lines) lines × (length lines < 3 ^ cnf.variables) × SayTarget prepared.target prepared.ready.bounds cnf × RowsOf prepared table

-- the same of the model of what is loaded, made ready for its command of this number
abbrev pub IsFound : Loaded → ℕ → Option ℕ → Answer → Type 0
IsFound loaded number budget answer = (prepared : Prepared) × (prepared.ready.loaded ≡ loaded) × IsPrepared number prepared × IsFoundIn prepared budget answer

-- the name is that of the text of the place, which is one of those that are loaded
abbrev pub IsOfText : Loaded → Refusal → List ℕ → Type 0
IsOfText loaded refusal name = option_map (λ t. t.name) (slice_get loaded.texts refusal.place.module) ≡ Some name

-- a model of what is loaded, opened for its command of this number: it keeps what resolved models keep
pub record IsModelIn (loaded : Loaded) (number : ℕ) (model : Model) : Type 0 where
  pub kept : IsModel model
  pub readings : Readings
  pub opened : OpensResolved loaded number model readings

-- By a rule on a command and its scopes, of a model of what is loaded: there is no command of the number that was asked for, which
-- is said at the beginning of the root; or the command of this number breaks a rule on its scopes, or on formulas under them, and
-- this is its refusal by the first of them, at the first place; or it breaks none of these, and its table is too large, which is
-- said at its keyword.
pub data IsOfCommand (loaded : Loaded) (number : ℕ) (refusal : Refusal) : Type 0 where
  no_such : (model : Model) → IsModelIn loaded number model → length model.commands ≤ number → refusal ≡ no_command → IsOfCommand loaded number refusal
  on_scopes : (model : Model) → IsModelIn loaded number model → (command : Command) → slice_get model.commands number ≡ Some command → IsRefusal model command refusal → IsOfCommand loaded number refusal
  too_large : (model : Model) → IsModelIn loaded number model → (command : Command) → slice_get model.commands number ≡ Some command → (scopes : Scopes) → AreScopesBy model command scopes → AreKept (Breaks model command scopes) command_rules →
      IsLarge model scopes → refusal ≡ record { rule = Cells; place = command.keyword } → IsOfCommand loaded number refusal

-- by a rule on names, sigs, fields and readings, at a place of a text that is loaded; or by one on a command and its scopes
abbrev pub IsOfModel : Loaded → ℕ → Refusal → Type 0
IsOfModel loaded number refusal = IsOfReadings loaded.texts loaded.instances refusal ⊎ IsOfCommand loaded number refusal

-- a fault once the model is loaded and its command of this number is asked for: no library is asked then, and a refusal names the
-- text of its place
abbrev pub IsLoadedFault : Loaded → ℕ → AnalyseFault → Type 0
IsLoadedFault loaded number (Refused refusal name) = IsOfText loaded refusal name × IsOfModel loaded number refusal
IsLoadedFault loaded number (Read name) = ⊥
IsLoadedFault loaded number Memory = ⊤
