-- What an answer on the text of a model may be, and why.
use Rattle.std.specs.Prelude.{◌≡◌, ℕ, ◌⊎◌, List, length, map, codes, IsTrue, Option, Some, None}
use Rattle.base_types.specs.Causes.{SomeRose}
use Rattle.base_types.specs.Texts as texts
use Rattle.syntax_tree.specs.declared.loaded.Loaded.{Loaded}
use Rattle.base_types.specs.Texts.{Texts}
use Rattle.base_types.specs.declared.place.Refusal.{Refusal}
use Rattle.answer_analysis.specs.Found.{IsOfModel, IsOfText, NoneSatisfies, NoneWithin, RowsOf}
use Rattle.answer_analysis.specs.declared.fault.AnalyseFault.{AnalyseFault}
use Rattle.answer_analysis.specs.declared.ready.Ready.{Ready}
use Rattle.answer_analysis.specs.declared.fault.AnalyseFault.TheVariants as analyse
use Rattle.base_types.specs.declared.limits.TheConstants.{FILE_BYTES}
use Rattle.answer_certificates.specs.Certificate.{ShowsTrace, ShowsOne, ShowsAbove, ShowsNone, ShowsCore, ShowsSpent, ShowsSpentLeast, ShowsSpentCore, RowsOver, SayAll, SayOverStates}
use Rattle.answer_certificates.specs.declared.certificate.Certificate.{Certificate}
use Rattle.answer_certificates.specs.declared.certificate.Certificate.TheVariants as certificate
use Rattle.core_tree.specs.Trees.{Term}
use Rattle.cli_words.specs.declared.named.Mode.{Mode}
use Rattle.cli_words.specs.declared.named.Mode.TheVariants.{Exec, Commands, Make, Replay, Eval, Least, Core}
use Rattle.cli_words.specs.declared.named.Part.{Part}
use Rattle.cli_words.specs.declared.settings.Settings.{Settings}
use Rattle.load_state.specs.Causes.{IsTried}
use Rattle.load_state.specs.declared.fault.LoadFault.{LoadFault}
use Rattle.load_state.specs.declared.fault.LoadFault.TheVariants as load
use Rattle.answer_judge.specs.Expression.{TextSays}
use Rattle.answer_judge.specs.Judged.{IsJudgement, IsValue}
use Rattle.answer_judge.specs.declared.answer.TraceAnswer.{TraceAnswer}
use Rattle.cli_model.specs.Files.{file_rule}
use Rattle.cli_model.specs.Loads.{IsLoaded}
use Rattle.cli_model.specs.Modes.{analyses, looks, reads_trace}
use Rattle.cli_model.specs.Ready.{OfModel, OfPrepared}
use Rattle.cli_model.specs.Refused.{IsNamedIn, RefusedIn, RefusesLoaded}
use Rattle.cli_model.specs.Root.{ListsModule}
use Rattle.cli_model.specs.declared.answer.Answer.{Answer}
use Rattle.cli_model.specs.declared.answer.Answer.TheVariants.{Refused, ReadFault, Trace, Refuted, Unknown, Listed, Traced}

-- this is a name that is tried for a module that the model of the run opens; or the same of a model that is made; or the file
-- of a trace has it
abbrev pub IsOpened : Settings → List ℕ → Type 0
IsOpened settings name = (IsTrue (analyses settings.mode) × IsTried settings.file name) ⊎ (((settings.mode ≡ Make) × IsTried (codes "make") name) ⊎ (IsTrue (reads_trace settings.mode) × (settings.second ≡ Some name)))

-- what is written of a trace, which satisfies the model and the command: the part that is asked for; in a search for the fewest
-- states with clauses of one state less and lines that refute them, and no lasso of fewer states satisfies them; or it has one
-- state
abbrev pub ShownTrace : Loaded → Mode → ℕ → Part → Option ℕ → List ℕ → Type 0
ShownTrace loaded Least number part budget text = OfPrepared loaded number (λ prepared. ShowsOne prepared part text ⊎ ShowsAbove prepared part budget text)
ShownTrace loaded _ number part budget text = OfPrepared loaded number (λ prepared. ShowsTrace prepared part text)

-- what is written where there is no trace: the part that is asked for, of clauses that say what the target of the model does and
-- of lines that refute them, where no lasso of at most as many states as the scopes say satisfies the model and the command; in
-- a search for facts that rule out every trace, the same with these facts
abbrev pub ShownNone : Loaded → Mode → ℕ → Part → Option ℕ → List ℕ → Type 0
ShownNone loaded Core number part budget text = OfPrepared loaded number (λ prepared. ShowsCore prepared part budget text)
ShownNone loaded Exec number part budget text = OfPrepared loaded number (λ prepared. ShowsNone (RowsOf prepared) (SayAll prepared) prepared.ready.bounds.states budget part text × NoneSatisfies prepared)
ShownNone loaded Least number part budget text = OfPrepared loaded number (λ prepared. ShowsNone (RowsOver prepared prepared.ready.scopes.states) (SayOverStates prepared prepared.ready.scopes.states) prepared.ready.scopes.states budget part text × NoneWithin prepared prepared.ready.scopes.states)
ShownNone loaded _ number part budget text = ⊥

-- what is written where a budget is spent: clauses that say what the target of the model does, over some number of states in a
-- search for the fewest, and with some of the facts alone in a search for facts; and a derivation that spends it
abbrev pub ShownSpent : Loaded → Mode → ℕ → Option ℕ → List ℕ → Type 0
ShownSpent loaded Exec number budget text = OfPrepared loaded number (λ prepared. ShowsSpent (RowsOf prepared) (SayAll prepared) budget text)
ShownSpent loaded Least number budget text = OfPrepared loaded number (λ prepared. ShowsSpentLeast prepared budget text)
ShownSpent loaded Core number budget text = OfPrepared loaded number (λ prepared. ShowsSpentCore prepared budget text)
ShownSpent loaded _ number budget text = ⊥

-- the expression that is given says this value in the root of a model that was made ready, by the types of its declarations
pub record IsAsked (ready : Ready) (given : Option (List ℕ)) (value : Term) : Type 0 where
  pub expression : List ℕ
  pub is : given ≡ Some expression
  pub says : TextSays ready.loaded ready.model ready.readings.types (length ready.loaded.texts) expression value

-- what is said of the text of a trace in a mode: what a model and its command mean on it, or the tuples that the expression of the
-- settings has there at their position
abbrev pub IsSaid : Loaded → Mode → Settings → List ℕ → TraceAnswer → Type 0
IsSaid loaded Replay settings trace said = OfModel loaded settings.command (λ ready. IsJudgement ready trace said)
IsSaid loaded Eval settings trace said = OfModel loaded settings.command (λ ready. (value : Term) × IsAsked ready settings.expression value × IsValue ready value settings.position trace said)
IsSaid loaded _ settings trace said = ⊥

-- the file of this name is whole, and this is said of its text
pub record IsReadTrace (held : List (Option Texts)) (loaded : Loaded) (settings : Settings) (said : TraceAnswer) (second : List ℕ) : Type 0 where
  pub trace : List ℕ
  pub on : IsSaid loaded settings.mode settings trace said
  pub named : settings.second ≡ Some second
  pub tells : (told : List Texts) → held ≡ map (λ t. Some t) told → (texts.text_of told second ≡ Some trace) × (file_rule told (second, FILE_BYTES) ≡ None)

-- an answer on the text of a model, by what the libraries hold, and the counts of faults before its modules were asked for and
-- after that; what is said of a model is said of that of what is loaded of this text
abbrev pub IsOnModel : Settings → List (Option Texts) → List ℕ → List ℕ → List ℕ → Answer → Type 0
IsOnModel settings held text before now (Refused refusal name) = (now ≡ before) × RefusedIn held (Some text) settings refusal name
IsOnModel settings held text before now (ReadFault name) = IsOpened settings name × SomeRose before now
IsOnModel settings held text before now (Trace bytes) =
    (now ≡ before) × IsTrue (looks settings.mode) × (loaded : Loaded) × IsLoaded held settings.file text loaded × ShownTrace loaded settings.mode settings.command settings.part settings.conflicts bytes
IsOnModel settings held text before now (Refuted bytes) =
    (now ≡ before) × IsTrue (looks settings.mode) × (loaded : Loaded) × IsLoaded held settings.file text loaded × ShownNone loaded settings.mode settings.command settings.part settings.conflicts bytes
IsOnModel settings held text before now (Unknown bytes) =
    (now ≡ before) × IsTrue (looks settings.mode) × (loaded : Loaded) × IsLoaded held settings.file text loaded × ShownSpent loaded settings.mode settings.command settings.conflicts bytes
IsOnModel settings held text before now (Listed list) = (now ≡ before) × (settings.mode ≡ Commands) × ListsModule (Some text) list
IsOnModel settings held text before now (Traced said second) =
    (now ≡ before) × (loaded : Loaded) × IsLoaded held settings.file text loaded × IsReadTrace held loaded settings said second
IsOnModel settings held text before now _ = ⊥

-- the answer of a search in a loaded model, by the mode
abbrev pub IsFoundIn : Loaded → Mode → ℕ → Part → Option ℕ → Answer → Type 0
IsFoundIn loaded mode number part budget (Refused refusal name) = IsOfText loaded refusal name × IsOfModel loaded number refusal
IsFoundIn loaded mode number part budget (Trace bytes) = ShownTrace loaded mode number part budget bytes
IsFoundIn loaded mode number part budget (Refuted bytes) = ShownNone loaded mode number part budget bytes
IsFoundIn loaded mode number part budget (Unknown bytes) = ShownSpent loaded mode number budget bytes
IsFoundIn loaded mode number part budget _ = ⊥

-- the answer that has the text of a certificate
abbrev pub answer_of : Certificate → Answer
answer_of (certificate.Trace text) = Trace text
answer_of (certificate.Refuted text) = Refuted text
answer_of (certificate.Unknown text) = Unknown text

abbrev pub IsFound : Loaded → Settings → Answer → Type 0
IsFound loaded settings answer = IsFoundIn loaded settings.mode settings.command settings.part settings.conflicts answer

-- the answer of a mode that reads a trace, once the model is loaded, by what the libraries hold, and the counts of faults
-- before the file of the trace was asked for and after that
abbrev pub IsAfter : Loaded → Settings → List (Option Texts) → List ℕ → List ℕ → Answer → Type 0
IsAfter loaded settings held before now (Refused refusal name) = (now ≡ before) × RefusesLoaded held settings loaded refusal name
IsAfter loaded settings held before now (ReadFault name) = (settings.second ≡ Some name) × SomeRose before now
IsAfter loaded settings held before now (Traced said second) = (now ≡ before) × IsReadTrace held loaded settings said second
IsAfter loaded settings held before now _ = ⊥

-- the answer is what is said of the text of the file `second`
pub record IsSaidOf (loaded : Loaded) (settings : Settings) (second trace : List ℕ) (answer : Answer) : Type 0 where
  pub said : TraceAnswer
  pub says_so : answer ≡ Traced said second
  pub on : IsSaid loaded settings.mode settings trace said

-- the answer that says why a model could not be loaded
abbrev pub Says : LoadFault → Answer → Type 0
Says (load.Refused refusal name) answer = answer ≡ Refused refusal name
Says (load.Read name) answer = answer ≡ ReadFault name
Says load.Memory answer = ⊥

-- the answer that says why a loaded model could not be analysed
abbrev pub Tells : AnalyseFault → Answer → Type 0
Tells (analyse.Refused refusal name) answer = answer ≡ Refused refusal name
Tells (analyse.Read name) answer = ⊥
Tells analyse.Memory answer = ⊥

-- the answer is a refusal of this kind at a place of a loaded text, or of an expression
pub record RefusesAt (loaded : Loaded) (refusal : Refusal) (answer : Answer) : Type 0 where
  pub name : List ℕ
  pub is : answer ≡ Refused refusal name
  pub named : IsNamedIn loaded refusal name
