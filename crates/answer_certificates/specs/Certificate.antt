-- The texts of searches, and what they show.
use Rattle.std.specs.Prelude.{◌≡◌, ◌⊎◌, ◌<◌, ◌≤◌, ◌-◌, ◌^◌, ℕ, List, length, Option, Some, None, ⊤}
use Rattle.std.specs.List.{All}
use Rattle.std.specs.List.Sorted.{IsStrictlyIncreasing}
use Rattle.answer_analysis.specs.Found.{IsPrepared, IsTraceOf, NoneWithin, RowsOf}
use Rattle.answer_analysis.specs.declared.ready.Prepared.{Prepared}
use Rattle.answer_texts.specs.Answers.{absent_text, unknown_text}
use Rattle.answer_texts.specs.Table.{IsTableOf}
use Rattle.sat_dimacs.specs.declared.cnf.Cnf.{Cnf}
use Rattle.bound_uppers.specs.declared.table.Bound.{Bound}
use Rattle.bound_uppers.specs.Shortest.{HasFewestStates}
use Rattle.bound_uppers.specs.Table.{IsLaidOut, bounds_over}
use Rattle.cli_words.specs.declared.named.Part.{Part}
use Rattle.answer_certificates.specs.Kept.{NoneKeeps}
use Rattle.core_meaning.specs.Sequence.{LassoValue}
use Rattle.answer_certificates.specs.Parts.{AreNeeded, RuleOut, SayPart}
use Rattle.answer_texts.specs.Certified.{trace_part, above_part, core_part}
use Rattle.answer_texts.specs.declared.fact.FactName.{FactName}
use Rattle.sat_lrat.specs.Step.{Refutes}
use Rattle.sat_lrat.specs.Spent.{Spends}
use Rattle.sat_lrat.specs.declared.line.Line.{Line}
use Rattle.answer_search.specs.Clauses.{SayTarget}
use Rattle.answer_search.specs.Found.{AreNewWithin}
use Rattle.answer_search.specs.declared.found.Proof.{Proof}
use Rattle.answer_trace.specs.Text.{trace_text}
use Rattle.answer_trace.specs.declared.label.Labels.{Labels}
use Rattle.answer_laws.specs.Form.{IsLassoOf}
use Rattle.answer_certificates.specs.Named.{AreNamed}
use Rattle.answer_certificates.specs.declared.certificate.Certificate.{Certificate}
use Rattle.answer_certificates.specs.declared.certificate.Certificate.TheVariants.{Trace, Refuted, Unknown}

-- a lasso has at most as many states as the scopes say
abbrev pub HasFewStates : Prepared → LassoValue → Type 0
HasFewStates prepared lasso = (number : ℕ) → IsPrepared number prepared → length lasso.states ≤ prepared.ready.scopes.states

-- and the fewest that show its sequence
pub record IsShort (prepared : Prepared) (lasso : LassoValue) : Type 0 where
  pub few : HasFewStates prepared lasso
  pub fewest : HasFewestStates lasso

-- the part that is asked for of a trace of a prepared model, which is a lasso of its labels, satisfies the model and its command,
-- and is short
pub record ShowsTrace (prepared : Prepared) (part : Part) (text : List ℕ) : Type 0 where
  pub lasso : LassoValue
  pub trace : IsTraceOf prepared.ready lasso
  pub fits : IsLassoOf prepared.ready.labels lasso
  pub short : IsShort prepared lasso
  pub text_is : text ≡ trace_part part (trace_text prepared.ready.labels lasso)

-- the same of a trace of one state
pub record ShowsOne (prepared : Prepared) (part : Part) (text : List ℕ) : Type 0 where
  pub lasso : LassoValue
  pub trace : IsTraceOf prepared.ready lasso
  pub fits : IsLassoOf prepared.ready.labels lasso
  pub one : length lasso.states ≡ 1
  pub few : HasFewStates prepared lasso
  pub text_is : text ≡ trace_part part (trace_text prepared.ready.labels lasso)

-- the rows of a table say what the variables of the model's bounds stand for, over so many states
abbrev pub RowsOver : Prepared → ℕ → List (List ℕ) → Type 0
RowsOver prepared states = λ table. IsTableOf prepared.ready.labels (bounds_over prepared.ready.bounds.relations states) table

-- what clauses say in each search in a prepared model: what its target does within its bounds; within these over some number of
-- states; or with some of its facts alone
abbrev pub SayAll : Prepared → Cnf → Type 0
SayAll prepared cnf = SayTarget prepared.target prepared.ready.bounds cnf

abbrev pub SayOverStates : Prepared → ℕ → Cnf → Type 0
SayOverStates prepared states cnf = SayTarget prepared.target (bounds_over prepared.ready.bounds.relations states) cnf

abbrev pub SayOfSome : Prepared → Cnf → Type 0
SayOfSome prepared cnf = SayPart prepared.target prepared.first_fact (length prepared.ready.model.facts) prepared.ready.bounds cnf

-- the part that is asked for of a trace, of these clauses, and of lines that refute them, whose lemmas are new and at most as many
-- as the budget; the rows of the table say what the variables stand for
pub record IsAboveText (Rows : List (List ℕ) → Type 0) (trace : List ℕ) (cnf : Cnf) (budget : Option ℕ) (part : Part) (text : List ℕ) : Type 0 where
  pub table : List (List ℕ)
  pub lined : Rows table
  pub lines : List Line
  pub refutes : Refutes cnf.clauses lines
  pub fresh : AreNewWithin budget cnf.clauses lines
  pub text_is : text ≡ above_part part trace table cnf lines

-- the part that is asked for of a trace of several states, of clauses over one state less, which say what the target does, and of
-- lines that refute them, where no lasso of fewer states satisfies the model and its command, as `NoneWithin` says it
pub record ShowsAbove (prepared : Prepared) (part : Part) (budget : Option ℕ) (text : List ℕ) : Type 0 where
  pub lasso : LassoValue
  pub trace : IsTraceOf prepared.ready lasso
  pub fits : IsLassoOf prepared.ready.labels lasso
  pub more : 1 < length lasso.states
  pub few : HasFewStates prepared lasso
  pub none : (number : ℕ) → IsPrepared number prepared → NoneWithin prepared (length lasso.states - 1)
  pub cnf : Cnf
  pub says : SayOverStates prepared (length lasso.states - 1) cnf
  pub shows : IsAboveText (RowsOver prepared (length lasso.states - 1)) (trace_text prepared.ready.labels lasso) cnf budget part text

-- what stands below a trace, if anything, is refuted, and its layout is that of the relations
abbrev pub StandsBelow : List Bound → Option Proof → Type 0
StandsBelow relations None = ⊤
StandsBelow relations (Some proof) = Refutes proof.cnf.clauses proof.lines × IsLaidOut (bounds_over relations proof.states) proof.layout

-- the part that is asked for of a trace with what stands below it
abbrev pub ShowsBelow : Labels → List Bound → LassoValue → Option Proof → Part → List ℕ → Type 0
ShowsBelow labels relations lasso None part text = text ≡ trace_part part (trace_text labels lasso)
ShowsBelow labels relations lasso (Some proof) part text =
    (budget : Option ℕ) → AreNewWithin budget proof.cnf.clauses proof.lines
    → IsAboveText (IsTableOf labels (bounds_over relations proof.states)) (trace_text labels lasso) proof.cnf budget part text

-- the part that is asked for of these clauses, over so many states, and of lines that refute them, whose lemmas are new and at
-- most as many as the budget; the rows of the table say what the variables stand for
pub record IsNoneText (Rows : List (List ℕ) → Type 0) (cnf : Cnf) (states : ℕ) (budget : Option ℕ) (part : Part) (text : List ℕ) : Type 0 where
  pub table : List (List ℕ)
  pub lined : Rows table
  pub lines : List Line
  pub refutes : Refutes cnf.clauses lines
  pub fresh : AreNewWithin budget cnf.clauses lines
  pub text_is : text ≡ absent_text part states table cnf lines

-- the same of clauses that say something
pub record ShowsNone (Rows : List (List ℕ) → Type 0) (Says : Cnf → Type 0) (states : ℕ) (budget : Option ℕ) (part : Part) (text : List ℕ) : Type 0 where
  pub cnf : Cnf
  pub says : Says cnf
  pub shows : IsNoneText Rows cnf states budget part text

-- the part that is asked for of these facts, of these clauses over so many states, and of lines that refute them, whose lemmas
-- are new and at most as many as the budget; the rows of the table say what the variables stand for
pub record ShowsFacts (Rows : List (List ℕ) → Type 0) (cnf : Cnf) (states : ℕ) (budget : Option ℕ) (part : Part) (facts : List FactName) (text : List ℕ) : Type 0 where
  pub table : List (List ℕ)
  pub lined : Rows table
  pub lines : List Line
  pub refutes : Refutes cnf.clauses lines
  pub fresh : AreNewWithin budget cnf.clauses lines
  pub text_is : text ≡ core_part part states facts table cnf lines

-- the part that is asked for of facts of a prepared model, each at most once and in order; of clauses over as many states as its
-- bounds have, which say what the model's target does with these facts alone; and of lines that refute them, so that no lasso
-- satisfies the declarations, these facts and the command, as `NoneKeeps` says it, and without any one of them some lasso does, as
-- `AreNeeded` says it
pub record ShowsCore (prepared : Prepared) (part : Part) (budget : Option ℕ) (text : List ℕ) : Type 0 where
  pub kept : List ℕ
  pub names : List FactName
  pub rising : IsStrictlyIncreasing kept
  pub facts : All (λ number. number < length prepared.ready.model.facts) kept
  pub named : AreNamed prepared.ready.loaded prepared.ready.model.facts kept names
  pub cnf : Cnf
  pub ruled : RuleOut prepared.target prepared.first_fact (length prepared.ready.model.facts) prepared.ready.bounds kept cnf
  pub none : (number : ℕ) → IsPrepared number prepared → NoneKeeps prepared kept
  pub needed : (number : ℕ) → IsPrepared number prepared → AreNeeded prepared.target prepared.first_fact (length prepared.ready.model.facts) prepared.ready.bounds kept
  pub scoped : (number : ℕ) → IsPrepared number prepared → prepared.ready.bounds.states ≡ prepared.ready.scopes.states
  pub shows : ShowsFacts (RowsOf prepared) cnf prepared.ready.bounds.states budget part names text

-- these clauses, and just as many lemmas as the budget has, each new and none empty, behind which one more would pass; the budget
-- is below 3 to the power of the number of variables, and the rows of the table say what these stand for
pub record IsSpentText (Rows : List (List ℕ) → Type 0) (cnf : Cnf) (budget : Option ℕ) (text : List ℕ) : Type 0 where
  pub table : List (List ℕ)
  pub lined : Rows table
  pub lines : List Line
  pub spent : budget ≡ Some (length lines)
  pub lemmas : Spends cnf.clauses (length lines) lines
  pub few : length lines < 3 ^ cnf.variables
  pub text_is : text ≡ unknown_text (length lines) table cnf lines

-- the same of clauses that say something
pub record ShowsSpent (Rows : List (List ℕ) → Type 0) (Says : Cnf → Type 0) (budget : Option ℕ) (text : List ℕ) : Type 0 where
  pub cnf : Cnf
  pub says : Says cnf
  pub shows : IsSpentText Rows cnf budget text

-- no lasso of fewer states satisfies the model and its command, as `NoneWithin` says it
abbrev pub NoneBelow : Prepared → ℕ → Type 0
NoneBelow prepared states = 1 < states → (number : ℕ) → IsPrepared number prepared → NoneWithin prepared (states - 1)

-- a budget that is spent over some number of states, at most as many as the scopes say, below which there is nothing
abbrev pub ShowsSpentLeast : Prepared → Option ℕ → List ℕ → Type 0
ShowsSpentLeast prepared budget text =
    (states : ℕ) × (0 < states) × (states ≤ prepared.target.scopes.states) × NoneBelow prepared states
    × ShowsSpent (RowsOver prepared states) (SayOverStates prepared states) budget text

-- a budget that is spent on some of the facts, over as many states as the bounds have
abbrev pub ShowsSpentCore : Prepared → Option ℕ → List ℕ → Type 0
ShowsSpentCore prepared budget text = ShowsSpent (RowsOf prepared) (SayOfSome prepared) budget text

-- the answer of a search for a trace of the fewest states of a prepared model. Where there is no trace, no lasso of at most as
-- many states as the scopes satisfies the model and its command, as `NoneWithin` says it
abbrev pub IsLeastText : Prepared → Part → Option ℕ → Certificate → Type 0
IsLeastText prepared part budget (Trace text) = ShowsOne prepared part text ⊎ ShowsAbove prepared part budget text
IsLeastText prepared part budget (Refuted text) = (states : ℕ) × ShowsNone (RowsOver prepared states) (SayOverStates prepared states) states budget part text × ((number : ℕ) → IsPrepared number prepared → (states ≡ prepared.ready.scopes.states) × NoneWithin prepared states)
IsLeastText prepared part budget (Unknown text) = ShowsSpentLeast prepared budget text

-- the answer of a search for facts of a prepared model that rule out every trace
abbrev pub IsCoreText : Prepared → Part → Option ℕ → Certificate → Type 0
IsCoreText prepared part budget (Trace text) = ShowsTrace prepared part text
IsCoreText prepared part budget (Refuted text) = ShowsCore prepared part budget text
IsCoreText prepared part budget (Unknown text) = ShowsSpentCore prepared budget text
