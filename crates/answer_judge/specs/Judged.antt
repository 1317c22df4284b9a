-- What is said of a trace: of a lasso whose text it is, and by what the model means on it.
use Rattle.std.specs.Prelude.{◌≡◌, ◌↔◌, ℕ, Bool, IsTrue, List, [], ◌∷◌, ◌++◌, Some, codes, slice_get, ⊤}
use Rattle.answer_analysis.specs.declared.ready.Ready.{Ready}
use Rattle.answer_analysis.specs.Found.{IsTraceOf}
use Rattle.core_tree.specs.declared.model.Command.{Command}
use Rattle.core_tree.specs.declared.model.Fact.{Fact}
use Rattle.core_tree.specs.Trees.{Claim, Term, claim_of}
use Rattle.core_meaning.specs.Sequence.{LassoValue}
use Rattle.core_meaning.specs.Meaning.{no_names}
use Rattle.core_meaning.specs.Kept.{Keeps}
use Rattle.core_meaning.specs.Satisfied.{HoldsAt, InTermAt, DeclaresAt}
use Rattle.answer_texts.specs.Facts.{name_in}
use Rattle.answer_texts.specs.Judged.{judgement_text, is_satisfied}
use Rattle.answer_texts.specs.declared.judgement.Judgement.{Judgement}
use Rattle.answer_texts.specs.declared.judgement.JudgedFact.{JudgedFact}
use Rattle.answer_laws.specs.Form.{IsLassoOf}
use Rattle.eval_sets.specs.SetOf.{IsSetOf}
use Rattle.eval_trace.specs.Asked.{IsFirstWithout}
use Rattle.answer_trace.specs.Text.{trace_text, tuples_text}
use Rattle.answer_laws.specs.Fault.{NamesFirst}
use Rattle.core_tuples.specs.Sets.{TupleList, IsTupleSet}
use Rattle.answer_judge.specs.declared.answer.TraceAnswer.{TraceAnswer}
use Rattle.answer_judge.specs.declared.answer.TraceAnswer.TheVariants.{Judged, Valued, BadTrace}

-- a formula of a model that was made ready holds at the first position of a lasso
abbrev pub HoldsFirst : Ready → LassoValue → Claim → Type 0
HoldsFirst ready lasso claim = HoldsAt ready.model ready.scopes lasso claim no_names 0

-- a fact has its name, and it is said just whether it holds
abbrev pub IsJudgedFact : Ready → LassoValue → JudgedFact → Fact → Type 0
IsJudgedFact ready lasso judged fact = (judged.fact ≡ name_in ready.loaded fact) × (IsTrue judged.holds ↔ HoldsFirst ready lasso (claim_of fact.formula))

-- the same of facts in order
abbrev pub AreJudged : Ready → LassoValue → List JudgedFact → List Fact → Type 0
AreJudged ready lasso [] [] = ⊤
AreJudged ready lasso (judged ∷ more) (fact ∷ facts) = IsJudgedFact ready lasso judged fact × AreJudged ready lasso more facts
AreJudged ready lasso [] (fact ∷ facts) = ⊥
AreJudged ready lasso (judged ∷ more) [] = ⊥

-- what is said of a lasso: whether it keeps the scopes of a model that was made ready, the first position at which the
-- declarations don't hold, and whether each fact of the model, in order, and its command hold at the first position
pub record IsRight (ready : Ready) (lasso : LassoValue) (judgement : Judgement) : Type 0 where
  pub command : Command
  pub chosen : slice_get ready.model.commands ready.command ≡ Some command
  pub scopes_are : IsTrue judgement.scopes ↔ Keeps ready.model ready.scopes lasso
  pub declared : IsFirstWithout (DeclaresAt ready.model ready.scopes lasso) judgement.broken_at
  pub facts_are : AreJudged ready lasso judgement.facts ready.model.facts
  pub command_is : IsTrue judgement.command ↔ HoldsFirst ready lasso (claim_of command.formula)

-- a lasso satisfies a model that was made ready and its command: it is what a search calls a trace
abbrev pub IsSatisfied : Ready → LassoValue → Type 0
IsSatisfied ready lasso = IsTraceOf ready lasso

-- the trace is the text of a lasso of the model's labels, the text is that of the judgement on it, and everything holds just
-- where the lasso satisfies the model and the command
pub record IsJudged (ready : Ready) (trace : List ℕ) (satisfied : Bool) (text : List ℕ) : Type 0 where
  pub lasso : LassoValue
  pub fits : IsLassoOf ready.labels lasso
  pub spelled : trace_text ready.labels lasso ≡ trace
  pub judgement : Judgement
  pub right : IsRight ready lasso judgement
  pub text_is : text ≡ judgement_text judgement
  pub all_hold : satisfied ≡ is_satisfied judgement
  pub satisfies : IsTrue satisfied ↔ IsSatisfied ready lasso

abbrev pub value_text : List (List ℕ) → List (List ℕ) → List ℕ
value_text atoms tuples = codes "value =" ++ (tuples_text atoms tuples ++ codes "\n")

-- the trace is the text of a lasso of the model's labels, and the text has just the tuples that the expression has at the
-- position of its sequence
pub record IsValued (ready : Ready) (value : Term) (position : ℕ) (trace : List ℕ) (text : List ℕ) : Type 0 where
  pub lasso : LassoValue
  pub fits : IsLassoOf ready.labels lasso
  pub spelled : trace_text ready.labels lasso ≡ trace
  pub set : TupleList
  pub sorted : IsTupleSet set
  pub has : IsSetOf set (InTermAt ready.model ready.scopes lasso value no_names position)
  pub text_is : text ≡ value_text ready.labels.atoms set.tuples

-- the line is the first at which no text of a lasso of the model's labels has all lines up to it
abbrev pub IsBadTrace : Ready → List ℕ → ℕ → Type 0
IsBadTrace ready trace line = NamesFirst ready.labels trace line

-- an answer that a text is no trace
abbrev pub IsNotRead : Ready → List ℕ → TraceAnswer → Type 0
IsNotRead ready trace (Judged satisfied text) = ⊥
IsNotRead ready trace (Valued text) = ⊥
IsNotRead ready trace (BadTrace line) = IsBadTrace ready trace line

-- an answer of the mode that judges a trace
abbrev pub IsJudgement : Ready → List ℕ → TraceAnswer → Type 0
IsJudgement ready trace (Judged satisfied text) = IsJudged ready trace satisfied text
IsJudgement ready trace (Valued text) = ⊥
IsJudgement ready trace (BadTrace line) = IsBadTrace ready trace line

-- an answer of the mode that evaluates an expression on a trace
abbrev pub IsValue : Ready → Term → ℕ → List ℕ → TraceAnswer → Type 0
IsValue ready value position trace (Judged satisfied text) = ⊥
IsValue ready value position trace (Valued text) = IsValued ready value position trace text
IsValue ready value position trace (BadTrace line) = IsBadTrace ready trace line
