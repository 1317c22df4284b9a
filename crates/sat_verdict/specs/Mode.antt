-- The verdict on two texts: what the lines of one come to behind the clauses of the other.
use Rattle.std.specs.Prelude.{◌≡◌, ℕ, ◌+◌, ℤ, false, IsTrue, List, [], ◌∷◌, Result, Ok, Err, count_by, take, codes, decimal, ◌++◌, ◌/◌, ◌%◌}
use Rattle.base_words.specs.Words.{is_feed}
use Rattle.sat_dimacs.specs.Text.{Formula, Break, formula_of}
use Rattle.sat_lrat.specs.declared.line.Line.{Line}
use Rattle.sat_lrat.specs.declared.line.Line.TheVariants.{Lemma, Delete}
use Rattle.sat_lrat.specs.Step.{State, step, start, is_empty_lemma, Follows, IsUnsatisfiable}
use Rattle.sat_lrat.specs.Text.{Reading, Nothing, Found, Refused, read_from}
use Rattle.sat_verdict.specs.declared.mode.Verdict.{Verdict}
use Rattle.sat_verdict.specs.declared.mode.Verdict.TheVariants as says
use Rattle.sat_verdict.specs.declared.mode.Turn.{Turn}
use Rattle.sat_verdict.specs.declared.mode.Turn.TheVariants as turns

-- the number of the line that begins at a place
abbrev pub line_number : List ℕ → ℕ → ℕ
line_number text place = count_by is_feed (take place text) + 1

abbrev pub lemmas_of : Line → ℕ
lemmas_of (Lemma id clause hints) = 1
lemmas_of (Delete ids) = 0

-- Read from a place on, in a state and behind so many lemmas, a text of lines comes to a verdict.
pub data Ends (text : List ℕ) : ℕ → ℕ → State → Verdict → Type 0 where
  refuted : (from count start next : ℕ) (state after : State) (line : Line) → read_from text from ≡ Found line start next → step state line ≡ Ok after → IsTrue (is_empty_lemma line)
      → Ends text from count state says.Refuted
  rejected : (from count start next rule : ℕ) (state : State) (line : Line) → read_from text from ≡ Found line start next → step state line ≡ Err rule
      → Ends text from count state (says.Rejected rule (line_number text start))
  unfinished : (from count : ℕ) (state : State) → read_from text from ≡ Nothing → Ends text from count state (says.Unfinished count)
  unreadable : (from count start rule : ℕ) (state : State) → read_from text from ≡ Refused rule start → Ends text from count state (says.BadProof rule (line_number text start))
  more : (from count start next : ℕ) (state after : State) (line : Line) (verdict : Verdict) → read_from text from ≡ Found line start next → step state line ≡ Ok after
      → is_empty_lemma line ≡ false → Ends text next (count + lemmas_of line) after verdict → Ends text from count state verdict

-- What a line comes to is what the lines from its place on come to, if that is known.
abbrev pub IsTurn : List ℕ → ℕ → ℕ → State → State → Turn → Type 0
IsTurn text from count old new (turns.Over verdict) = Ends text from count old verdict
IsTurn text from count old new (turns.On next lemmas) = (verdict : Verdict) → Ends text next lemmas new verdict → Ends text from count old verdict

abbrev pub IfOn : Turn → (ℕ → ℕ → Type 0) → Type 0
IfOn (turns.Over verdict) P = Unit {0}
IfOn (turns.On next lemmas) P = P next lemmas

-- what follows from a formula
abbrev pub IsSoundTurn : List (List ℤ) → State → Turn → Type 0
IsSoundTurn formula new (turns.Over verdict) = verdict ≡ says.Refuted → IsUnsatisfiable formula
IsSoundTurn formula new (turns.On next lemmas) = Follows formula new

-- The verdict on a proof of a text of clauses.
abbrev pub ForFormula : List ℕ → Verdict → Result Formula Break → Type 0
ForFormula proof verdict (Ok formula) = Ends proof 0 0 (start formula.clauses) verdict
ForFormula proof verdict (Err stop) = verdict ≡ says.BadCnf stop.rule stop.line

abbrev pub IsVerdict : List ℕ → List ℕ → Verdict → Type 0
IsVerdict cnf proof verdict = ForFormula proof verdict (formula_of cnf)

-- no assignment satisfies the clauses that a text spells
abbrev pub NoneSatisfies : Result Formula Break → Type 0
NoneSatisfies (Ok formula) = IsUnsatisfiable formula.clauses
NoneSatisfies (Err stop) = ⊥

-- ---- what is written

abbrev pub status_of : Verdict → ℕ
status_of says.Refuted = 0
status_of (says.Rejected rule line) = 1
status_of (says.Unfinished lemmas) = 1
status_of (says.BadCnf rule line) = 3
status_of (says.BadProof rule line) = 3

abbrev pub message_of : Verdict → List ℕ → List ℕ → List ℕ
message_of says.Refuted cnf proof = codes "refuted"
message_of (says.Rejected rule line) cnf proof = codes "rejected L" ++ (decimal rule ++ (codes " line " ++ decimal line))
message_of (says.Unfinished lemmas) cnf proof = codes "unfinished " ++ decimal lemmas
message_of (says.BadCnf rule line) cnf proof = codes "refused C0" ++ (decimal rule ++ (codes " " ++ (cnf ++ (codes ":" ++ decimal line))))
message_of (says.BadProof rule line) cnf proof = codes "refused C" ++ (decimal rule ++ (codes " " ++ (proof ++ (codes ":" ++ decimal line))))
