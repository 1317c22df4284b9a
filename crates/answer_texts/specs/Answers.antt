-- The texts of answers with clauses.
use Rattle.std.specs.Prelude.{ℕ, List, ◌++◌, length, codes, decimal}
use Rattle.cli_words.specs.declared.named.Part.{Part}
use Rattle.cli_words.specs.declared.named.Part.TheVariants as part
use Rattle.sat_dimacs.specs.declared.cnf.Cnf.{Cnf}
use Rattle.sat_dimacs.specs.Text.{cnf_text}
use Rattle.sat_lrat.specs.declared.line.Line.{Line}
use Rattle.sat_lrat.specs.Text.{lines_text}

-- the line that no trace of so many states is there
abbrev pub none_line : ℕ → List ℕ
none_line states = codes "none states " ++ decimal states ++ codes "\n"

-- the line that so many conflicts left it open
abbrev pub unknown_line : ℕ → List ℕ
unknown_line conflicts = codes "unknown conflicts " ++ decimal conflicts ++ codes "\n"

-- clauses in their format, the rows of the table first
abbrev pub clauses_text : List (List ℕ) → Cnf → List ℕ
clauses_text table cnf = cnf_text table cnf.variables cnf.clauses

-- clauses and the lines that belong to them, each under a heading
abbrev pub block_text : List ℕ → List (List ℕ) → Cnf → List Line → List ℕ
block_text heading table cnf lines = codes "clauses\n" ++ clauses_text table cnf ++ heading ++ lines_text 1 lines ++ codes "end\n"

-- the part that is asked for of an answer that there is no trace
abbrev pub absent_text : Part → ℕ → List (List ℕ) → Cnf → List Line → List ℕ
absent_text part.Answer states table cnf lines = none_line states
absent_text part.Cnf states table cnf lines = clauses_text table cnf
absent_text part.Proof states table cnf lines = lines_text 1 lines
absent_text part.All states table cnf lines = none_line states ++ block_text (codes "refutation\n") table cnf lines

-- an answer that is open is written whole
abbrev pub unknown_text : ℕ → List (List ℕ) → Cnf → List Line → List ℕ
unknown_text conflicts table cnf lines = unknown_line conflicts ++ block_text (codes "derivation\n") table cnf lines
