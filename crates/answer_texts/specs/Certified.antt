-- The texts of a trace above clauses of one state less, and of facts that rule out every trace.
use Rattle.std.specs.Prelude.{ℕ, List, [], ◌++◌, length, codes, decimal, flat_map}
use Rattle.answer_texts.specs.Answers.{block_text, clauses_text}
use Rattle.sat_dimacs.specs.declared.cnf.Cnf.{Cnf}
use Rattle.cli_words.specs.declared.named.Part.{Part}
use Rattle.cli_words.specs.declared.named.Part.TheVariants as part
use Rattle.answer_texts.specs.Facts.{fact_words}
use Rattle.answer_texts.specs.declared.fact.FactName.{FactName}
use Rattle.sat_lrat.specs.declared.line.Line.{Line}
use Rattle.sat_lrat.specs.Text.{lines_text}

-- the part that is asked for of a trace without clauses
abbrev pub trace_part : Part → List ℕ → List ℕ
trace_part part.Answer trace = trace
trace_part part.Cnf trace = []
trace_part part.Proof trace = []
trace_part part.All trace = trace

-- the part that is asked for of a trace with clauses that say what a shorter one is, and the lines that refute them
abbrev pub above_part : Part → List ℕ → List (List ℕ) → Cnf → List Line → List ℕ
above_part part.Answer trace table cnf lines = trace
above_part part.Cnf trace table cnf lines = clauses_text table cnf
above_part part.Proof trace table cnf lines = lines_text 1 lines
above_part part.All trace table cnf lines = trace ++ block_text (codes "refutation\n") table cnf lines

-- the facts that are named, one in a line
abbrev pub facts_lines : List FactName → List ℕ
facts_lines facts = flat_map (λ f. fact_words f ++ codes "\n") facts

-- with these facts no trace of so many states is there
abbrev pub core_lines : ℕ → List FactName → List ℕ
core_lines states facts = codes "core states " ++ decimal states ++ codes " facts " ++ decimal (length facts) ++ codes "\n" ++ facts_lines facts

-- the part that is asked for of that, with the clauses and the lines that refute them
abbrev pub core_part : Part → ℕ → List FactName → List (List ℕ) → Cnf → List Line → List ℕ
core_part part.Answer states facts table cnf lines = core_lines states facts
core_part part.Cnf states facts table cnf lines = clauses_text table cnf
core_part part.Proof states facts table cnf lines = lines_text 1 lines
core_part part.All states facts table cnf lines = core_lines states facts ++ block_text (codes "refutation\n") table cnf lines
