-- The status and the text of an answer on a trace.
use Rattle.std.specs.Prelude.{ℕ, Bool, true, false, List, ◌++◌, codes, decimal}
use Rattle.answer_judge.specs.declared.answer.TraceAnswer.{TraceAnswer}
use Rattle.answer_judge.specs.declared.answer.TraceAnswer.TheVariants.{Judged, Valued, BadTrace}

abbrev pub judged_status : Bool → ℕ
judged_status true = 0
judged_status false = 1

abbrev pub status_of : TraceAnswer → ℕ
status_of (Judged satisfied text) = judged_status satisfied
status_of (Valued text) = 0
status_of (BadTrace line) = 3

-- the line that a file is no text of a trace
abbrev pub bad_trace_line : ℕ → List ℕ → List ℕ
bad_trace_line line name = codes "refused C21 " ++ (name ++ (codes ":" ++ (decimal line ++ codes "\n")))

-- the text, where the file of the trace has this name
abbrev pub text_of : TraceAnswer → List ℕ → List ℕ
text_of (Judged satisfied text) name = text
text_of (Valued text) name = text
text_of (BadTrace line) name = bad_trace_line line name
