-- Which line a fault of reading a trace names.
use Rattle.std.specs.Prelude.{◌≡◌, ◌≢◌, ℕ, List, min}
use Rattle.core_meaning.specs.Sequence.{LassoValue}
use Rattle.answer_trace.specs.declared.label.Labels.{Labels}
use Rattle.answer_trace.specs.Text.{trace_text}
use Rattle.answer_trace.specs.declared.label.TraceFault.{TraceFault}
use Rattle.answer_trace.specs.declared.label.TraceFault.TheVariants.{BadTrace, Memory}
use Rattle.answer_trace.specs.Reading.{Way, trace_way}
use Rattle.answer_trace.specs.Reading.Way.{on, off}

-- which line a fault names
abbrev pub IsFaultOf : Labels → List ℕ → ℕ → Way LassoValue → Type 0
IsFaultOf labels text line (on lasso rest n) = trace_text labels lasso ≢ text
IsFaultOf labels text line (off k) = line ≡ min k 4294967295

-- memory is wanting, or the text of the lasso is another
abbrev pub Differs : Labels → LassoValue → List ℕ → TraceFault → Type 0
Differs labels lasso text (BadTrace line) = trace_text labels lasso ≢ text
Differs labels lasso text Memory = Unit {0}

abbrev pub Faults : Labels → List ℕ → TraceFault → Type 0
Faults labels text (BadTrace line) = IsFaultOf labels text line (trace_way labels text)
Faults labels text Memory = Unit {0}

-- the lines of a text give just this lasso
abbrev pub IsRead : Labels → List ℕ → LassoValue → Type 0
IsRead labels text lasso = (rest : List (List ℕ)) × (lines : ℕ) × (trace_way labels text ≡ on lasso rest lines)
