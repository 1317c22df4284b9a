use Rattle.std.proofs.Common.{refl}
use Rattle.answer_trace.specs.Reading.{trace_way}
use Rattle.answer_laws.proofs.named_lines_are_first.Goals as goal
use Rattle.answer_laws.proofs.Named.{named_first}

pub returns : goal.returns
returns c = λ labels text line have fault. named_first labels text line have (trace_way labels text) refl fault
