use Rattle.answer_trace.specs.Owners.{IsLinked}
use Rattle.answer_trace.proofs.owners.Owners.new.Given as goal

abbrev pub invariant-loop-count : goal.invariant-loop-count
invariant-loop-count l = IsLinked l.model l.heads.items l.next.items l.count
