use Rattle.bmc_stack.proofs.MemberLaws.{MembersTo}
use Rattle.bmc_stack.proofs.members.tuples_of.Given as goal

abbrev pub invariant-loop-place : goal.invariant-loop-place
invariant-loop-place l = MembersTo l.fn.store.matrices.items l.pairs.pairs.items l.place l.all.items
