use Rattle.std.proofs.Common.{All, take}
use Rattle.core_tree.specs.Models.{IsRightSig}
use Rattle.resolve_check.proofs.sigs.are_right_sigs.Given as goal

abbrev pub invariant-loop-sig : goal.invariant-loop-sig
invariant-loop-sig l = All (IsRightSig l.model) (take l.sig-index l.sigs)
