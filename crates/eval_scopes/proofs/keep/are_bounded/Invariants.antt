use Rattle.std.proofs.Common.{ℕ, Contains, take}
use Rattle.core_meaning.specs.Kept.{InSigBound}
use Rattle.eval_scopes.proofs.keep.are_bounded.Given as goal

abbrev pub invariant-loop-member : goal.invariant-loop-member
invariant-loop-member l = (a : ℕ) → Contains (take l.member-index l.members) a → InSigBound l.setting.model l.setting.scopes l.place l.sig a
