use Rattle.std.proofs.Common.{◌≡◌}
use Rattle.bound_uppers.specs.AtomSets.{AreSigSets}
use Rattle.bound_uppers.proofs.given.sig_sets.Given as goal

abbrev pub invariant-loop-sig : goal.invariant-loop-sig
invariant-loop-sig l = record { number : l.number ≡ l._sig-index; sets : AreSigSets l.model l.scopes l.standing l._sig-index l.sets.items }
