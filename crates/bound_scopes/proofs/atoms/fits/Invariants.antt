use Rattle.std.proofs.Common.{◌≡◌, ◌+◌, take}
use Rattle.core_meaning.specs.Kept.{atom_count}
use Rattle.bound_scopes.proofs.atoms.fits.Given as goal

abbrev pub invariant-loop-place : goal.invariant-loop-place
invariant-loop-place l = l.room + atom_count (take l.place l.numbers) ≡ l.limit
