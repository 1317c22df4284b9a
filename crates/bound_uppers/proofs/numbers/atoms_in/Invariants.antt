use Rattle.std.proofs.Common.{◌≡◌, ◌≤◌, take}
use Rattle.core_meaning.specs.Kept.{atom_count}
use Rattle.bound_uppers.proofs.numbers.atoms_in.Given as goal

abbrev pub invariant-loop-scope : goal.invariant-loop-scope
invariant-loop-scope l = record { sum : l.count ≡ atom_count (take l.scope-index l.numbers); most : l.count ≤ 16384 }
