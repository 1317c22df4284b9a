use Rattle.std.proofs.Common.{◌≡◌, ◌≤◌, take}
use Rattle.core_meaning.specs.Kept.{atom_count}
use Rattle.eval_context.proofs.sizes.count_atoms.Given as goal

abbrev pub invariant-loop-scope : goal.invariant-loop-scope
invariant-loop-scope l = record {
  counted : l.count ≡ atom_count (take l.scope-index l.numbers);
  few : l.count ≤ 16384;
}
