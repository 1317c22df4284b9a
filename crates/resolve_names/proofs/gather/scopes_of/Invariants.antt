use Rattle.std.proofs.Common.{◌≡◌, ◌++◌, drop, length}
use Rattle.resolve_names.specs.Gathered.{scopes_from, scopes_of}
use Rattle.resolve_names.specs.Marks.{AreScoped}
use Rattle.resolve_names.proofs.gather.scopes_of.Given as goal

-- what was added, and the instances that are left
abbrev pub invariant-loop-place : goal.invariant-loop-place
invariant-loop-place l = record {
  scopes : l.scopes ++ scopes_from l.texts l.place l.counts.sigs l.counts.fields l.counts.bodies (drop l.place l.instances) ≡ scopes_of l.texts l.instances;
  every : length l.scopes ≡ l.place;
  inside : AreScoped (length l.instances) l.scopes;
}
