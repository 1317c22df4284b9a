use Rattle.std.proofs.Common.{◌≡◌, ◌+◌}
use Rattle.answer_certificates.specs.Least.{IsBelow}
use Rattle.answer_certificates.proofs.search.find_least.Given as goal

abbrev pub invariant-loop-fewer : goal.invariant-loop-fewer
invariant-loop-fewer g l = record {
  below : IsBelow l.target l.initial.bounds.relations l.budget (l.fewer + 1) l.below;
  relations : l.bounds.relations ≡ l.initial.bounds.relations;
}
