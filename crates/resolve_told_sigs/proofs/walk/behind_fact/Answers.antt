use Rattle.std.proofs.Common.{ℕ, ap}
use Rattle.resolve_told_sigs.proofs.walk.behind_fact.Goals as goal

pub returns : goal.returns
returns c = record {
  fact = c.in_ok-has_fact.ensures c.if-not-branch.false;
  next_is = ap (λ (n : ℕ). record c.args.at { fact = n }) c.in_ok-fact.ensures;
}
