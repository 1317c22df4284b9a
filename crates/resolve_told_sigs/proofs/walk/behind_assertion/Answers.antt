use Rattle.std.proofs.Common.{ℕ, ap}
use Rattle.resolve_told_sigs.proofs.walk.behind_assertion.Goals as goal

pub returns : goal.returns
returns c = record {
  assertion = c.in_ok-has_assertion.ensures c.if-not-branch.false;
  next_is = ap (λ (n : ℕ). record c.args.at { assertion = n }) c.in_ok-assertion.ensures;
}
