use Rattle.std.proofs.Common.{◌∙◌, ap, slice_get}
use Rattle.bmc_places.proofs.numbers.add_compared.Goals as goal

pub returns-clause-says : goal.returns-clause-says
returns-clause-says g c = (
  c.in_ok-node.node,
  c.in_ok-push.ensures.ok,
  c.in_ok-node.ensures.belongs,
  λ m o p q at_m at_o at_p at_q. c.in_ok-node.ensures.says p q (ap (λ n. slice_get c.args.store.now.integers.items n) (c.found_at-first.ensures m at_m) ∙ at_p) (ap (λ n. slice_get c.args.store.now.integers.items n) (c.found_at-second.ensures o at_o) ∙ at_q),
)
