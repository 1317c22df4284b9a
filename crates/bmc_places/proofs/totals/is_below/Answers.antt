use Rattle.std.proofs.Common.{◌≡◌, ◌∙◌, ℕ, List, ap, get_or, arith}
use Rattle.bmc_places.proofs.totals.is_below.Goals as goal

pub returns-then-number-end : goal.returns-then-number-end
returns-then-number-end c = λ yes a is. (let e : get_or c.numbers-numbers.result.now 0 0 ≡ a = ap (λ (t : List ℕ). get_or t 0 0) (c.numbers-numbers.ensures.same ∙ is) in omega (arith, e, c.if-number-end.true))
