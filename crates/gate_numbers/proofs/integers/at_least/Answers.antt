use Rattle.std.proofs.Common.{◌≡◌, ◌↔◌, Bool, true, false, not, ◌∙◌, sym, refl}
use Rattle.gate_numbers.proofs.Wrapping.{not_law}
use Rattle.gate_numbers.proofs.integers.at_least.Goals as goal

pub returns-clause-value : goal.returns-clause-value
returns-clause-value g c = λ x. not_law _ _ _ (c.not-node.ensures.gives x) (c.in_ok-below.ensures.value x)
