use Rattle.std.proofs.Common.{◌≡◌, map, take}
use Rattle.load_state.proofs.named.text_numbers.Given as goal

abbrev pub invariant-loop-instance : goal.invariant-loop-instance
invariant-loop-instance l = l.numbers.items ≡ map (λ i. i.text) (take l.instance-index l.instances)
