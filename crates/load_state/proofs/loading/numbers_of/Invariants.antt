use Rattle.std.proofs.Common.{◌≡◌, map, take}
use Rattle.load_state.proofs.loading.numbers_of.Given as goal

abbrev pub invariant-loop-key : goal.invariant-loop-key
invariant-loop-key l = l.numbers.items ≡ map (λ k. k.text) (take l.key-index l.keys)
