use Rattle.std.proofs.Common.{◌≢◌, ◌<◌, ℕ, get_or}
use Rattle.load_state.specs.Keys.{pair_of}
use Rattle.load_state.specs.declared.loading.Key.{Key}
use Rattle.load_state.proofs.loading.instance_with.Given as goal

abbrev pub invariant-loop-instance : goal.invariant-loop-instance
invariant-loop-instance l = (n : ℕ) (d : Key) → n < l.instance → pair_of (get_or l.keys n d) ≢ (l.text, l.arguments)
