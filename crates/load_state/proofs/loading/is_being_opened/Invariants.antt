use Rattle.std.proofs.Common.{◌≡◌, drop}
use Rattle.load_state.specs.Keys.{is_open_from}
use Rattle.load_state.proofs.loading.is_being_opened.Given as goal

abbrev pub invariant-loop-instance : goal.invariant-loop-instance
invariant-loop-instance l = is_open_from l.finished l.text 0 l.keys ≡ is_open_from l.finished l.text l.instance (drop l.instance l.keys)
