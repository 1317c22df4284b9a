use Rattle.std.proofs.Common.{◌≢◌, ℕ, ◌<◌}
use Rattle.load_modules.specs.Told.{name_at}
use Rattle.load_modules.proofs.order.is_named_before.Given as goal

abbrev pub invariant-loop-earlier : goal.invariant-loop-earlier
invariant-loop-earlier l = (m : ℕ) → m < l.earlier → name_at l.texts m ≢ name_at l.texts l.number
