use Rattle.std.proofs.Common.{ℕ, slice_get}
use Rattle.resolve_told_opens.specs.Told.{gifts_for, in_turn}
use Rattle.resolve_told_opens.specs.Firsts.{AreAdded}
use Rattle.resolve_told_opens.proofs.gifts.add_arguments.Given as goal

abbrev pub invariant-loop-place : goal.invariant-loop-place
invariant-loop-place l = AreAdded (in_turn (λ (n : ℕ). gifts_for l.names.scopes l.open_at (slice_get l.parameters n) (slice_get l.arguments n)) l.place) l.initial.table.items l.table.items
