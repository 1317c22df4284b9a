use Rattle.std.proofs.Common.{ℕ, slice_get}
use Rattle.resolve_told_opens.specs.Told.{gifts_by, in_turn}
use Rattle.resolve_told_opens.specs.Firsts.{AreAdded}
use Rattle.resolve_told_opens.proofs.gifts.add_opens.Given as goal

abbrev pub invariant-loop-place : goal.invariant-loop-place
invariant-loop-place l = AreAdded (in_turn (λ (n : ℕ). gifts_by l.loaded.texts l.loaded.instances l.names.scopes l.instance (slice_get l.places n) (slice_get l.opens n)) l.place) l.initial.table.items l.table.items
