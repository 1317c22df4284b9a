use Rattle.std.proofs.Common.{ℕ, Option, length, slice_get, arith}
use Rattle.syntax_tree.specs.declared.instance.SigRef.{SigRef}
use Rattle.resolve_told_opens.specs.Told.{gifts_for}
use Rattle.resolve_told_opens.proofs.Adding.{added_place, added_all}
use Rattle.resolve_told_opens.proofs.gifts.add_arguments.Goals as goal

pub loop-place-preserved : goal.loop-place-preserved
loop-place-preserved c =
    added_place (λ (n : ℕ) (o : Option (Option SigRef)). gifts_for c.args.names.now.scopes c.args.open_at (slice_get c.args.parameters.now n) o) c.args.arguments.now c.loop-place.place _
    c.args.table.now.items c.loop-place.table.items c.add_at.new.table.items c.loop-place-test.true c.loop-place.invariant c.in_ok-add_at.ensures

pub returns : goal.returns
returns c =
    added_all (λ (n : ℕ). gifts_for c.args.names.now.scopes c.args.open_at (slice_get c.args.parameters.now n) (slice_get c.args.arguments.now n)) c.loop-place.place (length c.args.arguments.now)
    c.args.table.now.items c.loop-place.table.items (let low = c.loop-place.auto.place-end in let high = c.loop-place-test.false in omega arith) c.loop-place.invariant
