use Rattle.std.proofs.Common.{ℕ, Option, length, slice_get, arith}
use Rattle.syntax_tree.specs.declared.instance.Opened.{Opened}
use Rattle.resolve_told_opens.specs.Told.{gifts_by}
use Rattle.resolve_told_opens.proofs.Adding.{added_item, added_all}
use Rattle.resolve_told_opens.proofs.gifts.add_opens.Goals as goal

pub loop-place-preserved : goal.loop-place-preserved
loop-place-preserved c =
    added_item (λ (n : ℕ) (o : Option Opened). gifts_by c.args.loaded.now.texts c.args.loaded.now.instances c.args.names.now.scopes c.args.instance (slice_get c.args.places.now n) o) c.args.opens.now
    c.loop-place.place c.index-opens-place.result c.args.table.now.items c.loop-place.table.items c.add_open.new.table.items c.loop-place-test.true c.index-opens-place.is c.loop-place.invariant c.in_ok-add_open.ensures

pub returns : goal.returns
returns c =
    added_all (λ (n : ℕ). gifts_by c.args.loaded.now.texts c.args.loaded.now.instances c.args.names.now.scopes c.args.instance (slice_get c.args.places.now n) (slice_get c.args.opens.now n))
    c.loop-place.place (length c.args.opens.now) c.args.table.now.items c.loop-place.table.items (let low = c.loop-place.auto.place-end in let high = c.loop-place-test.false in omega arith)
    c.loop-place.invariant
