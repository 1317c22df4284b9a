use Rattle.std.proofs.Common.{ℕ, List, Option, Some, length, slice_get, subst, arith}
use Rattle.syntax_tree.specs.declared.instance.Instance.{Instance}
use Rattle.resolve_told_opens.specs.Told.{gifts_in, in_turn}
use Rattle.resolve_told_opens.specs.Firsts.{AreAdded}
use Rattle.resolve_told_opens.proofs.Adding.{added_item, added_all}
use Rattle.resolve_told_opens.proofs.gifts.add_gifts.Goals as goal

pub loop-place-preserved : goal.loop-place-preserved
loop-place-preserved c =
    let loaded = c.args.loaded.now in
    let instances = c.as_slice-instances.result.now in
    added_item (λ (n : ℕ) (o : Option Instance). gifts_in loaded.texts loaded.instances c.args.names.now.scopes n o) instances c.loop-place.place c.index-instances-place.result c.args.table.now.items
    c.loop-place.table.items c.add_instance.new.table.items c.loop-place-test.true c.index-instances-place.is c.loop-place.invariant
    (subst (λ n. AreAdded (gifts_in loaded.texts loaded.instances c.args.names.now.scopes n (Some c.index-instances-place.result)) c.loop-place.table.items
    c.add_instance.new.table.items) c.in_ok-number.ensures c.in_ok-add_instance.ensures)

pub returns : goal.returns
returns c =
    let loaded = c.args.loaded.now in
    let instances = c.as_slice-instances.result.now in
    subst (λ (xs : List Instance). AreAdded (in_turn (λ (n : ℕ). gifts_in loaded.texts loaded.instances c.args.names.now.scopes n (slice_get xs n)) (length xs)) c.args.table.now.items c.loop-place.table.items)
    c.as_slice-instances.ensures
    (added_all (λ (n : ℕ). gifts_in loaded.texts loaded.instances c.args.names.now.scopes n (slice_get instances n)) c.loop-place.place (length instances) c.args.table.now.items c.loop-place.table.items
    (let low = c.loop-place.auto.place-end in let high = c.loop-place-test.false in omega arith) c.loop-place.invariant)
