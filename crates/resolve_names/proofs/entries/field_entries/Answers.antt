use Rattle.std.proofs.Common.{refl}
use Rattle.resolve_names.specs.Entries.{field_entries_from}
use Rattle.resolve_names.proofs.Gathering.{end_on}
use Rattle.resolve_names.proofs.Entering.{fields_from_next}
use Rattle.resolve_names.proofs.entries.field_entries.Goals as goal

pub loop-place-preserved : goal.loop-place-preserved
loop-place-preserved c =
    fields_from_next c.args.texts.now c.args.instances.now c.loop-place.place c.loop-place.sig c.in_ok-sig.sig c.index-instances-place.result c.loop-place.all c.push_fields_in.new.all _
    c.loop-place-test.true c.index-instances-place.is c.loop-place.invariant (cc (c.in_ok-sig.ensures.fields, c.in_ok-instance.ensures, c.in_ok-tree.ensures, c.as_slice.ensures))
    (cc (c.in_ok-sig.ensures.next, c.in_ok-tree.ensures, c.as_slice.ensures))

pub returns : goal.returns
returns c = end_on (field_entries_from c.args.texts.now c.loop-place.sig c.loop-place.place) c.args.instances.now c.loop-place.place c.loop-place.all _ refl c.loop-place-test.false c.loop-place.invariant
