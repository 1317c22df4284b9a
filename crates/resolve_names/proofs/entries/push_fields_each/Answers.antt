use Rattle.resolve_names.proofs.Entering.{each_next}
use Rattle.resolve_names.proofs.entries.push_fields_each.Goals as goal

pub loop-place-preserved : goal.loop-place-preserved
loop-place-preserved c =
    each_next c.args.first c.args.instance c.args.paragraph c.args.groups.now c.loop-place.place c.in_ok-sig.sig c.args.all.now c.loop-place.all c.push_fields_of.new.all
    c.in_ok-sig.ensures c.loop-place.invariant c.in_ok-push_fields_of.ensures
