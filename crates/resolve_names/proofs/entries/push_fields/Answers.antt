use Rattle.std.proofs.Common.{ap}
use Rattle.resolve_names.specs.Entries.{field_entry}
use Rattle.resolve_names.proofs.Entering.{numbered_next}
use Rattle.resolve_names.proofs.entries.push_fields.Goals as goal

pub loop-place-preserved : goal.loop-place-preserved
loop-place-preserved c =
    let make = field_entry c.args.sig c.args.instance c.args.paragraph c.args.group in
    numbered_next make c.loop-place.place (make c.in_ok-member.member) c.args.all.now c.loop-place.all c.push.new.self (ap make c.in_ok-member.ensures) c.loop-place.invariant c.in_ok-push.ensures.ok
