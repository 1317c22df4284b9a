use Rattle.std.specs.Prelude.{string_bytes}
use Rattle.resolve_told.specs.Commands.{with_slash}
use Rattle.resolve_told.proofs.Walk.{flat_next}
use Rattle.resolve_told.proofs.labels.add_parts.Goals as goal

pub loop-part-preserved : goal.loop-part-preserved
loop-part-preserved c =
    flat_next with_slash (string_bytes c.args.text.now) c.args.parts.now c.loop-part.part-index c.part-item.result (string_bytes c.loop-part.text) (string_bytes c.add_part.new.text)
    c.loop-part-test.true c.part-item.is c.loop-part.invariant c.in_ok-add_part.ensures
