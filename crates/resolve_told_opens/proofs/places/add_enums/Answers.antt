use Rattle.resolve_told_opens.specs.Told.{enum_places}
use Rattle.resolve_told_opens.proofs.Adding.{flat_next}
use Rattle.resolve_told_opens.proofs.places.add_enums.Goals as goal

pub loop-paragraph-preserved : goal.loop-paragraph-preserved
loop-paragraph-preserved c =
    flat_next enum_places c.args.all.now.items c.args.paragraphs.now c.loop-paragraph.paragraph-index c.paragraph-item.result c.loop-paragraph.all.items c.add_enum.new.all.items
    c.loop-paragraph-test.true c.paragraph-item.is c.loop-paragraph.invariant c.in_ok-add_enum.ensures
