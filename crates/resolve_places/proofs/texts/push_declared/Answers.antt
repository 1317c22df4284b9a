use Rattle.resolve_places.proofs.Walk.{paragraph_next}
use Rattle.resolve_places.proofs.texts.push_declared.Goals as goal

pub loop-paragraph-preserved : goal.loop-paragraph-preserved
loop-paragraph-preserved c =
    paragraph_next c.args.kind c.args.instance _ c.loop-paragraph.paragraph-index c.paragraph-item.result c.loop-paragraph.all c.push_all.new.all _
    c.loop-paragraph-test.true c.paragraph-item.is c.loop-paragraph.invariant (cc (c.in_ok-push_all.ensures, c.count_in-count.ensures, c.place_of-place.ensures))
