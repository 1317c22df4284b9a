use Rattle.syntax_places.proofs.Parts.{separated_next}
use Rattle.syntax_places.proofs.part.separated.Goals as goal

pub loop-part-preserved : goal.loop-part-preserved
loop-part-preserved g c =
    separated_next g.T.Part.kept c.args.parts.now c.loop-part.part-index c.loop-part.walk _ c.args.mark c.loop-part.is_first c.part-item.result c.optional.new.walk c.go.new.walk
    c.loop-part-test.true c.part-item.is c.loop-part.invariant c.optional.ensures c.go.ensures
