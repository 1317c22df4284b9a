use Rattle.syntax_places.proofs.Parts.{joined_next}
use Rattle.syntax_places.proofs.part.joined.Goals as goal

pub loop-part-preserved : goal.loop-part-preserved
loop-part-preserved g c =
    joined_next g.T.Part.kept c.args.parts.now c.loop-part.part-index c.loop-part.walk _ c.part-item.result c.go.new.walk c.loop-part-test.true c.part-item.is c.loop-part.invariant c.go.ensures
