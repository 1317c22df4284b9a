use Rattle.resolve_told_sigs.specs.Told.{IsParagraphAt, given}
use Rattle.resolve_told_sigs.proofs.Turns.{walks_next, walks_end}
use Rattle.resolve_told_sigs.proofs.walk.behind_paragraphs.Goals as goal

pub loop-paragraph-preserved : goal.loop-paragraph-preserved
loop-paragraph-preserved c =
    walks_next (IsParagraphAt (given c.args.sources.now) c.args.label.now)
    c.args.at c.loop-paragraph.here c.in-Some.there c.args.paragraphs.now c.loop-paragraph.paragraph-index c.paragraph-item.result c.loop-paragraph-test.true c.paragraph-item.is (rw c.in-Some.is at c.in_ok-behind_paragraph.ensures) c.loop-paragraph.invariant

pub returns : goal.returns
returns c = walks_end (IsParagraphAt (given c.args.sources.now) c.args.label.now) c.args.at c.loop-paragraph.here c.args.paragraphs.now c.loop-paragraph.paragraph-index c.loop-paragraph-test.false c.loop-paragraph.invariant
