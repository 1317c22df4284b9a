use Rattle.std.proofs.Common.{refl}
use Rattle.resolve_told.proofs.Running.{contained}
use Rattle.resolve_told.proofs.asked.assertion_in.Goals as goal

pub returns-in-Some : goal.returns-in-Some
returns-in-Some c = (c.paragraph-item.result, contained c.args.paragraphs.now c.loop-paragraph.paragraph-index c.paragraph-item.result c.paragraph-item.result c.loop-paragraph-test.true c.paragraph-item.is refl, c.in-Some.ensures)
