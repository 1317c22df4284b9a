use Rattle.answer_texts.specs.Lines.{command_text}
use Rattle.answer_texts.proofs.Text.{line_next}
use Rattle.answer_texts.proofs.lines.command_text.Goals as goal

pub loop-paragraph-preserved : goal.loop-paragraph-preserved
loop-paragraph-preserved c =
    line_next _ c.loop-paragraph.paragraph-index c.paragraph-item.result c.loop-paragraph.text.items c.add_line.new.text.items (command_text c.args.tree.now)
    c.loop-paragraph.number _ c.loop-paragraph-test.true c.paragraph-item.is c.loop-paragraph.invariant c.in_ok-number.ensures
