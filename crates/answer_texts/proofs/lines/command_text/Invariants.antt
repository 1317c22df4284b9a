use Rattle.std.proofs.Common.{◌≡◌, ◌++◌, drop}
use Rattle.answer_texts.specs.Lines.{commands_in, lines_from, command_text}
use Rattle.answer_texts.proofs.lines.command_text.Given as goal

-- the lines so far and those of what is left are all lines
abbrev pub invariant-loop-paragraph : goal.invariant-loop-paragraph
invariant-loop-paragraph l = l.text.items ++ lines_from l.number (commands_in (drop l.paragraph-index l.paragraph-items)) ≡ command_text l.tree
