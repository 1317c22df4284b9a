use Rattle.std.proofs.Common.{◌≡◌, ◌++◌, drop}
use Rattle.sat_lrat.specs.Text.{lines_text}
use Rattle.sat_lrat.proofs.print.push_lines.Given as goal

abbrev pub invariant-loop-line : goal.invariant-loop-line
invariant-loop-line l = l.out.items ++ lines_text l.last (drop l.line-index l.line-items) ≡ l.initial.out.items ++ lines_text 1 l.line-items
