use Rattle.std.proofs.Common.{◌≡◌, ◌++◌, take}
use Rattle.sat_lrat.specs.Text.{literals_text}
use Rattle.sat_lrat.proofs.print.push_literals.Given as goal

abbrev pub invariant-loop-literal : goal.invariant-loop-literal
invariant-loop-literal l = l.out.items ≡ l.initial.out.items ++ literals_text (take l.literal-index l.literal-items)
