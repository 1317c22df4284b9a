use Rattle.std.proofs.Common.{◌≡◌, ◌++◌, take}
use Rattle.sat_lrat.specs.Text.{numbers_text}
use Rattle.sat_lrat.proofs.print.push_numbers.Given as goal

abbrev pub invariant-loop-number : goal.invariant-loop-number
invariant-loop-number l = l.out.items ≡ l.initial.out.items ++ numbers_text (take l.number-index l.number-items)
