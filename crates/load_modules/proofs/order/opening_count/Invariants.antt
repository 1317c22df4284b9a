use Rattle.std.proofs.Common.{◌≡◌, ◌+◌, length, take}
use Rattle.load_state.specs.Opens.{enums_from}
use Rattle.load_modules.proofs.order.opening_count.Given as goal

abbrev pub invariant-loop-paragraph : goal.invariant-loop-paragraph
invariant-loop-paragraph l = l.count ≡ length l.tree.opens + length (enums_from 0 (take l.paragraph-index l.paragraph-items))
