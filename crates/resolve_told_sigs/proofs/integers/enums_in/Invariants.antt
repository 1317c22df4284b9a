use Rattle.std.proofs.Common.{◌≡◌, ◌≤◌, ◌+◌, drop}
use Rattle.resolve_told_sigs.specs.Integers.{enums_in}
use Rattle.resolve_told_sigs.proofs.integers.enums_in.Given as goal

abbrev pub invariant-loop-paragraph : goal.invariant-loop-paragraph
invariant-loop-paragraph l = (l.count + enums_in (drop l.paragraph-index l.paragraphs) ≡ enums_in l.paragraphs) × (l.count ≤ l.paragraph-index)
