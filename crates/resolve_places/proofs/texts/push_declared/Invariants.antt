use Rattle.std.proofs.Common.{◌≡◌, ◌++◌, drop}
use Rattle.resolve_places.specs.Places.{declared_in}
use Rattle.resolve_places.proofs.texts.push_declared.Given as goal

-- what was added, and what the paragraphs that are left declare
abbrev pub invariant-loop-paragraph : goal.invariant-loop-paragraph
invariant-loop-paragraph l = l.all ++ declared_in l.kind l.instance (drop l.paragraph-index l.paragraphs) ≡ l.initial.all ++ declared_in l.kind l.instance l.paragraphs
