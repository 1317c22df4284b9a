use Rattle.std.proofs.Common.{◌≡◌, ◌++◌, map, drop}
use Rattle.resolve_told.specs.Bodies.{bodies_in}
use Rattle.resolve_told.specs.Views.{declaration}
use Rattle.resolve_told.proofs.texts.add_bodies.Given as goal

abbrev pub invariant-loop-paragraph : goal.invariant-loop-paragraph
invariant-loop-paragraph l = map declaration l.all.items ++ bodies_in l.instance (drop l.paragraph-index l.paragraphs) ≡ map declaration l.initial.all.items ++ bodies_in l.instance l.paragraphs
