use Rattle.std.proofs.Common.{◌≡◌, map, drop}
use Rattle.syntax_places.specs.Pieces as p
use Rattle.syntax_places.specs.Walk.{walk}
use Rattle.syntax_places.proofs.part.joined.Given as goal

abbrev pub invariant-loop-part : goal.invariant-loop-part
invariant-loop-part g l =
    walk l.walk (p.joined (map g.T.Part.kept (drop l.part-index l.parts))) ≡ walk l.initial.walk (p.joined (map g.T.Part.kept l.parts))
