use Rattle.std.proofs.Common.{◌≡◌, map, drop}
use Rattle.syntax_places.specs.Pieces as p
use Rattle.syntax_places.specs.Walk.{walk, going_on}
use Rattle.syntax_places.proofs.part.separated.Given as goal

abbrev pub invariant-loop-part : goal.invariant-loop-part
invariant-loop-part g l =
    walk l.walk (going_on l.is_first l.fn.mark (map g.T.Part.kept (drop l.part-index l.parts))) ≡ walk l.initial.walk (p.separated l.fn.mark (map g.T.Part.kept l.parts))
