use Rattle.std.proofs.Common.{◌+◌, List, All, sym, subst, ◌∙◌}
use Rattle.bound_naming.specs.declared.spots.Spot.{Spot}
use Rattle.bound_naming.specs.Reckoned.{Stays}
use Rattle.bound_naming.proofs.neighbours.are_alike.Goals as goal

pub returns-then-not-is_first-clause-stay : goal.returns-then-not-is_first-clause-stay
returns-then-not-is_first-clause-stay c =
    let P = λ (spots : List Spot). All (Stays c.args.relations.now c.args.atom (c.args.atom + 1)) spots in
    ((λ on. absurd cc), (λ stay. sym c.if-not-is_first.true ∙ c.in_ok-is_first.ensures.1 (subst P (sym c.spots_of.ensures) stay.0)))

pub returns-clause-stay : goal.returns-clause-stay
returns-clause-stay c =
    let P = λ (spots : List Spot). All (Stays c.args.relations.now c.args.atom (c.args.atom + 1)) spots in
    let first = subst P c.spots_of.ensures (c.in_ok-is_first.ensures.0 c.if-not-is_first.false) in
    ((λ on. (first, subst P c.spots_of-2.ensures (c.in_ok-is_second.ensures.0 on))), (λ stay. c.in_ok-is_second.ensures.1 (subst P (sym c.spots_of-2.ensures) stay.1)))
