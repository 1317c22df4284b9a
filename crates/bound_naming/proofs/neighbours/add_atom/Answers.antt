use Rattle.std.proofs.Common.{◌+◌, List, length, sym, subst, ◌∙◌}
use Rattle.std.proofs.lemmas.Bool.{false≢true}
use Rattle.bound_uppers.specs.declared.table.Bound.{Bound}
use Rattle.bound_naming.specs.declared.neighbours.TheConstants.{NAMED_PAIRS}
use Rattle.bound_naming.specs.declared.pairs.Pair.{Pair}
use Rattle.bound_naming.specs.Reckoned.{AllStay, ArePairsTo}
use Rattle.bound_naming.proofs.NeighbourLaws.{alike_are, stay_alike, next_none, next_some}
use Rattle.bound_naming.proofs.neighbours.add_atom.Goals as goal

pub returns-then-not-is_alike : goal.returns-then-not-is_alike
returns-then-not-is_alike c =
    let bounds = c.args.bounds.now in
    let lists = c.args.lists.now in
    let A = λ (bs : List Bound). AllStay bs lists c.args.atom in
    λ ready before.
    next_none bounds (length lists) NAMED_PAIRS c.args.atom c.args.all.now.items
    (λ are. false≢true (sym c.if-not-is_alike.true ∙ c.in_ok-is_alike.ensures.stay.1 (subst A (sym c.as_slice.ensures) (stay_alike bounds (length lists) c.args.atom lists are)))) before

pub returns : goal.returns
returns c =
    let bounds = c.args.bounds.now in
    let lists = c.args.lists.now in
    let A = λ (bs : List Bound). AllStay bs lists c.args.atom in
    let stay = subst A c.as_slice.ensures (c.in_ok-is_alike.ensures.stay.0 c.if-not-is_alike.false) in
    λ ready before.
    let alike = alike_are bounds (length lists) c.args.atom lists ready.placed ready.index c.in_ok-is_alike.ensures.within stay in
    subst (λ (all : List (List Pair)). ArePairsTo bounds (length lists) NAMED_PAIRS (c.args.atom + 1) all) (sym c.in_ok-push.ensures.items)
    (next_some bounds (length lists) NAMED_PAIRS c.args.atom c.args.all.now.items c.in_ok-pairs.pairs alike (c.in_ok-pairs.ensures ready) before)
