use Rattle.std.proofs.lemmas.List.Elements.{All-contains}
use Rattle.resolve_told_types.specs.Kinds.{members_of}
use Rattle.resolve_told_types.specs.Steps.{IsGiven, IsInside}
use Rattle.resolve_told_types.proofs.types.is_union.Goals as goal

pub returns-then-are_inside : goal.returns-then-are_inside
returns-then-are_inside c = λ h.
    let parents = members_of c.args.parents.now in
    record {
      each = λ m here. All-contains (IsInside c.args.types.now c.args.ranks.now c.args.rank c.args.rows.now) parents m (c.are_inside.ensures c.if-are_inside.true) here;
      only = λ row here. All-contains (IsGiven c.args.types.now parents) c.args.rows.now row (c.are_given.ensures h) here;
    }
