use Rattle.core_tree.specs.declared.model.Column.{Column}
use Rattle.std.proofs.lemmas.List.Elements.{All-map, All-more}
use Rattle.resolve_told_types.specs.Kinds.{member_of}
use Rattle.resolve_told_types.specs.Steps.{IsInside}
use Rattle.resolve_told_types.proofs.Lists.{all_whole}
use Rattle.resolve_told_types.proofs.types.are_inside.Goals as goal

pub loop-parent-preserved : goal.loop-parent-preserved
loop-parent-preserved c =
    All-more (λ (p : Column). IsInside c.args.types.now c.args.ranks.now c.args.rank c.args.rows.now (member_of p)) c.args.parents.now c.loop-parent.parent-index _ c.loop-parent-test.true c.loop-parent.invariant (c.is_inside.ensures c.if-not-is_inside.false)

pub returns : goal.returns
returns c = λ t.
    let inside = IsInside c.args.types.now c.args.ranks.now c.args.rank c.args.rows.now in
    All-map inside member_of c.args.parents.now (all_whole (λ (p : Column). inside (member_of p)) c.args.parents.now c.loop-parent.parent-index c.loop-parent-test.false c.loop-parent.invariant)
