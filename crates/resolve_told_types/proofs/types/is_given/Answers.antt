use Rattle.std.proofs.lemmas.List.Elements.{Contains-get_or}
use Rattle.resolve_told_types.specs.Kinds.{member_of}
use Rattle.resolve_told_types.proofs.Lists.{map_in}
use Rattle.resolve_told_types.proofs.types.is_given.Goals as goal

pub returns-then-gives : goal.returns-then-gives
returns-then-gives c = λ t. (_, map_in member_of c.args.parents.now _ (Contains-get_or c.args.parents.now c.loop-parent.parent-index _ c.loop-parent-test.true), c.gives.ensures c.if-gives.true)
