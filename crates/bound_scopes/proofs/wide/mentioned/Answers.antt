use Rattle.std.proofs.Common.{[], ◌+◌, refl, arith}
use Rattle.bound_definitions.proofs.Firsts.{each_turn}
use Rattle.bound_scopes.proofs.Roots.{mentions_of_root, mentioned_end}
use Rattle.bound_scopes.proofs.wide.mentioned.Goals as goal

pub loop-place-preserved : goal.loop-place-preserved
loop-place-preserved c =
    let root = c.in-Some.root.now in
    let look = c.in-Some.ensures.lookup in
    each_turn mentions_of_root c.args.roots.now c.loop-place.place (c.loop-place.place + 1) root [] c.loop-place.all.items c.add_tree.new.all.items refl look.3.0 look.1 c.loop-place.invariant c.in_ok-add_tree.ensures

pub returns : goal.returns
returns c = mentioned_end c.args.roots.now c.loop-place.place c.loop-place.all.items (omega arith) c.loop-place.invariant
