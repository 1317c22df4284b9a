use Rattle.std.proofs.Common.{◌∙◌}
use Rattle.resolve_read.proofs.Behind.{under_next, under_all}
use Rattle.resolve_read.proofs.draft.let_draft.Goals as goal

pub loop-place-preserved : goal.loop-place-preserved
loop-place-preserved c = record {
  tree = under_next c.args.bindings.now c.loop-place.place c.index-bindings-place.result _ _ _ c.loop-place-test.true c.index-bindings-place.is c.in_ok-draft.ensures.tree c.loop-place.invariant.tree;
  choice = c.in_ok-draft.ensures.choice ∙ c.loop-place.invariant.choice;
}

pub returns-clause-tree : goal.returns-clause-tree
returns-clause-tree c = under_all c.args.bindings.now c.loop-place.place _ _ c.loop-place-test.false c.loop-place.invariant.tree

pub returns-clause-choice : goal.returns-clause-choice
returns-clause-choice c = c.loop-place.invariant.choice
