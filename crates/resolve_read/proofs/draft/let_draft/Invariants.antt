use Rattle.std.proofs.Common.{◌≡◌, take}
use Rattle.resolve_rules.specs.Prepared.{tree_of, under}
use Rattle.resolve_read.proofs.draft.let_draft.Given as goal

abbrev pub invariant-loop-place : goal.invariant-loop-place
invariant-loop-place l = record {
  tree : tree_of l.draft.part ≡ under (take l.place l.bindings) (tree_of l.fn.inner.part);
  choice : l.draft.choice ≡ l.fn.inner.choice;
}
