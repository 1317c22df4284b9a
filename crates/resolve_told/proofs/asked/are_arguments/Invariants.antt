use Rattle.std.proofs.Common.{◌≡◌, map}
use Rattle.core_tree.specs.Trees.{term_of, name}
use Rattle.resolve_told.specs.Lists.{EachBefore}
use Rattle.resolve_told.specs.Views.{declared}
use Rattle.resolve_told.proofs.asked.are_arguments.Given as goal

abbrev pub invariant-loop-place : goal.invariant-loop-place
invariant-loop-place l = EachBefore (λ n d t. t ≡ name n) l.place (map declared l.all) (map term_of l.given)
