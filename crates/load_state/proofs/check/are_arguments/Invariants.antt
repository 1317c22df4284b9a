use Rattle.std.proofs.Common.{◌≡◌, List, take}
use Rattle.std.specs.Prelude.{map}
use Rattle.std.specs.List.{list_all}
use Rattle.syntax_tree.specs.Instances.{is_argument, sig_count}
use Rattle.syntax_tree.specs.declared.instance.Text.{Text}
use Rattle.load_state.proofs.check.are_arguments.Given as goal

abbrev pub invariant-loop-argument : goal.invariant-loop-argument
invariant-loop-argument l = (texts : List Text) → l.sigs ≡ map (λ t. sig_count t.tree) texts → l.all ≡ list_all (is_argument texts l.instances) (take l.argument-index l.arguments)
