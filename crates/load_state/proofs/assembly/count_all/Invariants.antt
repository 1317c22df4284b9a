use Rattle.std.proofs.Common.{◌≡◌}
use Rattle.std.specs.Prelude.{map}
use Rattle.syntax_tree.specs.Instances.{sig_count}
use Rattle.load_state.specs.Weights.{Weighs}
use Rattle.load_state.proofs.assembly.count_all.Given as goal

abbrev pub invariant-loop-source : goal.invariant-loop-source
invariant-loop-source l = (l.sigs.items ≡ map (λ t. sig_count t.tree) l.texts) × Weighs l.texts l.weights.items × (l.texts ≡ map (λ s. s.text) l.yielded)
