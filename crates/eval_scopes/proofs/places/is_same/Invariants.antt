use Rattle.std.proofs.Common.{ℕ, ◌<◌}
use Rattle.core_tuples.specs.Sets.{In}
use Rattle.core_meaning.specs.World.{InRelation}
use Rattle.core_meaning.specs.Operators.{IsInside}
use Rattle.eval_context.specs.Settings.{world}
use Rattle.eval_scopes.proofs.places.is_same.Given as goal

abbrev pub invariant-loop-position : goal.invariant-loop-position
invariant-loop-position l = (p : ℕ) → p < l.position → IsInside (λ t. In t l.all) (InRelation (world l.setting) l.number p)
