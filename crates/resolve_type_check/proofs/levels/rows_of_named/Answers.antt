use Rattle.std.proofs.Common.{ℕ, length, subst}
use Rattle.core_tree.specs.Types.{sig_rows}
use Rattle.resolve_type_check.specs.Same.{SameRows}
use Rattle.resolve_type_check.proofs.levels.rows_of_named.Goals as goal

pub returns : goal.returns
returns c = subst (λ (s : ℕ). SameRows c.in_ok-made.made (sig_rows c.args.sigs.now (length c.args.sigs.now) s)) c.typed_as-typed.ensures c.in_ok-made.ensures
