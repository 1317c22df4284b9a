use Rattle.std.proofs.Common.{length, subst}
use Rattle.core_tree.specs.Types.{TypeRows, sig_rows}
use Rattle.resolve_type_check.specs.Same.{SameRows}
use Rattle.resolve_type_check.proofs.Monotone.{same_then}
use Rattle.resolve_type_check.proofs.levels.rows_of_sig.Goals as goal

pub returns : goal.returns
returns c =
    same_then c.in_ok-made.made c.in_ok-all.all (sig_rows c.args.sigs.now (length c.args.sigs.now) c.args.sig)
    (subst (λ (r : TypeRows). SameRows c.in_ok-made.made r) c.as_slice.ensures c.in_ok-made.ensures.same) c.in_ok-all.ensures
