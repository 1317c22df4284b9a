use Rattle.std.proofs.Common.{ℕ, IsTrue, ◌↔◌, subst}
use Rattle.eval_sets.specs.Rows.{CountIs}
use Rattle.eval_sets.proofs.SizeLaw.{quantity_counts, iff_trans}
use Rattle.eval_sets.proofs.sizes.has_quantity.Goals as goal

pub returns : goal.returns
returns c =
    iff_trans (subst (λ (n : ℕ). IsTrue c.is_quantity.result ↔ CountIs c.args.quantity n) c.size_of.ensures.count c.is_quantity.ensures)
    (quantity_counts c.args.quantity c.args.set.now c.size_of.ensures.set)
