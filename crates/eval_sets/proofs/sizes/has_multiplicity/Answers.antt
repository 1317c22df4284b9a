use Rattle.std.proofs.Common.{ℕ, IsTrue, ◌↔◌, subst}
use Rattle.eval_sets.specs.Rows.{CountMay}
use Rattle.eval_sets.proofs.SizeLaw.{multiplicity_counts, iff_trans}
use Rattle.eval_sets.proofs.sizes.has_multiplicity.Goals as goal

pub returns : goal.returns
returns c =
    iff_trans (subst (λ (n : ℕ). IsTrue c.may_number.result ↔ CountMay c.args.multiplicity n) c.size_of.ensures.count c.may_number.ensures)
    (multiplicity_counts c.args.multiplicity c.args.set.now c.size_of.ensures.set)
