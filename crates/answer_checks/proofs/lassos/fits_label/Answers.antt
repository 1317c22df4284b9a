use Rattle.std.proofs.Common.{◌<◌, ℕ, List, All, subst, arith}
use Rattle.answer_checks.proofs.Whole.{fits_by}
use Rattle.answer_checks.proofs.lassos.fits_label.Goals as goal

pub returns : goal.returns
returns c = λ t.
    let below = c.have_below.ensures c.if-not-have_below.false in
    let all = subst (λ (ts : List (List ℕ)). All (All (λ a. a < c.len.result)) ts) c.keyed.ensures.all below in
    fits_by c.args.labels.now c.args.relation.now c.args.set.now c.arity-arity.ensures.set (omega (arith, c.arity-arity.ensures.columns)) (subst (λ (n : ℕ). All (All (λ a. a < n)) c.args.set.now.tuples) c.len.ensures all) (c.holds_hidden.ensures t)
