use Rattle.std.proofs.Common.{List, arith}
use Rattle.core_tuples.specs.Sets.{TupleList}
use Rattle.answer_checks.specs.Parts.{IsStateOf}
use Rattle.answer_checks.proofs.Lists.{front_more, front_all, all_from_places}
use Rattle.answer_checks.proofs.Whole.{lasso_by}
use Rattle.answer_checks.proofs.lassos.fits_labels.Goals as goal

pub loop-place-preserved : goal.loop-place-preserved
loop-place-preserved c =
    front_more (λ k (s : List TupleList). IsStateOf c.args.labels.now s) c.args.lasso.now.states c.loop-place.place c.loop-place.invariant (c.is_state_at.ensures c.if-not-is_state_at.false)

pub returns : goal.returns
returns c = λ t.
    let each = front_all (λ k (s : List TupleList). IsStateOf c.args.labels.now s) c.args.lasso.now.states c.loop-place.place (omega arith) c.loop-place.invariant in
    lasso_by c.args.labels.now c.args.lasso.now (all_from_places (IsStateOf c.args.labels.now) c.args.lasso.now.states each) (omega arith) (omega arith) (omega arith)
