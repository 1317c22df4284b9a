use Rattle.std.proofs.Common.{List, length, All, ap, subst, arith}
use Rattle.answer_trace.specs.declared.label.RelationLabel.{RelationLabel}
use Rattle.answer_laws.specs.Form.{FitsRelation}
use Rattle.answer_checks.proofs.lassos.fits_state.Goals as goal

pub returns : goal.returns
returns c = λ t. record {
  count = (let same = ap (λ (l : List RelationLabel). length l) c.as_slice-relations.ensures in omega (arith, same));
  relations = subst (λ (l : List RelationLabel). All (FitsRelation c.args.labels.now c.args.state.now) l) c.as_slice-relations.ensures (c.fit_relations.ensures t);
}
