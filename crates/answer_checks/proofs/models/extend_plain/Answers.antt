use Rattle.std.proofs.Common.{subst}
use Rattle.std.proofs.lemmas.Option.{get_or_from_slice_get}
use Rattle.core_tree.specs.declared.model.Sig.{Sig}
use Rattle.answer_checks.specs.Parts.{ExtendsPlainSig}
use Rattle.answer_checks.proofs.Lists.{front_more, front_all}
use Rattle.answer_checks.proofs.Kept.{extends_by}
use Rattle.answer_checks.proofs.models.extend_plain.Goals as goal

pub loop-place-preserved : goal.loop-place-preserved
loop-place-preserved c =
    front_more (λ k (d : Sig). ExtendsPlainSig c.args.sigs.now d.kind) c.args.sigs.now c.loop-place.place c.loop-place.invariant
    (λ x at. subst (λ (d : Sig). ExtendsPlainSig c.args.sigs.now d.kind) (get_or_from_slice_get c.args.sigs.now c.loop-place.place x c.index-sigs-place.result at) (c.extends_plain_sig.ensures c.if-not-extends_plain_sig.false))

pub returns : goal.returns
returns c = λ t. extends_by c.args.sigs.now (front_all (λ k (d : Sig). ExtendsPlainSig c.args.sigs.now d.kind) c.args.sigs.now c.loop-place.place c.loop-place-test.false c.loop-place.invariant)
