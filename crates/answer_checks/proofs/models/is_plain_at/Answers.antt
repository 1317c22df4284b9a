use Rattle.std.proofs.Common.{arith, subst}
use Rattle.std.proofs.lemmas.Option.{slice_get_within, get_or_from_slice_get}
use Rattle.core_tree.specs.declared.model.Sig.{Sig}
use Rattle.answer_checks.specs.Parts.{IsPlainKind}
use Rattle.answer_checks.proofs.models.is_plain_at.Goals as goal

pub returns-then-number-sigs : goal.returns-then-number-sigs
returns-then-number-sigs c = λ t e at. absurd (let low = slice_get_within c.args.sigs.now c.args.number e at in omega (arith, low))

pub returns : goal.returns
returns c = λ t e at. subst (λ (d : Sig). IsPlainKind d.kind) (get_or_from_slice_get c.args.sigs.now c.args.number e c.index-sigs-number.result at) (c.is_plain.ensures t)
