use Rattle.std.proofs.Common.{◌∙◌, ◌<◌, length, refl, subst}
use Rattle.std.proofs.lemmas.Option.{get_or_from_slice_get, slice_get_read}
use Rattle.core_tree.specs.declared.model.Sig.{Sig}
use Rattle.resolve_told_sigs.specs.Told.{IsLiteral}
use Rattle.resolve_told_sigs.proofs.Lists.{front_more, front_all}
use Rattle.resolve_told_sigs.proofs.sigs.are_strings.Goals as goal

pub loop-place-preserved : goal.loop-place-preserved
loop-place-preserved c = front_more (λ n (d : Sig). c.args.string < n → IsLiteral c.args.string d) c.args.sigs.now c.loop-place.place c.loop-place.invariant
    (λ x at less. subst (λ (d : Sig). IsLiteral c.args.string d) (c.index-sigs-place.is ∙ get_or_from_slice_get c.args.sigs.now c.loop-place.place x c.index-sigs-place.result at) (c.is_literal.ensures c.if-not-is_literal.false))

pub returns : goal.returns
returns c = λ t. record {
  first = c.index-sigs-first.result;
  there = slice_get_read c.args.sigs.now (length c.args.sigs.now) c.args.string c.index-sigs-first.result refl c.if-first-sigs.false c.index-sigs-first.is;
  is_string = c.is_string.ensures c.if-not-is_string.false;
  others = λ n d less at. front_all (λ n (d : Sig). c.args.string < n → IsLiteral c.args.string d) c.args.sigs.now c.loop-place.place c.loop-place-test.false c.loop-place.invariant n d at less;
}
