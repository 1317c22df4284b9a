use Rattle.std.proofs.Common.{◌≡◌, ◌∙◌, sym, subst, ℕ, List, Some, slice_get, get_or}
use Rattle.std.proofs.lemmas.List.{length-map}
use Rattle.std.proofs.lemmas.Option.{get_or_from_slice_get}
use Rattle.core_tree.specs.declared.model.Sig.{Sig}
use Rattle.resolve_told_types.specs.Kinds.{kind_in}
use Rattle.resolve_told_types.specs.Steps.{IsLineStep}
use Rattle.resolve_told_types.proofs.LineLaws.{are_lines_of}
use Rattle.resolve_told_types.proofs.Lists.{front_more, front_all}
use Rattle.resolve_told_types.proofs.lines.are_lines.Goals as goal

pub loop-place-preserved : goal.loop-place-preserved
loop-place-preserved c =
    let lines = c.args.lines.now in
    let sigs = c.args.sigs.now in
    let place = c.loop-place.place in
    let first = c.index-sigs-place.result in
    front_more (λ (s : ℕ) (x : Sig). (line : List ℕ) → slice_get lines s ≡ Some line → IsLineStep lines s (kind_in x) line) sigs place c.loop-place.invariant (λ x at line there.
    let own : c.as_slice.result.now ≡ line = c.as_slice.ensures ∙ c.index-lines-place.is ∙ get_or_from_slice_get lines place line _ there in
    subst (λ (y : Sig). IsLineStep lines place (kind_in y) line) (get_or_from_slice_get sigs place x first at)
    (subst (λ (l : List ℕ). IsLineStep lines place (kind_in (get_or sigs place first)) l) own (c.is_line.ensures c.if-not-is_line.false)))

pub returns : goal.returns
returns c = λ t.
    let lines = c.args.lines.now in
    are_lines_of c.args.sigs.now lines (c.if-lines-sigs.false ∙ sym (length-map c.args.sigs.now kind_in))
    (front_all (λ (s : ℕ) (x : Sig). (line : List ℕ) → slice_get lines s ≡ Some line → IsLineStep lines s (kind_in x) line) c.args.sigs.now c.loop-place.place c.loop-place-test.false c.loop-place.invariant)
