use Rattle.std.proofs.Common.{◌≡◌, ◌∙◌, List, Option, Some, length, slice_get, sym, ap, subst}
use Rattle.std.proofs.lemmas.Option.{slice_get_within}
use Rattle.core_tree.specs.declared.model.Origin.{Origin}
use Rattle.core_tree.specs.declared.model.Sig.{Sig}
use Rattle.resolve_told_opens.specs.Told.{gifts}
use Rattle.resolve_told_opens.proofs.Adding.{first_in}
use Rattle.resolve_told_opens.proofs.told.are_opens_told.Goals as goal

pub returns : goal.returns
returns c = λ same s d at.
    let sigs = c.as_slice-sigs.result.now in
    let here : slice_get sigs s ≡ Some d = subst (λ (xs : List Sig). slice_get xs s ≡ Some d) (sym c.as_slice-sigs.ensures) at in
    first_in (gifts c.args.loaded.now.texts c.args.loaded.now.instances c.args.names.now.scopes) (length sigs) c.in_ok-table.table.items c.add_gifts.new.table.items s d.exactly
    c.in_ok-table.ensures (slice_get_within sigs s d here) c.in_ok-add_gifts.ensures
    (ap (λ (t : List (Option Origin)). slice_get t s) (sym c.as_slice.ensures.value) ∙ c.has_opens.ensures same s d here)
