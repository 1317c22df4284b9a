use Rattle.std.proofs.Common.{◌+◌, None, refl, sym, ap₂, ◌∙◌, Bool, arith}
use Rattle.std.proofs.lemmas.Option.{get_or_from_slice_get, slice_get_within}
use Rattle.core_tree.specs.declared.model.Origin.{Origin}
use Rattle.bound_definitions.specs.Places.{first_from, place_if}
use Rattle.bound_definitions.specs.Rules.{exact_var_entry}
use Rattle.bound_definitions.proofs.Firsts.{first_turn, first_whole}
use Rattle.bound_scopes.proofs.entries.exact_var_entries.Goals as goal

pub loop-place-preserved : goal.loop-place-preserved
loop-place-preserved c =
    let entry = c.get-entry.result.now in
    let lt = slice_get_within c.args.entries.now c.loop-place.place entry c.get-entry.ensures in
    let item = sym (get_or_from_slice_get c.args.entries.now c.loop-place.place entry entry c.get-entry.ensures) in
    first_turn (exact_var_entry c.args.sigs.now) None c.args.entries.now c.loop-place.place (c.loop-place.place + 1) entry c.loop-place.first c.with_place-first.result refl lt item c.loop-place.invariant
    (c.with_place-first.ensures ∙ ap₂ (λ (b : Bool) (at : Origin). first_from c.loop-place.first (place_if b at)) c.is_exact_var-is_bad.ensures c.in_root.ensures)

pub returns : goal.returns
returns c = c.loop-place.invariant ∙ first_whole (exact_var_entry c.args.sigs.now) None c.args.entries.now c.loop-place.place (omega arith)
