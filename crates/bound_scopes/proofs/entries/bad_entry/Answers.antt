use Rattle.std.proofs.Common.{◌+◌, length, false, refl, sym, ◌∙◌, arith}
use Rattle.std.proofs.lemmas.Option.{get_or_from_slice_get, slice_get_within}
use Rattle.bound_definitions.specs.Rules.{bad_entry}
use Rattle.bound_definitions.proofs.Firsts.{behind_whole}
use Rattle.bound_scopes.proofs.Marking.{bad_turn, marked_turn, none_marked}
use Rattle.bound_scopes.proofs.entries.bad_entry.Goals as goal

pub loop-place-init : goal.loop-place-init
loop-place-init c = record {
  bad = refl;
  marks = none_marked (length c.args.sigs.now) c.in_ok-marks.marks.items (record { bits = false; steps = false }) (c.in_ok-marks.ensures.items_if_clones_equal (λ y e. e)) refl refl;
}

pub loop-place-preserved : goal.loop-place-preserved
loop-place-preserved c =
    let entry = c.get-entry.result.now in
    let lt = slice_get_within c.args.entries.now c.loop-place.place entry c.get-entry.ensures in
    let item = sym (get_or_from_slice_get c.args.entries.now c.loop-place.place entry entry c.get-entry.ensures) in
    record {
      bad = bad_turn c.args.sigs.now c.args.entries.now c.loop-place.place (c.loop-place.place + 1) entry c.as_slice.result.now c.loop-place.marks.items c.loop-place.single c.is_marked-repeated.result c.may_not_stand-is_bad.result c.in_root.result c.loop-place.bad
          c.with_place-bad.result refl lt item c.loop-place.invariant.marks c.as_slice.ensures.value c.is_marked-repeated.ensures c.may_not_stand-is_bad.ensures c.in_root.ensures c.loop-place.invariant.bad c.with_place-bad.ensures;
      marks = marked_turn (length c.args.sigs.now) c.args.entries.now c.loop-place.place (c.loop-place.place + 1) entry c.loop-place.marks.items c.mark.new.sigs.items c.loop-place.single c.with_single-single.result refl lt item c.loop-place.invariant.marks c.mark.ensures
          c.with_single-single.ensures;
    }

pub returns : goal.returns
returns c = c.loop-place.invariant.bad ∙ behind_whole (bad_entry c.args.sigs.now) c.args.entries.now c.loop-place.place (omega arith)
