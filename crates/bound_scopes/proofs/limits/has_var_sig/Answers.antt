use Rattle.std.proofs.Common.{◌≡◌, ◌∙◌, false, sym, ap, arith}
use Rattle.std.proofs.lemmas.Option.{get_or_from_slice_get, slice_get_within}
use Rattle.std.proofs.lemmas.List.Folds.{list_any_at, list_any_none}
use Rattle.core_tree.specs.declared.model.Sig.{Sig}
use Rattle.bound_scopes.proofs.Pairs.{all_more, all_whole}
use Rattle.bound_scopes.proofs.limits.has_var_sig.Goals as goal

pub loop-place-preserved : goal.loop-place-preserved
loop-place-preserved c =
    let item = c.get-sig.result.now in
    all_more (λ (x : Sig). x.is_var ≡ false) c.args.sigs.now c.loop-place.place item (slice_get_within c.args.sigs.now c.loop-place.place item c.get-sig.ensures)
    (sym (get_or_from_slice_get c.args.sigs.now c.loop-place.place item item c.get-sig.ensures)) c.loop-place.invariant c.if-sig.false

pub returns-then-sig : goal.returns-then-sig
returns-then-sig c =
    let item = c.get-sig.result.now in
    sym (list_any_at (λ (x : Sig). x.is_var) c.args.sigs.now c.loop-place.place item (slice_get_within c.args.sigs.now c.loop-place.place item c.get-sig.ensures)
    (ap (λ (x : Sig). x.is_var) (get_or_from_slice_get c.args.sigs.now c.loop-place.place item item c.get-sig.ensures) ∙ c.if-sig.true))

pub returns : goal.returns
returns c = sym (list_any_none (λ (x : Sig). x.is_var) c.args.sigs.now (all_whole (λ (x : Sig). x.is_var ≡ false) c.args.sigs.now c.loop-place.place (omega arith) c.loop-place.invariant))
