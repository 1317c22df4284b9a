use Rattle.std.proofs.Common.{◌≡◌, ℕ, ◌-◌, List, set, length, Option, Some, slice_get, string_bytes, if◌then◌else◌, refl, sym, subst, ◌∙◌, ap, arith}
use Rattle.std.specs.Str.{bytes_eq}
use Rattle.std.specs.Map.{lookup}
use Rattle.std.proofs.lemmas.Option.{slice_get_read}
use Rattle.indexmap.specs.IndexMap.{get_by_text}
use Rattle.resolve_names.specs.declared.table.Declared.{Declared}
use Rattle.resolve_names.specs.Indexed.{IsIndexed}
use Rattle.resolve_names.proofs.Chained.{indexed_more, indexed_none}
use Rattle.resolve_names.proofs.index.places_of.Goals as goal

pub loop-back-init : goal.loop-back-init
loop-back-init c =
    indexed_none c.args.list.now (length c.args.list.now - 0) (get_by_text c.new-first.result) c.in_ok-next.next.items (omega arith) c.in_ok-next.ensures
    (λ q. ap (lookup (λ k. bytes_eq q (string_bytes k))) c.new-first.ensures.empty)

pub loop-back-preserved : goal.loop-back-preserved
loop-back-preserved c =
    let list = c.args.list.now in
    let place : ℕ = length list - 1 - c.loop-back.back in
    let one = c.index-list-place.result in
    let find = get_by_text c.loop-back.first in
    let within = c.loop-back-test.true in
    let text_is : c.text.result.now ≡ one.name = c.text.ensures ∙ ap (λ (d : Declared). d.name) (sym c.index-list-place.is) in
    let at : slice_get list place ≡ Some one = slice_get_read list (length list) place one refl (omega arith) c.index-list-place.is in
    let more = indexed_more list (length list - c.loop-back.back) place one find (get_by_text c.put.new.first) c.loop-back.next.items (omega arith) at c.loop-back.invariant
    (λ q. c.in_ok-later.ensures.put q ∙ ap (λ (t : List ℕ). if bytes_eq t q then Some place else find q) text_is) in
    let later_is : c.in_ok-later.later ≡ find one.name = c.in_ok-later.ensures.old ∙ ap find text_is in
    subst (λ (n : ℕ). IsIndexed list n (get_by_text c.put.new.first) (set c.loop-back.next.items place c.in_ok-later.later)) (omega arith)
    (subst (λ (o : Option ℕ). IsIndexed list place (get_by_text c.put.new.first) (set c.loop-back.next.items place o)) (sym later_is) more)

pub returns : goal.returns
returns c =
    subst (λ (n : ℕ). IsIndexed c.args.list.now n (get_by_text c.loop-back.first) c.loop-back.next.items) (omega (arith, c.loop-back-test.false)) c.loop-back.invariant
