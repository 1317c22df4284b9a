use Rattle.std.proofs.Common.{◌∙◌, length, ap, sym, refl, string_bytes}
use Rattle.std.specs.Str.{bytes_eq}
use Rattle.std.specs.Map.{lookup}
use Rattle.std.proofs.lemmas.Option.{slice_get_read}
use Rattle.indexmap.specs.IndexMap.{get_by_text}
use Rattle.core_tree.specs.declared.model.Sig.{Sig}
use Rattle.resolve_told_literals.proofs.Noting.{finds_none, finds_more, finds_all}
use Rattle.resolve_told_literals.proofs.labels.numbers_from.Goals as goal

pub loop-number-init : goal.loop-number-init
loop-number-init c = finds_none c.args.sigs.now c.args.first (get_by_text c.new-numbers.result) (λ q. ap (lookup (λ k. bytes_eq q (string_bytes k))) c.new-numbers.ensures.empty)

pub loop-number-preserved : goal.loop-number-preserved
loop-number-preserved c =
    let sigs = c.args.sigs.now in
    let d = c.index-sigs-number.result in
    finds_more sigs c.args.first c.loop-number.number d c.text.result.now (get_by_text c.loop-number.numbers) (get_by_text c.note.new.numbers) c.loop-number.auto.number
    (slice_get_read sigs (length sigs) c.loop-number.number d refl c.loop-number-test.true c.index-sigs-number.is)
    (c.text.ensures ∙ ap (λ (x : Sig). x.label) (sym c.index-sigs-number.is))
    (sym c.in_ok-note.ensures.old ∙ c.in-None.is)
    c.in_ok-note.ensures.new c.loop-number.invariant

pub returns : goal.returns
returns c = finds_all c.args.sigs.now c.args.first c.loop-number.number (length c.args.sigs.now) (get_by_text c.loop-number.numbers) c.loop-number-test.false c.loop-number.invariant
