use Rattle.std.proofs.Common.{List, length, refl, sym, ap, ◌∙◌}
use Rattle.std.proofs.lemmas.Option.{slice_get_read}
use Rattle.core_tree.specs.declared.model.Column.{Column}
use Rattle.core_tree.specs.declared.model.SigKind.TheVariants.{Subset}
use Rattle.bound_uppers.proofs.Rising.{child_more, subset_more}
use Rattle.bound_uppers.proofs.kinds.visit.Goals as goal

pub returns-in_ok-visit_plain-in-Extends : goal.returns-in_ok-visit_plain-in-Extends
returns-in_ok-visit_plain-in-Extends c =
    let at = slice_get_read c.args.sigs.now (length c.args.sigs.now) c.args.sig c.in-Some.found.now refl c.in-Some.ensures.lookup.3.0 c.in-Some.ensures.lookup.1 in
    child_more c.args.sigs.now c.args.ups.now c.args.sig c.in-Extends.field-0 c.in-Some.found.now c.args.rows.now.items c.visit_plain-in-Extends.new.rows.items c.args.waiting.now.items at c.in-Extends.is c.in_ok-visit_plain-in-Extends.ensures

pub returns-in_ok-visit_parents-in-Subset : goal.returns-in_ok-visit_parents-in-Subset
returns-in_ok-visit_parents-in-Subset c =
    let at = slice_get_read c.args.sigs.now (length c.args.sigs.now) c.args.sig c.in-Some.found.now refl c.in-Some.ensures.lookup.3.0 c.in-Some.ensures.lookup.1 in
    let is = c.in-Subset.is ∙ ap (λ (ps : List Column). Subset ps) (sym c.as_slice.ensures) in
    subset_more c.args.sigs.now c.args.ups.now c.args.sig c.in-Some.found.now c.as_slice.result.now c.args.rows.now.items c.visit_parents.new.rows.items c.args.waiting.now.items c.visit_parents.new.waiting.items at is (c.in_ok-visit_parents-in-Subset.ensures c.args.sigs.now c.args.ups.now)
