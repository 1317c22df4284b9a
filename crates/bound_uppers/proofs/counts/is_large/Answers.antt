use Rattle.std.proofs.Common.{◌≡◌, ◌+◌, ◌∙◌, List, length, ap, subst, sym}
use Rattle.std.specs.Prelude.{sum_by}
use Rattle.core_tree.specs.declared.model.Sig.{Sig}
use Rattle.core_tree.specs.declared.model.Field.{Field}
use Rattle.bound_owners.specs.Tops.{HasTops}
use Rattle.bound_uppers.specs.Counts.{capped, field_count, loops_in, sigs_count}
use Rattle.bound_uppers.proofs.counts.is_large.Goals as goal

pub sigs_size-requires-clause-tops : goal.sigs_size-requires-clause-tops
sigs_size-requires-clause-tops c = subst (λ (ds : List Sig). HasTops ds c.args.ups.now) (sym c.as_slice-sigs.ensures) c.requires.tops

pub fields_size-requires-clause-tops : goal.fields_size-requires-clause-tops
fields_size-requires-clause-tops c = subst (λ (ds : List Sig). HasTops ds c.args.ups.now) (sym c.as_slice-sigs.ensures) c.requires.tops

pub returns : goal.returns
returns c =
    let model = c.args.model.now in
    let scopes = c.args.scopes.now in
    let a = sigs_count model.sigs scopes (length model.sigs) in
    let b = sum_by (field_count model.sigs scopes) model.fields in
    let l = loops_in scopes in
    let e : c.in_ok-first.first ≡ capped a = c.in_ok-first.ensures ∙ ap (λ (ds : List Sig). capped (sigs_count ds scopes (length ds))) c.as_slice-sigs.ensures in
    let f : c.in_ok-second.second ≡ capped b = c.in_ok-second.ensures ∙ ap (λ (ds : List Sig). capped (sum_by (field_count ds scopes) c.as_slice-fields.result.now)) c.as_slice-sigs.ensures ∙ ap (λ (fs : List Field). capped (sum_by (field_count model.sigs scopes) fs)) c.as_slice-fields.ensures in
    c.is_over.ensures (a + b + l) (c.sum_of-all.ensures (a + b) l (c.sum_of-relations.ensures a b e f) c.loops_of-loops.ensures)
