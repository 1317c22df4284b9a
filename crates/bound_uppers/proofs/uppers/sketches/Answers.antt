use Rattle.std.proofs.Common.{Bool, List, ◌++◌, map, ap, ◌∙◌}
use Rattle.core_tree.specs.declared.model.Sig.{Sig}
use Rattle.core_tree.specs.declared.model.Field.{Field}
use Rattle.bound_uppers.specs.Table.{is_fixed}
use Rattle.bound_uppers.proofs.Sketching.{sketches_are}
use Rattle.bound_uppers.proofs.uppers.sketches.Goals as goal

pub returns-clause-fixed : goal.returns-clause-fixed
returns-clause-fixed c =
    let model = c.args.model.now in
    let first = c.in_ok-all.ensures.fixed ∙ ap (λ (ds : List Sig). map (λ (d : Sig). is_fixed d.is_var) ds) c.as_slice-sigs.ensures in
    c.in_ok-add_fields.ensures.fixed
    ∙ (ap (λ (bs : List Bool). bs ++ map (λ (f : Field). is_fixed f.is_var) c.as_slice-fields.result.now) first
    ∙ ap (λ (fs : List Field). map (λ (d : Sig). is_fixed d.is_var) model.sigs ++ map (λ (f : Field). is_fixed f.is_var) fs) c.as_slice-fields.ensures)

pub returns-clause-its : goal.returns-clause-its
returns-clause-its c = sketches_are c.args.model.now c.args.ups.now c.args.spans.now c.as_slice-sigs.result.now c.as_slice-fields.result.now c.in_ok-all.all.items c.add_fields.new.all.items c.as_slice-sigs.ensures c.as_slice-fields.ensures c.in_ok-all.ensures.fixed c.in_ok-all.ensures.its c.in_ok-add_fields.ensures.right c.in_ok-add_fields.ensures.its c.in_ok-add_fields.ensures.kept
