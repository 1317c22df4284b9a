use Rattle.std.proofs.Common.{◌+◌, ◌++◌, map, Option, refl, ap, ◌∙◌, arith}
use Rattle.core_tree.specs.declared.model.Origin.{Origin}
use Rattle.bound_definitions.specs.Trees.{counted_field, counted_at, bound_tree}
use Rattle.bound_definitions.proofs.Firsts.{each_turn, each_end}
use Rattle.bound_scopes.specs.Roots.{counted_root}
use Rattle.bound_scopes.proofs.counted.add_fields.Goals as goal

pub loop-field-preserved : goal.loop-field-preserved
loop-field-preserved c =
    each_turn (counted_field c.args.sigs.now) c.args.fields.now c.loop-field.field-index (c.loop-field.field-index + 1) c.field-item.result (map counted_root c.args.all.now.items) (map counted_root c.loop-field.all.items) (map counted_root c.add_bound.new.all.items) refl
    c.loop-field-test.true c.field-item.is c.loop-field.invariant (c.in_ok-add_bound.ensures ∙ ap (λ (o : Option Origin). map counted_root c.loop-field.all.items ++ counted_at o (bound_tree c.field-item.result.declared)) c.origin_of.ensures)

pub returns : goal.returns
returns c = each_end (counted_field c.args.sigs.now) c.args.fields.now c.loop-field.field-index (map counted_root c.args.all.now.items) (map counted_root c.loop-field.all.items) (omega arith) c.loop-field.invariant
