use Rattle.std.proofs.Common.{arith, length, ap, ◌∙◌, ◌+◌, ◌++◌, map, List}
use Rattle.core_tuples.proofs.OrderLemmas.{take_all}
use Rattle.core_tree.specs.declared.model.Field.{Field}
use Rattle.bound_uppers.specs.declared.uppers.Sketch.{Sketch}
use Rattle.bound_uppers.specs.Table.{is_fixed}
use Rattle.bound_uppers.proofs.Sketching.{maps_more, one_right, fields_more, fields_all, kept_more, count_more}
use Rattle.bound_uppers.proofs.uppers.add_fields.Goals as goal

pub loop-field-preserved : goal.loop-field-preserved
loop-field-preserved c =
    let was = c.loop-field.invariant in
    let first = c.args.all.now.items in
    let old = c.loop-field.all.items in
    let new = c.push.new.self.items in
    let k = c.in_ok-sketch.sketch in
    let n = c.loop-field.field-index in
    let e = c.in_ok-push.ensures.items in
    let count = was.count in
    record {
      fixed = maps_more (λ (s : Sketch). s.fixed) (λ (f : Field). is_fixed f.is_var) (map (λ (s : Sketch). s.fixed) first) old new k c.args.fields.now n c.field-item.result c.loop-field-test.true c.field-item.is was.fixed c.in_ok-sketch.ensures.fixed e;
      right = one_right old new k was.right c.in_ok-sketch.ensures.right e;
      its = fields_more c.args.ups.now c.args.fields.now (length first) n c.field-item.result k old new c.field-item.is was.count was.its c.in_ok-sketch.ensures.its e;
      count = let longer = count_more old new k (length first + n) was.count e in omega (arith, longer);
      kept = kept_more first old new k (omega (arith, count)) was.kept e;
    }

pub returns-clause-fixed : goal.returns-clause-fixed
returns-clause-fixed c = c.loop-field.invariant.fixed ∙ ap (λ (fs : List Field). map (λ (s : Sketch). s.fixed) c.args.all.now.items ++ map (λ (f : Field). is_fixed f.is_var) fs) (take_all c.args.fields.now c.loop-field.field-index c.loop-field-test.false)

pub returns-clause-its : goal.returns-clause-its
returns-clause-its c = fields_all c.args.ups.now c.args.fields.now (length c.args.all.now.items) c.loop-field.field-index c.loop-field.all.items c.loop-field-test.false c.loop-field.invariant.its
