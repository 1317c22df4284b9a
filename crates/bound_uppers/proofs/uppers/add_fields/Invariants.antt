use Rattle.std.proofs.Common.{ℕ, ◌≡◌, ◌<◌, ◌+◌, ◌++◌, map, length, take, All, slice_get}
use Rattle.core_tree.specs.declared.model.Field.{Field}
use Rattle.bound_uppers.specs.declared.uppers.Sketch.{Sketch}
use Rattle.bound_uppers.specs.Sketches.{IsRightSketch, AreFieldSketches}
use Rattle.bound_uppers.specs.Table.{is_fixed}
use Rattle.bound_uppers.proofs.uppers.add_fields.Given as goal

abbrev pub invariant-loop-field : goal.invariant-loop-field
invariant-loop-field l = record {
  fixed : map (λ (s : Sketch). s.fixed) l.all.items ≡ map (λ (s : Sketch). s.fixed) l.initial.all.items ++ map (λ (f : Field). is_fixed f.is_var) (take l.field-index l.fields);
  right : All IsRightSketch l.all.items;
  its : AreFieldSketches l.ups l.fields (length l.initial.all.items) l.field-index l.all.items;
  count : length l.all.items ≡ length l.initial.all.items + l.field-index;
  kept : (s : ℕ) → s < length l.initial.all.items → slice_get l.all.items s ≡ slice_get l.initial.all.items s;
}
