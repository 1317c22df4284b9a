use Rattle.std.proofs.Common.{◌≡◌, map, length, take, All}
use Rattle.core_tree.specs.declared.model.Sig.{Sig}
use Rattle.bound_uppers.specs.declared.uppers.Sketch.{Sketch}
use Rattle.bound_uppers.specs.Sketches.{IsRightSketch, AreSigSketches}
use Rattle.bound_uppers.specs.Table.{is_fixed}
use Rattle.bound_uppers.proofs.uppers.sig_sketches.Given as goal

abbrev pub invariant-loop-sig : goal.invariant-loop-sig
invariant-loop-sig l = record {
  fixed : map (λ (s : Sketch). s.fixed) l.all.items ≡ map (λ (d : Sig). is_fixed d.is_var) (take l.sig-index l.sigs);
  right : All IsRightSketch l.all.items;
  its : AreSigSketches l.sigs l.ups l.spans l.sig-index l.all.items;
  count : length l.all.items ≡ l.sig-index;
  number : l.number ≡ l.sig-index;
}
