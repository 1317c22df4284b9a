use Rattle.std.proofs.Common.{arith, ap, ◌∙◌, ◌⊎◌, ◌<◌, ◌+◌, List, sym, inl, inr, length, subst, drop}
use Rattle.gate_matrix.specs.declared.entry.Entry.{Entry}
use Rattle.gate_matrix.specs.Matrices.{MatrixEntries, truth}
use Rattle.gate_matrix.proofs.MergeLaw.{Merging, first_at, second_at, both_at, less_within, greater_within, equal_within, merging_none, merged_matrix, merged_truth}
use Rattle.gate_matrix.proofs.BasicLemmas.{all_here}
use Rattle.gate_matrix.proofs.MergeLaw.{some_belongs}
use Rattle.gate_matrix.proofs.merge.merge.Goals as goal
use Rattle.gate_matrix.proofs.merge.merge.Goals.{then-i-a, else-i-a+then-j-b}

pub heads_at-requires-clause-columns : goal.heads_at-requires-clause-columns
heads_at-requires-clause-columns g c = (c.args.arity, c.requires.a_matrix.columns, c.requires.b_matrix.columns)

pub add_kept-requires-clause-first_belongs : goal.add_kept-requires-clause-first_belongs
add_kept-requires-clause-first_belongs g c = λ x is.
    let belongs = g.G.Gates.belongs in
    let a = c.args.a.now in
    let e = c.index-a-i.result in
    let lt : c.loop-i.i < length a = less_within a c.args.b.now c.loop-i.i c.loop-i.j c.in-Less.ensures in
    some_belongs (belongs c.loop-i.gates) e.node x (c.loop-i.invariant.merging.keeps.belong e.node (all_here (λ (f : Entry). belongs c.args.gates.now f.node) a c.loop-i.i e c.requires.a_belongs lt c.index-a-i.is)) is

pub add_kept-requires-in-Greater-clause-second_belongs : goal.add_kept-requires-in-Greater-clause-second_belongs
add_kept-requires-in-Greater-clause-second_belongs g c = λ x is.
    let belongs = g.G.Gates.belongs in
    let b = c.args.b.now in
    let e = c.index-b-j.result in
    let lt : c.loop-i.j < length b = greater_within c.args.a.now b c.loop-i.i c.loop-i.j c.in-Greater.ensures in
    some_belongs (belongs c.loop-i.gates) e.node x (c.loop-i.invariant.merging.keeps.belong e.node (all_here (λ (f : Entry). belongs c.args.gates.now f.node) b c.loop-i.j e c.requires.b_belongs lt c.index-b-j.is)) is

pub bounds-a-i-in-Equal : goal.bounds-a-i-in-Equal
bounds-a-i-in-Equal g c =
    let a = c.args.a.now in
    let b = c.args.b.now in
    let some : (c.loop-i.i < length a) ⊎ (c.loop-i.j < length b) = elim c.if-i-a.branch [ then-i-a w ↦ inl w.if-i-a.true | else-i-a+then-j-b w ↦ inr w.if-j-b.true ] in
    (equal_within a b c.loop-i.i c.loop-i.j c.in-Equal.ensures some).0

pub loop-i-init : goal.loop-i-init
loop-i-init g c = record {
  first_place = omega arith;
  second_place = omega arith;
  merging = merging_none g.G.Gates.belongs g.G.Gates.node_value c.args.arity c.args.rule c.args.gates.now c.args.a.now c.args.b.now c.new-all.result.items c.new-all.ensures.items c.requires.a_matrix c.requires.b_matrix;
}

pub loop-i-preserved-in-Less : goal.loop-i-preserved-in-Less
loop-i-preserved-in-Less g c =
    let belongs = g.G.Gates.belongs in
    let value = g.G.Gates.node_value in
    let a = c.args.a.now in
    let b = c.args.b.now in
    let i = c.loop-i.i in
    let j = c.loop-i.j in
    let e = c.index-a-i.result in
    let added = c.in_ok-add_kept-in-Less.ensures.added in
    let lt : i < length a = less_within a b i j c.in-Less.ensures in
    record {
      first_place = omega arith;
      second_place = c.loop-i.invariant.second_place;
      merging = subst (λ (es : List Entry). Merging belongs value c.args.arity c.args.rule c.args.gates.now c.add_kept.new.gates a b es (drop (i + 1) a) (drop j b)) (sym added.is)
          (first_at belongs value c.args.arity c.args.rule c.args.gates.now c.loop-i.gates c.add_kept.new.gates a b c.loop-i.all.items c.add_kept.ensures.keeps added.node c.requires.a_belongs c.requires.b_belongs i j c.loop-i.invariant.merging e c.in-Less.ensures c.index-a-i.is added.computes);
    }

pub loop-i-preserved-in-Greater : goal.loop-i-preserved-in-Greater
loop-i-preserved-in-Greater g c =
    let belongs = g.G.Gates.belongs in
    let value = g.G.Gates.node_value in
    let a = c.args.a.now in
    let b = c.args.b.now in
    let i = c.loop-i.i in
    let j = c.loop-i.j in
    let e = c.index-b-j.result in
    let added = c.in_ok-add_kept-in-Greater.ensures.added in
    let lt : j < length b = greater_within a b i j c.in-Greater.ensures in
    record {
      first_place = c.loop-i.invariant.first_place;
      second_place = omega arith;
      merging = subst (λ (es : List Entry). Merging belongs value c.args.arity c.args.rule c.args.gates.now c.add_kept-in-Greater.new.gates a b es (drop i a) (drop (j + 1) b)) (sym added.is)
          (second_at belongs value c.args.arity c.args.rule c.args.gates.now c.loop-i.gates c.add_kept-in-Greater.new.gates a b c.loop-i.all.items c.add_kept-in-Greater.ensures.keeps added.node c.requires.a_belongs c.requires.b_belongs i j c.loop-i.invariant.merging e c.in-Greater.ensures c.index-b-j.is added.computes);
    }

pub loop-i-preserved : goal.loop-i-preserved
loop-i-preserved g c =
    let belongs = g.G.Gates.belongs in
    let value = g.G.Gates.node_value in
    let a = c.args.a.now in
    let b = c.args.b.now in
    let i = c.loop-i.i in
    let j = c.loop-i.j in
    let e = c.index-a-i-in-Equal.result in
    let d = c.index-b-j-in-Equal.result in
    let added = c.in_ok-add_kept-in-Equal.ensures.added in
    let some : (i < length a) ⊎ (j < length b) = elim c.if-i-a.branch [ then-i-a w ↦ inl w.if-i-a.true | else-i-a+then-j-b w ↦ inr w.if-j-b.true ] in
    let within = equal_within a b i j c.in-Equal.ensures some in
    record {
      first_place = omega (arith, within.0);
      second_place = omega (arith, within.1);
      merging = subst (λ (es : List Entry). Merging belongs value c.args.arity c.args.rule c.args.gates.now c.add_kept-in-Equal.new.gates a b es (drop (i + 1) a) (drop (j + 1) b)) (sym added.is)
          (both_at belongs value c.args.arity c.args.rule c.args.gates.now c.loop-i.gates c.add_kept-in-Equal.new.gates a b c.loop-i.all.items c.add_kept-in-Equal.ensures.keeps added.node c.requires.a_belongs c.requires.b_belongs i j c.loop-i.invariant.merging e d c.in-Equal.ensures some c.index-a-i-in-Equal.is c.index-b-j-in-Equal.is added.computes);
    }

pub sorted-requires : goal.sorted-requires
sorted-requires g c =
    merged_matrix g.G.Gates.belongs g.G.Gates.node_value c.args.arity c.args.rule c.args.gates.now c.loop-i.gates c.args.a.now c.args.b.now c.loop-i.all.items c.loop-i.i c.loop-i.j (omega arith) (omega arith) c.loop-i.invariant.merging

pub returns-clause-truth : goal.returns-clause-truth
returns-clause-truth g c = λ x t.
    ap (λ (m : MatrixEntries). truth (g.G.Gates.node_value c.loop-i.gates x) m t) c.sorted.ensures
    ∙ merged_truth g.G.Gates.belongs g.G.Gates.node_value c.args.arity c.args.rule c.args.gates.now c.loop-i.gates c.args.a.now c.args.b.now c.loop-i.all.items c.loop-i.i c.loop-i.j (omega arith) (omega arith) c.loop-i.invariant.merging x t
