use Rattle.std.proofs.Common.{◌≡◌, ◌+◌, ◌*◌, ◌^◌, ℕ, List, [], length, ap, sym, ◌∙◌, arith}
use Rattle.std.specs.Prelude.{count_by}
use Rattle.gate_trait.specs.declared.node.Node.{Node}
use Rattle.gate_trait.proofs.KeptLemmas.{keeps_refl, keeps_trans, all_more, all_same, all_none, length_push}
use Rattle.gate_integers.specs.Numbers.{number}
use Rattle.gate_integers.proofs.Columns.{place_turn, counted}
use Rattle.gate_integers.proofs.counting.count.Goals as goal

pub loop-place-init : goal.loop-place-init
loop-place-init g c =
    let value = g.G.Gates.node_value in
    let belongs = g.G.Gates.belongs in
    let first = c.args.gates.now in
    let column = c.in_ok-column.ensures.items in
    record {
      keeps = keeps_refl belongs value first;
      belongs = all_same (belongs first) [] c.new-bits.result c.new-bits.ensures (all_none (belongs first));
      width = ap (λ (ns : List Node). length ns) c.new-bits.ensures;
      column_belongs = all_same (belongs first) c.args.nodes.now c.in_ok-column.column.items column c.requires;
      sum = λ x.
          let n : number (value first x) c.new-bits.result ≡ 0 = ap (λ (ns : List Node). number (value first x) ns) c.new-bits.ensures in
          let k : count_by (value first x) c.in_ok-column.column.items ≡ count_by (value first x) c.args.nodes.now = ap (λ (ns : List Node). count_by (value first x) ns) column in
          omega (arith, n, k);
    }

pub add_column-requires : goal.add_column-requires
add_column-requires g c = all_same (g.G.Gates.belongs c.loop-place.gates) c.loop-place.column.items c.deref.result.now c.deref.ensures.value c.loop-place.invariant.column_belongs

pub loop-place-preserved : goal.loop-place-preserved
loop-place-preserved g c =
    let value = g.G.Gates.node_value in
    let belongs = g.G.Gates.belongs in
    let before = c.loop-place.invariant in
    let first = c.args.gates.now in
    let now = c.loop-place.gates in
    let after = c.add_column.new.gates in
    let k1 = c.add_column.ensures.keeps in
    let next = c.in_ok-next.next in
    let p = c.in_ok-push.ensures.ok in
    let i = c.loop-place._place in
    record {
      keeps = keeps_trans belongs value first now after before.keeps k1;
      belongs = all_more belongs value now after k1 c.loop-place.bits c.push.new.self next.bit p before.belongs c.in_ok-next.ensures.bit_belongs;
      width = ap (λ (ns : List Node). length ns) p ∙ length_push c.loop-place.bits next.bit ∙ omega (arith, before.width);
      column_belongs = c.in_ok-next.ensures.carries_belong;
      sum = λ x. place_turn belongs value now after k1 c.loop-place.bits c.push.new.self next.bit p before.belongs x i before.width _ _ _
          (c.in_ok-next.ensures.sum x ∙ ap (λ (ns : List Node). count_by (value now x) ns) c.deref.ensures.value) (before.sum x);
    }

pub returns-clause-value : goal.returns-clause-value
returns-clause-value g c = λ x.
    let value = g.G.Gates.node_value in
    let end : c.loop-place._place ≡ c.args.width = omega arith in
    counted (value c.loop-place.gates x) c.loop-place.bits c.args.width (count_by (value c.loop-place.gates x) c.loop-place.column.items) (count_by (value c.args.gates.now x) c.args.nodes.now)
    (c.loop-place.invariant.width ∙ end)
    (ap (λ (k : ℕ). number (value c.loop-place.gates x) c.loop-place.bits + 2 ^ k * count_by (value c.loop-place.gates x) c.loop-place.column.items) (sym end) ∙ c.loop-place.invariant.sum x)
