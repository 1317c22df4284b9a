use Rattle.std.proofs.Common.{◌+◌, ◌<◌, ℕ, Bool, List, length, take, sym, ap, ◌∙◌, subst, arith}
use Rattle.std.specs.Prelude.{count_by}
use Rattle.std.proofs.lemmas.List.{take_all}
use Rattle.gate_trait.specs.declared.node.Node.{Node}
use Rattle.gate_trait.proofs.KeptLemmas.{keeps_refl, keeps_trans, all_same}
use Rattle.gate_integers.specs.Numbers.{bit}
use Rattle.gate_integers.specs.Counts.{Tells}
use Rattle.gate_integers.proofs.Finals.{count_more}
use Rattle.gate_integers.proofs.limit.last_row.Goals as goal

pub loop-node-init : goal.loop-node-init
loop-node-init g c =
    let value = g.G.Gates.node_value in
    let belongs = g.G.Gates.belongs in
    let first = c.args.gates.now in
    record {
      keeps = keeps_refl belongs value first;
      belongs = c.in_ok-row.ensures.belongs;
      entries = c.in_ok-row.ensures.entries;
      tells = λ x. c.in_ok-row.ensures.tells x;
    }

pub count_one-requires-clause-row_belongs : goal.count_one-requires-clause-row_belongs
count_one-requires-clause-row_belongs g c = all_same (g.G.Gates.belongs c.loop-node.gates) c.loop-node.row c.as_slice.result.now c.as_slice.ensures c.loop-node.invariant.belongs

pub loop-node-preserved : goal.loop-node-preserved
loop-node-preserved g c =
    let value = g.G.Gates.node_value in
    let belongs = g.G.Gates.belongs in
    let before = c.loop-node.invariant in
    let first = c.args.gates.now in
    let now = c.loop-node.gates in
    let after = c.count_one.new.gates in
    let i = c.loop-node.node-index in
    let nodes = c.args.nodes.now in
    let lt : i < length nodes = omega arith in
    record {
      keeps = keeps_trans belongs value first now after before.keeps c.count_one.ensures.keeps;
      belongs = c.in_ok-next.ensures.belongs;
      entries = c.in_ok-next.ensures.entries ∙ ap (λ (ns : List Node). length ns) c.as_slice.ensures ∙ before.entries;
      tells = λ x.
          let told = subst (λ (ns : List Node). Tells (value now x) ns (count_by (value first x) (take i nodes))) (sym c.as_slice.ensures) (before.tells x) in
          let more = c.in_ok-next.ensures.counts x (count_by (value first x) (take i nodes)) told in
          subst (λ (k : ℕ). Tells (value after x) c.in_ok-next.next k)
          (ap (λ (b : Bool). count_by (value first x) (take i nodes) + bit b) (before.keeps.values _ (c.requires.nodes_belong i _ lt) x) ∙ sym (count_more (value first x) nodes i _ lt)) more;
    }

pub returns-clause-tells : goal.returns-clause-tells
returns-clause-tells g c = λ x.
    let value = g.G.Gates.node_value in
    subst (λ (ns : List Node). Tells (value c.loop-node.gates x) c.loop-node.row (count_by (value c.args.gates.now x) ns)) (take_all c.loop-node.node-index c.args.nodes.now (omega arith)) (c.loop-node.invariant.tells x)
