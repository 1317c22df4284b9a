use Rattle.std.proofs.Common.{◌≡◌, ◌<◌, ◌&&◌, not, List, length, sym, ap, ◌∙◌, arith}
use Rattle.gate_trait.specs.declared.node.Node.{Node}
use Rattle.gate_trait.specs.Built.{xor}
use Rattle.gate_trait.proofs.KeptLemmas.{keeps_refl, keeps_trans, all_same}
use Rattle.gate_integers.proofs.RowLemmas.{two_same}
use Rattle.gate_integers.proofs.Alike.{alike_turn}
use Rattle.gate_integers.proofs.Finals.{equal_final}
use Rattle.gate_integers.proofs.compare.equal_bits.Goals as goal

pub loop-i-init : goal.loop-i-init
loop-i-init g c =
    let value = g.G.Gates.node_value in
    let belongs = g.G.Gates.belongs in
    let first = c.args.gates.now in
    record {
      keeps = keeps_refl belongs value first;
      belongs = c.constant-equal.ensures.there;
      equal = λ x. c.constant-equal.ensures.gives x;
    }

pub loop-i-preserved : goal.loop-i-preserved
loop-i-preserved g c =
    let value = g.G.Gates.node_value in
    let belongs = g.G.Gates.belongs in
    let before = c.loop-i.invariant in
    let first = c.args.gates.now in
    let now = c.loop-i.gates in
    let mid = c.xor.new.self in
    let after = c.and.new.self in
    let k1 = c.xor.ensures.keeps in
    let left = c.nodes-left.result.now in
    let right = c.nodes-right.result.now in
    let in_left = all_same (belongs first) c.args.a.now left c.nodes-left.ensures c.requires.a_belongs in
    let in_right = all_same (belongs first) c.args.b.now right c.nodes-right.ensures c.requires.b_belongs in
    let wide : length right ≡ length left = ap (λ (ns : List Node). length ns) c.nodes-right.ensures ∙ sym c.requires.widths ∙ ap (λ (ns : List Node). length ns) (sym c.nodes-left.ensures) in
    let i = c.loop-i.i in
    let la : i < length left = omega arith in
    let lb : i < length right = omega (arith, wide) in
    let kept = keeps_trans belongs value first now mid before.keeps k1 in
    record {
      keeps = keeps_trans belongs value first mid after kept c.and.ensures.keeps;
      belongs = c.in_ok-equal.ensures.ok.there;
      equal = λ x. alike_turn (value first x) left right i _ _ (value now x c.loop-i.equal) la lb (before.equal x)
          (c.in_ok-equal.ensures.ok.gives x ∙ two_same (λ s t. s && t) _ _ _ _ (k1.values c.loop-i.equal before.belongs x)
          (c.not-alike.ensures.gives x ∙ ap not (c.in_ok-differ.ensures.ok.gives x ∙ two_same (λ s t. xor s t) _ _ _ _ (before.keeps.values _ (in_left i _ la) x) (before.keeps.values _ (in_right i _ lb) x))));
    }

pub returns-clause-value : goal.returns-clause-value
returns-clause-value g c = λ x.
    let left = c.nodes-left.result.now in
    let right = c.nodes-right.result.now in
    let wide : length left ≡ length right = ap (λ (ns : List Node). length ns) c.nodes-left.ensures ∙ c.requires.widths ∙ ap (λ (ns : List Node). length ns) (sym c.nodes-right.ensures) in
    equal_final _ c.args.a.now c.args.b.now left right c.loop-i.i _ c.nodes-left.ensures c.nodes-right.ensures wide (omega arith) (c.loop-i.invariant.equal x)
