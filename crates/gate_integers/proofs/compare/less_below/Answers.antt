use Rattle.std.proofs.Common.{◌≡◌, ◌<◌, nat_lt, ℕ, length, take, ap, ◌∙◌, arith}
use Rattle.gate_trait.specs.Built.{xor}
use Rattle.gate_trait.proofs.KeptLemmas.{keeps_refl, keeps_trans}
use Rattle.gate_integers.specs.Numbers.{number}
use Rattle.gate_integers.proofs.RowLemmas.{choice_same, two_same}
use Rattle.gate_integers.proofs.SumLemmas.{less_turn}
use Rattle.gate_integers.proofs.compare.less_below.Goals as goal

pub loop-i-init : goal.loop-i-init
loop-i-init g c =
    let value = g.G.Gates.node_value in
    let belongs = g.G.Gates.belongs in
    let first = c.args.gates.now in
    record {
      keeps = keeps_refl belongs value first;
      belongs = c.constant-less.ensures.there;
      less = λ x. c.constant-less.ensures.gives x;
    }

pub loop-i-preserved : goal.loop-i-preserved
loop-i-preserved g c =
    let value = g.G.Gates.node_value in
    let belongs = g.G.Gates.belongs in
    let before = c.loop-i.invariant in
    let first = c.args.gates.now in
    let now = c.loop-i.gates in
    let mid = c.xor.new.self in
    let after = c.choose.new.self in
    let k1 = c.xor.ensures.keeps in
    let k2 = c.choose.ensures.keeps in
    let a = c.args.a.now in
    let b = c.args.b.now in
    let i = c.loop-i.i in
    let la : i < length a = omega (arith, c.requires.a_width) in
    let lb : i < length b = omega (arith, c.requires.b_width) in
    let kept = keeps_trans belongs value first now mid before.keeps k1 in
    record {
      keeps = keeps_trans belongs value first mid after kept k2;
      belongs = c.in_ok-less.ensures.ok.there;
      less = λ x. less_turn (value first x) a b i _ _ (value now x c.loop-i.less) la lb (before.less x)
          (choice_same _ _ _ _ _ _ _ (c.in_ok-less.ensures.ok.gives x)
          (c.in_ok-differ.ensures.ok.gives x ∙ two_same (λ s t. xor s t) _ _ _ _ (before.keeps.values _ (c.requires.a_belongs i _ la) x) (before.keeps.values _ (c.requires.b_belongs i _ lb) x))
          (kept.values _ (c.requires.b_belongs i _ lb) x)
          (k1.values c.loop-i.less before.belongs x));
    }

pub returns-clause-less : goal.returns-clause-less
returns-clause-less g c = λ x.
    let e : c.loop-i.i ≡ c.args.width = omega arith in
    c.loop-i.invariant.less x ∙ ap (λ (k : ℕ). nat_lt (number (g.G.Gates.node_value c.args.gates.now x) (take k c.args.a.now)) (number (g.G.Gates.node_value c.args.gates.now x) (take k c.args.b.now))) e
