use Rattle.std.proofs.Common.{◌≡◌, ◌<◌, Bool, true, false, cond, List, [], length, map, refl, ap, ◌∙◌, arith}
use Rattle.gate_trait.specs.declared.node.Node.{Node}
use Rattle.gate_trait.proofs.KeptLemmas.{keeps_refl, keeps_trans, all_more, all_none, all_same, length_push}
use Rattle.gate_integers.proofs.RowLemmas.{choice_turn}
use Rattle.gate_integers.proofs.each.chosen.Goals as goal

pub loop-i-init : goal.loop-i-init
loop-i-init g c =
    let value = g.G.Gates.node_value in
    let belongs = g.G.Gates.belongs in
    let first = c.args.gates.now in
    record {
      keeps = keeps_refl belongs value first;
      belongs = all_same (belongs first) [] c.new-bits.result c.new-bits.ensures (all_none (belongs first));
      width = ap (λ (ns : List Node). length ns) c.new-bits.ensures;
      values = λ x. ap (λ (ns : List Node). map (value first x) ns) c.new-bits.ensures ∙ neither (value first x c.args.condition) [];
    }
  where
    neither : (t : Bool) (bs : List Bool) → bs ≡ cond t bs bs
    neither true bs = refl
    neither false bs = refl

pub loop-i-preserved : goal.loop-i-preserved
loop-i-preserved g c =
    let value = g.G.Gates.node_value in
    let belongs = g.G.Gates.belongs in
    let before = c.loop-i.invariant in
    let first = c.args.gates.now in
    let now = c.loop-i.gates in
    let after = c.choose.new.self in
    let a = c.args.a.now in
    let b = c.args.b.now in
    let i = c.loop-i.i in
    let p = c.in_ok-push.ensures.ok in
    let la : i < length a = omega arith in
    let lb : i < length b = omega arith in
    record {
      keeps = keeps_trans belongs value first now after before.keeps c.choose.ensures.keeps;
      belongs = all_more belongs value now after c.choose.ensures.keeps c.loop-i.bits c.push.new.self _ p before.belongs c.in_ok-choose.ensures.ok.there;
      width = ap (λ (ns : List Node). length ns) p ∙ length_push c.loop-i.bits _ ∙ omega (arith, before.width);
      values = λ x. choice_turn belongs value first now after before.keeps c.choose.ensures.keeps c.loop-i.bits c.push.new.self _ p before.belongs x c.args.condition c.requires.condition_belongs a b i _ la lb (c.requires.a_belongs i _ la) (c.requires.b_belongs i _ lb) (before.values x) (c.in_ok-choose.ensures.ok.gives x);
    }
