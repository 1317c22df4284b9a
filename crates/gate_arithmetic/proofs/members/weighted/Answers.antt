use Rattle.std.proofs.Common.{◌≡◌, ◌≤◌, ◌+◌, ◌*◌, ◌/◌, ◌^◌, ℕ, List, [], length, ap, sym, ◌∙◌, arith, subst}
use Rattle.gate_trait.specs.declared.node.Node.{Node}
use Rattle.gate_trait.proofs.KeptLemmas.{keeps_refl, all_more, all_none, all_same, length_push}
use Rattle.gate_integers.specs.Numbers.{number, bit}
use Rattle.gate_integers.proofs.BinaryLemmas.{pow_next}
use Rattle.gate_integers.proofs.SumLemmas.{number_more}
use Rattle.gate_arithmetic.proofs.MemberLaw.{weighted_turn, half_bound, none_left}
use Rattle.gate_arithmetic.proofs.members.weighted.Goals as goal

pub loop-place-init : goal.loop-place-init
loop-place-init g c =
    let value = g.G.Gates.node_value in
    let belongs = g.G.Gates.belongs in
    let now = c.args.gates.now in
    record {
      belongs = all_same (belongs now) [] c.new-bits.result c.new-bits.ensures (all_none (belongs now));
      width = ap (λ (ns : List Node). length ns) c.new-bits.ensures;
      left = omega arith;
      means = λ x. let none : number (value now x) c.new-bits.result ≡ 0 = ap (λ (ns : List Node). number (value now x) ns) c.new-bits.ensures in omega (arith, none);
    }

pub loop-place-preserved : goal.loop-place-preserved
loop-place-preserved g c =
    let value = g.G.Gates.node_value in
    let belongs = g.G.Gates.belongs in
    let now = c.args.gates.now in
    let before = c.loop-place.invariant in
    let i = c.loop-place._place in
    let p = c.in_ok-push.ensures.ok in
    let n = c.bit_or_false.result in
    record {
      belongs = all_more belongs value now now (keeps_refl belongs value now) c.loop-place.bits c.push.new.self n p before.belongs c.bit_or_false.ensures.belongs;
      width = ap (λ (ns : List Node). length ns) p ∙ length_push c.loop-place.bits n ∙ omega (arith, before.width);
      left = subst (λ (q : ℕ). (c.loop-place.rest / 2) * q ≤ c.args.amount) (sym (pow_next i)) (half_bound (2 ^ i) c.loop-place.rest c.args.amount before.left);
      means = λ x.
          ap (λ (q : ℕ). q + 2 ^ (i + 1) * (bit (value now x c.args.node) * (c.loop-place.rest / 2))) (number_more belongs value now now (keeps_refl belongs value now) c.loop-place.bits c.push.new.self n p before.belongs x i before.width)
          ∙ ap (λ (q : ℕ). (number (value now x) c.loop-place.bits + 2 ^ i * bit (value now x n)) + q * (bit (value now x c.args.node) * (c.loop-place.rest / 2))) (pow_next i)
          ∙ weighted_turn (number (value now x) c.loop-place.bits) (2 ^ i) c.loop-place.rest _ (value now x c.args.node) (value now x n) (c.bit_or_false.ensures.value x) (before.means x);
    }

pub returns-clause-means : goal.returns-clause-means
returns-clause-means g c = λ x.
    let v = g.G.Gates.node_value c.args.gates.now x in
    let end : c.loop-place._place ≡ c.args.width = omega arith in
    let none : c.loop-place.rest ≡ 0 = none_left (2 ^ c.args.width) c.loop-place.rest c.args.amount c.requires.small (subst (λ (k : ℕ). c.loop-place.rest * 2 ^ k ≤ c.args.amount) end c.loop-place.invariant.left) in
    let whole = c.loop-place.invariant.means x in
    let zero = ap (λ (r : ℕ). 2 ^ c.loop-place._place * (bit (v c.args.node) * r)) none in
    omega (arith, whole, zero)
