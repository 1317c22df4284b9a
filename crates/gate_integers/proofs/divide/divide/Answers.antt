use Rattle.std.proofs.Common.{◌≡◌, ◌+◌, ◌-◌, ◌*◌, ◌^◌, ◌<◌, ℕ, Bool, List, length, reverse, drop, get_or, [], ap, sym, ◌∙◌, arith, subst}
use Rattle.std.proofs.lemmas.List.{length-reverse}
use Rattle.std.proofs.lemmas.Option.{get_or_from_slice_get}
use Rattle.std.proofs.lemmas.List.Sorted.{All-permutation, IsPermutation-reverse}
use Rattle.gate_trait.specs.declared.node.Node.{Node}
use Rattle.gate_trait.proofs.KeptLemmas.{keeps_refl, keeps_trans, all_kept, all_same, all_more, all_get, length_push}
use Rattle.gate_integers.specs.Numbers.{bit, binary, number}
use Rattle.gate_integers.proofs.BinaryLemmas.{binary_zeros, pow_next}
use Rattle.gate_integers.proofs.SumLemmas.{number_kept}
use Rattle.gate_integers.proofs.DivideSteps.{top_first, top_push, top_reversed, top_kept, number_drop, divided_turn, below_turn, zero_turn, room, dropped_none}
use Rattle.gate_integers.proofs.divide.divide.Goals as goal

pub loop-k-init : goal.loop-k-init
loop-k-init g c =
    let value = g.G.Gates.node_value in
    let belongs = g.G.Gates.belongs in
    let first = c.args.gates.now in
    let a = c.args.a.now in
    let none : (x : ℕ → Bool) → number (value first x) c.in_ok-remainder.remainder ≡ 0 = λ x. ap binary (c.in_ok-remainder.ensures.values x) ∙ binary_zeros (length a) in
    let quotient : (x : ℕ → Bool) → top_first (value first x) c.new-quotient.result ≡ 0 = λ x. ap (λ (ns : List Node). top_first (value first x) ns) c.new-quotient.ensures in
    record {
      keeps = keeps_refl belongs value first;
      quotient_belongs = all_same (belongs first) [] c.new-quotient.result c.new-quotient.ensures (λ k d lt. absurd (omega arith));
      remainder_belongs = c.in_ok-remainder.ensures.belongs;
      quotient_width = ap (λ (ns : List Node). length ns) c.new-quotient.ensures;
      remainder_width = c.in_ok-remainder.ensures.width;
      sum = λ x.
          ap (λ (k : ℕ). k * number (value first x) c.args.b.now + number (value first x) c.in_ok-remainder.remainder) (quotient x)
          ∙ ap (λ (k : ℕ). 0 * number (value first x) c.args.b.now + k) (none x)
          ∙ dropped_none (value first x) a (number (value first x) c.args.b.now);
      below = λ x some. let e = none x in omega (arith, e, some);
      by_zero = λ x h. ap (λ (k : ℕ). k + 1) (quotient x);
    }

pub divide_step-requires : goal.divide_step-requires
divide_step-requires g c =
    let belongs = g.G.Gates.belongs in
    let value = g.G.Gates.node_value in
    let before = c.loop-k.invariant in
    record {
      rest_belongs = all_same (belongs c.loop-k.gates) c.loop-k.remainder c.nodes.result.now c.nodes.ensures before.remainder_belongs;
      next_belongs = before.keeps.belong c.bit_at-next.result (all_get (belongs c.args.gates.now) c.args.a.now (length c.args.a.now - 1 - c.loop-k.k) c.bit_at-next.result c.requires.a_belongs c.bit_at-next.ensures);
      b_belongs = all_kept belongs value c.args.gates.now c.loop-k.gates before.keeps c.args.b.now c.requires.b_belongs;
      widths = ap (λ (ns : List Node). length ns) c.nodes.ensures ∙ before.remainder_width ∙ c.requires.widths;
    }

pub loop-k-preserved : goal.loop-k-preserved
loop-k-preserved g c =
    let value = g.G.Gates.node_value in
    let belongs = g.G.Gates.belongs in
    let before = c.loop-k.invariant in
    let first = c.args.gates.now in
    let now = c.loop-k.gates in
    let after = c.divide_step.new.gates in
    let kept = c.divide_step.ensures.keeps in
    let step = c.in_ok-step.step in
    let p = c.in_ok-push.ensures.ok in
    let a = c.args.a.now in
    let b = c.args.b.now in
    let k = c.loop-k.k in
    let j = length a - 1 - k in
    let lt : j < length a = omega arith in
    let up : j + 1 ≡ length a - k = omega arith in
    let down : j ≡ length a - (k + 1) = omega arith in
    let B : (x : ℕ → Bool) → number (value now x) b ≡ number (value first x) b = λ x. number_kept belongs value first now before.keeps b c.requires.b_belongs x in
    let long : length c.nodes.result.now ≡ length a = ap (λ (ns : List Node). length ns) c.nodes.ensures ∙ before.remainder_width in
    let e = c.bit_at-next.result in
    let at : get_or a j e ≡ e = get_or_from_slice_get a j e e c.bit_at-next.ensures in
    let there : belongs first e = all_get (belongs first) a j e c.requires.a_belongs c.bit_at-next.ensures in
    let next : (x : ℕ → Bool) → value now x e ≡ value first x e = λ x. before.keeps.values e there x in
    let fits : (x : ℕ → Bool) → bit (value now x e) + 2 * number (value now x) c.nodes.result.now < 2 ^ length c.nodes.result.now = λ x.
    subst (λ (n : ℕ). bit (value now x e) + 2 * number (value now x) c.nodes.result.now < 2 ^ n) (sym long)
    (subst (λ (ns : List Node). bit (value now x e) + 2 * number (value now x) ns < 2 ^ length a) (sym c.nodes.ensures)
    (subst (λ (t : Bool). bit t + 2 * number (value now x) c.loop-k.remainder < 2 ^ length a) (sym (next x))
    (subst (λ (n : Node). bit (value first x n) + 2 * number (value now x) c.loop-k.remainder < 2 ^ length a) at
    (room (value first x) a j e (top_first (value now x) c.loop-k.quotient) (number (value first x) b) (number (value now x) c.loop-k.remainder) lt (before.sum x ∙ ap (λ (n : ℕ). number (value first x) (drop n a)) (sym up)))))) in
    let quotient : (x : ℕ → Bool) → top_first (value after x) c.push.new.self ≡ bit (value after x step.bit) + 2 * top_first (value now x) c.loop-k.quotient = λ x.
    ap (λ (ns : List Node). top_first (value after x) ns) p ∙ top_push (value after x) c.loop-k.quotient step.bit
    ∙ ap (λ (n : ℕ). bit (value after x step.bit) + 2 * n) (top_kept belongs value now after kept c.loop-k.quotient before.quotient_belongs x) in
    let sum : (x : ℕ → Bool) → bit (value after x step.bit) * number (value first x) b + number (value after x) step.rest ≡ bit (value first x e) + 2 * number (value now x) c.loop-k.remainder = λ x.
    ap (λ (n : ℕ). bit (value after x step.bit) * n + number (value after x) step.rest) (sym (B x)) ∙ c.in_ok-step.ensures.sum x (fits x)
    ∙ ap (λ (t : Bool). bit t + 2 * number (value now x) c.nodes.result.now) (next x)
    ∙ ap (λ (ns : List Node). bit (value first x e) + 2 * number (value now x) ns) c.nodes.ensures in
    let taken : (x : ℕ → Bool) → bit (value after x step.bit) ≡ 0 → number (value after x) step.rest < number (value first x) b = λ x none.
    subst (λ (n : ℕ). number (value after x) step.rest < n) (B x) (c.in_ok-step.ensures.taken x (fits x) none) in
    record {
      keeps = keeps_trans belongs value first now after before.keeps kept;
      quotient_belongs = all_more belongs value now after kept c.loop-k.quotient c.push.new.self step.bit p before.quotient_belongs c.in_ok-step.ensures.bit_belongs;
      remainder_belongs = c.in_ok-step.ensures.rest_belongs;
      quotient_width = ap (λ (ns : List Node). length ns) p ∙ length_push c.loop-k.quotient step.bit ∙ omega (arith, before.quotient_width);
      remainder_width = c.in_ok-step.ensures.width ∙ long;
      sum = λ x.
          ap (λ (n : ℕ). n * number (value first x) b + number (value after x) step.rest) (quotient x)
          ∙ divided_turn (number (value first x) b) (top_first (value now x) c.loop-k.quotient) (number (value now x) c.loop-k.remainder) (bit (value first x e)) (bit (value after x step.bit)) (number (value after x) step.rest) _
          (before.sum x ∙ ap (λ (n : ℕ). number (value first x) (drop n a)) (sym up)) (sum x)
          ∙ ap (λ (n : Node). bit (value first x n) + 2 * number (value first x) (drop (j + 1) a)) (sym at)
          ∙ sym (number_drop (value first x) a j e lt)
          ∙ ap (λ (n : ℕ). number (value first x) (drop n a)) down;
      below = λ x some. below_turn (value after x step.bit) (value first x e) (number (value first x) b) (number (value now x) c.loop-k.remainder) (number (value after x) step.rest) (before.below x) (sum x) (taken x) some;
      by_zero = λ x h. ap (λ (n : ℕ). n + 1) (quotient x) ∙ zero_turn (value after x step.bit) (number (value first x) b) (top_first (value now x) c.loop-k.quotient) (number (value after x) step.rest) (2 ^ k) h (taken x) (before.by_zero x h) ∙ sym (pow_next k);
    }

pub returns-clause-quotient_belongs : goal.returns-clause-quotient_belongs
returns-clause-quotient_belongs g c = all_same (g.G.Gates.belongs c.loop-k.gates) (reverse c.loop-k.quotient) c.reverse.new.self c.reverse.ensures
    (All-permutation (g.G.Gates.belongs c.loop-k.gates) c.loop-k.quotient (reverse c.loop-k.quotient) (IsPermutation-reverse c.loop-k.quotient) c.loop-k.invariant.quotient_belongs)

pub returns-clause-quotient_width : goal.returns-clause-quotient_width
returns-clause-quotient_width g c = ap (λ (ns : List Node). length ns) c.reverse.ensures ∙ length-reverse c.loop-k.quotient ∙ omega (arith, c.loop-k.invariant.quotient_width)

pub returns-clause-sum : goal.returns-clause-sum
returns-clause-sum g c = λ x.
    let value = g.G.Gates.node_value in
    let first = c.args.gates.now in
    let now = c.loop-k.gates in
    let end : length c.args.a.now - c.loop-k.k ≡ 0 = omega arith in
    ap (λ (ns : List Node). number (value now x) ns * number (value first x) c.args.b.now + number (value now x) c.loop-k.remainder) c.reverse.ensures
    ∙ ap (λ (n : ℕ). n * number (value first x) c.args.b.now + number (value now x) c.loop-k.remainder) (top_reversed (value now x) c.loop-k.quotient)
    ∙ c.loop-k.invariant.sum x
    ∙ ap (λ (n : ℕ). number (value first x) (drop n c.args.a.now)) end

pub returns-clause-by_zero : goal.returns-clause-by_zero
returns-clause-by_zero g c = λ x h.
    let value = g.G.Gates.node_value in
    let now = c.loop-k.gates in
    let end : c.loop-k.k ≡ length c.args.a.now = omega arith in
    ap (λ (ns : List Node). number (value now x) ns + 1) c.reverse.ensures
    ∙ ap (λ (n : ℕ). n + 1) (top_reversed (value now x) c.loop-k.quotient)
    ∙ c.loop-k.invariant.by_zero x h
    ∙ ap (λ (n : ℕ). 2 ^ n) end
