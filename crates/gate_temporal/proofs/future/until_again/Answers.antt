use Rattle.std.proofs.Common.{◌≡◌, ◌<◌, ◌+◌, ◌-◌, ◌++◌, ◌∷◌, [], ℕ, Bool, List, length, All, Contains, sym, subst, ◌∙◌, ap, inl, inr, arith}
use Rattle.std.proofs.lemmas.Bool.{cases_lt}
use Rattle.gate_trait.specs.declared.node.Node.{Node}
use Rattle.gate_trait.specs.Built.{AllIn}
use Rattle.gate_temporal.specs.Rows.{row_value}
use Rattle.gate_temporal.specs.Times.{until_to}
use Rattle.gate_temporal.specs.Rounds.{TellsUntil}
use Rattle.gate_temporal.proofs.Kept.{all_from, all_push, here_belongs, here_value, long_more, push_last, push_before, if_ok_to}
use Rattle.gate_temporal.proofs.TimeLaws.{true_same, until_second}
use Rattle.gate_temporal.proofs.future.until_again.Goals as goal

pub returns-clause-belongs : goal.returns-clause-belongs
returns-clause-belongs g c =
    let belongs = g.G.Gates.belongs in
    let value = g.G.Gates.node_value in
    let after = c.backward.new.gates in
    let later = c.in_ok-turned.turned in
    let turned = c.push.new.self in
    let n = c.node.result in
    let is : turned ≡ later ++ n ∷ [] = c.in_ok-push.ensures.ok in
    let here = here_belongs belongs value c.args.gates.now after c.backward.ensures.keeps c.args.once.now c.requires.once_belongs 0 n c.node.ensures in
    let there : AllIn (belongs after) turned = subst (λ (s : List Node). AllIn (belongs after) s) (sym is) (all_push (belongs after) later n c.in_ok-turned.ensures.belongs here) in
    if_ok_to (λ (row : List Node). All (λ m. Contains turned m) row) (λ (row : List Node). AllIn (belongs after) row)
    (λ row from. all_from (belongs after) turned row there from) c.reversed.result c.reversed.ensures.same_nodes

pub returns-clause-length : goal.returns-clause-length
returns-clause-length g c =
    let later = c.in_ok-turned.turned in
    let turned = c.push.new.self in
    let n = c.node.result in
    let long = long_more later turned n (length c.args.f.now - 1) c.in_ok-push.ensures.ok c.in_ok-turned.ensures.length in
    let some = c.requires.some in
    if_ok_to (λ (row : List Node). length row ≡ length turned) (λ (row : List Node). length row ≡ length c.args.f.now)
    (λ row e. omega (arith, e, long, some)) c.reversed.result c.reversed.ensures.length

pub returns-clause-truth : goal.returns-clause-truth
returns-clause-truth g c =
    let belongs = g.G.Gates.belongs in
    let value = g.G.Gates.node_value in
    let old = c.args.gates.now in
    let after = c.backward.new.gates in
    let f = c.args.f.now in
    let h = c.args.g.now in
    let len : ℕ = length f in
    let later = c.in_ok-turned.turned in
    let turned = c.push.new.self in
    let n = c.node.result in
    let some : 0 < len = c.requires.some in
    let is : turned ≡ later ++ n ∷ [] = c.in_ok-push.ensures.ok in
    let later_long : length later ≡ len - 1 = c.in_ok-turned.ensures.length in
    let long : length turned ≡ len - 1 + 1 = long_more later turned n (len - 1) is later_long in
    let all : length turned ≡ len = omega (arith, long, some) in
    let known : (x : ℕ → Bool) → value after x n ≡ row_value (value old x) c.args.once.now 0 = λ x.
    here_value belongs value old after c.backward.ensures.keeps c.args.once.now c.requires.once_belongs 0 n c.node.ensures x in
    let front : (x : ℕ → Bool) (i : ℕ) → i ≡ 0 → row_value (value after x) turned (len - i - 1) ≡ row_value (value old x) c.args.once.now 0 = λ x i e.
    ap (λ (s : List Node). row_value (value after x) s (len - i - 1)) is ∙ push_last (value after x) later n (len - i - 1) (omega (arith, e, later_long)) ∙ known x in
    let behind : (x : ℕ → Bool) (i : ℕ) → 0 < i → i < len → row_value (value after x) turned (len - i - 1) ≡ until_to (row_value (value old x) f) (row_value (value old x) h) (value old x c.args.round) (len - i) i = λ x i low lt.
    ap (λ (s : List Node). row_value (value after x) s (len - i - 1)) is ∙ push_before (value after x) later n (len - i - 1) (omega (arith, low, lt, later_long)) ∙ c.in_ok-turned.ensures.values x i (omega (arith, low)) lt in
    if_ok_to (λ (row : List Node). (v : Node → Bool) (i : ℕ) → i < length turned → row_value v row i ≡ row_value v turned (length turned - i - 1)) _
    (λ row same x first i loops lt round_tells once_tells.
    let at = same (value after x) i (omega (arith, lt, all)) ∙ ap (λ (k : ℕ). row_value (value after x) turned (k - i - 1)) all in
    elim (cases_lt 0 i) [
      | inl far ↦ until_second (value old x) f h first i _ (value old x c.args.round) c.requires.lengths loops lt round_tells (at ∙ behind x i far lt)
      | inr near ↦
          let e : i ≡ 0 = omega (arith, near) in
          let zero_tells = true_same _ _ (at ∙ front x i e) once_tells in
          subst (λ (k : ℕ). TellsUntil (value old x) f h first k (row_value (value after x) row i)) (sym e) zero_tells
    ])
    c.reversed.result c.reversed.ensures.values
