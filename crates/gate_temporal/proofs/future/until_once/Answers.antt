use Rattle.std.proofs.Common.{◌≡◌, ◌<◌, ◌-◌, ℕ, Bool, List, length, All, Contains, ◌∙◌, ap, arith}
use Rattle.gate_trait.specs.declared.node.Node.{Node}
use Rattle.gate_trait.specs.Built.{AllIn}
use Rattle.gate_temporal.specs.Rows.{row_value}
use Rattle.gate_temporal.specs.Times.{until_to}
use Rattle.gate_temporal.proofs.Kept.{all_from, if_ok_to}
use Rattle.gate_temporal.proofs.TimeLaws.{until_first}
use Rattle.gate_temporal.proofs.future.until_once.Goals as goal

pub returns-clause-belongs : goal.returns-clause-belongs
returns-clause-belongs g c =
    let belongs = g.G.Gates.belongs in
    let after = c.backward.new.gates in
    let once = c.in_ok-once.once in
    if_ok_to (λ (row : List Node). All (λ n. Contains once n) row) (λ (row : List Node). AllIn (belongs after) row)
    (λ row from. all_from (belongs after) once row c.in_ok-once.ensures.belongs from) c.reversed.result c.reversed.ensures.same_nodes

pub returns-clause-truth : goal.returns-clause-truth
returns-clause-truth g c =
    let value = g.G.Gates.node_value in
    let old = c.args.gates.now in
    let after = c.backward.new.gates in
    let f = c.args.f.now in
    let h = c.args.g.now in
    let len : ℕ = length f in
    let once = c.in_ok-once.once in
    let once_long : length once ≡ len - 0 = c.in_ok-once.ensures.length in
    let all : length once ≡ len = omega (arith, once_long) in
    let F = λ (x : ℕ → Bool). row_value (value old x) f in
    let H = λ (x : ℕ → Bool). row_value (value old x) h in
    let passed = λ (x : ℕ → Bool) (i : ℕ) (lt : i < len).
    c.in_ok-once.ensures.values x i (omega arith) lt
    ∙ ap (λ (b : Bool). until_to (F x) (H x) b (len - i) i) (c.constant-never.ensures.gives x) in
    if_ok_to (λ (row : List Node). (v : Node → Bool) (i : ℕ) → i < length once → row_value v row i ≡ row_value v once (length once - i - 1)) _
    (λ row same x first i loops low. let lt : i < len = omega arith in
    until_first (value old x) f h first i _ c.requires.lengths loops low
    (same (value after x) i (omega arith) ∙ ap (λ (k : ℕ). row_value (value after x) once (k - i - 1)) all ∙ passed x i lt))
    c.reversed.result c.reversed.ensures.values
