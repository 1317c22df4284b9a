-- What forms measure over what their parts do, exactly and up to the greatest count.
use Rattle.std.proofs.Common.{◌≡◌, ℕ, zero, suc, ◌+◌, ◌-◌, ◌^◌, nat_lt, max, eqb, Bool, true, false, if◌then◌else◌, refl, sym, ap, ap₂, ◌∙◌, arith}
use Rattle.std.proofs.lemmas.Bool.{ltb-false, eq-eqb, ne_eqb}
use Rattle.core_tree.specs.declared.operators.TemporalUnary.{TemporalUnary}
use Rattle.core_tree.specs.declared.operators.TemporalUnary.TheVariants.{After, Always, Eventually, Before, Historically, Once}
use Rattle.core_tree.specs.declared.operators.TemporalBinary.{TemporalBinary}
use Rattle.core_tree.specs.declared.operators.TemporalBinary.TheVariants.{Until, Releases, Since, Triggered, Then}
use Rattle.core_tree.specs.Past.{one_more, under_unary, under_binary}
use Rattle.bound_definitions.specs.Depth.{in_row}
use Rattle.form_measures.specs.declared.forms.Measure.{Measure}
use Rattle.form_measures.specs.declared.forms.Measure.TheVariants.{Past, Depth}
use Rattle.form_measures.specs.Measured.{up_to, raised, over_parts, over_row, over_unary, past_binary, over_binary, over_let}
use Rattle.form_measures.proofs.Counts.{up_to_max, raised_max, raised_up_to, cap_far}

-- the exact counts
abbrev pub parts_of : Measure → ℕ → ℕ
parts_of Past n = n
parts_of Depth n = 1 + n

abbrev pub row_of : Measure → (level own first others : ℕ) → ℕ
row_of Past level own first others = max first others
row_of Depth level own first others = in_row level own first others

abbrev pub unary_of : Measure → TemporalUnary → ℕ → ℕ
unary_of Past op n = under_unary op n
unary_of Depth op n = 1 + n

abbrev pub binary_of : Measure → TemporalBinary → (level own first others : ℕ) → ℕ
binary_of Past op level own first others = under_binary op (max first others)
binary_of Depth op level own first others = in_row level own first others

abbrev pub let_of : Measure → (value inner : ℕ) → ℕ
let_of Past value inner = inner
let_of Depth value inner = 1 + max value inner

one_up : (n : ℕ) → raised 1 (up_to n) ≡ up_to (1 + n)
one_up n = raised_up_to 1 n

one_add : (n : ℕ) → 1 + n ≡ n + 1
one_add n = omega arith

more_test : (n : ℕ) (b : Bool) → nat_lt n (2 ^ 32 - 1) ≡ b → raised 1 (up_to n) ≡ up_to (if b then n + 1 else n)
more_test n true e = one_up n ∙ ap up_to (one_add n)
more_test n false e = one_up n ∙ cap_far n (2 ^ 32 - 1) (ltb-false n (2 ^ 32 - 1) e)

more_up : (n : ℕ) → raised 1 (up_to n) ≡ up_to (one_more n)
more_up n = more_test n (nat_lt n (2 ^ 32 - 1)) refl

pub parts_up : (m : Measure) (n : ℕ) → over_parts m (up_to n) ≡ up_to (parts_of m n)
parts_up Past n = refl
parts_up Depth n = one_up n

row_test : (b : Bool) (p q : ℕ) → max (if b then up_to p else raised 1 (up_to p)) (raised 1 (up_to q)) ≡ up_to (max (if b then p else 1 + p) (1 + q))
row_test true p q = ap (max (up_to p)) (one_up q) ∙ sym (up_to_max p (1 + q))
row_test false p q = ap₂ max (one_up p) (one_up q) ∙ sym (up_to_max (1 + p) (1 + q))

pub row_up : (m : Measure) (level own p q : ℕ) → over_row m level own (up_to p) (up_to q) ≡ up_to (row_of m level own p q)
row_up Past level own p q = sym (up_to_max p q)
row_up Depth zero own p q = ap (raised 1) (sym (up_to_max p q)) ∙ one_up (max p q)
row_up Depth (suc level) own p q = row_test (eqb own (suc level)) p q

pub unary_up : (m : Measure) (op : TemporalUnary) (n : ℕ) → over_unary m op (up_to n) ≡ up_to (unary_of m op n)
unary_up Depth op n = one_up n
unary_up Past After n = refl
unary_up Past Always n = refl
unary_up Past Eventually n = refl
unary_up Past Before n = more_up n
unary_up Past Historically n = more_up n
unary_up Past Once n = more_up n

past_up : (op : TemporalBinary) (n : ℕ) → past_binary op (up_to n) ≡ up_to (under_binary op n)
past_up Until n = refl
past_up Releases n = refl
past_up Since n = more_up n
past_up Triggered n = more_up n
past_up Then n = refl

pub binary_up : (m : Measure) (op : TemporalBinary) (level own p q : ℕ) → over_binary m op level own (up_to p) (up_to q) ≡ up_to (binary_of m op level own p q)
binary_up Past op level own p q = ap (past_binary op) (sym (up_to_max p q)) ∙ past_up op (max p q)
binary_up Depth op level own p q = row_up Depth level own p q

pub let_up : (m : Measure) (p q : ℕ) → over_let m (up_to p) (up_to q) ≡ up_to (let_of m p q)
let_up Past p q = refl
let_up Depth p q = ap (raised 1) (sym (up_to_max p q)) ∙ one_up (max p q)

-- the operator of a row, by its level
pub row_alone : (level own p q : ℕ) → level ≡ 0 → raised 1 (max p q) ≡ over_row Depth level own p q
row_alone level own p q e = ap (λ (l : ℕ). over_row Depth l own p q) (sym e)

pub row_other : (level own p q : ℕ) → (level ≡ 0 → ⊥) → (own ≡ level → ⊥) → raised 1 (max p q) ≡ over_row Depth level own p q
row_other zero own p q some other = absurd (some refl)
row_other (suc level) own p q some other = raised_max 1 p q ∙ ap (λ (b : Bool). max (if b then p else raised 1 p) (raised 1 q)) (sym (ne_eqb own (suc level) other))

pub row_same : (level own p q : ℕ) → (level ≡ 0 → ⊥) → own ≡ level → max p (raised 1 q) ≡ over_row Depth level own p q
row_same zero own p q some same = absurd (some refl)
row_same (suc level) own p q some same = ap (λ (b : Bool). max (if b then p else raised 1 p) (raised 1 q)) (sym (eq-eqb own (suc level) same))
