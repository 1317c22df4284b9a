-- The rows of the table stand in order, each once.
use Rattle.std.proofs.Common.{◌≡◌, inl, inr, ℕ, zero, suc, ◌+◌, ◌<◌, ◌≤◌, Bool, true, false, if◌then◌else◌, List, [], ◌∷◌, length, slice_get, Some, refl, ap, sym, ◌∙◌, subst, arith, nat_lt}
use Rattle.std.proofs.lemmas.Bool.{false≢true}
use Rattle.std.proofs.lemmas.Bool.Decides.{nat_tests}
use Rattle.bound_uppers.specs.declared.table.Bound.{Bound}
use Rattle.bound_uppers.specs.declared.table.Bounds.{Bounds}
use Rattle.bound_uppers.specs.Table.{size_at, together, before, is_later, earlier, variable_of, IsRow, StandsBefore, RowsInOrder}
use Rattle.bound_uppers.proofs.Sizes.{up, before_le, before_cons}

some_more : (o p q s : ℕ) → p ≤ q → (if nat_lt o p then s else 0) ≤ (if nat_lt o q then s else 0)
some_more o p q s le = grind (arith, nat_tests)

before_up : (later : Bool) (p q : ℕ) (bs : List Bound) → p ≤ q → before later p bs ≤ before later q bs
before_up later p q [] le = omega arith
before_up later p q (b ∷ bs) le =
    let here = some_more b.order p q (size_at later b) le in
    let rest = before_up later p q bs le in
    let low = before_cons later p b bs in
    let high = before_cons later q b bs in
    omega (arith, here, rest, low, high)

own_part : (o q s : ℕ) → o < q → (if nat_lt o o then s else 0) + s ≤ (if nat_lt o q then s else 0)
own_part o q s lt = grind (arith, nat_tests)

-- a relation and those before it
with_own : (later : Bool) (q : ℕ) (bs : List Bound) (r : ℕ) (b : Bound) → slice_get bs r ≡ Some b → b.order < q → before later b.order bs + size_at later b ≤ before later q bs
with_own later q [] r b e lt = cc
with_own later q (c ∷ bs) zero b e lt =
    let is : c ≡ b = cc in
    subst (λ (d : Bound). before later b.order (d ∷ bs) + size_at later b ≤ before later q (d ∷ bs)) (sym is)
    (let here = own_part b.order q (size_at later b) lt in
    let rest = before_up later b.order q bs (omega (arith, lt)) in
    let low = before_cons later b.order b bs in
    let high = before_cons later q b bs in
    omega (arith, here, rest, low, high))
with_own later q (c ∷ bs) (suc r) b e lt =
    let here = some_more c.order b.order q (size_at later c) (omega (arith, lt)) in
    let rest = with_own later q bs r b e lt in
    let low = before_cons later b.order c bs in
    let high = before_cons later q c bs in
    omega (arith, here, rest, low, high)

within_all : (later : Bool) (bs : List Bound) (r : ℕ) (b : Bound) → slice_get bs r ≡ Some b → before later b.order bs + size_at later b ≤ together later bs
within_all later bs r b e =
    let own = with_own later (suc b.order) bs r b e (omega arith) in
    let all = before_le later (suc b.order) bs in
    omega (arith, own, all)

-- at a state at which a relation has variables of its own it has one for each tuple
size_by : (f l : Bool) (n : ℕ) → (f ≡ true → l ≡ false) → (if l then (if f then 0 else n) else n) ≡ n
size_by true true n h = absurd (false≢true (sym (h refl)))
size_by true false n h = refl
size_by false true n h = refl
size_by false false n h = refl

sized : (later : Bool) (b : Bound) → size_at later b ≡ (if later then (if b.fixed then 0 else length b.upper.tuples) else length b.upper.tuples)
sized true b = refl
sized false b = refl

first_state : (f : Bool) (s : ℕ) → (f ≡ true → s ≡ 0) → (if f then 0 else s) ≡ s
first_state true s h = sym (h refl)
first_state false s h = refl

not_later : (s : ℕ) → s ≡ 0 → is_later s ≡ false
not_later s e = ap is_later e

row_size : (bs : List Bound) (s : ℕ) (b : Bound) → (b.fixed ≡ true → s ≡ 0) → size_at (is_later s) b ≡ length b.upper.tuples
row_size bs s b h = sized (is_later s) b ∙ size_by b.fixed (is_later s) (length b.upper.tuples) (λ f. not_later s (h f))

row_number : (bs : List Bound) (s place : ℕ) (b : Bound) → (b.fixed ≡ true → s ≡ 0) → variable_of bs b s place ≡ 1 + earlier bs s + before (is_later s) b.order bs + place
row_number bs s place b h = ap (λ (z : ℕ). 1 + earlier bs z + before (is_later z) b.order bs + place) (first_state b.fixed s h)

in_order_at : (bounds : Bounds) (s z r q place spot : ℕ) (b c : Bound) → IsRow bounds s r place b → IsRow bounds z q spot c → StandsBefore s z b.order c.order place spot → variable_of bounds.relations b s place < variable_of bounds.relations c z spot
in_order_at bounds s z r q place spot b c one two (inl less) =
    let bs = bounds.relations in
    let first = row_number bs s place b one.own in
    let second = row_number bs z spot c two.own in
    let size = row_size bs s b one.own in
    let all = within_all (is_later s) bs r b one.relation in
    let on = up bs z (suc s) (omega (arith, less)) in
    let place_in = one.place_in in
    omega (arith, first, second, size, all, on, place_in)
in_order_at bounds s z r q place spot b c one two (inr (same, inl less)) =
    let bs = bounds.relations in
    let first = row_number bs s place b one.own in
    let second : variable_of bs c z spot ≡ 1 + earlier bs s + before (is_later s) c.order bs + spot = row_number bs z spot c two.own ∙ ap (λ (y : ℕ). 1 + earlier bs y + before (is_later y) c.order bs + spot) (sym same) in
    let size = row_size bs s b one.own in
    let own = with_own (is_later s) c.order bs r b one.relation less in
    let place_in = one.place_in in
    omega (arith, first, second, size, own, place_in)
in_order_at bounds s z r q place spot b c one two (inr (same, inr (level, less))) =
    let bs = bounds.relations in
    let first = row_number bs s place b one.own in
    let second : variable_of bs c z spot ≡ 1 + earlier bs s + before (is_later s) b.order bs + spot = row_number bs z spot c two.own ∙ (ap (λ (y : ℕ). 1 + earlier bs y + before (is_later y) c.order bs + spot) (sym same) ∙ ap (λ (o : ℕ). 1 + earlier bs s + before (is_later s) o bs + spot) (sym level)) in
    omega (arith, first, second, less)

within_at : (bounds : Bounds) (s r place : ℕ) (b : Bound) → IsRow bounds s r place b → (1 ≤ variable_of bounds.relations b s place) × (variable_of bounds.relations b s place ≤ earlier bounds.relations bounds.states)
within_at bounds s r place b row =
    let bs = bounds.relations in
    let number = row_number bs s place b row.own in
    let size = row_size bs s b row.own in
    let all = within_all (is_later s) bs r b row.relation in
    let state = row.state in
    let on = up bs bounds.states (suc s) (omega (arith, state)) in
    let place_in = row.place_in in
    (omega (arith, number), omega (arith, number, size, all, on, place_in))

pub rows_in_order : RowsInOrder
rows_in_order bounds = record { rise = in_order_at bounds; within = within_at bounds }
