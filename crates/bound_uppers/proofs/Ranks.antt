-- The order of relations.
use Rattle.std.proofs.Common.{◌≡◌, ◌⊎◌, inl, inr, ℕ, zero, suc, ◌+◌, ◌<◌, ◌≤◌, Bool, if◌then◌else◌, List, [], ◌∷◌, ◌++◌, length, take, slice_index, Option, Some, None, refl, ap, sym, ◌∙◌, arith, map, get_or, nat_lt, eqb, subst, append_assoc, All}
use Rattle.std.specs.Prelude.{count_by}
use Rattle.std.specs.List.{range_with_len}
use Rattle.std.proofs.lemmas.Bool.{cases_lt}
use Rattle.std.proofs.lemmas.Bool.Decides.{nat_tests}
use Rattle.std.proofs.lemmas.List.Sums.{sum_by-cons}
use Rattle.std.proofs.lemmas.List.Elements.{All-append, All-map}
use Rattle.core_tree.specs.declared.model.Field.{Field}
use Rattle.bound_uppers.specs.Sums.{before_place}
use Rattle.bound_uppers.specs.Order.{with_owner, standings, order_in, one_at}
use Rattle.bound_uppers.proofs.Weighing.{sum_more, before_place_cons}

-- lists that grow
pub joined_end : (xs ys : List ℕ) (y : ℕ) → xs ++ (ys ++ y ∷ []) ≡ (xs ++ ys) ++ y ∷ []
joined_end xs ys y = sym (append_assoc xs ys (y ∷ []))

-- those that pass, with one more
abbrev one_if : Bool → ℕ
one_if b = if b then 1 else 0

count_cons : (p : ℕ → Bool) (s : ℕ) (ws : List ℕ) → count_by p (s ∷ ws) ≡ one_if (p s) + count_by p ws
count_cons p s ws = sum_by-cons (λ (x : ℕ). one_if (p x)) s ws

-- those that stand before a place, counted
pub counted_before : (place : ℕ) (ws : List ℕ) → before_place place (map one_at ws) ≡ count_by (λ (s : ℕ). nat_lt s place) ws
counted_before place [] = refl
counted_before place (s ∷ ws) =
    let first : before_place place (one_at s ∷ map one_at ws) ≡ one_if (nat_lt s place) + before_place place (map one_at ws) = before_place_cons place (one_at s) (map one_at ws) in
    let rest = counted_before place ws in
    let both = count_cons (λ (t : ℕ). nat_lt t place) s ws in
    first ∙ (ap (λ (n : ℕ). one_if (nat_lt s place) + n) rest ∙ sym both)

-- those of the same place so far
pub none_same : (place : ℕ) (ws : List ℕ) → count_by (λ (s : ℕ). eqb s place) (take 0 ws) ≡ 0
none_same place [] = refl
none_same place (s ∷ ws) = refl

get_at : (xs : List ℕ) (k x : ℕ) → k < length xs → x ≡ slice_index xs k → x ≡ get_or xs k x
get_at [] k x lt e = absurd (omega arith)
get_at (y ∷ xs) zero x lt e = e
get_at (y ∷ xs) (suc k) x lt e = get_at xs k x (omega arith) e

pub same_more : (place k s : ℕ) (ws : List ℕ) → k < length ws → s ≡ slice_index ws k → count_by (λ (t : ℕ). eqb t place) (take (k + 1) ws) ≡ count_by (λ (t : ℕ). eqb t place) (take k ws) + (if eqb s place then 1 else 0)
same_more place k s ws lt e = sum_more (λ (t : ℕ). if eqb t place then 1 else 0) ws k s lt (get_at ws k s lt e)

-- ---- places of the order are below the number of relations, and differ

abbrev lower : ℕ → List ℕ → ℕ
lower place ws = count_by (λ (s : ℕ). nat_lt s place) ws

abbrev same : ℕ → List ℕ → ℕ
same place ws = count_by (λ (s : ℕ). eqb s place) ws

lower_cons : (place s : ℕ) (ws : List ℕ) → lower place (s ∷ ws) ≡ one_if (nat_lt s place) + lower place ws
lower_cons place s ws = count_cons (λ (t : ℕ). nat_lt t place) s ws

same_cons : (place s : ℕ) (ws : List ℕ) → same place (s ∷ ws) ≡ one_if (eqb s place) + same place ws
same_cons place s ws = count_cons (λ (t : ℕ). eqb t place) s ws

same_taken : (place s k : ℕ) (ws : List ℕ) → same place (take (suc k) (s ∷ ws)) ≡ one_if (eqb s place) + same place (take k ws)
same_taken place s k ws = same_cons place s (take k ws)

same_none : (place : ℕ) (ws : List ℕ) → same place (take zero ws) ≡ 0
same_none place [] = refl
same_none place (s ∷ ws) = refl

same_empty : (place k : ℕ) → same place (take k []) ≡ 0
same_empty place zero = refl
same_empty place (suc k) = refl

-- among those with the same place the further ones are more
same_up : (place k n : ℕ) (ws : List ℕ) → k ≤ n → same place (take k ws) ≤ same place (take n ws)
same_up place zero n ws le = let none = same_none place ws in omega (arith, none)
same_up place (suc k) zero ws le = absurd (omega arith)
same_up place (suc k) (suc n) [] le =
    let none = same_empty place (suc k) in
    omega (arith, none)
same_up place (suc k) (suc n) (s ∷ ws) le =
    let rest = same_up place k n ws (omega (arith, le)) in
    let low = same_taken place s k ws in
    let high = same_taken place s n ws in
    omega (arith, rest, low, high)

eqb_itself : (s : ℕ) → one_if (eqb s s) ≡ 1
eqb_itself s = grind (arith, nat_tests)

same_here : (k : ℕ) (ws : List ℕ) → k < length ws → same (slice_index ws k) (take (suc k) ws) ≡ same (slice_index ws k) (take k ws) + 1
same_here k [] lt = absurd (omega arith)
same_here zero (s ∷ ws) lt =
    let first : same (slice_index (s ∷ ws) zero) (take (suc zero) (s ∷ ws)) ≡ one_if (eqb s s) + same s (take zero ws) = same_taken s s zero ws in
    let its = eqb_itself s in
    let rest = same_none s ws in
    let none : same (slice_index (s ∷ ws) zero) (take zero (s ∷ ws)) ≡ 0 = same_none s (s ∷ ws) in
    omega (arith, first, its, rest, none)
same_here (suc k) (s ∷ ws) lt =
    let rest = same_here k ws (omega arith) in
    let high : same (slice_index (s ∷ ws) (suc k)) (take (suc (suc k)) (s ∷ ws)) ≡ one_if (eqb s (slice_index ws k)) + same (slice_index ws k) (take (suc k) ws) = same_taken (slice_index ws k) s (suc k) ws in
    let low : same (slice_index (s ∷ ws) (suc k)) (take (suc k) (s ∷ ws)) ≡ one_if (eqb s (slice_index ws k)) + same (slice_index ws k) (take k ws) = same_taken (slice_index ws k) s k ws in
    omega (arith, rest, high, low)

same_all : (place k : ℕ) (ws : List ℕ) → same place (take k ws) ≤ same place ws
same_all place zero ws = let none = same_none place ws in omega (arith, none)
same_all place (suc k) [] = let none = same_empty place (suc k) in omega (arith, none)
same_all place (suc k) (s ∷ ws) =
    let rest = same_all place k ws in
    let low = same_taken place s k ws in
    let high = same_cons place s ws in
    omega (arith, rest, low, high)

-- those of a place and those before it are before the next
one_step : (s place n : ℕ) → place < n → one_if (nat_lt s place) + one_if (eqb s place) ≤ one_if (nat_lt s n)
one_step s place n lt = grind (arith, nat_tests)

step : (place n : ℕ) (ws : List ℕ) → place < n → lower place ws + same place ws ≤ lower n ws
step place n [] lt = omega arith
step place n (s ∷ ws) lt =
    let here = one_step s place n lt in
    let rest = step place n ws lt in
    let low = lower_cons place s ws in
    let at = same_cons place s ws in
    let high = lower_cons n s ws in
    omega (arith, here, rest, low, at, high)

one_most : (s place : ℕ) → one_if (nat_lt s place) + one_if (eqb s place) ≤ 1
one_most s place = grind (arith, nat_tests)

most : (place : ℕ) (ws : List ℕ) → lower place ws + same place ws ≤ length ws
most place [] = omega arith
most place (s ∷ ws) =
    let here = one_most s place in
    let rest = most place ws in
    let low = lower_cons place s ws in
    let at = same_cons place s ws in
    omega (arith, here, rest, low, at)

-- with the relation itself
own : (r : ℕ) (ws : List ℕ) → r < length ws → order_in ws r + 1 ≤ lower (slice_index ws r) ws + same (slice_index ws r) ws
own r ws lt =
    let here = same_here r ws lt in
    let all = same_all (slice_index ws r) (suc r) ws in
    omega (arith, here, all)

pub order_below : (r : ℕ) (ws : List ℕ) → r < length ws → order_in ws r < length ws
order_below r ws lt =
    let its = own r ws lt in
    let all = most (slice_index ws r) ws in
    omega arith

-- with an earlier sig
earlier_sig : (r q : ℕ) (ws : List ℕ) → r < length ws → slice_index ws r < slice_index ws q → order_in ws r < order_in ws q
earlier_sig r q ws lt less =
    let its = own r ws lt in
    let up = step (slice_index ws r) (slice_index ws q) ws less in
    omega arith

-- with the same sig, and listed earlier
earlier_place : (r q : ℕ) (ws : List ℕ) → r < length ws → r < q → slice_index ws r ≡ slice_index ws q → order_in ws r < order_in ws q
earlier_place r q ws lt less e =
    let here = same_here r ws lt in
    let up = same_up (slice_index ws r) (suc r) q ws (omega arith) in
    subst (λ (s : ℕ). order_in ws r < lower s ws + same s (take q ws)) e (omega arith)

apart_at : (r q : ℕ) (ws : List ℕ) → r < length ws → q < length ws → order_in ws r ≡ order_in ws q → (slice_index ws r < slice_index ws q) ⊎ (slice_index ws q ≤ slice_index ws r) → (slice_index ws q < slice_index ws r) ⊎ (slice_index ws r ≤ slice_index ws q) → (r < q) ⊎ (q ≤ r) → (q < r) ⊎ (r ≤ q) → r ≡ q
apart_at r q ws rl ql e (inl less) b c d = let so = earlier_sig r q ws rl less in absurd (omega (arith, so, e))
apart_at r q ws rl ql e (inr le) (inl less) c d = let so = earlier_sig q r ws ql less in absurd (omega (arith, so, e))
apart_at r q ws rl ql e (inr le) (inr ge) (inl less) d = let so = earlier_place r q ws rl less (omega (arith, le, ge)) in absurd (omega (arith, so, e))
apart_at r q ws rl ql e (inr le) (inr ge) (inr far) (inl less) = let so = earlier_place q r ws ql less (omega (arith, le, ge)) in absurd (omega (arith, so, e))
apart_at r q ws rl ql e (inr le) (inr ge) (inr far) (inr on) = omega (arith, far, on)

pub order_apart : (r q : ℕ) (ws : List ℕ) → r < length ws → q < length ws → order_in ws r ≡ order_in ws q → r ≡ q
order_apart r q ws rl ql e = apart_at r q ws rl ql e (cases_lt (slice_index ws r) (slice_index ws q)) (cases_lt (slice_index ws q) (slice_index ws r)) (cases_lt r q) (cases_lt q r)

-- each relation stands with one of the sigs, or behind them all
range_below : (a n m : ℕ) → a + n ≤ m → (k d : ℕ) → k < length (range_with_len a n) → get_or (range_with_len a n) k d < m
range_below a zero m le k d lt = absurd (omega arith)
range_below a (suc n) m le zero d lt = omega (arith, le)
range_below a (suc n) m le (suc k) d lt = range_below (a + 1) n m (omega (arith, le)) k d (omega (arith, lt))

owner_below : (sigs : ℕ) (owner : Option ℕ) → with_owner sigs owner < sigs + 1
owner_below sigs None = omega arith
owner_below sigs (Some owner) = grind (arith, nat_tests)

all_below : (sigs : ℕ) (fields : List Field) → All (λ s. s < sigs + 1) (standings sigs fields)
all_below sigs fields = All-append (λ (s : ℕ). s < sigs + 1) (range_with_len 0 sigs) (map (λ (f : Field). with_owner sigs f.owner) fields)
    (λ k d lt. range_below 0 sigs (sigs + 1) (omega arith) k d lt)
    (All-map (λ (s : ℕ). s < sigs + 1) (λ (f : Field). with_owner sigs f.owner) fields (λ k d lt. owner_below sigs (get_or fields k d).owner))

pub standings_below : (sigs : ℕ) (fields : List Field) (r : ℕ) → r < length (standings sigs fields) → slice_index (standings sigs fields) r < sigs + 1
standings_below sigs fields r lt = all_below sigs fields r 0 lt
