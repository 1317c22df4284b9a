-- Lassos, and the sequences that they show.
use Rattle.std.proofs.Common.{◌≡◌, ◌≢◌, ◌⊎◌, inl, inr, ℕ, ◌+◌, ◌-◌, ◌*◌, ◌/◌, ◌%◌, ◌<◌, ◌≤◌, List, length, take, slice_get, zero, suc, [], ◌∷◌, refl, ap, sym, ◌∙◌, subst, arith, Result, Ok, Err, IfOk}
use Rattle.std.specs.Prelude.{slice_index}
use Rattle.std.proofs.Math.Nat.{mod-add-div', mod-eq_of_lt, mod-lt, add-mod_right}
use Rattle.std.proofs.lemmas.Bool.{cases_lt}
use Rattle.std.proofs.lemmas.Bool.Decides.{nat_tests}
use Rattle.std.proofs.lemmas.List.{length-take-le}
use Rattle.core_meaning.specs.Sequence.{LassoValue, place_of, period}
use Rattle.bound_uppers.specs.Shortest.{shown, IsSameSequence, IsLasso, HasFewestStates, HasEarliestLoop}
use Rattle.bound_uppers.specs.Repeats.{AreFirsts, IsFirst, Repeats}
use Rattle.bound_uppers.proofs.Period.{IsPeriod, rounds, later, least_is, earlier}

-- before the end a position is its own place
pub place_before : (l : LassoValue) (i : ℕ) → i < length l.states → place_of l i ≡ i
place_before l i lt = grind (arith, nat_tests)

-- from the loop on one goes round
round_at : (l : LassoValue) (i : ℕ) → l.loop_start ≤ i → (i < length l.states) ⊎ (length l.states ≤ i) → place_of l i ≡ l.loop_start + (i - l.loop_start) % period l
round_at l i le (inl lt) =
    let small : (i - l.loop_start) % period l ≡ i - l.loop_start = mod-eq_of_lt (omega arith) in
    let here = place_before l i lt in
    omega arith
round_at l i le (inr far) = grind (arith, nat_tests)

pub place_round : (l : LassoValue) (i : ℕ) → l.loop_start ≤ i → place_of l i ≡ l.loop_start + (i - l.loop_start) % period l
place_round l i le = round_at l i le (cases_lt i (length l.states))

pub place_by : (l : LassoValue) (d i : ℕ) → period l ≡ d → l.loop_start ≤ i → place_of l i ≡ l.loop_start + (i - l.loop_start) % d
place_by l d i e le = subst (λ (q : ℕ). place_of l i ≡ l.loop_start + (i - l.loop_start) % q) e (place_round l i le)

-- a lasso's sequence has the length of its loop as a period
pub loop_period : (l : LassoValue) → IsPeriod (shown l) l.loop_start (period l)
loop_period l i le =
    let sum : i + period l - l.loop_start ≡ (i - l.loop_start) + period l = omega arith in
    let same : (i + period l - l.loop_start) % period l ≡ (i - l.loop_start) % period l = rw sum (add-mod_right (i - l.loop_start) (period l)) in
    let here = place_round l i le in
    let there = place_round l (i + period l) (omega arith) in
    ap (slice_get l.states) (here ∙ (ap (λ (k : ℕ). l.loop_start + k) (sym same) ∙ sym there))

-- the place of a position is within the states
within_at : (l : LassoValue) (i : ℕ) → IsLasso l → (i < length l.states) ⊎ (length l.states ≤ i) → place_of l i < length l.states
within_at l i is (inl lt) = rw (place_before l i lt) lt
within_at l i is (inr far) =
    let below = mod-lt (i - l.loop_start) {m = period l} (omega arith) in
    rw (place_round l i (omega arith)) (omega arith)

pub place_within : (l : LassoValue) (i : ℕ) → IsLasso l → place_of l i < length l.states
place_within l i is = within_at l i is (cases_lt i (length l.states))

-- ---- the first states, up to a period behind a place

abbrev pub cut_of : LassoValue → ℕ → ℕ → LassoValue
cut_of l begin d = record { states = take (begin + d) l.states; loop_start = begin }

-- the same state is at an early position
early : (l : LassoValue) (begin d i : ℕ) → 0 < d → IsPeriod (shown l) begin d → (i < begin + d) ⊎ (begin + d ≤ i) → length (take (begin + d) l.states) ≡ begin + d → shown l i ≡ shown l (place_of (cut_of l begin d) i)
early l begin d i some p (inl lt) count = ap (shown l) (sym (place_before (cut_of l begin d) i (omega arith)))
early l begin d i some p (inr far) count =
    let whole : period (cut_of l begin d) ≡ d = omega arith in
    let far_start : begin ≤ i = omega arith in
    let place : place_of (cut_of l begin d) i ≡ begin + (i - begin) % d = place_by (cut_of l begin d) d i whole far_start in
    let sum : begin + (i - begin) % d + (i - begin) / d * d ≡ i = let e = mod-add-div' (i - begin) d in omega arith in
    let back = rounds (shown l) begin d ((i - begin) / d) (begin + (i - begin) % d) p (omega arith) in
    ap (shown l) (sym sum) ∙ (sym back ∙ ap (shown l) (sym place))

get_take : {X : Type 0} (n : ℕ) (xs : List X) (k : ℕ) → k < n → slice_get (take n xs) k ≡ slice_get xs k
get_take zero xs k lt = absurd (omega arith)
get_take (suc n) [] k lt = refl
get_take (suc n) (x ∷ xs) zero lt = refl
get_take (suc n) (x ∷ xs) (suc k) lt = get_take n xs k (omega arith)

pub same_sequence : (l : LassoValue) (begin d : ℕ) → 0 < d → begin + d ≤ length l.states → IsPeriod (shown l) begin d → IsSameSequence l (cut_of l begin d)
same_sequence l begin d some fits p i =
    let count = length-take-le (begin + d) l.states fits in
    let k = place_of (cut_of l begin d) i in
    let within : k < length (take (begin + d) l.states) = place_within (cut_of l begin d) i (omega arith) in
    let same = early l begin d i some p (cases_lt i (begin + d)) count in
    let here : shown l k ≡ slice_get l.states k = ap (slice_get l.states) (place_before l k (omega arith)) in
    let cut : slice_get (take (begin + d) l.states) k ≡ slice_get l.states k = get_take (begin + d) l.states k (omega arith) in
    same ∙ (here ∙ sym cut)

-- ---- the numbers of states

-- equal numbers are equal states
pub named : {X : Type 0} (items : List X) (firsts : List ℕ) (i j : ℕ) → AreFirsts items firsts → i < length items → j < length items → slice_index firsts i ≡ slice_index firsts j → slice_get items i ≡ slice_get items j
named items firsts i j are il jl e = sym (are.1 i il).1 ∙ (ap (slice_get items) e ∙ (are.1 j jl).1)

-- equal states have equal numbers
numbered_at : {X : Type 0} (items : List X) (a b i j : ℕ) → IsFirst items i a → IsFirst items j b → slice_get items i ≡ slice_get items j → (a < b) ⊎ (b ≤ a) → (b < a) ⊎ (a ≤ b) → a ≡ b
numbered_at items a b i j first second e (inl lt) rest = absurd (second.2 a lt (first.1 ∙ e))
numbered_at items a b i j first second e (inr le) (inl lt) = absurd (first.2 b lt (second.1 ∙ sym e))
numbered_at items a b i j first second e (inr le) (inr ge) = omega arith

pub numbered : {X : Type 0} (items : List X) (firsts : List ℕ) (i j : ℕ) → AreFirsts items firsts → i < length items → j < length items → slice_get items i ≡ slice_get items j → slice_index firsts i ≡ slice_index firsts j
numbered items firsts i j are il jl e =
    let a = slice_index firsts i in
    let b = slice_index firsts j in
    numbered_at items a b i j (are.1 i il) (are.1 j jl) e (cases_lt a b) (cases_lt b a)

-- at places of the states, a sequence shows the same where the numbers are the same
pub shows_named : (l : LassoValue) (firsts : List ℕ) (i j : ℕ) → AreFirsts l.states firsts → i < length l.states → j < length l.states → slice_index firsts i ≡ slice_index firsts j → shown l i ≡ shown l j
shows_named l firsts i j are il jl e =
    ap (slice_get l.states) (place_before l i il) ∙ (named l.states firsts i j are il jl e ∙ sym (ap (slice_get l.states) (place_before l j jl)))

pub shows_numbered : (l : LassoValue) (firsts : List ℕ) (i j : ℕ) → AreFirsts l.states firsts → i < length l.states → j < length l.states → shown l i ≡ shown l j → slice_index firsts i ≡ slice_index firsts j
shows_numbered l firsts i j are il jl e =
    numbered l.states firsts i j are il jl (sym (ap (slice_get l.states) (place_before l i il)) ∙ (e ∙ ap (slice_get l.states) (place_before l j jl)))

-- numbers that repeat themselves, several times over
pub chain : (firsts : List ℕ) (from d m j : ℕ) → Repeats firsts from d → from ≤ j → j + m * d < length firsts → slice_index firsts j ≡ slice_index firsts (j + m * d)
chain firsts from d zero j r le lt = ap (slice_index firsts) (omega arith)
chain firsts from d (suc m) j r le lt =
    let here = r j le (omega arith) in
    let further = chain firsts from d m (j + d) r (omega arith) (omega arith) in
    let sum : j + d + m * d ≡ j + suc m * d = omega arith in
    here ∙ (further ∙ ap (slice_index firsts) sum)

-- where the numbers repeat themselves after a divisor of the loop's length, this is a period
divisor_at : (l : LassoValue) (firsts : List ℕ) (d k p : ℕ) → IsLasso l → AreFirsts l.states firsts → Repeats firsts l.loop_start d → 0 < d → period l ≡ k * d + d → l.loop_start ≤ p → p < length l.states → (p + d < length l.states) ⊎ (length l.states ≤ p + d) → shown l p ≡ shown l (p + d)
divisor_at l firsts d k p is are r some whole le lt (inl near) = shows_named l firsts p (p + d) are lt near (r p le (rw (are.0) near))
divisor_at l firsts d k p is are r some whole le lt (inr far) =
    let j = p + d - period l in
    let back : j + period l ≡ p + d = omega arith in
    let start : l.loop_start ≤ j = omega arith in
    let sum : j + k * d ≡ p = omega arith in
    let few : j + k * d < length firsts = rw sum rw (are.0) lt in
    let numbers : slice_index firsts j ≡ slice_index firsts p = rw sum at (chain firsts l.loop_start d k j r start few) in
    let states = shows_named l firsts j p are (omega arith) lt numbers in
    let on : shown l j ≡ shown l (p + d) = rw back at (loop_period l j start) in
    sym states ∙ on

pub divisor_period : (l : LassoValue) (firsts : List ℕ) (d k : ℕ) → IsLasso l → AreFirsts l.states firsts → Repeats firsts l.loop_start d → 0 < d → period l ≡ k * d + d → IsPeriod (shown l) l.loop_start d
divisor_period l firsts d k is are r some whole i le =
    let m = i - l.loop_start in
    let p = l.loop_start + m % period l in
    let small = mod-lt m {m = period l} (omega arith) in
    let turns : p + m / period l * period l ≡ i = let e = mod-add-div' m (period l) in omega arith in
    let first : shown l p ≡ shown l i = rw turns at (rounds (shown l) l.loop_start (period l) (m / period l) p (loop_period l) (omega arith)) in
    let sum : p + d + m / period l * period l ≡ i + d = omega arith in
    let second : shown l (p + d) ≡ shown l (i + d) = rw sum at (rounds (shown l) l.loop_start (period l) (m / period l) (p + d) (loop_period l) (omega arith)) in
    let between = divisor_at l firsts d k p is are r some whole (omega arith) (omega arith) (cases_lt (p + d) (length l.states)) in
    sym first ∙ (between ∙ second)

-- a period of the sequence lets the numbers repeat themselves
pub period_repeats : (l : LassoValue) (firsts : List ℕ) (from q : ℕ) → AreFirsts l.states firsts → IsPeriod (shown l) from q → Repeats firsts from q
period_repeats l firsts from q are p place le lt =
    let count = are.0 in
    shows_numbered l firsts place (place + q) are (omega arith) (omega arith) (p place le)

-- ---- the shortest lasso

-- what is known of where a loop may begin and how long it is
pub record IsLeast (l : LassoValue) (firsts : List ℕ) (begin d : ℕ) : Type 0 where
  pub some : 0 < d
  pub fits : l.loop_start + d ≤ length l.states
  pub divides : (length l.states - l.loop_start) % d ≡ 0
  pub repeats : Repeats firsts l.loop_start d
  pub least : (q : ℕ) → 0 < q → q < d → (length l.states - l.loop_start) % q ≡ 0 → Repeats firsts l.loop_start q → ⊥
  pub most : begin ≤ l.loop_start
  pub before : (i : ℕ) → begin ≤ i → i < l.loop_start → slice_index firsts i ≡ slice_index firsts (i + d)
  pub first : 0 < begin → slice_index firsts (begin - 1) ≢ slice_index firsts (begin - 1 + d)

quotient_at : (round d k : ℕ) → 0 < round → round ≡ k * d → round ≡ (k - 1) * d + d
quotient_at round d zero some e = absurd (omega arith)
quotient_at round d (suc k) some e = let less : suc k - 1 ≡ k = omega arith in rw less (omega arith)

quotient : (round d : ℕ) → 0 < d → 0 < round → round % d ≡ 0 → round ≡ (round / d - 1) * d + d
quotient round d pos some e = quotient_at round d (round / d) some (let sum = mod-add-div' round d in omega arith)

pub start_period : (l : LassoValue) (firsts : List ℕ) (begin d : ℕ) → IsLasso l → AreFirsts l.states firsts → IsLeast l firsts begin d → IsPeriod (shown l) l.loop_start d
start_period l firsts begin d is are h =
    divisor_period l firsts d (period l / d - 1) is are h.repeats h.some (quotient (period l) d h.some (omega arith) h.divides)

begin_at : (l : LassoValue) (firsts : List ℕ) (begin d : ℕ) → IsLasso l → AreFirsts l.states firsts → IsLeast l firsts begin d → (i : ℕ) → begin ≤ i → (i < l.loop_start) ⊎ (l.loop_start ≤ i) → shown l i ≡ shown l (i + d)
begin_at l firsts begin d is are h i le (inl lt) = let fits = h.fits in shows_named l firsts i (i + d) are (omega arith) (omega arith) (h.before i le lt)
begin_at l firsts begin d is are h i le (inr far) = start_period l firsts begin d is are h i far

pub begin_period : (l : LassoValue) (firsts : List ℕ) (begin d : ℕ) → IsLasso l → AreFirsts l.states firsts → IsLeast l firsts begin d → IsPeriod (shown l) begin d
begin_period l firsts begin d is are h i le = begin_at l firsts begin d is are h i le (cases_lt i l.loop_start)

pub cut_same : (l : LassoValue) (firsts : List ℕ) (begin d : ℕ) → IsLasso l → AreFirsts l.states firsts → IsLeast l firsts begin d → IsSameSequence l (cut_of l begin d)
cut_same l firsts begin d is are h = let fits = h.fits in let most = h.most in same_sequence l begin d h.some (omega arith) (begin_period l firsts begin d is are h)

no_later : (l : LassoValue) (firsts : List ℕ) (begin d b q : ℕ) → IsLasso l → AreFirsts l.states firsts → IsLeast l firsts begin d → 0 < q → IsPeriod (shown l) b q → (b < begin) ⊎ (begin ≤ b) → begin ≤ b
no_later l firsts begin d b q is are h some p (inr le) = le
no_later l firsts begin d b q is are h some p (inl lt) =
    let fits = h.fits in
    let most = h.most in
    let count = are.0 in
    let early = earlier (shown l) l.loop_start d b q some (start_period l firsts begin d is are h) p in
    absurd (h.first (omega arith) (period_repeats l firsts b d are early (begin - 1) (omega arith) (omega arith)))

-- a lasso that shows the same begins its loop no earlier, and goes round no sooner
no_shorter : (l : LassoValue) (firsts : List ℕ) (begin d : ℕ) → IsLasso l → AreFirsts l.states firsts → IsLeast l firsts begin d → (other : LassoValue) → IsLasso other → IsSameSequence other (cut_of l begin d) → (begin ≤ other.loop_start) × (d ≤ period other)
no_shorter l firsts begin d is are h other lasso same =
    let q = period other in
    let some : 0 < q = omega arith in
    let fits = h.fits in
    let most = h.most in
    let same_l = cut_same l firsts begin d is are h in
    let alike : (i : ℕ) → shown other i ≡ shown l i = λ i. same i ∙ sym (same_l i) in
    let its : IsPeriod (shown l) other.loop_start q = λ i le. sym (alike i) ∙ (loop_period other i le ∙ alike (i + q)) in
    let late = later (shown l) l.loop_start (period l) other.loop_start q (loop_period l) (omega arith) its in
    let long = least_is (shown l) l.loop_start (period l) d (loop_period l) (λ r pos lt e p. h.least r pos lt e (period_repeats l firsts l.loop_start r are p)) q q (omega arith) some late in
    let far = no_later l firsts begin d other.loop_start q is are h some its (cases_lt other.loop_start begin) in
    (far, long)

pub cut_fewest : (l : LassoValue) (firsts : List ℕ) (begin d : ℕ) → IsLasso l → AreFirsts l.states firsts → IsLeast l firsts begin d → HasFewestStates (cut_of l begin d)
cut_fewest l firsts begin d is are h other lasso same =
    let long = no_shorter l firsts begin d is are h other lasso same in
    let fits = h.fits in
    let most = h.most in
    let count = length-take-le (begin + d) l.states (omega arith) in
    omega (arith, long.0, long.1, count, lasso)

pub cut_earliest : (l : LassoValue) (firsts : List ℕ) (begin d : ℕ) → IsLasso l → AreFirsts l.states firsts → IsLeast l firsts begin d → HasEarliestLoop (cut_of l begin d)
cut_earliest l firsts begin d is are h other lasso same = (no_shorter l firsts begin d is are h other lasso same).0

pub cut_count : (l : LassoValue) (firsts : List ℕ) (begin d : ℕ) → IsLeast l firsts begin d → length (cut_of l begin d).states ≤ length l.states
cut_count l firsts begin d h =
    let fits = h.fits in
    let most = h.most in
    let count = length-take-le (begin + d) l.states (omega arith) in
    omega arith

-- what holds of the cut lasso holds of the one that is answered
pub answers : {E : Type 0} (P : LassoValue → Type 0) (l : LassoValue) (r : Result LassoValue E) → P l → IfOk r (λ m. m ≡ l) → IfOk r P
answers P l (Ok m) h e = subst P (sym e) h
answers P l (Err x) h e = tt
