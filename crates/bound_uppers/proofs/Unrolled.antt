-- A lasso written out over more states.
use Rattle.std.proofs.Common.{◌≡◌, ◌⊎◌, inl, inr, ℕ, zero, suc, ◌+◌, ◌-◌, ◌*◌, ◌/◌, ◌%◌, ◌<◌, ◌≤◌, List, [], ◌∷◌, Some, length, slice_get, get_or, map, refl, ap, sym, ◌∙◌, arith}
use Rattle.std.specs.List.{range_with_len}
use Rattle.std.proofs.Math.Nat.{mod-add-div'}
use Rattle.std.proofs.lemmas.Bool.{cases_lt}
use Rattle.std.proofs.lemmas.List.FromFn.{length-map-range_with_len}
use Rattle.core_tuples.specs.Sets.{TupleList}
use Rattle.core_meaning.specs.Sequence.{LassoValue, place_of, period}
use Rattle.bound_uppers.specs.Shortest.{shown, IsLasso, Unrolls}
use Rattle.bound_uppers.proofs.Cut.{place_before, place_by, place_within, loop_period}
use Rattle.bound_uppers.proofs.Period.{rounds}

get_there : {X : Type 0} (xs : List X) (k : ℕ) (d : X) → k < length xs → slice_get xs k ≡ Some (get_or xs k d)
get_there [] k d lt = absurd (omega arith)
get_there (x ∷ xs) zero d lt = refl
get_there (x ∷ xs) (suc k) d lt = get_there xs k d (omega arith)

get_range : {X : Type 0} (f : ℕ → X) (a n k : ℕ) → k < n → slice_get (map f (range_with_len a n)) k ≡ Some (f (a + k))
get_range f a zero k lt = absurd (omega arith)
get_range f a (suc n) zero lt = let same : a ≡ a + 0 = omega arith in ap (λ (m : ℕ). Some (f m)) same
get_range f a (suc n) (suc k) lt = let same : a + 1 + k ≡ a + suc k = omega arith in get_range f (a + 1) n k (omega arith) ∙ ap (λ (m : ℕ). Some (f m)) same

-- the state that a position shows
abbrev state_at : LassoValue → ℕ → List TupleList
state_at l i = get_or l.states (place_of l i) []

state_shown : (l : LassoValue) (i : ℕ) → IsLasso l → shown l i ≡ Some (state_at l i)
state_shown l i is = get_there l.states (place_of l i) [] (place_within l i is)

abbrev unrolled : LassoValue → ℕ → LassoValue
unrolled l n = record { states = map (state_at l) (range_with_len 0 n); loop_start = n - period l }

unrolled_count : (l : LassoValue) (n : ℕ) → length (unrolled l n).states ≡ n
unrolled_count l n = length-map-range_with_len (state_at l) 0 n

unrolled_is : (l : LassoValue) (n : ℕ) → IsLasso l → length l.states ≤ n → IsLasso (unrolled l n)
unrolled_is l n is le = let count = unrolled_count l n in omega (arith, count, is, le)

-- a position shows the state of the place that it has in the longer lasso
placed_at : (l : LassoValue) (n i : ℕ) → IsLasso l → length l.states ≤ n → (i < n) ⊎ (n ≤ i) → shown l i ≡ shown l (place_of (unrolled l n) i)
placed_at l n i is le (inl lt) =
    let count = unrolled_count l n in
    let below : i < length (unrolled l n).states = omega (arith, count, lt) in
    ap (shown l) (sym (place_before (unrolled l n) i below))
placed_at l n i is le (inr far) =
    let count = unrolled_count l n in
    let start = n - period l in
    let whole : period (unrolled l n) ≡ period l = omega (arith, count, is, le) in
    let place : place_of (unrolled l n) i ≡ start + (i - start) % period l = place_by (unrolled l n) (period l) i whole (omega (arith, far)) in
    let turns : start + (i - start) % period l + (i - start) / period l * period l ≡ i = let e = mod-add-div' (i - start) (period l) in omega (arith, e, far) in
    let round = rounds (shown l) l.loop_start (period l) ((i - start) / period l) (start + (i - start) % period l) (loop_period l) (omega (arith, is, le)) in
    ap (shown l) (sym turns) ∙ (sym round ∙ ap (shown l) (sym place))

same_at : (l : LassoValue) (n i : ℕ) → IsLasso l → length l.states ≤ n → shown l i ≡ shown (unrolled l n) i
same_at l n i is le =
    let count = unrolled_count l n in
    let k = place_of (unrolled l n) i in
    let within : k < length (unrolled l n).states = place_within (unrolled l n) i (unrolled_is l n is le) in
    let there : slice_get (unrolled l n).states k ≡ Some (state_at l (0 + k)) = get_range (state_at l) 0 n k (omega (arith, within, count)) in
    let zero_more : 0 + k ≡ k = omega arith in
    let same : state_at l (0 + k) ≡ state_at l k = ap (state_at l) zero_more in
    placed_at l n i is le (cases_lt i n) ∙ (state_shown l k is ∙ (ap (λ (s : List TupleList). Some s) (sym same) ∙ sym there))

pub unrolls : Unrolls
unrolls l n is le = (unrolled l n, unrolled_is l n is le, unrolled_count l n, λ i. same_at l n i is le)
