-- Sums over the relations of a table.
use Rattle.std.proofs.Common.{◌≡◌, ◌⊎◌, inl, inr, ℕ, zero, suc, ◌+◌, ◌-◌, ◌*◌, ◌<◌, ◌≤◌, ◌^◌, Bool, true, false, if◌then◌else◌, List, [], ◌∷◌, ◌++◌, length, take, slice_get, Some, refl, ap, sym, ◌∙◌, arith, map, get_or, nat_lt, subst, slice_index}
use Rattle.std.specs.List.{range_with_len}
use Rattle.std.proofs.lemmas.Bool.{cases_lt}
use Rattle.std.proofs.lemmas.List.{take_more}
use Rattle.std.proofs.lemmas.Option.{slice_get_within}
use Rattle.std.proofs.lemmas.List.FromFn.{map-range_with_len_more}
use Rattle.std.proofs.lemmas.List.Sums.{sum_by-cons}
use Rattle.bound_uppers.specs.declared.table.Bound.{Bound}
use Rattle.bound_uppers.specs.declared.table.Bounds.{Bounds}
use Rattle.bound_uppers.specs.declared.places.Cells.{Cells}
use Rattle.bound_uppers.specs.declared.places.Layout.{Layout}
use Rattle.bound_uppers.specs.Sums.{before_place, AreStarts}
use Rattle.bound_uppers.proofs.Weighing.{before_place_cons}
use Rattle.core_tuples.specs.Sets.{TupleList, IsTupleSet}
use Rattle.core_tuples.proofs.OrderLemmas.{take_all}
use Rattle.core_meaning.specs.Sequence.{LassoValue}
use Rattle.bound_uppers.specs.Table.{size_at, together, before, is_later, earlier, first_at, first_variable, cell_at, loop_variable, variables, IsTable, IsLayout, truth, least, chosen, decoded_set, decoded_state, decoded}
use Rattle.bound_uppers.specs.Numbers.{weight_of, cells_by, cells_in, HasPlaces, HasCells, HasFirsts}

pub map_end : {X Y : Type 0} (f : X → Y) (xs : List X) (y : X) → map f (xs ++ y ∷ []) ≡ map f xs ++ f y ∷ []
map_end f [] y = refl
map_end f (x ∷ xs) y = ap (λ ys. f x ∷ ys) (map_end f xs y)

pub map_more : {X Y : Type 0} (f : X → Y) (xs : List X) (k : ℕ) (x : X) → k < length xs → x ≡ get_or xs k x → map f (take (k + 1) xs) ≡ map f (take k xs) ++ f x ∷ []
map_more f xs k x lt is = ap (map f) (take_more xs k x lt) ∙ (map_end f (take k xs) (get_or xs k x) ∙ ap (λ y. map f (take k xs) ++ f y ∷ []) (sym is))

pub get_map : {X Y : Type 0} (f : X → Y) (xs : List X) (k : ℕ) (x : X) → slice_get xs k ≡ Some x → slice_get (map f xs) k ≡ Some (f x)
get_map f [] k x e = cc
get_map f (y ∷ xs) zero x e = let is : y ≡ x = cc in ap (λ z. Some (f z)) is
get_map f (y ∷ xs) (suc k) x e = get_map f xs k x e

-- the states of so many numbers, and of one more
pub range_more : {X : Type 0} (f : ℕ → X) (n : ℕ) → map f (range_with_len 0 (n + 1)) ≡ map f (range_with_len 0 n) ++ f n ∷ []
range_more f n = map-range_with_len_more f 0 n n (omega arith)

-- one relation more
pub before_cons : (later : Bool) (place : ℕ) (b : Bound) (bs : List Bound) → before later place (b ∷ bs) ≡ (if nat_lt b.order place then size_at later b else 0) + before later place bs
before_cons later place b bs = sum_by-cons (λ (c : Bound). if nat_lt c.order place then size_at later c else 0) b bs

pub together_cons : (later : Bool) (b : Bound) (bs : List Bound) → together later (b ∷ bs) ≡ size_at later b + together later bs
together_cons later b bs = sum_by-cons (size_at later) b bs

-- the relations before a place, by their sizes
pub before_weights : (later : Bool) (place : ℕ) (bs : List Bound) → before_place place (map (weight_of later) bs) ≡ before later place bs
before_weights later place [] = refl
before_weights later place (b ∷ bs) =
    let first = before_place_cons place (weight_of later b) (map (weight_of later) bs) in
    let rest = before_weights later place bs in
    let both = before_cons later place b bs in
    first ∙ (ap (λ (n : ℕ). (if nat_lt b.order place then size_at later b else 0) + n) rest ∙ sym both)

-- ---- the numbers of the variables

some_of : (c : Bool) (s : ℕ) → (if c then s else 0) ≤ s
some_of true s = omega arith
some_of false s = omega arith

pub before_le : (later : Bool) (k : ℕ) (bs : List Bound) → before later k bs ≤ together later bs
before_le later k [] = omega arith
before_le later k (b ∷ bs) =
    let here = some_of (nat_lt b.order k) (size_at later b) in
    let rest = before_le later k bs in
    let part = before_cons later k b bs in
    let whole = together_cons later b bs in
    omega (arith, here, rest, part, whole)

pub earlier_is : (bs : List Bound) (s : ℕ) → earlier bs (suc s) ≡ together false bs + s * together true bs
earlier_is bs zero = omega arith
earlier_is bs (suc s) = let rest = earlier_is bs s in omega arith

-- those of all states but the last, and one more
pub all_earlier : (bs : List Bound) (k : ℕ) → 0 < k → earlier bs k ≡ together false bs + (k - 1) * together true bs
all_earlier bs zero some = absurd (omega arith)
all_earlier bs (suc k) some = let less : suc k - 1 ≡ k = omega arith in rw less (earlier_is bs k)

up_at : (bs : List Bound) (k s : ℕ) → (s ≤ k → earlier bs s ≤ earlier bs k) → s ≤ suc k → (s < suc k) ⊎ (suc k ≤ s) → earlier bs s ≤ earlier bs (suc k)
up_at bs k s less le (inl lt) = let so = less (omega arith) in omega arith
up_at bs k s less le (inr far) = let is : s ≡ suc k = omega arith in subst (λ (n : ℕ). earlier bs n ≤ earlier bs (suc k)) (sym is) (omega arith)

pub up : (bs : List Bound) (k s : ℕ) → s ≤ k → earlier bs s ≤ earlier bs k
up bs zero zero le = omega arith
up bs zero (suc s) le = absurd (omega arith)
up bs (suc k) s le = up_at bs k s (up bs k s) le (cases_lt s (suc k))

first_le : (bs : List Bound) (b : Bound) (s k : ℕ) → s < k → first_at bs b s ≤ 1 + earlier bs k
first_le bs b s k lt =
    let here = before_le (is_later s) b.order bs in
    let on = up bs k (suc s) (omega arith) in
    omega arith

first_by : (bs : List Bound) (b : Bound) (f : Bool) (s k : ℕ) → s < k → first_at bs b (if f then 0 else s) ≤ 1 + earlier bs k
first_by bs b true s k lt = first_le bs b 0 k (omega arith)
first_by bs b false s k lt = first_le bs b s k lt

cell_by : (bs : List Bound) (b : Bound) (f : Bool) (s : ℕ) → cell_at (cells_by f (1 + before false b.order bs) (1 + together false bs + before true b.order bs) (together true bs)) s ≡ first_at bs b (if f then 0 else s)
cell_by bs b true zero = omega arith
cell_by bs b true (suc s) = omega arith
cell_by bs b false zero = omega arith
cell_by bs b false (suc s) = let so = earlier_is bs s in omega arith

pub layout_is : (bounds : Bounds) (kept : Layout) → HasCells bounds.relations kept.relations.items → kept.loops ≡ loop_variable bounds 0 → kept.loops < 2 ^ 64 → kept.variables ≡ variables bounds → IsLayout bounds kept
layout_is bounds kept cells loops fits count = record {
  cells = λ r b e. (
    cells_in bounds.relations b,
    ap (λ cs. slice_get cs r) cells ∙ get_map (cells_in bounds.relations) bounds.relations r b e,
    λ s lt.
        let same = cell_by bounds.relations b b.fixed s in
        let most = first_by bounds.relations b b.fixed s bounds.states lt in
        (omega (arith, same, most, loops, fits), same),
  );
  loops = loops;
  count = count;
}

-- the numbers as they are reckoned
pub layout_by : (bounds : Bounds) (kept : Layout) (bs : List Bound) (all stride later behind last : ℕ) → bs ≡ bounds.relations → IsTable bounds → (HasPlaces bs → HasCells bs kept.relations.items) → all ≡ together false bs → stride ≡ together true bs → later ≡ bounds.states - 1 → behind ≡ later * stride → last ≡ all + behind → kept.loops ≡ 1 + last → kept.loops < 2 ^ 64 → kept.variables ≡ last + (if nat_lt 1 bounds.states then bounds.states else 0) → IsLayout bounds kept
layout_by bounds kept bs all stride later behind last same table cells whole steps less product sum loops fits count =
    let own : HasCells bounds.relations kept.relations.items = subst (λ (xs : List Bound). HasPlaces xs → HasCells xs kept.relations.items) same cells table.placed in
    let first : all ≡ together false bounds.relations = whole ∙ ap (together false) same in
    let each : stride ≡ together true bounds.relations = steps ∙ ap (together true) same in
    let rest : behind ≡ (bounds.states - 1) * together true bounds.relations = product ∙ (ap (λ (n : ℕ). n * stride) less ∙ ap (λ (n : ℕ). (bounds.states - 1) * n) each) in
    let last_is : last ≡ earlier bounds.relations bounds.states = sum ∙ (ap (λ (n : ℕ). n + behind) first ∙ (ap (λ (n : ℕ). together false bounds.relations + n) rest ∙ sym (all_earlier bounds.relations bounds.states table.some))) in
    let loops_are : kept.loops ≡ loop_variable bounds 0 = omega (arith, loops, last_is) in
    layout_is bounds kept own loops_are fits (count ∙ ap (λ (n : ℕ). n + (if nat_lt 1 bounds.states then bounds.states else 0)) last_is)

abbrev pub lasso_by : List (List TupleList) → ℕ → LassoValue
lasso_by states start = record { states = states; loop_start = start }

pub firsts_of : (bounds : Bounds) (kept : Layout) (s : ℕ) → IsLayout bounds kept → s < bounds.states → HasFirsts bounds.relations kept s
firsts_of bounds kept s is lt r b e =
    let c = is.cells r b e in
    (c.0, c.1, (c.2 s lt).0, (c.2 s lt).1)

-- the lasso of these states and this loop index is the one for which an assignment stands
pub decoded_is : (bounds : Bounds) (kept : Layout) (values : List Bool) (states : List (List TupleList)) (start : ℕ) → IsLayout bounds kept → (((s : ℕ) → s < bounds.states → HasFirsts bounds.relations kept s) → states ≡ map (decoded_state bounds.relations values) (range_with_len 0 bounds.states)) → start ≡ least (λ s. truth values (kept.loops + s)) bounds.states 0 → lasso_by states start ≡ decoded bounds values
decoded_is bounds kept values states start is exact first =
    let all = exact (λ s lt. firsts_of bounds kept s is lt) in
    let first_loop = is.loops in
    let loops : kept.loops ≡ 1 + earlier bounds.relations bounds.states = omega (arith, first_loop) in
    let loop : start ≡ least (λ s. truth values (loop_variable bounds s)) bounds.states 0 = first ∙ ap (λ (n : ℕ). least (λ s. truth values (n + s)) bounds.states 0) loops in
    ap (λ (xs : List (List TupleList)). lasso_by xs start) all ∙ ap (λ (n : ℕ). lasso_by (map (decoded_state bounds.relations values) (range_with_len 0 bounds.states)) n) loop

there_is : {X : Type 0} (xs : List X) (k : ℕ) (x : X) → k < length xs → x ≡ get_or xs k x → slice_get xs k ≡ Some x
there_is [] k x lt e = absurd (omega arith)
there_is (y ∷ xs) zero x lt e = ap (λ z. Some z) (sym e)
there_is (y ∷ xs) (suc k) x lt e = there_is xs k x (omega arith) e

-- the set of a relation's true tuples, from its first variable
pub set_is : (bs : List Bound) (kept : Layout) (values : List Bool) (s r first : ℕ) (b : Bound) (set : TupleList) → HasFirsts bs kept s → r < length bs → b ≡ get_or bs r b → ((c : Cells) → slice_get kept.relations.items r ≡ Some c → cell_at c s < 2 ^ 64 → first ≡ cell_at c s) → set ≡ record { arity = b.upper.arity; tuples = chosen (λ place. truth values (first + place)) 0 b.upper.tuples } → set ≡ decoded_set bs values s b
set_is bs kept values s r first b set has lt at reads is =
    let c = has r b (there_is bs r b lt at) in
    let same : first ≡ first_variable bs b s = reads c.0 c.1 c.2 ∙ c.3 in
    is ∙ ap (λ (n : ℕ). record { arity = b.upper.arity; tuples = chosen (λ place. truth values (n + place)) 0 b.upper.tuples }) same

-- the upper bounds of so many relations are sets, and of one more
abbrev AreSets : List Bound → ℕ → Type 0
AreSets bs k = (r : ℕ) (b : Bound) → r < k → slice_get bs r ≡ Some b → IsTupleSet b.upper

sets_at : (bs : List Bound) (k r : ℕ) (bound b : Bound) → slice_get bs k ≡ Some bound → IsTupleSet bound.upper → AreSets bs k → slice_get bs r ≡ Some b → r < k + 1 → (r < k) ⊎ (k ≤ r) → IsTupleSet b.upper
sets_at bs k r bound b at is all e lt (inl less) = all r b less e
sets_at bs k r bound b at is all e lt (inr far) =
    let here : r ≡ k = omega arith in
    let same : Some bound ≡ Some b = sym at ∙ (ap (slice_get bs) (sym here) ∙ e) in
    let alike : bound ≡ b = cc in
    subst (λ (c : Bound). IsTupleSet c.upper) alike is

pub sets_more : (bs : List Bound) (k : ℕ) (bound : Bound) → k < length bs → bound ≡ get_or bs k bound → IsTupleSet bound.upper → AreSets bs k → AreSets bs (k + 1)
sets_more bs k bound lt at is all r b less e = sets_at bs k r bound b (there_is bs k bound lt at) is all e less (cases_lt r k)

pub sets_all : (bs : List Bound) (k : ℕ) → length bs ≤ k → AreSets bs k → (r : ℕ) (b : Bound) → slice_get bs r ≡ Some b → IsTupleSet b.upper
sets_all bs k le all r b e = let within = slice_get_within bs r b e in all r b (omega (arith, within, le)) e

-- where the variables of the relations so far stand, and of one more
pub cells_more : (bs : List Bound) (k : ℕ) (b : Bound) (items new : List Cells) (firsts nexts : List ℕ) (all stride start later first next : ℕ) → HasPlaces bs → k < length bs → b ≡ get_or bs k b → AreStarts (length bs) (map (weight_of false) bs) firsts → AreStarts (length bs) (map (weight_of true) bs) nexts → all ≡ together false bs → stride ≡ together true bs → (b.order < length firsts → start ≡ slice_index firsts b.order) → (b.order < length nexts → later ≡ slice_index nexts b.order) → first ≡ 1 + start → next ≡ 1 + all + later → items ≡ map (cells_in bs) (take k bs) → new ≡ items ++ cells_by b.fixed first next stride ∷ [] → new ≡ map (cells_in bs) (take (k + 1) bs)
cells_more bs k b items new firsts nexts all stride start later first next places lt at one two whole steps reads further begins goes old added =
    let within : b.order < length bs = places k b (there_is bs k b lt at) in
    let count = one.0 in
    let counts = two.0 in
    let first_is : start ≡ before false b.order bs = reads (omega (arith, within, count)) ∙ (one.1 b.order within ∙ before_weights false b.order bs) in
    let next_is : later ≡ before true b.order bs = further (omega (arith, within, counts)) ∙ (two.1 b.order within ∙ before_weights true b.order bs) in
    let first_number : first ≡ 1 + before false b.order bs = begins ∙ ap (λ (n : ℕ). 1 + n) first_is in
    let next_number : next ≡ 1 + together false bs + before true b.order bs = goes ∙ (ap (λ (n : ℕ). 1 + n + later) whole ∙ ap (λ (n : ℕ). 1 + together false bs + n) next_is) in
    let cell : cells_by b.fixed first next stride ≡ cells_in bs b = ap (λ (n : ℕ). cells_by b.fixed n next stride) first_number ∙ (ap (λ (n : ℕ). cells_by b.fixed (1 + before false b.order bs) n stride) next_number ∙ ap (λ (n : ℕ). cells_by b.fixed (1 + before false b.order bs) (1 + together false bs + before true b.order bs) n) steps) in
    added ∙ (ap (λ (cs : List Cells). cs ++ cells_by b.fixed first next stride ∷ []) old ∙ (ap (λ (c : Cells). map (cells_in bs) (take k bs) ++ c ∷ []) cell ∙ sym (map_more (cells_in bs) bs k b lt at)))

pub cells_all : (bs : List Bound) (k : ℕ) (items : List Cells) → length bs ≤ k → (HasPlaces bs → items ≡ map (cells_in bs) (take k bs)) → HasPlaces bs → HasCells bs items
cells_all bs k items le old places = old places ∙ ap (map (cells_in bs)) (take_all bs k le)

-- the sets of the relations so far, and of one more
pub state_more : (bs : List Bound) (kept : Layout) (values : List Bool) (s k first : ℕ) (b : Bound) (set : TupleList) (old new : List TupleList) → HasFirsts bs kept s → k < length bs → b ≡ get_or bs k b → ((c : Cells) → slice_get kept.relations.items k ≡ Some c → cell_at c s < 2 ^ 64 → first ≡ cell_at c s) → set ≡ record { arity = b.upper.arity; tuples = chosen (λ place. truth values (first + place)) 0 b.upper.tuples } → old ≡ map (decoded_set bs values s) (take k bs) → new ≡ old ++ set ∷ [] → new ≡ map (decoded_set bs values s) (take (k + 1) bs)
state_more bs kept values s k first b set old new has lt at reads is was added =
    let one = set_is bs kept values s k first b set has lt at reads is in
    added ∙ (ap (λ (xs : List TupleList). xs ++ set ∷ []) was ∙ (ap (λ (x : TupleList). map (decoded_set bs values s) (take k bs) ++ x ∷ []) one ∙ sym (map_more (decoded_set bs values s) bs k b lt at)))

-- the states so far, and one more
pub states_more : (bounds : Bounds) (kept : Layout) (values : List Bool) (n : ℕ) (state : List TupleList) (old new : List (List TupleList)) → ((s : ℕ) → s < bounds.states → HasFirsts bounds.relations kept s) → n < bounds.states → (HasFirsts bounds.relations kept n → state ≡ decoded_state bounds.relations values n) → old ≡ map (decoded_state bounds.relations values) (range_with_len 0 n) → new ≡ old ++ state ∷ [] → new ≡ map (decoded_state bounds.relations values) (range_with_len 0 (n + 1))
states_more bounds kept values n state old new firsts lt is was added =
    let one = is (firsts n lt) in
    added ∙ (ap (λ (xs : List (List TupleList)). xs ++ state ∷ []) was ∙ (ap (λ (x : List TupleList). map (decoded_state bounds.relations values) (range_with_len 0 n) ++ x ∷ []) one ∙ sym (range_more (decoded_state bounds.relations values) n)))
