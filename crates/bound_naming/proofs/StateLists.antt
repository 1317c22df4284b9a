-- The pairs of two atoms, state by state.
use Rattle.std.proofs.Common.{◌≡◌, ℕ, zero, suc, ◌+◌, ◌-◌, ◌*◌, ◌<◌, ◌≤◌, List, [], ◌∷◌, ◌++◌, length, take, drop, get_or, Option, refl, ap, sym, ◌∙◌, arith}
use Rattle.std.specs.Prelude.{map}
use Rattle.std.proofs.lemmas.List.{append-nil, append_assoc, length_push, length-take, take_more, take-append-drop, map_push, get_or_default}
use Rattle.std.proofs.lemmas.Option.{slice_get_past}
use Rattle.core_tuples.proofs.OrderLemmas.{take_all}
use Rattle.bound_uppers.specs.declared.table.Bound.{Bound}
use Rattle.bound_uppers.specs.declared.places.Cells.{Cells}
use Rattle.bound_uppers.specs.declared.places.Layout.{Layout}
use Rattle.bound_uppers.specs.Table.{cell_at}
use Rattle.bound_naming.specs.declared.pairs.Pair.{Pair}
use Rattle.bound_naming.specs.declared.spots.Spot.{Spot}
use Rattle.bound_naming.specs.declared.partners.Match.{Match}
use Rattle.bound_naming.specs.Reckoned.{first_by, first_in, pair_in, state_pairs, pairs_to, moving, matches_of}
use Rattle.bound_naming.proofs.Finding.{there}

-- ---- variables

pub cell_first : (c : Cells) (s : ℕ) → s ≡ 0 → c.first ≡ cell_at c s
cell_first c zero e = refl
cell_first c (suc s) e = absurd (omega (arith, e))

pub cell_next : (c : Cells) (s behind v : ℕ) → (s ≡ 0 → ⊥) → behind ≡ (s - 1) * c.stride → v ≡ c.next + behind → v ≡ cell_at c s
cell_next c zero behind v some is e = absurd (some refl)
cell_next c (suc s) behind v some is e =
    let back : suc s - 1 ≡ s = omega arith in
    e ∙ ap (λ (n : ℕ). c.next + n) (is ∙ ap (λ (n : ℕ). n * c.stride) back)

pub first_lacks : (table : Layout) (s r : ℕ) → length table.relations.items ≤ r → 0 ≡ first_in table s r
first_lacks table s r far = ap (λ (o : Option Cells). first_by s o) (sym (slice_get_past table.relations.items r far))

pub first_there : (table : Layout) (s r v : ℕ) (c : Cells) → r < length table.relations.items → c ≡ get_or table.relations.items r c → v ≡ cell_at c s → v ≡ first_in table s r
first_there table s r v c lt is e = e ∙ ap (λ (o : Option Cells). first_by s o) (sym (there table.relations.items r c lt is))

-- ---- a state

take_of : {X : Type 0} (xs ys : List X) → take (length xs) (xs ++ ys) ≡ xs
take_of [] [] = refl
take_of [] (y ∷ ys) = refl
take_of (x ∷ xs) ys = ap (λ zs. x ∷ zs) (take_of xs ys)

pub pairs_none : (table : Layout) (s : ℕ) (ms : List Match) (old : List Pair) → old ≡ old ++ map (pair_in table s) (take 0 ms)
pairs_none table s ms old = sym (append-nil old)

pub pairs_more : (table : Layout) (s k : ℕ) (ms : List Match) (m : Match) (p : Pair) (old now new : List Pair) → k < length ms → m ≡ get_or ms k m → p ≡ pair_in table s m → now ≡ old ++ map (pair_in table s) (take k ms) → new ≡ now ++ p ∷ [] → new ≡ old ++ map (pair_in table s) (take (k + 1) ms)
pairs_more table s k ms m p old now new lt is made was e =
    let f : Match → Pair = pair_in table s in
    let last : map f (take (k + 1) ms) ≡ map f (take k ms) ++ p ∷ [] =
    ap (map f) (take_more ms k m lt) ∙ (map_push f (take k ms) (get_or ms k m) ∙ ap (λ (q : Pair). map f (take k ms) ++ q ∷ []) (ap f (sym is) ∙ sym made)) in
    e ∙ (ap (λ (xs : List Pair). xs ++ p ∷ []) was ∙ (append_assoc old (map f (take k ms)) (p ∷ []) ∙ ap (λ (xs : List Pair). old ++ xs) (sym last)))

pub pairs_full : (table : Layout) (s k most : ℕ) (ms : List Match) (old now : List Pair) → most ≤ length now → length now ≤ most → now ≡ old ++ map (pair_in table s) (take k ms) → now ≡ take most (old ++ map (pair_in table s) ms)
pairs_full table s k most ms old now low high was =
    let f : Match → Pair = pair_in table s in
    let same : length now ≡ most = omega (arith, low, high) in
    let whole : old ++ map f ms ≡ now ++ map f (drop k ms) =
    ap (λ (xs : List Match). old ++ map f xs) (sym (take-append-drop k ms))
    ∙ (ap (λ (xs : List Pair). old ++ xs) (joined f (take k ms) (drop k ms))
    ∙ (sym (append_assoc old (map f (take k ms)) (map f (drop k ms))) ∙ ap (λ (xs : List Pair). xs ++ map f (drop k ms)) (sym was))) in
    sym (ap (take most) whole ∙ (ap (λ (n : ℕ). take n (now ++ map f (drop k ms))) (sym same) ∙ take_of now (map f (drop k ms))))
  where
    joined : (f : Match → Pair) (xs ys : List Match) → map f (xs ++ ys) ≡ map f xs ++ map f ys
    joined f [] ys = refl
    joined f (x ∷ xs) ys = ap (λ zs. f x ∷ zs) (joined f xs ys)

pub pairs_done : (table : Layout) (s k most : ℕ) (ms : List Match) (old now : List Pair) → length ms ≤ k → length now ≤ most → now ≡ old ++ map (pair_in table s) (take k ms) → now ≡ take most (old ++ map (pair_in table s) ms)
pairs_done table s k most ms old now le few was =
    let all : now ≡ old ++ map (pair_in table s) ms = was ∙ ap (λ (xs : List Match). old ++ map (pair_in table s) xs) (take_all ms k le) in
    sym (ap (take most) (sym all) ∙ take_all now most few)

pub few_more : (now new : List Pair) (p : Pair) (most : ℕ) → length now < most → new ≡ now ++ p ∷ [] → length new ≤ most
few_more now new p most lt e = let long = length_push now p in let same = ap length e in omega (arith, lt, long, same)

-- ---- the states

pub state_first : (table : Layout) (all rest : List Match) (s most : ℕ) (old now : List Pair) → s ≡ 0 → now ≡ take most (old ++ map (pair_in table s) all) → now ≡ take most (old ++ state_pairs table all rest s)
state_first table all rest zero most old now e is = is
state_first table all rest (suc s) most old now e is = absurd (omega (arith, e))

pub state_later : (table : Layout) (all rest : List Match) (s most : ℕ) (old now : List Pair) → (s ≡ 0 → ⊥) → now ≡ take most (old ++ map (pair_in table s) rest) → now ≡ take most (old ++ state_pairs table all rest s)
state_later table all rest zero most old now some is = absurd (some refl)
state_later table all rest (suc s) most old now some is = is

take_twice : {X : Type 0} (n : ℕ) (xs ys : List X) → take n (take n xs ++ ys) ≡ take n (xs ++ ys)
take_twice zero xs ys = refl
take_twice (suc n) [] ys = refl
take_twice (suc n) (x ∷ xs) ys = ap (λ zs. x ∷ zs) (take_twice n xs ys)

pub states_none : (table : Layout) (all : List Match) (most : ℕ) → [] ≡ take most (pairs_to table all 0)
states_none table all zero = refl
states_none table all (suc most) = refl

pub states_more : (table : Layout) (all rest : List Match) (n most : ℕ) (now new : List Pair) → rest ≡ moving all → now ≡ take most (pairs_to table all n) → new ≡ take most (now ++ state_pairs table all rest n) → new ≡ take most (pairs_to table all (n + 1))
states_more table all rest n most now new are was e =
    let next : suc n ≡ n + 1 = omega arith in
    e ∙ (ap (λ (xs : List Pair). take most (xs ++ state_pairs table all rest n)) was
    ∙ (take_twice most (pairs_to table all n) (state_pairs table all rest n)
    ∙ (ap (λ (xs : List Match). take most (pairs_to table all n ++ state_pairs table all xs n)) are
    ∙ ap (λ (k : ℕ). take most (pairs_to table all k)) next)))

pub states_few : (most : ℕ) (xs now : List Pair) → now ≡ take most xs → length now ≤ most
states_few most xs now e = let long = length-take most xs in let same = ap length e in omega (arith, long, same)

pub states_all : (table : Layout) (all : List Match) (n states most : ℕ) (now : List Pair) → states ≤ n → n ≤ states → now ≡ take most (pairs_to table all n) → now ≡ take most (pairs_to table all states)
states_all table all n states most now low high was =
    let same : n ≡ states = omega (arith, low, high) in
    was ∙ ap (λ (k : ℕ). take most (pairs_to table all k)) same

-- ---- two atoms

pub pairs_are : (bs : List Bound) (table : Layout) (lists : List (List Spot)) (a b states most : ℕ) (found spots : List Spot) (all given : List Match) (now : List Pair) → a < length lists → found ≡ get_or lists a found → spots ≡ found → all ≡ matches_of bs a b spots → given ≡ all → now ≡ take most (pairs_to table given states) → now ≡ take most (pairs_to table (matches_of bs a b (get_or lists a [])) states)
pairs_are bs table lists a b states most found spots all given now lt is same are gave e =
    let list : spots ≡ get_or lists a [] = same ∙ (is ∙ get_or_default lists a found [] lt) in
    e ∙ (ap (λ (ms : List Match). take most (pairs_to table ms states)) (gave ∙ are) ∙ ap (λ (ss : List Spot). take most (pairs_to table (matches_of bs a b ss) states)) list)
