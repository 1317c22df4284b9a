-- Sums over choices of atoms.
use Rattle.std.proofs.Common.{◌≡◌, ◌≤◌, ◌+◌, ◌-◌, ℕ, zero, suc, Bool, true, false, cond, List, [], ◌∷◌, ◌++◌, map, drop, length, Contains, Option, Some, slice_get, Vec, Global, refl, sym, ap, ◌∙◌, subst, arith, inl, inr, ℤ, pos, ◌+ℤ◌}
use Rattle.std.specs.declared.cmp.Ordering.TheVariants.{Less}
use Rattle.std.specs.List.{AllByRecursion}
use Rattle.std.specs.List.Sorted.{IsStrictlySortedBy}
use Rattle.std.proofs.lemmas.Bool.{cases_lt, false≢true}
use Rattle.std.proofs.Math.IntN.{+ℤ_idl, +ℤ_comm, +ℤ_assoc}
use Rattle.std.proofs.lemmas.Option.{slice_get_within, get_or_from_slice_get}
use Rattle.gate_trait.specs.declared.node.Node.{Node}
use Rattle.gate_trait.specs.Built.{Keeps, AllIn}
use Rattle.gate_trait.proofs.KeptLemmas.{keeps_trans}
use Rattle.core_meaning.specs.Integers.{wrap, sum_of}
use Rattle.core_laws.specs.Listed.{AreOnce}
use Rattle.core_tuples.specs.Sets.{tuple_cmp}
use Rattle.core_tuples.proofs.OrderLemmas.{not_below_itself}
use Rattle.core_tuples.proofs.OrderedLemmas.{below_all, one_sorted, none_sorted}
use Rattle.gate_integers.specs.Numbers.{signed}
use Rattle.gate_numbers.specs.Numbers.{where_true}
use Rattle.gate_temporal.specs.Rows.{row_value}
use Rattle.bmc_windows.proofs.PushLemmas.{push_kept, push_at, push_cases}
use Rattle.bmc_stack.specs.declared.store.Store.{Store}
use Rattle.bmc_stack.specs.Stored.{AreStored}
use Rattle.bmc_leaves.proofs.RowLaws.{row_kept}
use Rattle.bmc_places.specs.declared.gathering.Choice.{Choice}
use Rattle.bmc_places.specs.Gathered.{AllRows}
use Rattle.bmc_places.specs.Numbers.{IsSame}
use Rattle.bmc_places.specs.Stores.{Extends}
use Rattle.bmc_places.specs.Sums.{signed_of, numbered, integer_at, Leaf, leaves_at, total_of, AreSums, SumsAt, AreAdded, AllStand}
use Rattle.bmc_places.proofs.BitLaws.{wrap_more}
use Rattle.bmc_places.proofs.GatherLaws.{rows_kept}
use Rattle.bmc_places.proofs.ListLaws.{contains_cases, contains_none, contains_first, contains_later}
use Rattle.bmc_places.proofs.NumberLaws.{int_belongs, signed_kept}

-- ---- tuples in order

drop_front : {X : Type 0} (xs : List X) (k : ℕ) (x : X) → slice_get xs k ≡ Some x → drop k xs ≡ x ∷ drop (suc k) xs
drop_front [] k x at = absurd cc
drop_front (y ∷ xs) zero x at = (let same : y ≡ x = cc in ap (λ z. z ∷ xs) same)
drop_front (y ∷ xs) (suc k) x at = drop_front xs k x at

sorted_more : (x y : List ℕ) (ys : List (List ℕ)) → tuple_cmp x y ≡ Less → IsStrictlySortedBy tuple_cmp (y ∷ ys) → IsStrictlySortedBy tuple_cmp (x ∷ y ∷ ys)
unfolding IsStrictlySortedBy
sorted_more x y ys less sorted = (below_all x y ys less sorted, sorted)

-- the last one alone
pub rising_start : (cs : List Choice) → IsStrictlySortedBy tuple_cmp (map (λ (c : Choice). c.tuple) (drop (length cs - 1) cs))
rising_start [] = none_sorted
rising_start (c ∷ []) = one_sorted c.tuple
rising_start (c ∷ d ∷ cs) =
    let here : length (c ∷ d ∷ cs) - 1 ≡ suc (length (d ∷ cs) - 1) = omega arith in
    subst (λ (k : ℕ). IsStrictlySortedBy tuple_cmp (map (λ (b : Choice). b.tuple) (drop k (c ∷ d ∷ cs)))) (sym here) (rising_start (d ∷ cs))

pub rising_more : (cs : List Choice) (turn place : ℕ) (c d : Choice) → place ≡ length cs - turn → 1 ≤ place → slice_get cs (place - 1) ≡ Some c → slice_get cs place ≡ Some d → tuple_cmp c.tuple d.tuple ≡ Less → IsStrictlySortedBy tuple_cmp (map (λ (b : Choice). b.tuple) (drop (length cs - turn) cs)) → IsStrictlySortedBy tuple_cmp (map (λ (b : Choice). b.tuple) (drop (length cs - (turn + 1)) cs))
rising_more cs turn place c d is some at_c at_d less sorted =
    let here : length cs - (turn + 1) ≡ place - 1 = omega (arith, is) in
    let next : suc (place - 1) ≡ place = omega (arith, some) in
    let split : drop (length cs - (turn + 1)) cs ≡ c ∷ d ∷ drop (suc place) cs = ap (λ (k : ℕ). drop k cs) here ∙ drop_front cs (place - 1) c at_c ∙ ap (λ (k : ℕ). c ∷ drop k cs) next ∙ ap (λ (bs : List Choice). c ∷ bs) (drop_front cs place d at_d) in
    let old : IsStrictlySortedBy tuple_cmp (d.tuple ∷ map (λ (b : Choice). b.tuple) (drop (suc place) cs)) = subst (λ (bs : List Choice). IsStrictlySortedBy tuple_cmp (map (λ (b : Choice). b.tuple) bs)) (ap (λ (k : ℕ). drop k cs) (sym is) ∙ drop_front cs place d at_d) sorted in
    subst (λ (bs : List Choice). IsStrictlySortedBy tuple_cmp (map (λ (b : Choice). b.tuple) bs)) (sym split) (sorted_more c.tuple d.tuple (map (λ (b : Choice). b.tuple) (drop (suc place) cs)) less old)

pub rising_all : (cs : List Choice) (turn : ℕ) → length cs ≤ turn → IsStrictlySortedBy tuple_cmp (map (λ (b : Choice). b.tuple) (drop (length cs - turn) cs)) → IsStrictlySortedBy tuple_cmp (map (λ (b : Choice). b.tuple) cs)
rising_all cs turn high sorted = (let none : length cs - turn ≡ 0 = omega (arith, high) in subst (λ (k : ℕ). IsStrictlySortedBy tuple_cmp (map (λ (b : Choice). b.tuple) (drop k cs))) none sorted)

not_again : (t : List ℕ) (ts : List (List ℕ)) → AllByRecursion (λ y. tuple_cmp t y ≡ Less) ts → ¬ Contains ts t
not_again t [] below c = contains_none t c
not_again t (u ∷ ts) below c = elim (contains_cases u ts t c) [
  | inl same ↦ not_below_itself t (subst (λ (y : List ℕ). tuple_cmp t y ≡ Less) same below.0)
  | inr later ↦ not_again t ts below.1 later
]

pub sorted_once : (ts : List (List ℕ)) → IsStrictlySortedBy tuple_cmp ts → AreOnce ts
unfolding IsStrictlySortedBy
sorted_once [] sorted = tt
sorted_once (t ∷ ts) sorted = (not_again t ts sorted.0, sorted_once ts sorted.1)

-- ---- leaves

abbrev leaf_with : List ℕ → Bool → ℤ → Leaf
leaf_with t b z = record { tuple = t; counts = b; integer = z }

-- the tuples and integers of those that count
abbrev pub counted_of : List Leaf → List (List ℕ × ℤ)
counted_of [] = []
counted_of (l ∷ ls) = cond l.counts ((l.tuple, l.integer) ∷ counted_of ls) (counted_of ls)

no_more : (s : ℤ) → pos 0 +ℤ s ≡ s
no_more s = +ℤ_idl s

sum_case : (b : Bool) (t : List ℕ) (z s : ℤ) (rest : List (List ℕ × ℤ)) → sum_of (map (λ (p : List ℕ × ℤ). p.1) rest) ≡ s → sum_of (map (λ (p : List ℕ × ℤ). p.1) (cond b ((t, z) ∷ rest) rest)) ≡ where_true b z +ℤ s
sum_case true t z s rest e = ap (λ (y : ℤ). z +ℤ y) e
sum_case false t z s rest e = e ∙ sym (no_more s)

pub counted_sum : (ls : List Leaf) → sum_of (map (λ (p : List ℕ × ℤ). p.1) (counted_of ls)) ≡ total_of ls
counted_sum [] = refl
counted_sum (l ∷ ls) = sum_case l.counts l.tuple l.integer (total_of ls) (counted_of ls) (counted_sum ls)

-- which of them count
has_case : (l : Leaf) (ls : List Leaf) (p : List ℕ × ℤ) → (Contains (counted_of ls) p → (k : Leaf) × Contains ls k × (k.counts ≡ true) × (p ≡ (k.tuple, k.integer)))
    → (b : Bool) → l.counts ≡ b → Contains (cond b ((l.tuple, l.integer) ∷ counted_of ls) (counted_of ls)) p → (k : Leaf) × Contains (l ∷ ls) k × (k.counts ≡ true) × (p ≡ (k.tuple, k.integer))
has_case l ls p old true is d = elim (contains_cases (l.tuple, l.integer) (counted_of ls) p d) [
  | inl same ↦ (l, contains_first l ls, is, sym same)
  | inr more ↦ (let (k, there, counts, e) = old more in (k, contains_later l ls k there, counts, e))
]
has_case l ls p old false is d = (let (k, there, counts, e) = old d in (k, contains_later l ls k there, counts, e))

pub counted_has : (ls : List Leaf) (p : List ℕ × ℤ) → Contains (counted_of ls) p → (l : Leaf) × Contains ls l × (l.counts ≡ true) × (p ≡ (l.tuple, l.integer))
counted_has [] p c = absurd (contains_none p c)
counted_has (l ∷ ls) p c = has_case l ls p (λ d. counted_has ls p d) l.counts refl c

pub has_counted : (ls : List Leaf) (l : Leaf) → Contains ls l → l.counts ≡ true → Contains (counted_of ls) (l.tuple, l.integer)
has_counted [] l c counts = absurd (contains_none l c)
has_counted (k ∷ ls) l c counts = elim (contains_cases k ls l c) [
  | inl same ↦ subst (λ (m : Leaf). Contains (counted_of (k ∷ ls)) (m.tuple, m.integer)) same (here k.counts (ap (λ (m : Leaf). m.counts) same ∙ counts))
  | inr later ↦ there k.counts (has_counted ls l later counts)
]
  where
    here : (b : Bool) → b ≡ true → Contains (cond b ((k.tuple, k.integer) ∷ counted_of ls) (counted_of ls)) (k.tuple, k.integer)
    here true e = contains_first (k.tuple, k.integer) (counted_of ls)
    here false e = absurd (false≢true e)

    there : (b : Bool) → Contains (counted_of ls) (l.tuple, l.integer) → Contains (cond b ((k.tuple, k.integer) ∷ counted_of ls) (counted_of ls)) (l.tuple, l.integer)
    there true d = contains_later (k.tuple, k.integer) (counted_of ls) (l.tuple, l.integer) d
    there false d = d

front_case : (l : Leaf) (ls : List Leaf) (t : List ℕ) → (Contains (map (λ (p : List ℕ × ℤ). p.0) (counted_of ls)) t → Contains (map (λ (k : Leaf). k.tuple) ls) t)
    → (b : Bool) → Contains (map (λ (p : List ℕ × ℤ). p.0) (cond b ((l.tuple, l.integer) ∷ counted_of ls) (counted_of ls))) t → Contains (l.tuple ∷ map (λ (k : Leaf). k.tuple) ls) t
front_case l ls t old true d = elim (contains_cases l.tuple (map (λ (p : List ℕ × ℤ). p.0) (counted_of ls)) t d) [
  | inl same ↦ subst (λ (u : List ℕ). Contains (l.tuple ∷ map (λ (k : Leaf). k.tuple) ls) u) same (contains_first l.tuple (map (λ (k : Leaf). k.tuple) ls))
  | inr more ↦ contains_later l.tuple (map (λ (k : Leaf). k.tuple) ls) t (old more)
]
front_case l ls t old false d = contains_later l.tuple (map (λ (k : Leaf). k.tuple) ls) t (old d)

counted_front : (ls : List Leaf) (t : List ℕ) → Contains (map (λ (p : List ℕ × ℤ). p.0) (counted_of ls)) t → Contains (map (λ (l : Leaf). l.tuple) ls) t
counted_front [] t c = c
counted_front (l ∷ ls) t c = front_case l ls t (λ d. counted_front ls t d) l.counts c

once_case : (l : Leaf) (ls : List Leaf) → ¬ Contains (map (λ (p : List ℕ × ℤ). p.0) (counted_of ls)) l.tuple → AreOnce (map (λ (p : List ℕ × ℤ). p.0) (counted_of ls)) → (b : Bool) → AreOnce (map (λ (p : List ℕ × ℤ). p.0) (cond b ((l.tuple, l.integer) ∷ counted_of ls) (counted_of ls)))
once_case l ls none rest true = (none, rest)
once_case l ls none rest false = rest

pub counted_once : (ls : List Leaf) → AreOnce (map (λ (l : Leaf). l.tuple) ls) → AreOnce (map (λ (p : List ℕ × ℤ). p.0) (counted_of ls))
counted_once [] o = tt
counted_once (l ∷ ls) o = once_case l ls (λ c. o.0 (counted_front ls l.tuple c)) (counted_once ls o.1) l.counts

-- the leaves are those of the choices
pub leaf_tuples : (v : Node → Bool) (integers : List (List Node)) (i : ℕ) (cs : List Choice) (ns : List (Vec ℕ Global)) → length ns ≡ length cs → map (λ (l : Leaf). l.tuple) (leaves_at v integers i cs ns) ≡ map (λ (c : Choice). c.tuple) cs
leaf_tuples v integers i [] [] long = refl
leaf_tuples v integers i [] (n ∷ ns) long = refl
leaf_tuples v integers i (c ∷ cs) [] long = absurd (omega arith)
leaf_tuples v integers i (c ∷ cs) (n ∷ ns) long = ap (λ (ts : List (List ℕ)). c.tuple ∷ ts) (leaf_tuples v integers i cs ns (omega arith))

-- a leaf is that of a choice and the row of its number
pub leaf_from : (v : Node → Bool) (integers : List (List Node)) (i : ℕ) (cs : List Choice) (ns : List (Vec ℕ Global)) (l : Leaf) → Contains (leaves_at v integers i cs ns) l → (j : ℕ) × (c : Choice) × (n : Vec ℕ Global) × (slice_get cs j ≡ Some c) × (slice_get ns j ≡ Some n) × (l.tuple ≡ c.tuple) × (l.counts ≡ row_value v c.row i) × (l.integer ≡ integer_at v integers n.items i)
leaf_from v integers i [] [] l c = absurd (contains_none l c)
leaf_from v integers i [] (n ∷ ns) l c = absurd (contains_none l c)
leaf_from v integers i (c ∷ cs) [] l d = absurd (contains_none l d)
leaf_from v integers i (c ∷ cs) (n ∷ ns) l d = elim (contains_cases (record { tuple = c.tuple; counts = row_value v c.row i; integer = integer_at v integers n.items i }) (leaves_at v integers i cs ns) l d) [
  | inl same ↦ (zero, c, n, refl, refl, ap (λ (k : Leaf). k.tuple) (sym same), ap (λ (k : Leaf). k.counts) (sym same), ap (λ (k : Leaf). k.integer) (sym same))
  | inr later ↦ (let (j, b, m, at, at_n, tuple, counts, integer) = leaf_from v integers i cs ns l later in (suc j, b, m, at, at_n, tuple, counts, integer))
]

pub leaf_of : (v : Node → Bool) (integers : List (List Node)) (i : ℕ) (cs : List Choice) (ns : List (Vec ℕ Global)) (c : Choice) → length ns ≡ length cs → Contains cs c → (l : Leaf) × Contains (leaves_at v integers i cs ns) l × (l.tuple ≡ c.tuple) × (l.counts ≡ row_value v c.row i)
leaf_of v integers i [] ns c long there = absurd (contains_none c there)
leaf_of v integers i (b ∷ cs) [] c long there = absurd (omega arith)
leaf_of v integers i (b ∷ cs) (n ∷ ns) c long there =
    let leaf : Leaf = record { tuple = b.tuple; counts = row_value v b.row i; integer = integer_at v integers n.items i } in
    elim (contains_cases b cs c there) [
      | inl same ↦ (leaf, contains_first leaf (leaves_at v integers i cs ns), ap (λ (d : Choice). d.tuple) same, ap (λ (d : Choice). row_value v d.row i) same)
      | inr later ↦ (let (l, at, tuple, counts) = leaf_of v integers i cs ns c (omega arith) later in (l, contains_later leaf (leaves_at v integers i cs ns) l at, tuple, counts))
    ]

-- ---- the circuit's sums

-- an integer that stands
pub integer_is : (v : Node → Bool) (integers : List (List Node)) (row : List ℕ) (i k : ℕ) (b : List Node) → slice_get row i ≡ Some k → slice_get integers k ≡ Some b → integer_at v integers row i ≡ signed v b
integer_is v integers row i k b at stands = ap (λ (o : Option ℕ). numbered v integers o) at ∙ ap (λ (o : Option (List Node)). signed_of v o) stands

pub rows_at : (P : Node → Type 0) (cs : List Choice) (k : ℕ) (c : Choice) → slice_get cs k ≡ Some c → AllRows P cs → AllIn P c.row
rows_at P cs k c at rows = subst (λ (d : Choice). AllIn P d.row) (get_or_from_slice_get cs k c c at) (rows k c (slice_get_within cs k c at))

leaves_none : (v : Node → Bool) (integers : List (List Node)) (i : ℕ) (cs : List Choice) → leaves_at v integers i cs [] ≡ []
leaves_none v integers i [] = refl
leaves_none v integers i (c ∷ cs) = refl

-- one more row of numbers
leaves_push : (v : Node → Bool) (integers : List (List Node)) (i : ℕ) (cs : List Choice) (ns : List (Vec ℕ Global)) (c : Choice) (n : Vec ℕ Global) → slice_get cs (length ns) ≡ Some c
    → leaves_at v integers i cs (ns ++ n ∷ []) ≡ leaves_at v integers i cs ns ++ leaf_with c.tuple (row_value v c.row i) (integer_at v integers n.items i) ∷ []
leaves_push v integers i [] [] c n at = absurd cc
leaves_push v integers i [] (m ∷ ns) c n at = absurd cc
leaves_push v integers i (d ∷ cs) [] c n at =
    let same : d ≡ c = cc in
    ap (λ (ls : List Leaf). leaf_with d.tuple (row_value v d.row i) (integer_at v integers n.items i) ∷ ls) (leaves_none v integers i cs)
    ∙ ap (λ (e : Choice). leaf_with e.tuple (row_value v e.row i) (integer_at v integers n.items i) ∷ []) same
leaves_push v integers i (d ∷ cs) (m ∷ ns) c n at = ap (λ (ls : List Leaf). leaf_with d.tuple (row_value v d.row i) (integer_at v integers m.items i) ∷ ls) (leaves_push v integers i cs ns c n at)

-- in a later circuit and a longer store
leaves_same : (v w : Node → Bool) (a b : List (List Node)) (i : ℕ) (cs : List Choice) (ns : List (Vec ℕ Global)) → ((k : ℕ) (c : Choice) → slice_get cs k ≡ Some c → row_value w c.row i ≡ row_value v c.row i) → ((j : ℕ) (n : Vec ℕ Global) → slice_get ns j ≡ Some n → integer_at w b n.items i ≡ integer_at v a n.items i)
    → leaves_at w b i cs ns ≡ leaves_at v a i cs ns
leaves_same v w a b i [] [] rows stands = refl
leaves_same v w a b i [] (n ∷ ns) rows stands = refl
leaves_same v w a b i (c ∷ cs) [] rows stands = refl
leaves_same v w a b i (c ∷ cs) (n ∷ ns) rows stands =
    ap (λ (t : Bool). leaf_with c.tuple t (integer_at w b n.items i) ∷ leaves_at w b i cs ns) (rows zero c refl)
    ∙ ap (λ (z : ℤ). leaf_with c.tuple (row_value v c.row i) z ∷ leaves_at w b i cs ns) (stands zero n refl)
    ∙ ap (λ (ls : List Leaf). leaf_with c.tuple (row_value v c.row i) (integer_at v a n.items i) ∷ ls) (leaves_same v w a b i cs ns (λ k d at. rows (suc k) d at) (λ j m at. stands (suc j) m at))

behind_none : (z : ℤ) → z +ℤ pos 0 ≡ pos 0 +ℤ z
behind_none z = +ℤ_comm z (pos 0)

regrouped : (a t l : ℤ) → a +ℤ (t +ℤ l) ≡ (a +ℤ t) +ℤ l
regrouped a t l = sym (+ℤ_assoc a t l)

total_push : (ls : List Leaf) (l : Leaf) → total_of (ls ++ l ∷ []) ≡ total_of ls +ℤ where_true l.counts l.integer
total_push [] l = behind_none (where_true l.counts l.integer)
total_push (m ∷ ls) l = ap (λ (z : ℤ). where_true m.counts m.integer +ℤ z) (total_push ls l) ∙ regrouped (where_true m.counts m.integer) (total_of ls) (where_true l.counts l.integer)

-- no choices yet
pub sums_none : (value : (ℕ → Bool) → Node → Bool) (integers : List (List Node)) (width many : ℕ) (cs : List Choice) (ns : List (Vec ℕ Global)) (totals : List ℕ) → ns ≡ [] → IsSame value integers width (pos 0) many totals → AreSums value value integers integers width cs ns many totals
sums_none value integers width many cs ns totals none (s, long, is, stands) = subst (λ (ms : List (Vec ℕ Global)). AreSums value value integers integers width cs ms many totals) (sym none) (λ i lt.
    let (k, at, here) = stands i lt in
    (k, at, (s, here, long, λ x. is x ∙ ap (λ (ls : List Leaf). wrap width (total_of ls)) (sym (leaves_none (value x) integers i cs)))))

pub stand_none : (integers : List (List Node)) (ns : List (Vec ℕ Global)) (many : ℕ) → ns ≡ [] → AllStand integers ns many
stand_none integers ns many none = subst (λ (ms : List (Vec ℕ Global)). AllStand integers ms many) (sym none) (λ j n at. absurd (let lt = slice_get_within [] j n at in omega (arith, lt)))

module _ {S : Type 0} (belongs : S → Node → Type 0) (value : S → (ℕ → Bool) → Node → Bool) where
  -- sums at more places
  pub added_more : (first now later : S) (a b d : Store) (row : List Node) (totals made : List ℕ) (place k : ℕ) (numbers more : List ℕ) → Keeps belongs value first now → Keeps belongs value now later → AreStored (belongs first) a → AreStored (belongs now) b → Extends a b → Extends b d → AllIn (belongs first) row → length numbers ≡ place → more ≡ numbers ++ k ∷ []
      → SumsAt (value now) (value later) b.integers.items d.integers.items row totals made place k → AreAdded (value first) (value now) a.integers.items b.integers.items row totals made place numbers → AreAdded (value first) (value later) a.integers.items d.integers.items row totals made (place + 1) more
  added_more first now later a b d row totals made place k numbers more keeps more_keeps stored stored_b extends extends_b in_row long is adds added i lt = elim (cases_lt i place) [
    | inl less ↦ (let (n, at, (o, at_o, q, stands_q, sums)) = added i less in (
      n,
      ap (λ (ns : List ℕ). slice_get ns i) is ∙ push_kept numbers k i n at,
      (
        o,
        at_o,
        q,
        extends_b.integers o q stands_q,
        λ m p at_m at_p.
            let (s, stands, same, value_is) = sums m p at_m at_p in (
              s,
              extends_b.integers n s stands,
              same,
              λ x.
                  signed_kept belongs value now later more_keeps s (int_belongs (belongs now) b.integers.items n s stored_b.integers stands) x ∙ value_is x
                  ∙ ap (λ (z : ℤ). wrap (length p) (signed (value first x) p +ℤ where_true (row_value (value first x) row i) z)) (sym (signed_kept belongs value now later more_keeps q (int_belongs (belongs now) b.integers.items o q stored_b.integers stands_q) x)),
            ),
      ),
    ))
    | inr ge ↦ (let same : place ≡ i = omega (arith, lt, ge) in
        let (o, at_o, q, stands_q, sums) = adds in
        subst (λ (j : ℕ). (n : ℕ) × (slice_get more j ≡ Some n) × SumsAt (value first) (value later) a.integers.items d.integers.items row totals made j n) same (
          k,
          ap (λ (ns : List ℕ). slice_get ns place) is ∙ push_at numbers k place (sym long),
          (
            o,
            at_o,
            q,
            stands_q,
            λ m p at_m at_p.
                let (s, stands, wide, value_is) = sums m p at_m (extends.integers m p at_p) in (
                  s,
                  stands,
                  wide,
                  λ x.
                      value_is x
                      ∙ ap (λ (z : ℤ). wrap (length p) (z +ℤ where_true (row_value (value now x) row place) (signed (value later x) q))) (signed_kept belongs value first now keeps p (int_belongs (belongs first) a.integers.items m p stored.integers at_p) x)
                      ∙ ap (λ (c : Bool). wrap (length p) (signed (value first x) p +ℤ where_true c (signed (value later x) q))) (row_kept belongs value first now keeps row in_row x place),
                ),
          ),
        ))
  ]

  -- one choice more: h after its integers, with the store d, i after the sums, with e
  pub sums_turn : (g h i : S) (b d e : Store) (cs : List Choice) (ns more : List (Vec ℕ Global)) (c : Choice) (n : Vec ℕ Global) (width place many : ℕ) (totals numbers : List ℕ) → Keeps belongs value g h → Keeps belongs value h i → AreStored (belongs g) b → Extends b d → Extends d e → AllRows (belongs g) cs → slice_get cs place ≡ Some c → length ns ≡ place → more ≡ ns ++ n ∷ [] → AllStand b.integers.items ns many
      → AreSums (value g) (value g) b.integers.items b.integers.items width cs ns many totals → AreAdded (value h) (value i) d.integers.items e.integers.items c.row totals n.items many numbers → AreSums (value i) (value i) e.integers.items e.integers.items width cs more many numbers
  sums_turn g h i b d e cs ns more c n width place many totals numbers k_gh k_hi stored ex_bd ex_de rows at long is stand sums added p lt =
      let (k, at_k, (o, at_o, q, stands_q, adds)) = added p lt in
      let (m, at_m, (s, stands_s, long_s, sum_s)) = sums p lt in
      let (t, stands_t, long_t, value_t) = adds m s at_m (ex_bd.integers m s stands_s) in
      let k_gi = keeps_trans belongs value g h i k_gh k_hi in
      let in_s = int_belongs (belongs g) b.integers.items m s stored.integers stands_s in
      let at_c : slice_get cs (length ns) ≡ Some c = ap (λ (j : ℕ). slice_get cs j) long ∙ at in
      let row_h = rows_at (belongs h) cs place c at (rows_kept belongs value g h k_gh cs rows) in (
        k,
        at_k,
        (
          t,
          stands_t,
          long_t ∙ long_s,
          λ x.
              let z = where_true (row_value (value h x) c.row p) (signed (value i x) q) in
              let old = leaves_at (value g x) b.integers.items p cs ns in
              let new = leaves_at (value i x) e.integers.items p cs ns in
              let row_is : row_value (value i x) c.row p ≡ row_value (value h x) c.row p = row_kept belongs value h i k_hi c.row row_h x p in
              let integer = integer_is (value i x) e.integers.items n.items p o q at_o stands_q in
              let same : new ≡ old = leaves_same (value g x) (value i x) b.integers.items e.integers.items p cs ns
              (λ j a at_a. row_kept belongs value g i k_gi a.row (rows_at (belongs g) cs j a at_a rows) x p)
              (λ j a at_a.
              let (l, at_l, y, stands_y) = stand j a at_a p lt in
              integer_is (value i x) e.integers.items a.items p l y at_l (ex_de.integers l y (ex_bd.integers l y stands_y))
              ∙ signed_kept belongs value g i k_gi y (int_belongs (belongs g) b.integers.items l y stored.integers stands_y) x
              ∙ sym (integer_is (value g x) b.integers.items a.items p l y at_l stands_y)) in
              value_t x
              ∙ ap (λ (w : ℕ). wrap w (signed (value h x) s +ℤ z)) long_s
              ∙ ap (λ (y : ℤ). wrap width (y +ℤ z)) (signed_kept belongs value g h k_gh s in_s x ∙ sum_s x)
              ∙ wrap_more width (total_of old) z
              ∙ ap (λ (ls : List Leaf). wrap width (total_of ls +ℤ z)) (sym same)
              ∙ ap (λ (y : Bool). wrap width (total_of new +ℤ where_true y (signed (value i x) q))) (sym row_is)
              ∙ ap (λ (y : ℤ). wrap width (total_of new +ℤ where_true (row_value (value i x) c.row p) y)) (sym integer)
              ∙ ap (λ (y : ℤ). wrap width y) (sym (total_push new (leaf_with c.tuple (row_value (value i x) c.row p) (integer_at (value i x) e.integers.items n.items p))))
              ∙ ap (λ (ls : List Leaf). wrap width (total_of ls)) (sym (leaves_push (value i x) e.integers.items p cs ns c n at_c))
              ∙ ap (λ (ms : List (Vec ℕ Global)). wrap width (total_of (leaves_at (value i x) e.integers.items p cs ms))) (sym is),
        ),
      )

  pub stand_turn : (h i : S) (b d e : Store) (row : List Node) (ns more : List (Vec ℕ Global)) (n : Vec ℕ Global) (many : ℕ) (totals numbers : List ℕ) → Extends b d → Extends d e → more ≡ ns ++ n ∷ [] → AllStand b.integers.items ns many → AreAdded (value h) (value i) d.integers.items e.integers.items row totals n.items many numbers → AllStand e.integers.items more many
  stand_turn h i b d e row ns more n many totals numbers ex_bd ex_de is stand added j m at p lt = elim (push_cases ns n j m (ap (λ (ms : List (Vec ℕ Global)). slice_get ms j) (sym is) ∙ at)) [
    | inl before ↦ (let (o, at_o, q, stands) = stand j m before p lt in (o, at_o, q, ex_de.integers o q (ex_bd.integers o q stands)))
    | inr (last, same) ↦ (let (k, at_k, (o, at_o, q, stands, adds)) = added p lt in (o, ap (λ (v : Vec ℕ Global). slice_get v.items p) (sym same) ∙ at_o, q, stands))
  ]
