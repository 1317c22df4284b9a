-- Sets that are filled tuple by tuple, and column by column.
use Rattle.std.proofs.Common.{◌≡◌, ◌⊎◌, ◌↔◌, inl, inr, ℕ, ◌+◌, ◌<◌, ◌≤◌, Bool, true, false, IsTrue, List, [], ◌∷◌, ◌++◌, length, take, drop, get_or, slice_index, slice_index_or, All, Contains, refl, ap, sym, ◌∙◌, subst, arith}
use Rattle.std.proofs.lemmas.Bool.{cases_lt, false≢true, iff_false}
use Rattle.std.proofs.lemmas.List.{take_more}
use Rattle.std.proofs.lemmas.List.Elements.{All-nil, All-cons, All-contains, All-take, All-drop, Contains-get_or, Contains-push_cases, Contains-append_left, Contains-append_right, Contains-append_cases}
use Rattle.core_tuples.specs.Sets.{TupleList, In, HasJust, IsPaired}
use Rattle.core_tuples.specs.Index.{IsNumber}
use Rattle.core_tuples.proofs.OrderLemmas.{cons_cases, cons_here, no_members, take_all}
use Rattle.bound_uppers.specs.declared.numbers.AtomRange.{AtomRange}
use Rattle.bound_uppers.specs.declared.given.AtomSets.{AtomSets}
use Rattle.bound_uppers.specs.Kinds.{InSpan}
use Rattle.bound_uppers.specs.AtomSets.{set_at, InKinds, InRows, IsColumn, AreColumns}

-- a tuple of one number
pub number_fits : (a : ℕ) (tuple : List ℕ) → a < 16384 → tuple ≡ a ∷ [] → All IsNumber tuple
number_fits a tuple lt e = subst (λ (t : List ℕ). All IsNumber t) (sym e) (All-cons IsNumber a [] lt (All-nil IsNumber))

pub number_added : (a : ℕ) (tuple : List ℕ) (old new : TupleList) → old.arity ≡ 1 → tuple ≡ a ∷ [] → HasJust new old.arity (λ t. In t old ⊎ (t ≡ tuple)) → HasJust new 1 (λ t. In t old ⊎ (t ≡ a ∷ []))
number_added a tuple old new columns e is = subst (λ (n : ℕ). HasJust new n (λ t. In t old ⊎ (t ≡ a ∷ []))) columns (subst (λ (u : List ℕ). HasJust new old.arity (λ t. In t old ⊎ (t ≡ u))) e is)

-- the first numbers of a span, and one more
abbrev pub InFirst : ℕ → ℕ → List ℕ → Type 0
InFirst first count t = (a : ℕ) × (first ≤ a) × (a < first + count) × (t ≡ a ∷ [])

none_first : (first : ℕ) (t : List ℕ) → Contains {X = List ℕ} [] t ↔ InFirst first 0 t
none_first first t = ((λ h. absurd (no_members t h)), (λ h. let low = h.1 in let high = h.2 in absurd (omega (arith, low, high))))

pub span_none : (first : ℕ) (set : TupleList) → set ≡ record { arity = 1; tuples = [] } → HasJust set 1 (InFirst first 0)
span_none first set e = subst (λ (s : TupleList). HasJust s 1 (InFirst first 0)) (sym e) (record { columns = refl; just = none_first first })

last_or : (first count a : ℕ) (t : List ℕ) → first ≤ a → a < first + (count + 1) → t ≡ a ∷ [] → (a < first + count) ⊎ (first + count ≤ a) → InFirst first count t ⊎ (t ≡ (first + count) ∷ [])
last_or first count a t low high is (inl less) = inl (a, low, less, is)
last_or first count a t low high is (inr far) = let same : a ≡ first + count = omega (arith, high, far) in inr (is ∙ ap (λ (n : ℕ). n ∷ []) same)

pub span_more : (first count : ℕ) (old new : TupleList) → HasJust old 1 (InFirst first count) → HasJust new 1 (λ t. In t old ⊎ (t ≡ (first + count) ∷ [])) → HasJust new 1 (InFirst first (count + 1))
span_more first count old new was added = record {
  columns = added.columns;
  just = λ t. (
    (λ h. elim ((added.just t).0 h) [
      | inl before ↦ let f = (was.just t).0 before in let high = f.2 in (f.0, f.1, omega (arith, high), f.3)
      | inr is ↦ (first + count, omega arith, omega arith, is)
    ]),
    (λ h. elim (last_or first count h.0 t h.1 h.2 h.3 (cases_lt h.0 (first + count))) [ inl before ↦ (added.just t).1 (inl ((was.just t).1 before)) | inr is ↦ (added.just t).1 (inr is) ]),
  );
}

pub span_just : (span : AtomRange) (set : TupleList) (count : ℕ) → span.count ≤ count → count ≤ span.count → HasJust set 1 (InFirst span.first count) → HasJust set 1 (λ t. (a : ℕ) × InSpan span a × (t ≡ a ∷ []))
span_just span set count low high was = record {
  columns = was.columns;
  just = λ t. (
    (λ h. let f = (was.just t).0 h in let less = f.2 in (f.0, (f.1, omega (arith, less, high)), f.3)),
    (λ h. let less = h.1.1 in (was.just t).1 (h.0, h.1.0, omega (arith, less, low), h.2)),
  );
}

-- ---- column by column

one_of : (t : List ℕ) → length t ≡ 1 → (a : ℕ) × (t ≡ a ∷ [])
one_of [] e = absurd (omega (arith, e))
one_of (a ∷ []) e = (a, refl)
one_of (a ∷ b ∷ t) e = absurd (omega (arith, e))

-- a tuple of a set of one column has one number
pub member_one : (set : TupleList) (t : List ℕ) → IsColumn set → In t set → (a : ℕ) × (t ≡ a ∷ [])
member_one set t is h = one_of t (All-contains (λ (u : List ℕ). length u ≡ set.arity) set.tuples t is.0.columns h ∙ is.1)

kind_back : (sets : AtomSets) (k : ℕ) (t : List ℕ) → InKinds sets (k ∷ []) t → In t (set_at sets k)
kind_back sets k [] h = absurd h
kind_back sets k (a ∷ []) h = h.0
kind_back sets k (a ∷ b ∷ t) h = absurd h.1

-- the tuples of one column of a kind
pub kind_of_set : (sets : AtomSets) (k : ℕ) (found : TupleList) → AreColumns sets → found ≡ set_at sets k → HasJust found 1 (InKinds sets (k ∷ []))
kind_of_set sets k found columns e =
    subst (λ (set : TupleList). HasJust set 1 (InKinds sets (k ∷ []))) (sym e) (record {
      columns = (columns k).1;
      just = λ t. (
        (λ h.
            let f = member_one (set_at sets k) t (columns k) h in
            subst (InKinds sets (k ∷ [])) (sym f.1) (subst (λ (u : List ℕ). In u (set_at sets k)) f.1 h, tt)),
        (λ h. kind_back sets k t h),
      );
    })

pub kind_just : (sets : AtomSets) (k : ℕ) (found set : TupleList) → AreColumns sets → found ≡ set_at sets k → set ≡ found → HasJust set 1 (InKinds sets (k ∷ []))
kind_just sets k found set columns e same = kind_of_set sets k set columns (same ∙ e)

split_kinds : (sets : AtomSets) (ks : List ℕ) (k : ℕ) (t : List ℕ) → InKinds sets (ks ++ k ∷ []) t → (s u : List ℕ) × InKinds sets ks s × InKinds sets (k ∷ []) u × (t ≡ s ++ u)
split_kinds sets [] k t h = ([], t, tt, h, refl)
split_kinds sets (j ∷ ks) k [] h = absurd h
split_kinds sets (j ∷ ks) k (a ∷ t) h =
    let rest = split_kinds sets ks k t h.1 in
    (a ∷ rest.0, rest.1, (h.0, rest.2), rest.3, ap (λ (u : List ℕ). a ∷ u) rest.4)

join_kinds : (sets : AtomSets) (ks : List ℕ) (k : ℕ) (s u : List ℕ) → InKinds sets ks s → InKinds sets (k ∷ []) u → InKinds sets (ks ++ k ∷ []) (s ++ u)
join_kinds sets [] k [] u h g = g
join_kinds sets [] k (a ∷ s) u h g = absurd h
join_kinds sets (j ∷ ks) k [] u h g = absurd h
join_kinds sets (j ∷ ks) k (a ∷ s) u h g = (h.0, join_kinds sets ks k s u h.1 g)

-- one column more
pub kinds_more : (sets : AtomSets) (row : List ℕ) (n k : ℕ) (old column new : TupleList) → n < length row → k ≡ slice_index row n → HasJust old n (InKinds sets (take n row)) → HasJust column 1 (InKinds sets (k ∷ [])) → HasJust new (old.arity + column.arity) (IsPaired old column) → HasJust new (n + 1) (InKinds sets (take (n + 1) row))
kinds_more sets row n k old column new lt is was one paired =
    let longer : take (n + 1) row ≡ take n row ++ k ∷ [] = take_more row n 0 lt ∙ ap (λ (c : ℕ). take n row ++ c ∷ []) (sym is) in
    let first = was.columns in
    let second = one.columns in
    let both = paired.columns in
    record {
      columns = omega (arith, first, second, both);
      just = λ t. (
        (λ h.
            let f = (paired.just t).0 h in
            let whole : InKinds sets (take n row ++ k ∷ []) (f.0 ++ f.1) = join_kinds sets (take n row) k f.0 f.1 ((was.just f.0).0 f.2) ((one.just f.1).0 f.3) in
            subst (λ (ks : List ℕ). InKinds sets ks t) (sym longer) (subst (InKinds sets (take n row ++ k ∷ [])) (sym f.4) whole)),
        (λ h.
            let f = split_kinds sets (take n row) k t (subst (λ (ks : List ℕ). InKinds sets ks t) longer h) in
            (paired.just t).1 (f.0, f.1, (was.just f.0).1 f.2, (one.just f.1).1 f.3, f.4)),
      );
    }

pub first_kind : (sets : AtomSets) (row : List ℕ) (k : ℕ) (set : TupleList) → 1 ≤ length row → k ≡ slice_index row 0 → HasJust set 1 (InKinds sets (k ∷ [])) → HasJust set 1 (InKinds sets (take 1 row))
first_kind sets [] k set le e is = absurd (omega arith)
first_kind sets (j ∷ []) k set le e is = subst (λ (n : ℕ). HasJust set 1 (InKinds sets (n ∷ []))) e is
first_kind sets (j ∷ i ∷ row) k set le e is = subst (λ (n : ℕ). HasJust set 1 (InKinds sets (n ∷ []))) e is

pub whole_row : (sets : AtomSets) (row : List ℕ) (n : ℕ) (set : TupleList) → length row ≤ n → n ≤ length row → HasJust set n (InKinds sets (take n row)) → HasJust set (length row) (InKinds sets row)
whole_row sets row n set low high is =
    let same : n ≡ length row = omega (arith, low, high) in
    subst (λ (m : ℕ). HasJust set m (InKinds sets row)) same (subst (λ (ks : List ℕ). HasJust set n (InKinds sets ks)) (take_all row n low) is)

-- ---- row by row

pub rows_none : (sets : AtomSets) (arity : ℕ) (rows : List (List ℕ)) (set : TupleList) → length rows ≡ 0 → set ≡ record { arity = arity; tuples = [] } → HasJust set arity (InRows sets rows)
rows_none sets arity [] set none e = subst (λ (s : TupleList). HasJust s arity (InRows sets [])) (sym e) (record {
  columns = refl;
  just = λ t. ((λ h. absurd (no_members t h)), (λ h. absurd (no_members h.0 h.1)));
})
rows_none sets arity (row ∷ rows) set none e = absurd (omega (arith, none))

only_row : (sets : AtomSets) (row t : List ℕ) → InRows sets (row ∷ []) t → InKinds sets row t
only_row sets row t h = elim (cons_cases row [] h.0 h.1) [ inl is ↦ subst (λ (ks : List ℕ). InKinds sets ks t) is h.2 | inr none ↦ absurd (no_members h.0 none) ]

pub rows_one : (sets : AtomSets) (arity : ℕ) (rows : List (List ℕ)) (row : List ℕ) (set : TupleList) → length rows ≡ 1 → row ≡ get_or rows 0 row → length row ≡ arity → HasJust set (length row) (InKinds sets row) → HasJust set arity (InRows sets rows)
rows_one sets arity [] row set one e columns is = absurd (omega (arith, one))
rows_one sets arity (r ∷ []) row set one e columns is =
    let same : row ≡ r = e in
    subst (λ (n : ℕ). HasJust set n (InRows sets (r ∷ []))) columns (record {
      columns = is.columns;
      just = λ t. (
        (λ h. (r, cons_here r [] r refl, subst (λ (ks : List ℕ). InKinds sets ks t) same ((is.just t).0 h))),
        (λ h. (is.just t).1 (subst (λ (ks : List ℕ). InKinds sets ks t) (sym same) (only_row sets r t h))),
      );
    })
rows_one sets arity (r ∷ q ∷ rows) row set one e columns is = absurd (omega (arith, one))

pub rows_both : (sets : AtomSets) (arity : ℕ) (rows left right : List (List ℕ)) (a b set : TupleList) → left ++ right ≡ rows → HasJust a arity (InRows sets left) → HasJust b arity (InRows sets right) → HasJust set a.arity (λ t. In t a ⊎ In t b) → HasJust set arity (InRows sets rows)
rows_both sets arity rows left right a b set e first second both =
    subst (λ (rs : List (List ℕ)). HasJust set arity (InRows sets rs)) e (record {
      columns = both.columns ∙ first.columns;
      just = λ t. (
        (λ h. elim ((both.just t).0 h) [
          | inl one ↦ let f = (first.just t).0 one in (f.0, Contains-append_left left right f.0 f.1, f.2)
          | inr two ↦ let f = (second.just t).0 two in (f.0, Contains-append_right left right f.0 f.1, f.2)
        ]),
        (λ h. elim (Contains-append_cases left right h.0 h.1) [
          | inl one ↦ (both.just t).1 (inl ((first.just t).1 (h.0, one, h.2)))
          | inr two ↦ (both.just t).1 (inr ((second.just t).1 (h.0, two, h.2)))
        ]),
      );
    })

pub left_rows : (arity k : ℕ) (rows left : List (List ℕ)) → left ≡ take k rows → All (λ r. length r ≡ arity) rows → All (λ r. length r ≡ arity) left
left_rows arity k rows left e all = subst (λ (rs : List (List ℕ)). All (λ (r : List ℕ). length r ≡ arity) rs) (sym e) (All-take (λ (r : List ℕ). length r ≡ arity) k rows all)

pub right_rows : (arity k : ℕ) (rows right : List (List ℕ)) → right ≡ drop k rows → All (λ r. length r ≡ arity) rows → All (λ r. length r ≡ arity) right
right_rows arity k rows right e all = subst (λ (rs : List (List ℕ)). All (λ (r : List ℕ). length r ≡ arity) rs) (sym e) (All-drop (λ (r : List ℕ). length r ≡ arity) k rows all)

pub row_columns : (arity k : ℕ) (rows : List (List ℕ)) (row : List ℕ) → k < length rows → row ≡ get_or rows k row → All (λ r. length r ≡ arity) rows → length row ≡ arity
row_columns arity k rows row lt e all = ap length e ∙ all k row lt

-- ---- rows of one column

pub row_holds_just : (sets : AtomSets) (row t : List ℕ) (set : TupleList) (b : Bool) → AreColumns sets → length row ≡ 1 → set ≡ set_at sets (slice_index row 0) → (IsTrue b ↔ In t set) → IsTrue b ↔ InKinds sets row t
row_holds_just sets [] t set b columns one e its = absurd (omega (arith, one))
row_holds_just sets (k ∷ []) t set b columns one e its =
    let is = (kind_of_set sets k set columns e).just t in
    ((λ h. is.0 (its.0 h)), (λ h. its.1 (is.1 h)))
row_holds_just sets (k ∷ j ∷ row) t set b columns one e its = absurd (omega (arith, one))

-- none of the first rows has the tuple
abbrev pub HoldsNone : AtomSets → List (List ℕ) → List ℕ → Type 0
HoldsNone sets rows t = ¬ (InRows sets rows t)

pub holds_none : (sets : AtomSets) (rows : List (List ℕ)) (t : List ℕ) → HoldsNone sets (take 0 rows) t
holds_none sets [] t = λ h. no_members h.0 h.1
holds_none sets (row ∷ rows) t = λ h. no_members h.0 h.1

pub holds_one : (sets : AtomSets) (rows : List (List ℕ)) (k : ℕ) (row t : List ℕ) → k < length rows → row ≡ slice_index_or rows k row → InKinds sets row t → InRows sets rows t
holds_one sets rows k row t lt e is = (row, subst (λ (r : List ℕ). Contains rows r) (sym e) (Contains-get_or rows k row lt), is)

pub holds_yes : (sets : AtomSets) (rows : List (List ℕ)) (k : ℕ) (row t : List ℕ) (b : Bool) → k < length rows → row ≡ get_or rows k row → b ≡ true → IsTrue b ↔ InKinds sets row t → IsTrue true ↔ InRows sets rows t
holds_yes sets rows k row t b lt e on its = ((λ h. holds_one sets rows k row t lt e (its.0 on)), (λ h. refl))

pub holds_more : (sets : AtomSets) (rows : List (List ℕ)) (k : ℕ) (row t : List ℕ) (b : Bool) → k < length rows → row ≡ get_or rows k row → b ≡ false → IsTrue b ↔ InKinds sets row t → HoldsNone sets (take k rows) t → HoldsNone sets (take (k + 1) rows) t
holds_more sets rows k row t b lt e off its was =
    let not = iff_false its off in
    let longer : take (k + 1) rows ≡ take k rows ++ row ∷ [] = take_more rows k row lt ∙ ap (λ (c : List ℕ). take k rows ++ c ∷ []) (sym e) in
    subst (λ (rs : List (List ℕ)). HoldsNone sets rs t) (sym longer) (λ h. elim (Contains-push_cases (take k rows) row h.0 h.1) [
      | inl before ↦ was (h.0, before, h.2)
      | inr is ↦ not (subst (λ (r : List ℕ). InKinds sets r t) (sym is) h.2)
    ])

pub holds_not : (sets : AtomSets) (rows : List (List ℕ)) (k : ℕ) (t : List ℕ) → length rows ≤ k → HoldsNone sets (take k rows) t → IsTrue false ↔ InRows sets rows t
holds_not sets rows k t le was =
    let none : HoldsNone sets rows t = subst (λ (rs : List (List ℕ)). HoldsNone sets rs t) (take_all rows k le) was in
    ((λ h. absurd (false≢true h)), (λ h. absurd (none h)))
