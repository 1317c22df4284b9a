-- How many variables a table by the top-level sigs has.
use Rattle.std.proofs.Common.{◌≡◌, ◌⊎◌, inl, inr, ℕ, zero, suc, ◌+◌, ◌-◌, ◌*◌, ◌^◌, ◌<◌, ◌≤◌, Bool, true, false, ◌||◌, nat_lt, eqb, if◌then◌else◌, List, [], ◌∷◌, ◌++◌, length, map, take, get_or, slice_get, slice_index, Option, Some, None, Contains, refl, ap, sym, ◌∙◌, subst, arith}
use Rattle.std.specs.Prelude.{fold, min, sum_by}
use Rattle.std.specs.List.Sorted.{IsStrictlySortedBy}
use Rattle.std.specs.declared.cmp.Ordering.TheVariants.{Less}
use Rattle.std.proofs.lemmas.Bool.{cases_lt, false≢true}
use Rattle.std.proofs.lemmas.Bool.Decides.{nat_tests}
use Rattle.std.proofs.lemmas.List.Elements.{All-contains, All-from_recursion, Contains-append_left, Contains-append_right, Contains-append_cases}
use Rattle.std.proofs.lemmas.List.Sums.{sum_by-cons, sum_by-append, sum_by_more, fold_more}
use Rattle.std.proofs.Math.Nat.{mul-zero}
use Rattle.std.proofs.lemmas.Nat.{mul-le}
use Rattle.std.proofs.lemmas.Option.{slice_get_read}
use Rattle.core_tuples.specs.Sets.{tuple_cmp, is_same}
use Rattle.core_tuples.specs.Merged.{has}
use Rattle.core_tuples.proofs.OrderLemmas.{cons_cases, cons_here, cons_later, no_members, take_all, not_below_itself}
use Rattle.core_tuples.proofs.OrderedLemmas.{same_exact, same_itself}
use Rattle.core_tree.specs.Columns.{or_zero}
use Rattle.core_tree.specs.declared.model.Model.{Model}
use Rattle.core_tree.specs.declared.model.Sig.{Sig}
use Rattle.core_tree.specs.declared.model.Column.{Column}
use Rattle.core_tree.specs.declared.model.Column.TheVariants.{Sig as SigColumn, Int as IntColumn}
use Rattle.core_tree.specs.Types.{TypeRows, by_sig, sig_rows}
use Rattle.core_meaning.specs.declared.scopes.Scopes.{Scopes}
use Rattle.core_meaning.specs.declared.scopes.SigScope.{SigScope}
use Rattle.core_meaning.specs.Kept.{first_atom, or_zero_number, universe_size}
use Rattle.bound_owners.specs.Tops.{HasTops}
use Rattle.bound_uppers.specs.declared.numbers.AtomRange.{AtomRange}
use Rattle.bound_uppers.specs.declared.numbers.AtomRanges.{AtomRanges}
use Rattle.bound_uppers.specs.Kinds.{integers_kind, no_span, spans_from, sig_kind, kind_at, row_kinds_of, rows_kinds_of, HasRows, HasSpans}
use Rattle.bound_uppers.proofs.Spanning.{span_at_place, span_lacks}
use Rattle.bound_uppers.specs.Counts.{atoms_given, capped, distinct, row_count, rows_count, kind_count, span_count, is_literal, top_kind, top_rows, type_count, over_states, sig_count, sigs_count, table_size, IsLarge, IsSmall}

-- ---- numbers as they are kept

cap : ℕ → ℕ → ℕ
cap m n = min n m

cap_below : (m n : ℕ) → n < m → cap m n ≡ n
unfolding cap
cap_below m n lt = omega arith

cap_above : (m n : ℕ) → m ≤ n → cap m n ≡ m
unfolding cap
cap_above m n le = omega arith

cap_sum : (m x y : ℕ) → cap m (cap m x + cap m y) ≡ cap m (x + y)
cap_sum m x y = elim (cases_lt x m) [
  | inl low ↦ elim (cases_lt y m) [
    | inl small ↦ let e = cap_below m x low in let f = cap_below m y small in ap (λ (n : ℕ). cap m (n + cap m y)) e ∙ ap (λ (n : ℕ). cap m (x + n)) f
    | inr large ↦ let f = cap_above m y large in cap_above m (cap m x + cap m y) (omega (arith, f)) ∙ sym (cap_above m (x + y) (omega arith))
  ]
  | inr high ↦ let e = cap_above m x high in cap_above m (cap m x + cap m y) (omega (arith, e)) ∙ sym (cap_above m (x + y) (omega arith))
]

times_more : (m x y : ℕ) → m ≤ x → m ≤ x * suc y
times_more m x y le = let more = mul-le m 1 x (suc y) le (omega arith) in omega (arith, more)

cap_product : (m x y : ℕ) → cap m (cap m x * y) ≡ cap m (x * y)
cap_product m x zero = ap (λ (n : ℕ). cap m n) (mul-zero (cap m x) ∙ sym (mul-zero x))
cap_product m x (suc y) = elim (cases_lt x m) [
  | inl low ↦ ap (λ (n : ℕ). cap m (n * suc y)) (cap_below m x low)
  | inr high ↦
      let e = cap_above m x high in
      cap_above m (cap m x * suc y) (times_more m (cap m x) y (omega (arith, e))) ∙ sym (cap_above m (x * suc y) (times_more m x y high))
]

pub capped_sum : (a b x y r : ℕ) → r ≡ min (a + b) 18446744073709551615 → a ≡ capped x → b ≡ capped y → r ≡ capped (x + y)
unfolding cap
capped_sum a b x y r is e f = is ∙ (ap (λ (n : ℕ). capped (n + b)) e ∙ (ap (λ (n : ℕ). capped (capped x + n)) f ∙ cap_sum 18446744073709551615 x y))

pub capped_product : (a b x r : ℕ) → r ≡ min (a * b) 18446744073709551615 → a ≡ capped x → r ≡ capped (x * b)
unfolding cap
capped_product a b x r is e = is ∙ (ap (λ (n : ℕ). capped (n * b)) e ∙ cap_product 18446744073709551615 x b)

-- ---- different rows

has_first : (ts : List (List ℕ)) (y t : List ℕ) (b : Bool) → is_same y t ≡ b → (has ts t ≡ true → Contains ts t) → b || has ts t ≡ true → Contains (y ∷ ts) t
has_first ts y t true e rest h = cons_here y ts t (sym (same_exact y t e))
has_first ts y t false e rest h = cons_later y ts t (rest h)

has_yes : (ts : List (List ℕ)) (t : List ℕ) → has ts t ≡ true → Contains ts t
has_yes [] t h = absurd (false≢true h)
has_yes (y ∷ ts) t h = has_first ts y t (is_same y t) refl (λ g. has_yes ts t g) h

or_right : (b : Bool) → b || true ≡ true
or_right true = refl
or_right false = refl

has_it : (ts : List (List ℕ)) (t : List ℕ) → Contains ts t → has ts t ≡ true
has_it [] t h = absurd (no_members t h)
has_it (y ∷ ts) t h = elim (cons_cases y ts t h) [
  | inl is ↦ ap (λ (s : List ℕ). is_same s t || has ts t) (sym is) ∙ ap (λ (b : Bool). b || has ts t) (same_itself t)
  | inr rest ↦ ap (λ (b : Bool). is_same y t || b) (has_it ts t rest) ∙ or_right (is_same y t)
]

-- no two rows are equal
IsOnce : List (List ℕ) → Type 0
IsOnce [] = Unit {0}
IsOnce (x ∷ xs) = (Contains xs x → ⊥) × IsOnce xs

once_none : IsOnce []
unfolding IsOnce
once_none = tt

sorted_once : (xs : List (List ℕ)) → IsStrictlySortedBy tuple_cmp xs → IsOnce xs
unfolding IsStrictlySortedBy IsOnce
sorted_once [] s = tt
sorted_once (x ∷ xs) s = ((λ h. not_below_itself x (All-contains (λ y. tuple_cmp x y ≡ Less) xs x (All-from_recursion (λ y. tuple_cmp x y ≡ Less) xs s.0) h)), sorted_once xs s.1)

-- rows, with one more in front where it isn't among them
kept_cases : (b : Bool) (r t : List ℕ) (rs : List (List ℕ)) → Contains (if b then rs else r ∷ rs) t → (t ≡ r) ⊎ Contains rs t
kept_cases true r t rs h = inr h
kept_cases false r t rs h = cons_cases r rs t h

kept_later : (b : Bool) (r t : List ℕ) (rs : List (List ℕ)) → Contains rs t → Contains (if b then rs else r ∷ rs) t
kept_later true r t rs h = h
kept_later false r t rs h = cons_later r rs t h

kept_here : (b : Bool) (r t : List ℕ) (rs : List (List ℕ)) → (b ≡ true → Contains rs r) → t ≡ r → Contains (if b then rs else r ∷ rs) t
kept_here true r t rs h is = subst (λ (s : List ℕ). Contains rs s) (sym is) (h refl)
kept_here false r t rs h is = cons_here r rs t is

kept_once : (b : Bool) (r : List ℕ) (rs : List (List ℕ)) → (b ≡ false → Contains rs r → ⊥) → IsOnce rs → IsOnce (if b then rs else r ∷ rs)
unfolding IsOnce
kept_once true r rs apart once = once
kept_once false r rs apart once = (apart refl, once)

distinct_from : (rows : List (List ℕ)) (t : List ℕ) → Contains (distinct rows) t → Contains rows t
distinct_from [] t h = h
distinct_from (r ∷ rs) t h = elim (kept_cases (has rs r) r t (distinct rs) h) [
  | inl is ↦ cons_here r rs t is
  | inr rest ↦ cons_later r rs t (distinct_from rs t rest)
]

distinct_keeps : (rows : List (List ℕ)) (t : List ℕ) → Contains rows t → Contains (distinct rows) t
distinct_keeps [] t h = h
distinct_keeps (r ∷ rs) t h = elim (cons_cases r rs t h) [
  | inl is ↦ kept_here (has rs r) r t (distinct rs) (λ among. distinct_keeps rs r (has_yes rs r among)) is
  | inr rest ↦ kept_later (has rs r) r t (distinct rs) (distinct_keeps rs t rest)
]

distinct_once : (rows : List (List ℕ)) → IsOnce (distinct rows)
distinct_once [] = once_none
distinct_once (r ∷ rs) = kept_once (has rs r) r (distinct rs) (λ apart h. false≢true (sym apart ∙ has_it rs r (distinct_from rs r h))) (distinct_once rs)

-- ---- equal sums

-- a list with one of its members between what stands before and behind it
record Split (xs : List (List ℕ)) (x : List ℕ) : Type 0 where
  before : List (List ℕ)
  behind : List (List ℕ)
  is : xs ≡ before ++ x ∷ behind

split_at : (xs : List (List ℕ)) (x : List ℕ) → Contains xs x → Split xs x
split_at [] x h = absurd (no_members x h)
split_at (y ∷ xs) x h = elim (cons_cases y xs x h) [
  | inl is ↦ record { before = []; behind = xs; is = ap (λ (z : List ℕ). z ∷ xs) (sym is) }
  | inr rest ↦ let s = split_at xs x rest in record { before = y ∷ s.before; behind = s.behind; is = ap (λ (ys : List (List ℕ)). y ∷ ys) s.is }
]

more_of : (a b : List (List ℕ)) (x t : List ℕ) → Contains (a ++ b) t → Contains (a ++ x ∷ b) t
more_of a b x t h = elim (Contains-append_cases a b t h) [
  | inl first ↦ Contains-append_left a (x ∷ b) t first
  | inr second ↦ Contains-append_right a (x ∷ b) t (cons_later x b t second)
]

less_of : (a b : List (List ℕ)) (x t : List ℕ) → Contains (a ++ x ∷ b) t → (t ≡ x) ⊎ Contains (a ++ b) t
less_of a b x t h = elim (Contains-append_cases a (x ∷ b) t h) [
  | inl first ↦ inr (Contains-append_left a b t first)
  | inr second ↦ elim (cons_cases x b t second) [
    | inl is ↦ inl is
    | inr rest ↦ inr (Contains-append_right a b t rest)
  ]
]

once_without : (a b : List (List ℕ)) (x : List ℕ) → IsOnce (a ++ x ∷ b) → IsOnce (a ++ b)
unfolding IsOnce
once_without [] b x s = s.1
once_without (y ∷ a) b x s = ((λ h. s.0 (more_of a b x y h)), once_without a b x s.1)

alone : (a b : List (List ℕ)) (x : List ℕ) → IsOnce (a ++ x ∷ b) → Contains (a ++ b) x → ⊥
unfolding IsOnce
alone [] b x s h = s.0 h
alone (y ∷ a) b x s h = elim (cons_cases y (a ++ b) x h) [
  | inl is ↦ s.0 (Contains-append_right a (x ∷ b) y (cons_here x b y (sym is)))
  | inr rest ↦ alone a b x s.1 rest
]

middle_sum : (f : List ℕ → ℕ) (a b : List (List ℕ)) (x : List ℕ) → sum_by f (a ++ x ∷ b) ≡ f x + sum_by f (a ++ b)
middle_sum f a b x =
    let whole = sum_by-append f a (x ∷ b) in
    let first = sum_by-cons f x b in
    let rest = sum_by-append f a b in
    omega (arith, whole, first, rest)

none_of : (ys : List (List ℕ)) → HasRows [] ys → ys ≡ []
none_of [] h = refl
none_of (y ∷ ys) h = absurd (no_members y ((h y).1 (cons_here y ys y refl)))

same_sum : (f : List ℕ → ℕ) (xs ys : List (List ℕ)) → IsOnce xs → IsOnce ys → HasRows xs ys → sum_by f xs ≡ sum_by f ys
unfolding IsOnce
same_sum f [] ys s u h = sym (ap (λ (zs : List (List ℕ)). sum_by f zs) (none_of ys h))
same_sum f (x ∷ xs) ys s u h =
    let p = split_at ys x ((h x).0 (cons_here x xs x refl)) in
    let a = p.before in
    let b = p.behind in
    let once : IsOnce (a ++ x ∷ b) = subst (λ (zs : List (List ℕ)). IsOnce zs) p.is u in
    let there : (t : List ℕ) → Contains xs t → Contains (a ++ b) t = λ t g. rest_there t g (less_of a b x t (subst (λ (zs : List (List ℕ)). Contains zs t) p.is ((h t).0 (cons_later x xs t g)))) in
    let back : (t : List ℕ) → Contains (a ++ b) t → Contains xs t = λ t g. rest_back t a b once g (cons_cases x xs t ((h t).1 (subst (λ (zs : List (List ℕ)). Contains zs t) (sym p.is) (more_of a b x t g)))) in
    let rest = same_sum f xs (a ++ b) s.1 (once_without a b x once) (λ t. (there t, back t)) in
    sum_by-cons f x xs ∙ (ap (λ (n : ℕ). f x + n) rest ∙ (sym (middle_sum f a b x) ∙ sym (ap (λ (zs : List (List ℕ)). sum_by f zs) p.is)))
  where
    rest_there : (t : List ℕ) → Contains xs t → {B : Type 0} → (t ≡ x) ⊎ B → B
    rest_there t g (inl is) = absurd (s.0 (subst (λ (z : List ℕ). Contains xs z) is g))
    rest_there t g (inr more) = more

    rest_back : (t : List ℕ) (a b : List (List ℕ)) → IsOnce (a ++ x ∷ b) → Contains (a ++ b) t → (t ≡ x) ⊎ Contains xs t → Contains xs t
    rest_back t a b once g (inl is) = absurd (alone a b x once (subst (λ (z : List ℕ). Contains (a ++ b) z) is g))
    rest_back t a b once g (inr more) = more

-- ---- a type

map_same : {X Y : Type 0} (f g : X → Y) → ((x : X) → f x ≡ g x) → (xs : List X) → map f xs ≡ map g xs
map_same f g same [] = refl
map_same f g same (x ∷ xs) = let e = same x in let rest = map_same f g same xs in cc

sum_same : (f g : List ℕ → ℕ) → ((x : List ℕ) → f x ≡ g x) → (xs : List (List ℕ)) → sum_by f xs ≡ sum_by g xs
sum_same f g same [] = refl
sum_same f g same (x ∷ xs) = sum_by-cons f x xs ∙ (let e = same x in let rest = sum_same f g same xs in let more = sum_by-cons g x xs in cc)

fold_same : (f g : ℕ → ℕ) → ((k : ℕ) → f k ≡ g k) → (n : ℕ) (row : List ℕ) → fold (λ m k. m * f k) n row ≡ fold (λ m k. m * g k) n row
fold_same f g same n [] = refl
fold_same f g same n (k ∷ ks) = ap (λ (c : ℕ). fold (λ m k. m * f k) (n * c) ks) (same k) ∙ fold_same f g same (n * g k) ks

least_is : (n r : ℕ) → (if nat_lt n r then n else r) ≡ min n r
least_is n r = grind (arith, nat_tests)

none_given : (r : ℕ) → 0 ≡ min 0 r
none_given r = omega arith

given_is : (limit : ℕ) (xs : List SigScope) (k : ℕ) (o : Option SigScope) → slice_get xs k ≡ o → (get_or (spans_from limit 0 xs) k no_span).count ≡ min (or_zero_number o) (limit - first_atom xs k)
given_is limit xs k None e = ap (λ (s : AtomRange). s.count) (span_lacks limit 0 xs k no_span e) ∙ none_given (limit - first_atom xs k)
given_is limit xs k (Some x) e = ap (λ (s : AtomRange). s.count) (span_at_place limit xs k x no_span e) ∙ least_is (or_zero x.number) (limit - first_atom xs k)

counts_same : (scopes : Scopes) (spans : AtomRanges) → HasSpans scopes spans → (k : ℕ) → span_count spans k ≡ kind_count scopes k
counts_same scopes spans has k = by_kind (eqb k integers_kind)
  where
    by_kind : (b : Bool) → (if b then spans.integers else get_or spans.sigs.items k no_span).count ≡ (if b then 2 ^ scopes.bits else atoms_given scopes k)
    by_kind true = ap (λ (s : AtomRange). s.count) has.integers
    by_kind false = ap (λ (ss : List AtomRange). (get_or ss k no_span).count) has.sigs ∙ given_is (universe_size scopes) scopes.numbers k (slice_get scopes.numbers k) refl

tops_same : (sigs : List Sig) (scopes : Scopes) (ups : List ℕ) → HasTops sigs ups → (rows : TypeRows) → rows_kinds_of ups rows ≡ top_rows sigs rows
tops_same sigs scopes ups tops rows = map_same (row_kinds_of ups) (map (top_kind sigs)) (map_same (kind_at ups) (top_kind sigs) each) rows
  where
    each : (c : Column) → kind_at ups c ≡ top_kind sigs c
    each IntColumn = refl
    each (SigColumn s) = ap sig_kind (tops s)

-- what the rows of a type have together
pub type_is : (sigs : List Sig) (scopes : Scopes) (spans : AtomRanges) (ups : List ℕ) (rows : List (List ℕ)) (types : TypeRows) → HasTops sigs ups → HasSpans scopes spans → IsStrictlySortedBy tuple_cmp rows → HasRows rows (rows_kinds_of ups types) → rows_count (span_count spans) rows ≡ type_count sigs scopes types
type_is sigs scopes spans ups rows types tops spanned sorted has =
    let all = top_rows sigs types in
    let mine = subst (λ (rs : List (List ℕ)). HasRows rows rs) (tops_same sigs scopes ups tops types) has in
    let same : HasRows rows (distinct all) = λ t. ((λ h. distinct_keeps all t ((mine t).0 h)), (λ h. (mine t).1 (distinct_from all t h))) in
    same_sum (row_count (span_count spans)) rows (distinct all) (sorted_once rows sorted) (distinct_once all) same
    ∙ sum_same (row_count (span_count spans)) (row_count (kind_count scopes)) (fold_same (span_count spans) (kind_count scopes) (counts_same scopes spans spanned) 1) (distinct all)

-- ---- loops

pub row_step : (count : ℕ → ℕ) (row : List ℕ) (i k b new : ℕ) → i < length row → k ≡ slice_index row i → b ≡ count k → new ≡ capped (row_count count (take i row) * b) → new ≡ capped (row_count count (take (i + 1) row))
row_step count row i k b new lt is e f =
    let more = fold_more (λ n z. n * count z) 1 row i 0 lt in
    f ∙ (ap (λ (n : ℕ). capped (row_count count (take i row) * n)) (e ∙ ap count is) ∙ sym (ap capped more))

pub row_end : (count : ℕ → ℕ) (kinds row : List ℕ) (i size : ℕ) → length kinds ≤ i → kinds ≡ row → size ≡ capped (row_count count (take i kinds)) → size ≡ capped (row_count count row)
row_end count kinds row i size le is e = e ∙ (ap (λ (ks : List ℕ). capped (row_count count ks)) (take_all kinds i le) ∙ ap (λ (ks : List ℕ). capped (row_count count ks)) is)

pub sum_step : {X : Type 0} (f : X → ℕ) (xs : List X) (i : ℕ) (x : X) (new : ℕ) → i < length xs → x ≡ get_or xs i x → new ≡ capped (sum_by f (take i xs) + f x) → new ≡ capped (sum_by f (take (i + 1) xs))
sum_step f xs i x new lt is e = e ∙ (ap (λ z. capped (sum_by f (take i xs) + f z)) is ∙ sym (ap capped (sum_by_more f xs i x lt)))

pub sum_end : {X : Type 0} (f : X → ℕ) (xs : List X) (i size : ℕ) → length xs ≤ i → size ≡ capped (sum_by f (take i xs)) → size ≡ capped (sum_by f xs)
sum_end {X} f xs i size le e = e ∙ ap (λ (ys : List X). capped (sum_by f ys)) (take_all xs i le)

pub sigs_step : (sigs : List Sig) (scopes : Scopes) (n : ℕ) (d : Sig) (new : ℕ) → n < length sigs → d ≡ get_or sigs n d → new ≡ capped (sigs_count sigs scopes n + sig_count sigs scopes n d) → new ≡ capped (sigs_count sigs scopes (n + 1))
sigs_step sigs scopes n d new lt is e =
    let next : n + 1 ≡ suc n = omega arith in
    let at = slice_get_read sigs (length sigs) n d refl lt is in
    e ∙ (ap (λ (o : Option Sig). capped (sigs_count sigs scopes n + by_sig 0 (sig_count sigs scopes n) o)) (sym at) ∙ ap (λ (m : ℕ). capped (sigs_count sigs scopes m)) (sym next))

pub sigs_end : (sigs : List Sig) (scopes : Scopes) (n size : ℕ) → n ≤ length sigs → length sigs ≤ n → size ≡ capped (sigs_count sigs scopes n) → size ≡ capped (sigs_count sigs scopes (length sigs))
sigs_end sigs scopes n size le over e =
    let all : n ≡ length sigs = omega arith in
    e ∙ ap (λ (m : ℕ). capped (sigs_count sigs scopes m)) all

-- ---- a sig, and the table

pub one_capped : 1 ≡ capped 1
one_capped = omega arith

pub literal_is : (sigs : List Sig) (scopes : Scopes) (s : ℕ) (d : Sig) (size : ℕ) (b : Bool) → b ≡ is_literal d → b ≡ true → size ≡ capped (over_states scopes d.is_var 1) → size ≡ capped (sig_count sigs scopes s d)
literal_is sigs scopes s d size b e literal f = f ∙ ap (λ (a : Bool). capped (over_states scopes d.is_var (if a then 1 else type_count sigs scopes (sig_rows sigs (length sigs) s)))) (sym literal ∙ e)

pub typed_is : (sigs : List Sig) (scopes : Scopes) (s : ℕ) (d : Sig) (size : ℕ) (b : Bool) → b ≡ is_literal d → b ≡ false → size ≡ capped (over_states scopes d.is_var (type_count sigs scopes (sig_rows sigs (length sigs) s))) → size ≡ capped (sig_count sigs scopes s d)
typed_is sigs scopes s d size b e other f = f ∙ ap (λ (a : Bool). capped (over_states scopes d.is_var (if a then 1 else type_count sigs scopes (sig_rows sigs (length sigs) s)))) (sym other ∙ e)

pub over_capped : (n x : ℕ) → n ≡ capped x → nat_lt 1000000 n ≡ nat_lt 1000000 x
over_capped n x e = elim (cases_lt 1000000 x) [
  | inl more ↦ let large : 1000000 < n = omega arith in over_both n x large more
  | inr few ↦ let same : n ≡ x = omega arith in ap (λ (m : ℕ). nat_lt 1000000 m) same
]
  where
    over_both : (m y : ℕ) → 1000000 < m → 1000000 < y → nat_lt 1000000 m ≡ nat_lt 1000000 y
    over_both m y a b = grind (arith, nat_tests)

pub large_is : (model : Model) (scopes : Scopes) → nat_lt 1000000 (table_size model scopes) ≡ true → IsLarge model scopes
large_is model scopes e = over (table_size model scopes) e
  where
    over : (n : ℕ) → nat_lt 1000000 n ≡ true → 1000000 < n
    over n h = grind (arith, nat_tests)

pub small_is : (model : Model) (scopes : Scopes) → nat_lt 1000000 (table_size model scopes) ≡ false → IsSmall model scopes
small_is model scopes e = within (table_size model scopes) e
  where
    within : (n : ℕ) → nat_lt 1000000 n ≡ false → n ≤ 1000000
    within n h = grind (arith, nat_tests)
