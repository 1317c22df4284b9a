-- The sketches of a model's relations, and the sets that are made of them.
use Rattle.std.proofs.Common.{◌≡◌, ◌⊎◌, ◌↔◌, inl, inr, ℕ, zero, suc, ◌+◌, ◌<◌, ◌≤◌, Bool, true, false, IsTrue, List, [], ◌∷◌, ◌++◌, length, map, take, get_or, slice_get, slice_index, Option, Some, None, IfSome, All, Contains, refl, ap, sym, ◌∙◌, subst, arith, length-append, append_assoc}
use Rattle.std.specs.List.{flat_map}
use Rattle.std.proofs.lemmas.Bool.{cases_lt, false≢true, iff_false}
use Rattle.std.proofs.lemmas.List.{length-map}
use Rattle.std.proofs.lemmas.List.Concat.{flat_map-cons}
use Rattle.std.proofs.lemmas.List.Elements.{All-nil, All-head, All-push, All-more, All-contains, Contains-get_or, Contains-append_cases}
use Rattle.std.proofs.lemmas.Option.{get_or_from_slice_get, slice_get_within}
use Rattle.core_tuples.specs.Sets.{TupleList, HasJust}
use Rattle.core_tuples.proofs.OrderLemmas.{cons_cases, cons_here, cons_later, no_members, take_all}
use Rattle.core_tree.specs.declared.model.Model.{Model}
use Rattle.core_tree.specs.declared.model.Sig.{Sig}
use Rattle.core_tree.specs.declared.model.SigKind.{SigKind}
use Rattle.core_tree.specs.declared.model.SigKind.TheVariants.{Top, Extends, Subset}
use Rattle.core_tree.specs.declared.model.Field.{Field}
use Rattle.core_tree.specs.declared.model.Column.{Column}
use Rattle.core_tree.specs.declared.model.Column.TheVariants.{Sig as SigColumn, Int as IntColumn}
use Rattle.core_tree.specs.Types.{TypeRow, TypeRows, parent_rows, kind_rows, by_sig, sig_rows, standing}
use Rattle.core_tree.specs.Columns.{IsFew}
use Rattle.bound_uppers.specs.declared.table.Bound.{Bound}
use Rattle.bound_uppers.specs.declared.numbers.AtomRange.{AtomRange}
use Rattle.bound_uppers.specs.declared.numbers.AtomRanges.{AtomRanges}
use Rattle.bound_uppers.specs.declared.uppers.Sketch.{Sketch}
use Rattle.bound_uppers.specs.Kinds.{kind_at, row_kinds_of, rows_kinds_of, sig_kinds_of, HasRows, InSpan}
use Rattle.bound_uppers.specs.declared.given.AtomSets.{AtomSets}
use Rattle.bound_uppers.specs.AtomSets.{set_at, InKinds, InRows, AreColumns}
use Rattle.core_tuples.specs.Index.{IsNumber}
use Rattle.bound_uppers.specs.Sketches.{IsRightSketch, InSketch, IsSigSketch, MayField, AreSigSketches, AreFieldSketches, AreSketches, IsBoundOf, HasUppers}
use Rattle.bound_uppers.specs.Table.{is_fixed}
use Rattle.bound_uppers.proofs.Sizes.{map_more, map_end}
use Rattle.bound_uppers.proofs.Tables.{take_next}

-- ---- lists

all_from : {X : Type 0} (P : X → Type 0) (xs : List X) → ((x : X) → Contains xs x → P x) → All P xs
all_from P xs h = λ k d lt. h (get_or xs k d) (Contains-get_or xs k d lt)

pub map_member : {X Y : Type 0} (f : X → Y) (xs : List X) (y : Y) → Contains (map f xs) y → (x : X) × Contains xs x × (y ≡ f x)
map_member f [] y h = absurd (no_members y h)
map_member f (x ∷ xs) y h = elim (cons_cases (f x) (map f xs) y h) [
  | inl is ↦ (x, cons_here x xs x refl, is)
  | inr rest ↦ let g = map_member f xs y rest in (g.0, cons_later x xs g.0 g.1, g.2)
]

pub member_map : {X Y : Type 0} (f : X → Y) (xs : List X) (x : X) → Contains xs x → Contains (map f xs) (f x)
member_map f [] x h = absurd (no_members x h)
member_map f (y ∷ xs) x h = elim (cons_cases y xs x h) [
  | inl is ↦ cons_here (f y) (map f xs) (f x) (ap f is)
  | inr rest ↦ cons_later (f y) (map f xs) (f x) (member_map f xs x rest)
]

get_end : {X : Type 0} (xs : List X) (x : X) → slice_get (xs ++ x ∷ []) (length xs) ≡ Some x
get_end [] x = refl
get_end (y ∷ xs) x = get_end xs x

pub get_early : {X : Type 0} (xs : List X) (x : X) (k : ℕ) → k < length xs → slice_get (xs ++ x ∷ []) k ≡ slice_get xs k
get_early [] x k lt = absurd (omega arith)
get_early (y ∷ xs) x zero lt = refl
get_early (y ∷ xs) x (suc k) lt = get_early xs x k (omega arith)

pub get_kept : {X : Type 0} (xs new : List X) (x y : X) (k : ℕ) → new ≡ xs ++ x ∷ [] → slice_get xs k ≡ Some y → slice_get new k ≡ Some y
get_kept {X = X} xs new x y k e is = ap (λ (zs : List X). slice_get zs k) e ∙ (get_early xs x k (slice_get_within xs k y is) ∙ is)

pub get_new : {X : Type 0} (xs new : List X) (x : X) (n : ℕ) → new ≡ xs ++ x ∷ [] → length xs ≡ n → slice_get new n ≡ Some x
get_new {X = X} xs new x n e count = ap (λ (zs : List X). slice_get zs n) e ∙ subst (λ (m : ℕ). slice_get (xs ++ x ∷ []) m ≡ Some x) count (get_end xs x)

last_or : (s n : ℕ) → s < n + 1 → (s < n) ⊎ (s ≡ n)
last_or s n lt = elim (cases_lt s n) [ inl less ↦ inl less | inr far ↦ inr (omega (arith, lt, far)) ]

-- ---- rows of sigs have one column

one_of : (c : Column) (r : TypeRow) → Contains ((c ∷ []) ∷ []) r → length r ≡ 1
one_of c r h = elim (cons_cases (c ∷ []) [] r h) [ inl is ↦ ap length is | inr none ↦ absurd (no_members r none) ]

module _ (up : ℕ → TypeRows) (each : (p : ℕ) (r : TypeRow) → Contains (up p) r → length r ≡ 1) where
  parent_one : (c : Column) (r : TypeRow) → Contains (parent_rows up c) r → length r ≡ 1
  parent_one IntColumn r h = one_of IntColumn r h
  parent_one (SigColumn p) r h = each p r h

  parents_one : (ps : List Column) (r : TypeRow) → Contains (flat_map (parent_rows up) ps) r → length r ≡ 1
  parents_one [] r h = absurd (no_members r h)
  parents_one (p ∷ ps) r h = elim (Contains-append_cases (parent_rows up p) (flat_map (parent_rows up) ps) r (subst (λ (rows : TypeRows). Contains rows r) (flat_map-cons (parent_rows up) p ps) h)) [
    | inl one ↦ parent_one p r one
    | inr rest ↦ parents_one ps r rest
  ]

  kind_one : (c : Column) (kind : SigKind) (r : TypeRow) → Contains (kind_rows ((c ∷ []) ∷ []) up kind) r → length r ≡ 1
  kind_one c Top r h = one_of c r h
  kind_one c (Extends p) r h = one_of c r h
  kind_one c (Subset ps) r h = parents_one ps r h

  found_one : (c : Column) (o : Option Sig) (r : TypeRow) → Contains (by_sig [] (λ d. kind_rows ((c ∷ []) ∷ []) up d.kind) o) r → length r ≡ 1
  found_one c None r h = absurd (no_members r h)
  found_one c (Some d) r h = kind_one c d.kind r h

pub sig_one : (sigs : List Sig) (n s : ℕ) (r : TypeRow) → Contains (sig_rows sigs n s) r → length r ≡ 1
sig_one sigs zero s r h = absurd (no_members r h)
sig_one sigs (suc n) s r h = found_one (λ p. sig_rows sigs n p) (λ p q g. sig_one sigs n p q g) (SigColumn (standing sigs (length sigs) s)) (slice_get sigs s) r h

kinds_one : (sigs : List Sig) (ups : List ℕ) (n s : ℕ) (t : List ℕ) → Contains (sig_kinds_of sigs ups n s) t → length t ≡ 1
kinds_one sigs ups n s t h =
    let f = map_member (row_kinds_of ups) (sig_rows sigs n s) t h in
    ap length f.2 ∙ (length-map f.0 (kind_at ups) ∙ sig_one sigs n s f.0 f.1)

pub right_sig : (sigs : List Sig) (ups : List ℕ) (n s : ℕ) (k : Sketch) → k.arity ≡ 1 → HasRows k.rows.items (sig_kinds_of sigs ups n s) → IsRightSketch k
right_sig sigs ups n s k one has =
    let any : (o : Option ℕ) → IfSome o (λ a. k.arity ≡ 1) = λ o. only o in
    record {
      least = omega (arith, one);
      most = omega (arith, one);
      rows = all_from (λ r. length r ≡ k.arity) k.rows.items (λ r h. kinds_one sigs ups n s r ((has r).0 h) ∙ sym one);
      atom = any k.atom;
    }
  where
    only : (o : Option ℕ) → IfSome o (λ a. k.arity ≡ 1)
    only None = tt
    only (Some a) = one

-- ---- the rows of a field

pub right_rows : (ups : List ℕ) (columns : ℕ) (rows : TypeRows) (all : List (List ℕ)) → All (λ r. length r ≡ columns) rows → HasRows all (rows_kinds_of ups rows) → All (λ r. length r ≡ columns) all
right_rows ups columns rows all are has = all_from (λ r. length r ≡ columns) all (λ t h.
    let f = map_member (row_kinds_of ups) rows t ((has t).0 h) in
    ap length f.2 ∙ (length-map f.0 (kind_at ups) ∙ All-contains (λ (r : TypeRow). length r ≡ columns) rows f.0 are f.1))

pub rows_more : (rows : TypeRows) (k columns : ℕ) (row : TypeRow) → k < length rows → row ≡ get_or rows k row → All (λ r. length r ≡ columns) (take k rows) → length row ≡ columns → All (λ r. length r ≡ columns) (take (k + 1) rows)
rows_more rows k columns row lt e was is = All-more (λ (r : TypeRow). length r ≡ columns) rows k row lt was (ap length (sym e) ∙ is)

pub rows_first : (rows : TypeRows) (columns : ℕ) → All (λ r. length r ≡ columns) (take 0 rows)
rows_first [] columns = All-nil (λ (r : TypeRow). length r ≡ columns)
rows_first (row ∷ rows) columns = All-nil (λ (r : TypeRow). length r ≡ columns)

pub rows_all : (rows : TypeRows) (k columns : ℕ) → length rows ≤ k → All (λ r. length r ≡ columns) (take k rows) → IsTrue true ↔ All (λ r. length r ≡ columns) rows
rows_all rows k columns le was =
    let all : All (λ r. length r ≡ columns) rows = subst (λ (rs : TypeRows). All (λ (r : TypeRow). length r ≡ columns) rs) (take_all rows k le) was in
    ((λ h. all), (λ h. refl))

pub rows_not : (rows : TypeRows) (k columns : ℕ) (row : TypeRow) → k < length rows → row ≡ get_or rows k row → (¬ (length row ≡ columns)) → IsTrue false ↔ All (λ r. length r ≡ columns) rows
rows_not rows k columns row lt e not = ((λ h. absurd (false≢true h)), (λ all. absurd (not (subst (λ (r : TypeRow). length r ≡ columns) (sym e) (all k row lt)))))

no_atom : (n : ℕ) (o : Option ℕ) → o ≡ None → IfSome o (λ a. n ≡ 1)
no_atom n None e = tt
no_atom n (Some a) e = absurd cc

pub right_field : (k : Sketch) → 1 ≤ k.arity → k.arity ≤ 9 → All (λ r. length r ≡ k.arity) k.rows.items → k.atom ≡ None → IsRightSketch k
right_field k least most rows none = record { least = least; most = most; rows = rows; atom = no_atom k.arity k.atom none }

pub field_is : (ups : List ℕ) (f : Field) (k : Sketch) (rows : TypeRows) → (IsFew f.columns → k.arity ≡ f.columns) → rows ≡ f.rows → k.atom ≡ None → (All (λ r. length r ≡ k.arity) rows → HasRows k.rows.items (rows_kinds_of ups rows)) → MayField ups f k
field_is ups f k rows same e none has few all =
    let columns = same few in
    let here : All (λ r. length r ≡ k.arity) rows = subst (λ (n : ℕ). All (λ (r : TypeRow). length r ≡ n) rows) (sym columns) (subst (λ (rs : TypeRows). All (λ (r : TypeRow). length r ≡ f.columns) rs) (sym e) all) in
    record { columns = columns; rows = subst (λ (rs : TypeRows). HasRows k.rows.items (rows_kinds_of ups rs)) e (has here); atom = none }

-- ---- lists of sketches

pub no_sketch : All IsRightSketch []
no_sketch = All-nil IsRightSketch

pub one_right : (all new : List Sketch) (k : Sketch) → All IsRightSketch all → IsRightSketch k → new ≡ all ++ k ∷ [] → All IsRightSketch new
one_right all new k was is e = subst (λ (ks : List Sketch). All IsRightSketch ks) (sym e) (All-push IsRightSketch all k was is)

pub sigs_none : (sigs : List Sig) (ups : List ℕ) (spans : AtomRanges) → AreSigSketches sigs ups spans 0 []
sigs_none sigs ups spans s d lt e = absurd (omega arith)

pub sigs_more : (sigs : List Sig) (ups : List ℕ) (spans : AtomRanges) (n : ℕ) (d : Sig) (k : Sketch) (all new : List Sketch) → d ≡ get_or sigs n d → length all ≡ n → AreSigSketches sigs ups spans n all → IsSigSketch sigs ups spans n d k → new ≡ all ++ k ∷ [] → AreSigSketches sigs ups spans (n + 1) new
sigs_more sigs ups spans n d k all new is count was its e s c lt at = elim (last_or s n lt) [
  | inl less ↦ let f = was s c less at in (f.0, get_kept all new k f.0 s e f.1, f.2)
  | inr same ↦
      let here : slice_get sigs n ≡ Some c = subst (λ (m : ℕ). slice_get sigs m ≡ Some c) same at in
      let it : d ≡ c = is ∙ get_or_from_slice_get sigs n c d here in
      (k, subst (λ (m : ℕ). slice_get new m ≡ Some k) (sym same) (get_new all new k n e count), subst (λ (m : ℕ). IsSigSketch sigs ups spans m c k) (sym same) (subst (λ (b : Sig). IsSigSketch sigs ups spans n b k) it its))
]

pub sigs_all : (sigs : List Sig) (ups : List ℕ) (spans : AtomRanges) (n : ℕ) (all : List Sketch) → length sigs ≤ n → AreSigSketches sigs ups spans n all → AreSigSketches sigs ups spans (length sigs) all
sigs_all sigs ups spans n all le was s d lt at = was s d (omega (arith, lt, le)) at

pub fields_none : (ups : List ℕ) (fields : List Field) (base : ℕ) (all : List Sketch) → AreFieldSketches ups fields base 0 all
fields_none ups fields base all g f lt at = absurd (omega arith)

pub fields_more : (ups : List ℕ) (fields : List Field) (base n : ℕ) (f : Field) (k : Sketch) (all new : List Sketch) → f ≡ get_or fields n f → length all ≡ base + n → AreFieldSketches ups fields base n all → MayField ups f k → new ≡ all ++ k ∷ [] → AreFieldSketches ups fields base (n + 1) new
fields_more ups fields base n f k all new is count was its e g c lt at = elim (last_or g n lt) [
  | inl less ↦ let old = was g c less at in (old.0, get_kept all new k old.0 (base + g) e old.1, old.2)
  | inr same ↦
      let here : slice_get fields n ≡ Some c = subst (λ (m : ℕ). slice_get fields m ≡ Some c) same at in
      let it : f ≡ c = is ∙ get_or_from_slice_get fields n c f here in
      (k, subst (λ (m : ℕ). slice_get new (base + m) ≡ Some k) (sym same) (get_new all new k (base + n) e count), subst (λ (b : Field). MayField ups b k) it its)
]

pub fields_all : (ups : List ℕ) (fields : List Field) (base n : ℕ) (all : List Sketch) → length fields ≤ n → AreFieldSketches ups fields base n all → AreFieldSketches ups fields base (length fields) all
fields_all ups fields base n all le was g f lt at = was g f (omega (arith, lt, le)) at

pub kept_more : (first all new : List Sketch) (k : Sketch) → length first ≤ length all → ((s : ℕ) → s < length first → slice_get all s ≡ slice_get first s) → new ≡ all ++ k ∷ [] → (s : ℕ) → s < length first → slice_get new s ≡ slice_get first s
kept_more first all new k le was e s lt = ap (λ (ks : List Sketch). slice_get ks s) e ∙ (get_early all k s (omega (arith, lt, le)) ∙ was s lt)

pub count_more : {X : Type 0} (all new : List X) (x : X) (n : ℕ) → length all ≡ n → new ≡ all ++ x ∷ [] → length new ≡ n + 1
count_more all new x n count e = ap length e ∙ (length-append all (x ∷ []) ∙ ap (λ (m : ℕ). m + 1) count)

pub maps_more : {A B C : Type 0} (f : A → C) (g : B → C) (pre : List C) (old new : List A) (k : A) (xs : List B) (n : ℕ) (x : B) → n < length xs → x ≡ get_or xs n x → map f old ≡ pre ++ map g (take n xs) → f k ≡ g x → new ≡ old ++ k ∷ [] → map f new ≡ pre ++ map g (take (n + 1) xs)
maps_more {C = C} f g pre old new k xs n x lt is was same e =
    ap (λ zs. map f zs) e ∙ (map_end f old k ∙ (ap (λ (zs : List C). zs ++ f k ∷ []) was ∙ (append_assoc pre (map g (take n xs)) (f k ∷ []) ∙ ap (λ (zs : List C). pre ++ zs) (ap (λ (c : C). map g (take n xs) ++ c ∷ []) same ∙ sym (map_more g xs n x lt is)))))

pub same_count : {A B C : Type 0} (f : A → C) (g : B → C) (xs : List A) (ys : List B) → map f xs ≡ map g ys → length xs ≡ length ys
same_count f g xs ys e = sym (length-map xs f) ∙ (ap length e ∙ length-map ys g)

some_at : {X : Type 0} (xs : List X) (n : ℕ) → n < length xs → (x : X) × (slice_get xs n ≡ Some x)
some_at [] n lt = absurd (omega arith)
some_at (x ∷ xs) zero lt = (x, refl)
some_at (x ∷ xs) (suc n) lt = some_at xs n (omega arith)

pub sketches_are : (model : Model) (ups : List ℕ) (spans : AtomRanges) (sigs : List Sig) (fields : List Field) (first all : List Sketch) → sigs ≡ model.sigs → fields ≡ model.fields → map (λ (s : Sketch). s.fixed) first ≡ map (λ (d : Sig). is_fixed d.is_var) sigs → AreSigSketches sigs ups spans (length sigs) first → All IsRightSketch all → AreFieldSketches ups fields (length first) (length fields) all → ((s : ℕ) → s < length first → slice_get all s ≡ slice_get first s) → AreSketches model ups spans all
sketches_are model ups spans sigs fields first all e f fixed were right theirs kept =
    let count : length first ≡ length sigs = same_count (λ (s : Sketch). s.fixed) (λ (d : Sig). is_fixed d.is_var) first sigs fixed in
    let mine : AreSigSketches sigs ups spans (length sigs) all = λ s d lt at. let g = were s d lt at in (g.0, kept s (slice_get_within first s g.0 g.1) ∙ g.1, g.2) in
    let behind : AreFieldSketches ups fields (length model.sigs) (length fields) all = subst (λ (n : ℕ). AreFieldSketches ups fields n (length fields) all) (count ∙ ap length e) theirs in
    record {
      right = right;
      sigs = subst (λ (ds : List Sig). AreSigSketches ds ups spans (length ds) all) e mine;
      fields = subst (λ (fs : List Field). AreFieldSketches ups fs (length model.sigs) (length fs) all) f behind;
    }

-- ---- the set of a sketch

just_one : (atom a : ℕ) → atom ≤ a → a < atom + 1 → a ≡ atom
just_one atom a low high = omega (arith, low, high)

pub atom_just : (sets : AtomSets) (rows : List (List ℕ)) (atom : ℕ) (span : AtomRange) (set : TupleList) → span ≡ record { first = atom; count = 1 } → (b : Bool) → b ≡ true → IsTrue b ↔ InRows sets rows (atom ∷ []) → HasJust set 1 (λ t. (a : ℕ) × InSpan span a × (t ≡ a ∷ [])) → HasJust set 1 (λ t. InRows sets rows t × (t ≡ atom ∷ []))
atom_just sets rows atom span set e b on its made =
    let among = its.0 on in
    let is = subst (λ (s : AtomRange). HasJust set 1 (λ t. (a : ℕ) × InSpan s a × (t ≡ a ∷ []))) e made in
    record {
      columns = is.columns;
      just = λ t. (
        (λ h.
            let f = (is.just t).0 h in
            let same : t ≡ atom ∷ [] = f.2 ∙ ap (λ (n : ℕ). n ∷ []) (just_one atom f.0 f.1.0 f.1.1) in
            (subst (λ (u : List ℕ). InRows sets rows u) (sym same) among, same)),
        (λ h. (is.just t).1 (atom, (omega arith, omega arith), h.1)),
      );
    }

pub atom_none : (sets : AtomSets) (rows : List (List ℕ)) (atom : ℕ) (set : TupleList) → set ≡ record { arity = 1; tuples = [] } → (¬ (InRows sets rows (atom ∷ []))) → HasJust set 1 (λ t. InRows sets rows t × (t ≡ atom ∷ []))
atom_none sets rows atom set e not = subst (λ (s : TupleList). HasJust s 1 (λ t. InRows sets rows t × (t ≡ atom ∷ []))) (sym e) (record {
  columns = refl;
  just = λ t. ((λ h. absurd (no_members t h)), (λ h. absurd (not (subst (λ (u : List ℕ). InRows sets rows u) h.1 h.0))));
})

first_fits : (sets : AtomSets) (row : List ℕ) (a : ℕ) → AreColumns sets → InKinds sets row (a ∷ []) → a < 16384
first_fits sets [] a columns h = absurd h
first_fits sets (k ∷ ks) a columns h = All-head IsNumber a [] (All-contains (λ (t : List ℕ). All IsNumber t) (set_at sets k).tuples (a ∷ []) (columns k).0.numbers h.0)

pub atom_off : (sets : AtomSets) (rows : List (List ℕ)) (atom : ℕ) (set : TupleList) (b : Bool) → set ≡ record { arity = 1; tuples = [] } → b ≡ false → IsTrue b ↔ InRows sets rows (atom ∷ []) → HasJust set 1 (λ t. InRows sets rows t × (t ≡ atom ∷ []))
atom_off sets rows atom set b e off its = atom_none sets rows atom set e (iff_false its off)

pub atom_far : (sets : AtomSets) (rows : List (List ℕ)) (atom : ℕ) (set : TupleList) → AreColumns sets → 16384 ≤ atom → set ≡ record { arity = 1; tuples = [] } → HasJust set 1 (λ t. InRows sets rows t × (t ≡ atom ∷ []))
atom_far sets rows atom set columns far e = atom_none sets rows atom set e (λ h. let less = first_fits sets h.0 atom columns h.2 in absurd (omega (arith, less, far)))

atom_is : (o : Option ℕ) (atom : ℕ) (P : ℕ → Type 0) → o ≡ Some atom → IfSome o P ↔ P atom
atom_is None atom P e = absurd cc
atom_is (Some a) atom P e = let same : a ≡ atom = cc in ((λ h. subst P same h), (λ h. subst P (sym same) h))

atom_lacks : (o : Option ℕ) (P : ℕ → Type 0) → o ≡ None → IfSome o P
atom_lacks None P e = tt
atom_lacks (Some a) P e = absurd cc

pub single : (k : Sketch) (atom : ℕ) → IsRightSketch k → k.atom ≡ Some atom → All (λ r. length r ≡ 1) k.rows.items
single k atom right e = subst (λ (n : ℕ). All (λ (r : List ℕ). length r ≡ n) k.rows.items) ((atom_is k.atom atom (λ a. k.arity ≡ 1) e).0 right.atom) right.rows

pub by_atom : (sets : AtomSets) (k : Sketch) (atom : ℕ) (set : TupleList) → IsRightSketch k → k.atom ≡ Some atom → HasJust set 1 (λ t. InRows sets k.rows.items t × (t ≡ atom ∷ [])) → HasJust set k.arity (InSketch sets k)
by_atom sets k atom set right e is =
    let one : k.arity ≡ 1 = (atom_is k.atom atom (λ a. k.arity ≡ 1) e).0 right.atom in
    record {
      columns = is.columns ∙ sym one;
      just = λ t.
          let own = atom_is k.atom atom (λ a. t ≡ a ∷ []) e in (
            (λ h. let f = (is.just t).0 h in (f.0, own.1 f.1)),
            (λ h. (is.just t).1 (h.0, own.0 h.1)),
          );
    }

pub by_rows : (sets : AtomSets) (k : Sketch) (set : TupleList) → k.atom ≡ None → HasJust set k.arity (InRows sets k.rows.items) → HasJust set k.arity (InSketch sets k)
by_rows sets k set e is = record {
  columns = is.columns;
  just = λ t. ((λ h. ((is.just t).0 h, atom_lacks k.atom (λ a. t ≡ a ∷ []) e)), (λ h. (is.just t).1 h.0));
}

-- ---- the bounds of sketches

pub right_at : (all : List Sketch) (n : ℕ) (k : Sketch) → All IsRightSketch all → n < length all → k ≡ get_or all n k → IsRightSketch k
right_at all n k right lt e = subst (λ (s : Sketch). IsRightSketch s) (sym e) (right n k lt)

-- the bounds of the first sketches
abbrev pub HasUppersTo : AtomSets → List Sketch → ℕ → List Bound → Type 0
HasUppersTo sets all n relations = (r : ℕ) (k : Sketch) → r < n → slice_get all r ≡ Some k → (b : Bound) × (slice_get relations r ≡ Some b) × HasJust b.upper k.arity (InSketch sets k)

pub uppers_none : (sets : AtomSets) (all : List Sketch) → HasUppersTo sets all 0 []
uppers_none sets all r k lt at = absurd (omega arith)

-- the bounds of the first relations
pub record AreBoundsTo (sets : AtomSets) (all : List Sketch) (places : List ℕ) (n : ℕ) (list : List Bound) : Type 0 where
  pub count : length list ≡ n
  pub orders : map (λ (b : Bound). b.order) list ≡ take n places
  pub fixed : map (λ (b : Bound). b.fixed) list ≡ map (λ (s : Sketch). s.fixed) (take n all)
  pub uppers : HasUppersTo sets all n list

take_none : {X : Type 0} (xs : List X) → take 0 xs ≡ []
take_none [] = refl
take_none (x ∷ xs) = refl

pub bounds_none : (sets : AtomSets) (all : List Sketch) (places : List ℕ) (list : List Bound) → list ≡ [] → AreBoundsTo sets all places 0 list
bounds_none sets all places list e = subst (λ (bs : List Bound). AreBoundsTo sets all places 0 bs) (sym e) (record {
  count = refl;
  orders = sym (take_none places);
  fixed = ap (λ (ks : List Sketch). map (λ (s : Sketch). s.fixed) ks) (sym (take_none all));
  uppers = uppers_none sets all;
})

pub uppers_more : (sets : AtomSets) (all : List Sketch) (n : ℕ) (k : Sketch) (b : Bound) (old new : List Bound) → k ≡ get_or all n k → length old ≡ n → HasUppersTo sets all n old → HasJust b.upper k.arity (InSketch sets k) → new ≡ old ++ b ∷ [] → HasUppersTo sets all (n + 1) new
uppers_more sets all n k b old new is count was its e r c lt at = elim (last_or r n lt) [
  | inl less ↦ let f = was r c less at in (f.0, get_kept old new b f.0 r e f.1, f.2)
  | inr same ↦
      let here : slice_get all n ≡ Some c = subst (λ (m : ℕ). slice_get all m ≡ Some c) same at in
      let it : k ≡ c = is ∙ get_or_from_slice_get all n c k here in
      (b, subst (λ (m : ℕ). slice_get new m ≡ Some b) (sym same) (get_new old new b n e count), subst (λ (s : Sketch). HasJust b.upper s.arity (InSketch sets s)) it its)
]

pub bounds_more : (sets : AtomSets) (all : List Sketch) (places : List ℕ) (n : ℕ) (b : Bound) (old new : List Bound) → n < length all → length places ≡ length all → b.order ≡ slice_index places n → ((k : Sketch) → slice_get all n ≡ Some k → IsBoundOf sets k b) → AreBoundsTo sets all places n old → new ≡ old ++ b ∷ [] → AreBoundsTo sets all places (n + 1) new
bounds_more sets all places n b old new lt counted order its was e =
    let k = some_at all n lt in
    let here : k.0 ≡ get_or all n k.0 = sym (get_or_from_slice_get all n k.0 k.0 k.1) in
    let is = its k.0 k.1 in
    let in_places : n < length places = omega (arith, lt, counted) in
    record {
      count = count_more old new b n was.count e;
      orders = ap (λ (bs : List Bound). map (λ (b : Bound). b.order) bs) e ∙ (map_end (λ (b : Bound). b.order) old b ∙ (ap (λ (os : List ℕ). os ++ b.order ∷ []) was.orders ∙ (ap (λ (o : ℕ). take n places ++ o ∷ []) order ∙ sym (take_next places n in_places))));
      fixed = maps_more (λ (b : Bound). b.fixed) (λ (s : Sketch). s.fixed) [] old new b all n k.0 lt here was.fixed is.fixed e;
      uppers = uppers_more sets all n k.0 b old new here was.count was.uppers is.upper e;
    }

pub uppers_all : (sets : AtomSets) (all : List Sketch) (n : ℕ) (list : List Bound) → length all ≤ n → HasUppersTo sets all n list → HasUppers sets all list
uppers_all sets all n list le was r k at = let within = slice_get_within all r k at in was r k (omega (arith, within, le)) at
