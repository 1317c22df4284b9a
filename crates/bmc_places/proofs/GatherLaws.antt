-- Sets that are gathered from tuples.
use Rattle.std.proofs.Common.{◌≡◌, ◌↔◌, ◌⊎◌, ◌≤◌, ◌+◌, ◌&&◌, ◌||◌, ℕ, zero, suc, Bool, true, false, List, [], ◌∷◌, ◌++◌, All, take, length, Option, Some, None, slice_get, refl, sym, ap, ◌∙◌, subst, arith, inl, inr}
use Rattle.std.proofs.lemmas.Bool.{cases_lt, false≢true}
use Rattle.std.proofs.lemmas.List.Elements.{All-nil, All-cons, All-append, Contains-append_cases, Contains-append_left, Contains-append_right, All-contains}
use Rattle.gate_trait.specs.declared.node.Node.{Node}
use Rattle.gate_trait.specs.Built.{Keeps, AllIn}
use Rattle.core_tuples.specs.Sets.{is_same}
use Rattle.core_tuples.specs.Index.{IsNumber}
use Rattle.core_tuples.proofs.OrderedLemmas.{same_exact, same_itself}
use Rattle.gate_matrix.specs.declared.entry.Entry.{Entry}
use Rattle.gate_matrix.specs.Matrices.{MatrixEntries, AllBelong, truth, has}
use Rattle.gate_matrix.proofs.FoundLemmas.{truth_kept}
use Rattle.gate_sets.specs.Belonging.{AllMatrices}
use Rattle.gate_temporal.specs.Rows.{row_value}
use Rattle.bmc_windows.proofs.PushLemmas.{push_kept, push_at}
use Rattle.bmc_stack.proofs.PlaceLaws.{matrix_belongs}
use Rattle.bmc_stack.proofs.StoreLaws.{nodes_kept}
use Rattle.bmc_leaves.proofs.RowLaws.{row_kept}
use Rattle.bmc_places.specs.declared.gathering.Choice.{Choice}
use Rattle.bmc_places.specs.Gathered.{AllRows, IsFound, AreLike, AddsGathered, AreGathered, GathersAt}
use Rattle.bmc_places.proofs.ListLaws.{contains_cases, contains_none, contains_first, more_cases, more_here, more_before, take_all}

abbrev or_false : (Node → Bool) → Option Node → Bool
or_false value None = false
or_false value (Some n) = value n

pub of_get : (value : Node → Bool) (row : List Node) (i : ℕ) → row_value value row i ≡ or_false value (slice_get row i)
of_get value [] i = refl
of_get value (n ∷ row) zero = refl
of_get value (n ∷ row) (suc i) = of_get value row i

-- ---- what is found

pub found_none : (value : Node → Bool) (i : ℕ) (t : List ℕ) → IsFound value [] i t → ⊥
found_none value i t (c, there, same, is) = contains_none c there

pub found_append : (value : Node → Bool) (xs ys : List Choice) (i : ℕ) (t : List ℕ) → IsFound value (xs ++ ys) i t ↔ (IsFound value xs i t ⊎ IsFound value ys i t)
found_append value xs ys i t = (
  (λ (c, there, same, is). elim (Contains-append_cases xs ys c there) [ inl a ↦ inl (c, a, same, is) | inr b ↦ inr (c, b, same, is) ]),
  (λ h. elim h [
    | inl (c, there, same, is) ↦ (c, Contains-append_left xs ys c there, same, is)
    | inr (c, there, same, is) ↦ (c, Contains-append_right xs ys c there, same, is)
  ]),
)

pub found_one : (value : Node → Bool) (c : Choice) (i : ℕ) (t : List ℕ) → IsFound value (c ∷ []) i t ↔ ((c.tuple ≡ t) × (row_value value c.row i ≡ true))
found_one value c i t = (
  (λ (d, there, same, is). elim (contains_cases c [] d there) [
    | inl e ↦ subst (λ (b : Choice). (b.tuple ≡ t) × (row_value value b.row i ≡ true)) (sym e) (same, is)
    | inr none ↦ absurd (contains_none d none)
  ]),
  (λ (same, is). (c, contains_first c [], same, is)),
)

pub found_kept : {S : Type 0} (belongs : S → Node → Type 0) (value : S → (ℕ → Bool) → Node → Bool) (g h : S) → Keeps belongs value g h → (choices : List Choice) → AllRows (belongs g) choices → (x : ℕ → Bool) (i : ℕ) (t : List ℕ) → IsFound (value h x) choices i t ↔ IsFound (value g x) choices i t
found_kept belongs value g h keeps choices all x i t = (
  (λ (c, there, same, is). (c, there, same, sym (row_kept belongs value g h keeps c.row (All-contains (λ (d : Choice). AllIn (belongs g) d.row) choices c all there) x i) ∙ is)),
  (λ (c, there, same, is). (c, there, same, row_kept belongs value g h keeps c.row (All-contains (λ (d : Choice). AllIn (belongs g) d.row) choices c all there) x i ∙ is)),
)

-- the same node at two places
pub same_value : (value : Node → Bool) (row : List Node) (i j : ℕ) → slice_get row i ≡ slice_get row j → row_value value row i ≡ row_value value row j
same_value value row i j same = of_get value row i ∙ ap (λ (o : Option Node). or_false value o) same ∙ sym (of_get value row j)

-- the sets of the first places
abbrev pub GatheredTo : ((ℕ → Bool) → Node → Bool) → ((ℕ → Bool) → Node → Bool) → List MatrixEntries → List Choice → ℕ → List ℕ → Type 0
GatheredTo old new matrices choices place numbers = AreGathered old new matrices choices place numbers

pub like_found : (value : Node → Bool) (choices : List Choice) (i j : ℕ) → AreLike choices i j → (t : List ℕ) → IsFound value choices i t ↔ IsFound value choices j t
like_found value choices i j like t = (
  (λ (c, there, same, is). (c, there, same, sym (same_value value c.row i j (All-contains (λ (d : Choice). slice_get d.row i ≡ slice_get d.row j) choices c like there)) ∙ is)),
  (λ (c, there, same, is). (c, there, same, same_value value c.row i j (All-contains (λ (d : Choice). slice_get d.row i ≡ slice_get d.row j) choices c like there) ∙ is)),
)

module _ {S : Type 0} (belongs : S → Node → Type 0) (value : S → (ℕ → Bool) → Node → Bool) where
  pub gathered_more : (first now later : S) (a b : List MatrixEntries) (choices : List Choice) (numbers more : List ℕ) (place : ℕ) → Keeps belongs value first now → Keeps belongs value now later → AllRows (belongs first) choices → AllMatrices (belongs now) a → ((k : ℕ) (m : MatrixEntries) → slice_get a k ≡ Some m → slice_get b k ≡ Some m) → length numbers ≡ place
      → GatheredTo (value first) (value now) a choices place numbers → AddsGathered (value now) (value later) b choices place numbers more → GatheredTo (value first) (value later) b choices (place + 1) more
  gathered_more first now later a b choices numbers more place keeps more_keeps rows all grows long to (n, is, adds) i lt = elim (cases_lt i place) [
    | inl less ↦ (let (k, at, here) = to i less in let (m, stands, means) = here in
        (k, ap (λ (ns : List ℕ). slice_get ns i) is ∙ push_kept numbers n i k at, (m, grows k m stands, λ x t. (let e = truth_kept belongs value now later more_keeps m (matrix_belongs (belongs now) a k m all stands) x t in ((λ y. (means x t).0 (sym e ∙ y)), (λ y. e ∙ (means x t).1 y))))))
    | inr ge ↦ (let same : place ≡ i = omega (arith, lt, ge) in
        subst (λ (j : ℕ). (k : ℕ) × (slice_get more j ≡ Some k) × GathersAt (value first) (value later) b choices j k) same (elim adds [
          | inl (j, below, found, like) ↦ (let (k, at, here) = to j below in let (m, stands, means) = here in
              let which = found k at in (
                n,
                ap (λ (ns : List ℕ). slice_get ns place) is ∙ push_at numbers n place (sym long),
                (
                  m,
                  grows n m (subst (λ (o : ℕ). slice_get a o ≡ Some m) (sym which) stands),
                  λ x t. (let e = truth_kept belongs value now later more_keeps m (matrix_belongs (belongs now) a k m all stands) x t in
                      let l = like_found (value first x) choices j place like t in
                      ((λ y. l.0 ((means x t).0 (sym e ∙ y))), (λ y. e ∙ (means x t).1 (l.1 y)))),
                ),
              ))
          | inr (m, stands, means) ↦ (
            n,
            ap (λ (ns : List ℕ). slice_get ns place) is ∙ push_at numbers n place (sym long),
            (m, stands, λ x t. (let l = found_kept belongs value first now keeps choices rows x place t in ((λ y. l.0 ((means x t).0 y)), (λ y. (means x t).1 (l.1 y))))),
          )
        ]))
  ]

pub rows_kept : {S : Type 0} (belongs : S → Node → Type 0) (value : S → (ℕ → Bool) → Node → Bool) (g h : S) → Keeps belongs value g h → (choices : List Choice) → AllRows (belongs g) choices → AllRows (belongs h) choices
rows_kept belongs value g h keeps choices all = λ k d lt. nodes_kept belongs value g h keeps _ (all k d lt)

pub rows_push : {S : Type 0} (belongs : S → Node → Type 0) (value : S → (ℕ → Bool) → Node → Bool) (g h : S) → Keeps belongs value g h → (choices more : List Choice) (c : Choice) → AllRows (belongs g) choices → AllIn (belongs h) c.row → more ≡ choices ++ c ∷ [] → AllRows (belongs h) more
rows_push belongs value g h keeps choices more c all one is = subst (λ (cs : List Choice). AllRows (belongs h) cs) (sym is) (All-append (λ (d : Choice). AllIn (belongs h) d.row) choices (c ∷ []) (rows_kept belongs value g h keeps choices all) (All-cons (λ (d : Choice). AllIn (belongs h) d.row) c [] one (All-nil (λ (d : Choice). AllIn (belongs h) d.row))))

or_of : (b : Bool) → b || false ≡ false || b
or_of true = refl
or_of false = refl

or_assoc : (a b c : Bool) → a || (b || c) ≡ (a || b) || c
or_assoc true b c = refl
or_assoc false b c = refl

or_cases : (a b : Bool) → a || b ≡ true → (a ≡ true) ⊎ (b ≡ true)
or_cases true b e = inl refl
or_cases false b e = inr e

or_left : (a b : Bool) → a ≡ true → a || b ≡ true
or_left true b e = refl
or_left false b e = absurd (false≢true e)

or_right : (a b : Bool) → b ≡ true → a || b ≡ true
or_right true b e = refl
or_right false b e = e

and_true : (a b : Bool) → a && b ≡ true → (a ≡ true) × (b ≡ true)
and_true true b e = (refl, e)
and_true false b e = absurd (false≢true e)

and_both : (a b : Bool) → a ≡ true → b ≡ true → a && b ≡ true
and_both true b e f = f
and_both false b e f = absurd (false≢true e)

-- ---- entries

pub has_push : (value : Node → Bool) (es : List Entry) (e : Entry) (t : List ℕ) → has value (es ++ e ∷ []) t ≡ has value es t || (is_same e.tuple t && value e.node)
has_push value [] e t = or_of (is_same e.tuple t && value e.node)
has_push value (d ∷ es) e t = ap (λ (b : Bool). (is_same d.tuple t && value d.node) || b) (has_push value es e t) ∙ or_assoc (is_same d.tuple t && value d.node) (has value es t) (is_same e.tuple t && value e.node)

-- the entries of the first choices
pub record EntriesTo (belongs : Node → Type 0) (value : (ℕ → Bool) → Node → Bool) (choices : List Choice) (place columns number : ℕ) (entries : List Entry) : Type 0 where
  pub belong : AllBelong belongs entries
  pub columns_are : All (λ (e : Entry). length e.tuple ≡ columns) entries
  pub numbers : All (λ (e : Entry). All IsNumber e.tuple) entries
  pub means : (x : ℕ → Bool) (t : List ℕ) → (has (value x) entries t ≡ true) ↔ IsFound (value x) (take number choices) place t

pub entries_none : (belongs : Node → Type 0) (value : (ℕ → Bool) → Node → Bool) (choices : List Choice) (place columns : ℕ) (entries : List Entry) → entries ≡ [] → EntriesTo belongs value choices place columns 0 entries
entries_none belongs value choices place columns entries none = subst (λ (es : List Entry). EntriesTo belongs value choices place columns 0 es) (sym none) (record {
  belong = All-nil (λ (e : Entry). belongs e.node);
  columns_are = All-nil (λ (e : Entry). length e.tuple ≡ columns);
  numbers = All-nil (λ (e : Entry). All IsNumber e.tuple);
  means = λ x t. ((λ y. absurd (false≢true y)), (λ found. absurd (found_none (value x) place t found)));
})

pub entries_more : (belongs : Node → Type 0) (value : (ℕ → Bool) → Node → Bool) (choices : List Choice) (place columns number : ℕ) (entries more : List Entry) (e : Entry) (c : Choice) → slice_get choices number ≡ Some c → belongs e.node → length e.tuple ≡ columns → All IsNumber e.tuple → e.tuple ≡ c.tuple → ((x : ℕ → Bool) → value x e.node ≡ row_value (value x) c.row place) → more ≡ entries ++ e ∷ []
    → EntriesTo belongs value choices place columns number entries → EntriesTo belongs value choices place columns (number + 1) more
entries_more belongs value choices place columns number entries more e c at belong long few tuple node is to = subst (λ (es : List Entry). EntriesTo belongs value choices place columns (number + 1) es) (sym is) (record {
  belong = All-append (λ (d : Entry). belongs d.node) entries (e ∷ []) to.belong (All-cons (λ (d : Entry). belongs d.node) e [] belong (All-nil (λ (d : Entry). belongs d.node)));
  columns_are = All-append (λ (d : Entry). length d.tuple ≡ columns) entries (e ∷ []) to.columns_are (All-cons (λ (d : Entry). length d.tuple ≡ columns) e [] long (All-nil (λ (d : Entry). length d.tuple ≡ columns)));
  numbers = All-append (λ (d : Entry). All IsNumber d.tuple) entries (e ∷ []) to.numbers (All-cons (λ (d : Entry). All IsNumber d.tuple) e [] few (All-nil (λ (d : Entry). All IsNumber d.tuple)));
  means = λ x t. (
    (λ y. elim (or_cases (has (value x) entries t) (is_same e.tuple t && value x e.node) (sym (has_push (value x) entries e t) ∙ y)) [
      | inl old ↦ (let (d, there, same, on) = (to.means x t).0 old in (d, more_before choices number c d at there, same, on))
      | inr new ↦ (let (one, on) = and_true (is_same e.tuple t) (value x e.node) new in (c, more_here choices number c at, sym tuple ∙ same_exact e.tuple t one, sym (node x) ∙ on))
    ]),
    (λ (d, there, same, on). has_push (value x) entries e t ∙ elim (more_cases choices number c d at there) [
      | inl before ↦ or_left (has (value x) entries t) (is_same e.tuple t && value x e.node) ((to.means x t).1 (d, before, same, on))
      | inr equal ↦ or_right (has (value x) entries t) (is_same e.tuple t && value x e.node) (and_both (is_same e.tuple t) (value x e.node) (ap (λ (s : List ℕ). is_same s t) tuple ∙ ap (λ (b : Choice). is_same b.tuple t) equal ∙ ap (λ (s : List ℕ). is_same s t) same ∙ same_itself t) (node x ∙ ap (λ (b : Choice). row_value (value x) b.row place) equal ∙ on))
    ]),
  );
})

pub gathers : (old new : (ℕ → Bool) → Node → Bool) (choices : List Choice) (place : ℕ) (entries : List Entry) (number : ℕ) (m : MatrixEntries) → length choices ≤ number → ((x : ℕ → Bool) (t : List ℕ) → truth (new x) m t ≡ has (old x) entries t) → ((x : ℕ → Bool) (t : List ℕ) → (has (old x) entries t ≡ true) ↔ IsFound (old x) (take number choices) place t) → (x : ℕ → Bool) (t : List ℕ) → (truth (new x) m t ≡ true) ↔ IsFound (old x) choices place t
gathers old new choices place entries number m high same means x t =
    let q = subst (λ (cs : List Choice). (has (old x) entries t ≡ true) ↔ IsFound (old x) cs place t) (take_all choices number high) (means x t) in
    ((λ y. q.0 (sym (same x t) ∙ y)), (λ found. same x t ∙ q.1 found))
