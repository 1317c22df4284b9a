-- Where a tuple stands among entries in order, and what a node that is put changes.
use Rattle.std.proofs.Common.{◌≡◌, ◌⊎◌, ℕ, zero, suc, ◌+◌, ◌<◌, List, [], ◌∷◌, ◌++◌, length, get_or, set, take, drop, All, Bool, false, cond, Option, Some, None, Result, Ok, Err, OnOk, OnErr, Contains, refl, sym, ◌∙◌, ap, subst, inl, inr, arith}
use Rattle.std.specs.declared.cmp.Ordering.TheVariants.{Less, Equal, Greater}
use Rattle.std.specs.Ordering.{is_eq}
use Rattle.std.specs.List.{AllWithin, AllByRecursion, slice_get, insert}
use Rattle.std.specs.List.Sorted.{IsStrictlySortedBy}
use Rattle.std.proofs.lemmas.Bool.{cases_lt, cases_Bool}
use Rattle.std.proofs.lemmas.Option.{slice_get_within}
use Rattle.std.proofs.lemmas.List.Elements.{All-set, All-append, All-take, All-drop, All-cons, All-weaker, All-contains_itself}
use Rattle.gate_trait.specs.declared.node.Node.{Node}
use Rattle.core_tuples.specs.Index.{IsNumber}
use Rattle.core_tuples.specs.Sets.{tuple_cmp, is_same, IsGap, IsTupleSet}
use Rattle.core_tuples.proofs.OrderLemmas.{all_below, all_above, same_tuple, set_insert}
use Rattle.core_tuples.proofs.OrderedLemmas.{same_at, same_exact, apart}
use Rattle.gate_matrix.specs.declared.entry.Entry.{Entry}
use Rattle.gate_matrix.specs.Matrices.{MatrixEntries, IsMatrix, tuples_of, node_at, IsPut}
use Rattle.gate_matrix.proofs.BasicLemmas.{length_tuples, tuples_append, set_from_matrix, matrix_from_set, head_all, tail_all}
use Rattle.gate_matrix.proofs.FoundLemmas.{node_here}

-- the tuple of the entry at a place
pub tuple_at : (es : List Entry) (i : ℕ) (d : List ℕ) (e : Entry) → i < length es → e ≡ get_or es i e → get_or (tuples_of es) i d ≡ e.tuple
tuple_at [] i d e lt is = absurd (omega arith)
tuple_at (f ∷ es) zero d e lt is = ap (λ (x : Entry). x.tuple) (sym is)
tuple_at (f ∷ es) (suc i) d e lt is = tuple_at es i d e (omega arith) is

pub tuple_get : (es : List Entry) (i : ℕ) (e : Entry) → i < length es → e ≡ get_or es i e → slice_get (tuples_of es) i ≡ Some e.tuple
tuple_get [] i e lt is = absurd (omega arith)
tuple_get (f ∷ es) zero e lt is = ap (λ (x : Entry). Some x.tuple) (sym is)
tuple_get (f ∷ es) (suc i) e lt is = tuple_get es i e (omega arith) is

-- the middle tuple, as the tests see it
pub less_here : (es : List Entry) (t : List ℕ) (m : ℕ) (e : Entry) → IsStrictlySortedBy tuple_cmp (tuples_of es) → m < length es → e ≡ get_or es m e → tuple_cmp (get_or es m e).tuple t ≡ Less → AllWithin (λ y. tuple_cmp y t ≡ Less) (tuples_of es) 0 (m + 1)
less_here es t m e s lt is h =
    all_below (tuples_of es) t m s (omega (arith, length_tuples es)) (λ d. ap (λ (u : List ℕ). tuple_cmp u t) (tuple_at es m d e lt is) ∙ ap (λ (x : Entry). tuple_cmp x.tuple t) is ∙ h)

pub greater_here : (es : List Entry) (t : List ℕ) (m : ℕ) (e : Entry) → IsStrictlySortedBy tuple_cmp (tuples_of es) → m < length es → e ≡ get_or es m e → tuple_cmp (get_or es m e).tuple t ≡ Greater → AllWithin (λ y. tuple_cmp y t ≡ Greater) (tuples_of es) m (length (tuples_of es))
greater_here es t m e s lt is h =
    all_above (tuples_of es) t m s (omega (arith, length_tuples es)) (λ d. ap (λ (u : List ℕ). tuple_cmp u t) (tuple_at es m d e lt is) ∙ ap (λ (x : Entry). tuple_cmp x.tuple t) is ∙ h)

pub equal_here : (es : List Entry) (t : List ℕ) (m : ℕ) (e : Entry) → m < length es → e ≡ get_or es m e → tuple_cmp (get_or es m e).tuple t ≡ Equal → slice_get (tuples_of es) m ≡ Some t
equal_here es t m e lt is h = tuple_get es m e lt is ∙ ap (λ (u : List ℕ). Some u) (same_tuple e.tuple t (ap (λ (x : Entry). tuple_cmp x.tuple t) is ∙ h))

not_same : (s t : List ℕ) → tuple_cmp s t ≡ Less → is_same s t ≡ false
not_same s t h = apart s t h

not_same_above : (s t : List ℕ) → tuple_cmp s t ≡ Greater → is_same s t ≡ false
not_same_above s t h = sym (same_at s t) ∙ ap is_eq h

-- a tuple other than all has no node
none_at : (es : List Entry) (t : List ℕ) → ((k : ℕ) (d : List ℕ) → k < length (tuples_of es) → is_same (get_or (tuples_of es) k d) t ≡ false) → node_at es t ≡ None
none_at [] t h = refl
none_at (e ∷ es) t h = ap (λ (b : Bool). cond b (Some e.node) (node_at es t)) (h zero t (omega arith)) ∙ none_at es t (λ k d lt. h (suc k) d (omega arith))

pub gap_none : (es : List Entry) (t : List ℕ) (i : ℕ) → IsGap (tuples_of es) t i → node_at es t ≡ None
gap_none es t i g = none_at es t (λ k d lt. elim (cases_lt k i) [
  | inl b ↦ not_same (get_or (tuples_of es) k d) t (g.before k d (omega arith) b)
  | inr a ↦ not_same_above (get_or (tuples_of es) k d) t (g.after k d a lt)
])

-- a tuple that is found has the node of its place
pub found_node : (es : List Entry) (t : List ℕ) (i : ℕ) (e : Entry) → IsStrictlySortedBy tuple_cmp (tuples_of es) → e ≡ get_or es i e → slice_get (tuples_of es) i ≡ Some t → node_at es t ≡ Some e.node
found_node es t i e s is at =
    let lt : i < length es = omega (arith, slice_get_within (tuples_of es) i t at, length_tuples es) in
    let same : e.tuple ≡ t = some_tuple e.tuple t (sym (tuple_get es i e lt is) ∙ at) in
    ap (λ (u : List ℕ). node_at es u) (sym same)
    ∙ ap (λ (x : Entry). node_at es x.tuple) is
    ∙ node_here es i e s lt
    ∙ ap (λ (x : Entry). Some x.node) (sym is)
  where
    some_tuple : (s t : List ℕ) → Some s ≡ Some t → s ≡ t
    some_tuple s t h = cc

-- a tuple that has a node has the columns and numbers of the others
found_fits : (arity : ℕ) (es : List Entry) (t : List ℕ) (n : Node) → All (λ e. length e.tuple ≡ arity) es → All (λ e. All IsNumber e.tuple) es → node_at es t ≡ Some n → (length t ≡ arity) × All IsNumber t
found_fits arity [] t n wide small is = absurd (cc)
found_fits arity (e ∷ es) t n wide small is =
    let P : Entry → Type 0 = λ (f : Entry). length f.tuple ≡ arity in
    let Q : Entry → Type 0 = λ (f : Entry). All IsNumber f.tuple in
    elim (cases_Bool (is_same e.tuple t)) [
      | inl h ↦ (let same = same_exact e.tuple t h in
          (subst (λ (u : List ℕ). length u ≡ arity) same (head_all P e es wide), subst (λ (u : List ℕ). All IsNumber u) same (head_all Q e es small)))
      | inr h ↦ found_fits arity es t n (tail_all P e es wide) (tail_all Q e es small) (sym (ap (λ (c : Bool). cond c (Some e.node) (node_at es t)) h) ∙ is)
    ]

-- a tuple of other columns or numbers has no node
pub none_outside : (m : MatrixEntries) (t : List ℕ) → IsMatrix m → ((length t ≡ m.arity) × All IsNumber t → ⊥) → None ≡ node_at m.entries t
none_outside m t i none = by (node_at m.entries t) refl
  where
    by : (o : Option Node) → node_at m.entries t ≡ o → None ≡ o
    by None e = refl
    by (Some n) e = absurd (none (found_fits m.arity m.entries t n i.columns i.numbers e))

-- the tuple of the entry that is found
pub found_here : (es : List Entry) (t : List ℕ) (i : ℕ) (e : Entry) → e ≡ get_or es i e → slice_get (tuples_of es) i ≡ Some t → e.tuple ≡ t
found_here es t i e is at =
    let lt : i < length es = omega (arith, slice_get_within (tuples_of es) i t at, length_tuples es) in
    some_tuple e.tuple t (sym (tuple_get es i e lt is) ∙ at)
  where
    some_tuple : (s t : List ℕ) → Some s ≡ Some t → s ≡ t
    some_tuple s t h = cc

-- ---- a node that is put

-- the entry at the tuple's place has another node
pub node_set : (es : List Entry) (i : ℕ) (e : Entry) (t : List ℕ) → IsStrictlySortedBy tuple_cmp (tuples_of es) → slice_get (tuples_of es) i ≡ Some e.tuple → node_at (set es i e) t ≡ cond (is_same e.tuple t) (Some e.node) (node_at es t)
unfolding IsStrictlySortedBy
node_set [] i e t s at = absurd (cc)
node_set (d ∷ es) zero e t s at = elim (cases_Bool (is_same e.tuple t)) [
  | inl h ↦ ap (λ (b : Bool). cond b (Some e.node) (node_at es t)) h ∙ sym (ap (λ (b : Bool). cond b (Some e.node) (node_at (d ∷ es) t)) h)
  | inr h ↦ (let here : d.tuple ≡ e.tuple = some_tuple d.tuple e.tuple at in
      let other : is_same d.tuple t ≡ false = ap (λ (u : List ℕ). is_same u t) here ∙ h in
      ap (λ (b : Bool). cond b (Some e.node) (node_at es t)) h
      ∙ sym (ap (λ (b : Bool). cond b (Some d.node) (node_at es t)) other)
      ∙ sym (ap (λ (b : Bool). cond b (Some e.node) (node_at (d ∷ es) t)) h))
]
  where
    some_tuple : (s t : List ℕ) → Some s ≡ Some t → s ≡ t
    some_tuple s t h = cc
node_set (d ∷ es) (suc i) e t s at =
    let rest = node_set es i e t s.1 at in
    elim (cases_Bool (is_same e.tuple t)) [
      | inl h ↦ (let below : tuple_cmp d.tuple e.tuple ≡ Less = rec_get (λ (y : List ℕ). tuple_cmp d.tuple y ≡ Less) (tuples_of es) i e.tuple s.0 at in
          let other : is_same d.tuple t ≡ false = ap (λ (u : List ℕ). is_same d.tuple u) (sym (same_exact e.tuple t h)) ∙ apart d.tuple e.tuple below in
          ap (λ (b : Bool). cond b (Some d.node) (node_at (set es i e) t)) other
          ∙ rest
          ∙ ap (λ (b : Bool). cond b (Some e.node) (node_at es t)) h
          ∙ sym (ap (λ (b : Bool). cond b (Some e.node) (node_at (d ∷ es) t)) h))
      | inr h ↦ ap (λ (o : Option Node). cond (is_same d.tuple t) (Some d.node) o) (rest ∙ ap (λ (b : Bool). cond b (Some e.node) (node_at es t)) h)
          ∙ sym (ap (λ (b : Bool). cond b (Some e.node) (node_at (d ∷ es) t)) h)
    ]
  where
    rec_get : (P : List ℕ → Type 0) (ts : List (List ℕ)) (i : ℕ) (t : List ℕ) → AllByRecursion P ts → slice_get ts i ≡ Some t → P t
    rec_get P [] i t all at = absurd (cc)
    rec_get P (u ∷ ts) zero t all at = let e : u ≡ t = cc in subst P e all.0
    rec_get P (u ∷ ts) (suc i) t all at = rec_get P ts i t all.1 at

pub tuples_set : (es : List Entry) (i : ℕ) (e : Entry) → slice_get (tuples_of es) i ≡ Some e.tuple → tuples_of (set es i e) ≡ tuples_of es
tuples_set [] i e at = refl
tuples_set (d ∷ es) zero e at = let here : d.tuple ≡ e.tuple = cc in ap (λ (t : List ℕ). t ∷ tuples_of es) (sym here)
tuples_set (d ∷ es) (suc i) e at = ap (λ (ts : List (List ℕ)). d.tuple ∷ ts) (tuples_set es i e at)

-- an entry is put among the others
pub node_insert : (es : List Entry) (i : ℕ) (e : Entry) (t : List ℕ) → node_at es e.tuple ≡ None → node_at (insert es i e) t ≡ cond (is_same e.tuple t) (Some e.node) (node_at es t)
node_insert [] zero e t none = refl
node_insert [] (suc i) e t none = refl
node_insert (d ∷ es) zero e t none = refl
node_insert (d ∷ es) (suc i) e t none = elim (cases_Bool (is_same d.tuple e.tuple)) [
  | inl h ↦ (let found : node_at (d ∷ es) e.tuple ≡ Some d.node = ap (λ (b : Bool). cond b (Some d.node) (node_at es e.tuple)) h in absurd (cc))
  | inr h ↦ (let rest = node_insert es i e t (sym (ap (λ (b : Bool). cond b (Some d.node) (node_at es e.tuple)) h) ∙ none) in
      elim (cases_Bool (is_same e.tuple t)) [
        | inl f ↦ (let other : is_same d.tuple t ≡ false = ap (λ (u : List ℕ). is_same d.tuple u) (sym (same_exact e.tuple t f)) ∙ h in
            ap (λ (b : Bool). cond b (Some d.node) (node_at (insert es i e) t)) other
            ∙ rest
            ∙ ap (λ (b : Bool). cond b (Some e.node) (node_at es t)) f
            ∙ sym (ap (λ (b : Bool). cond b (Some e.node) (node_at (d ∷ es) t)) f))
        | inr f ↦ ap (λ (o : Option Node). cond (is_same d.tuple t) (Some d.node) o) (rest ∙ ap (λ (b : Bool). cond b (Some e.node) (node_at es t)) f)
            ∙ sym (ap (λ (b : Bool). cond b (Some e.node) (node_at (d ∷ es) t)) f)
      ])
]

tuples_take : (es : List Entry) (i : ℕ) → tuples_of (take i es) ≡ take i (tuples_of es)
tuples_take [] zero = refl
tuples_take [] (suc i) = refl
tuples_take (e ∷ es) zero = refl
tuples_take (e ∷ es) (suc i) = ap (λ (ts : List (List ℕ)). e.tuple ∷ ts) (tuples_take es i)

tuples_drop : (es : List Entry) (i : ℕ) → tuples_of (drop i es) ≡ drop i (tuples_of es)
tuples_drop [] zero = refl
tuples_drop [] (suc i) = refl
tuples_drop (e ∷ es) zero = refl
tuples_drop (e ∷ es) (suc i) = tuples_drop es i

pub tuples_insert : (es : List Entry) (i : ℕ) (e : Entry) → tuples_of (insert es i e) ≡ insert (tuples_of es) i e.tuple
tuples_insert es i e =
    tuples_append (take i es) (e ∷ drop i es)
    ∙ ap (λ (ts : List (List ℕ)). ts ++ e.tuple ∷ tuples_of (drop i es)) (tuples_take es i)
    ∙ ap (λ (ts : List (List ℕ)). take i (tuples_of es) ++ e.tuple ∷ ts) (tuples_drop es i)

-- what a matrix keeps where a node is put
pub matrix_set : (arity : ℕ) (es : List Entry) (i : ℕ) (e : Entry) → IsMatrix (record { arity = arity; entries = es }) → slice_get (tuples_of es) i ≡ Some e.tuple → IsMatrix (record { arity = arity; entries = set es i e })
matrix_set arity es i e m at = matrix_from_set arity (set es i e) (subst (λ (ts : List (List ℕ)). IsTupleSet (record { arity = arity; tuples = ts })) (sym (tuples_set es i e at)) (set_from_matrix arity es m))

pub matrix_insert : (arity : ℕ) (es : List Entry) (i : ℕ) (e : Entry) → IsMatrix (record { arity = arity; entries = es }) → length e.tuple ≡ arity → All IsNumber e.tuple → IsGap (tuples_of es) e.tuple i → IsMatrix (record { arity = arity; entries = insert es i e })
matrix_insert arity es i e m long small gap = matrix_from_set arity (insert es i e) (subst (λ (ts : List (List ℕ)). IsTupleSet (record { arity = arity; tuples = ts })) (sym (tuples_insert es i e)) (set_insert arity (tuples_of es) e.tuple i (set_from_matrix arity es m) long small gap))

pub put_set : (arity : ℕ) (es : List Entry) (i : ℕ) (e : Entry) (tuple : List ℕ) → e.tuple ≡ tuple → IsMatrix (record { arity = arity; entries = es }) → slice_get (tuples_of es) i ≡ Some tuple → IsPut (record { arity = arity; entries = es }) tuple e.node (record { arity = arity; entries = set es i e })
put_set arity es i e tuple same m at = record {
  columns = refl;
  nodes = λ t. node_set es i e t m.sorted (at ∙ ap (λ (u : List ℕ). Some u) (sym same)) ∙ ap (λ (u : List ℕ). cond (is_same u t) (Some e.node) (node_at es t)) same;
  from = let P : Entry → Type 0 = λ d. ((d.tuple ≡ tuple) × (d.node ≡ e.node)) ⊎ Contains es d in All-set P es i e (inl (same, refl)) (All-weaker (Contains es) P (λ d there. inr there) es (All-contains_itself es));
}

pub put_insert : (arity : ℕ) (es : List Entry) (i : ℕ) (e : Entry) (tuple : List ℕ) → e.tuple ≡ tuple → IsGap (tuples_of es) tuple i → IsPut (record { arity = arity; entries = es }) tuple e.node (record { arity = arity; entries = insert es i e })
put_insert arity es i e tuple same gap = record {
  columns = refl;
  nodes = λ t. node_insert es i e t (ap (λ (u : List ℕ). node_at es u) same ∙ gap_none es tuple i gap) ∙ ap (λ (u : List ℕ). cond (is_same u t) (Some e.node) (node_at es t)) same;
  from =
      let P : Entry → Type 0 = λ d. ((d.tuple ≡ tuple) × (d.node ≡ e.node)) ⊎ Contains es d in
      let kept : All P es = All-weaker (Contains es) P (λ d there. inr there) es (All-contains_itself es) in
      All-append P (take i es) (e ∷ drop i es) (All-take P i es kept) (All-cons P e (drop i es) (inl (same, refl)) (All-drop P i es kept));
}

-- a matrix stays one, whether memory sufficed or not
pub still_matrix : {T E : Type 0} (r : Result T E) (arity : ℕ) (old new : List Entry) → OnOk r (IsMatrix (record { arity = arity; entries = new })) → OnErr r (new ≡ old) → IsMatrix (record { arity = arity; entries = old }) → IsMatrix (record { arity = arity; entries = new })
still_matrix (Ok v) arity old new made same before = made
still_matrix (Err e) arity old new made same before = subst (λ (es : List Entry). IsMatrix (record { arity = arity; entries = es })) (sym same) before
