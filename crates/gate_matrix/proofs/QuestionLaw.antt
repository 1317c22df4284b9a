-- What the nodes of a matrix's entries say of its set.
use Rattle.std.proofs.Common.{◌≡◌, ◌↔◌, ℕ, ◌+◌, ◌<◌, Bool, true, false, not, ◌&&◌, ◌||◌, List, [], ◌∷◌, ◌++◌, length, get_or, take, Option, Some, None, refl, sym, ◌∙◌, ap, subst, inl, inr, ◌⊎◌, Result, Ok, Err, IfOk, if◌then◌else◌}
use Rattle.std.proofs.lemmas.List.{take_more}
use Rattle.std.specs.declared.cmp.Ordering.TheVariants.{Less}
use Rattle.std.specs.List.{list_any, AllByRecursion}
use Rattle.std.specs.List.Sorted.{IsStrictlySortedBy}
use Rattle.std.proofs.lemmas.Bool.{cases_Bool, true≢false, false≢true}
use Rattle.std.proofs.lemmas.List.Folds.{Any-from_list_any, list_any_at, list_any-append}
use Rattle.gate_trait.specs.declared.node.Node.{Node}
use Rattle.gate_trait.specs.Built.{Computes, xor}
use Rattle.core_tuples.specs.Sets.{tuple_cmp, is_same}
use Rattle.core_tuples.proofs.OrderedLemmas.{both, apart, same_exact, same_itself}
use Rattle.gate_matrix.specs.declared.entry.Entry.{Entry}
use Rattle.gate_matrix.specs.Matrices.{MatrixEntries, IsMatrix, tuples_of, node_at, truth, truth_of}
use Rattle.gate_matrix.specs.Merged.{OptionComputes}
use Rattle.gate_matrix.specs.Questions.{HasSome, HasLone, IsInside, IsEqual, more_than_one}
use Rattle.gate_matrix.proofs.FoundLemmas.{rec_at, node_here, found_entry, truth_here}

module _ (value : Node → Bool) (m : MatrixEntries) (i : IsMatrix m) where
  -- some node is true just where the set has a tuple
  pub some_means : (list_any (λ e. value e.node) m.entries ≡ true) ↔ HasSome value m
  some_means = (
    (λ h. let o = Any-from_list_any (λ (e : Entry). value e.node) m.entries h in
        (o.1.tuple, truth_here value m o.0 o.1 i o.2 o.3 ∙ o.4)),
    (λ (t, h). let o = found_entry value m.entries t h in
        list_any_at (λ (e : Entry). value e.node) m.entries o.0 o.1 o.2 (ap (λ (e : Entry). value e.node) o.3 ∙ o.5)),
  )

-- one more node
and_or : (a b c : Bool) → a && (b || c) ≡ (a && b) || (a && c)
and_or true b c = refl
and_or false b c = refl

swapped : (a b c d : Bool) → (a || b) || (c || d) ≡ (a || c) || (b || d)
swapped true b c d = refl
swapped false true true d = refl
swapped false true false d = refl
swapped false false true d = refl
swapped false false false d = refl

more_push : (value : Node → Bool) (es : List Entry) (e : Entry) → more_than_one value (es ++ e ∷ []) ≡ more_than_one value es || (list_any (λ f. value f.node) es && value e.node)
more_push value [] e = and_none (value e.node)
  where
    and_none : (b : Bool) → (b && false) || false ≡ false
    and_none true = refl
    and_none false = refl
more_push value (d ∷ es) e =
    let any = list_any (λ (f : Entry). value f.node) es in
    let v = value e.node in
    ap (λ z. (value d.node && z) || more_than_one value (es ++ e ∷ [])) (list_any-append (λ f. value f.node) es (e ∷ []) ∙ ap (λ z. any || z) (or_none v))
    ∙ ap (λ z. (value d.node && (any || v)) || z) (more_push value es e)
    ∙ ap (λ z. z || (more_than_one value es || (any && v))) (and_or (value d.node) any v)
    ∙ swapped (value d.node && any) (value d.node && v) (more_than_one value es) (any && v)
    ∙ ap (λ z. ((value d.node && any) || more_than_one value es) || z) (shared (value d.node) any v)
  where
    or_none : (b : Bool) → b || false ≡ b
    or_none true = refl
    or_none false = refl

    shared : (a b c : Bool) → (a && c) || (b && c) ≡ (a || b) && c
    shared true true true = refl
    shared true true false = refl
    shared true false true = refl
    shared true false false = refl
    shared false b c = refl

pub more_step : (value : Node → Bool) (es : List Entry) (k : ℕ) (e : Entry) → k < length es → e ≡ get_or es k e → more_than_one value (take (k + 1) es) ≡ more_than_one value (take k es) || (list_any (λ f. value f.node) (take k es) && value e.node)
more_step value es k e lt is =
    ap (λ (fs : List Entry). more_than_one value fs) (take_more es k e lt ∙ ap (λ (d : Entry). take k es ++ d ∷ []) (sym is))
    ∙ more_push value (take k es) e

-- two entries in order have different tuples
higher : (value : Node → Bool) (s : List ℕ) (es : List Entry) → AllByRecursion (λ y. tuple_cmp s y ≡ Less) (tuples_of es) → (t : List ℕ) → truth_of value (node_at es t) ≡ true → s ≡ t → ⊥
higher value s es all t h e =
    let o = found_entry value es t h in
    let less : tuple_cmp s (get_or es o.0 o.1).tuple ≡ Less = rec_at (λ (y : List ℕ). tuple_cmp s y ≡ Less) es o.0 o.1 all o.2 in
    let same : (get_or es o.0 o.1).tuple ≡ s = ap (λ (d : Entry). d.tuple) o.3 ∙ o.4 ∙ sym e in
    true≢false (sym (same_itself s) ∙ apart s s (subst (λ (u : List ℕ). tuple_cmp s u ≡ Less) same less))

-- a tuple that is true among the later entries is so among all
lifted : (value : Node → Bool) (e : Entry) (es : List Entry) → IsStrictlySortedBy tuple_cmp (tuples_of (e ∷ es)) → (t : List ℕ) → truth_of value (node_at es t) ≡ true → truth_of value (node_at (e ∷ es) t) ≡ true
unfolding IsStrictlySortedBy
lifted value e es s t h = elim (cases_Bool (is_same e.tuple t)) [
  | inl f ↦ absurd (higher value e.tuple es s.0 t h (same_exact e.tuple t f))
  | inr f ↦ ap (λ (b : Bool). truth_of value (if b then Some e.node else node_at es t)) f ∙ h
]

here_true : (value : Node → Bool) (e : Entry) (es : List Entry) (t : List ℕ) → is_same e.tuple t ≡ true → truth_of value (node_at (e ∷ es) t) ≡ value e.node
here_true value e es t f = ap (λ (b : Bool). truth_of value (if b then Some e.node else node_at es t)) f

later_true : (value : Node → Bool) (e : Entry) (es : List Entry) (t : List ℕ) → is_same e.tuple t ≡ false → truth_of value (node_at (e ∷ es) t) ≡ truth_of value (node_at es t)
later_true value e es t f = ap (λ (b : Bool). truth_of value (if b then Some e.node else node_at es t)) f

any_true : (value : Node → Bool) (es : List Entry) (t : List ℕ) → truth_of value (node_at es t) ≡ true → list_any (λ f. value f.node) es ≡ true
any_true value es t h = let o = found_entry value es t h in list_any_at (λ (e : Entry). value e.node) es o.0 o.1 o.2 (ap (λ (e : Entry). value e.node) o.3 ∙ o.5)

no_two : (a b c : Bool) → (a && b) || c ≡ false → a ≡ true → b ≡ true → ⊥
no_two a b c h e f = let g : (true && true) || c ≡ true = refl in absurd (true≢false (cc))

no_rest : (a c : Bool) → a || c ≡ false → c ≡ false
no_rest true c h = absurd (true≢false h)
no_rest false c h = h

lone_from : (value : Node → Bool) (es : List Entry) → more_than_one value es ≡ false → (s t : List ℕ) → truth_of value (node_at es s) ≡ true → truth_of value (node_at es t) ≡ true → s ≡ t
lone_from value [] none s t h k = absurd (false≢true h)
lone_from value (e ∷ es) none s t h k = elim (cases_Bool (is_same e.tuple s)) [
  | inl f ↦ elim (cases_Bool (is_same e.tuple t)) [
    | inl g ↦ sym (same_exact e.tuple s f) ∙ same_exact e.tuple t g
    | inr g ↦ absurd (no_two (value e.node) (list_any (λ d. value d.node) es) (more_than_one value es) none (sym (here_true value e es s f) ∙ h) (any_true value es t (sym (later_true value e es t g) ∙ k)))
  ]
  | inr f ↦ elim (cases_Bool (is_same e.tuple t)) [
    | inl g ↦ absurd (no_two (value e.node) (list_any (λ d. value d.node) es) (more_than_one value es) none (sym (here_true value e es t g) ∙ k) (any_true value es s (sym (later_true value e es s f) ∙ h)))
    | inr g ↦ lone_from value es (no_rest (value e.node && list_any (λ d. value d.node) es) (more_than_one value es) none) s t (sym (later_true value e es s f) ∙ h) (sym (later_true value e es t g) ∙ k)
  ]
]

one_of : (a c : Bool) → a || c ≡ true → (a ≡ true) ⊎ (c ≡ true)
one_of true c h = inl refl
one_of false c h = inr h

lone_into : (value : Node → Bool) (es : List Entry) → IsStrictlySortedBy tuple_cmp (tuples_of es) → ((s t : List ℕ) → truth_of value (node_at es s) ≡ true → truth_of value (node_at es t) ≡ true → s ≡ t) → more_than_one value es ≡ true → ⊥
unfolding IsStrictlySortedBy
lone_into value [] s lone h = false≢true h
lone_into value (e ∷ es) s lone h = elim (one_of (value e.node && list_any (λ d. value d.node) es) (more_than_one value es) h) [
  | inl two ↦ (let parts = both (value e.node) (list_any (λ d. value d.node) es) two in
      let o = Any-from_list_any (λ (d : Entry). value d.node) es parts.1 in
      let f = o.1 in
      let at : truth_of value (node_at es f.tuple) ≡ true =
      ap (λ (d : Entry). truth_of value (node_at es d.tuple)) (sym o.3)
      ∙ ap (λ (n : Option Node). truth_of value n) (node_here es o.0 f s.1 o.2)
      ∙ ap (λ (d : Entry). value d.node) o.3 ∙ o.4 in
      higher value e.tuple es s.0 f.tuple at (lone e.tuple f.tuple (here_true value e es e.tuple (same_itself e.tuple) ∙ parts.0) (lifted value e es s f.tuple at)))
  | inr rest ↦ lone_into value es s.1 (λ u t h k. lone u t (lifted value e es s u h) (lifted value e es s t k)) rest
]

pub lone_means : (value : Node → Bool) (m : MatrixEntries) → IsMatrix m → (not (more_than_one value m.entries) ≡ true) ↔ HasLone value m
lone_means value m i = (
  (λ h. lone_from value m.entries (not_true (more_than_one value m.entries) h)),
  (λ lone. elim (cases_Bool (more_than_one value m.entries)) [
    | inl two ↦ absurd (lone_into value m.entries i.sorted lone two)
    | inr none ↦ ap not none
  ]),
)
  where
    not_true : (b : Bool) → not b ≡ true → b ≡ false
    not_true true h = sym h
    not_true false h = refl

-- one just where some and lone
pub one_means : (a b : Bool) (P Q : Type 0) → (a ≡ true) ↔ P → (b ≡ true) ↔ Q → (a && b ≡ true) ↔ (P × Q)
one_means a b P Q p q = (
  (λ h. let parts = both a b h in (p.0 parts.0, q.0 parts.1)),
  (λ h. let e = p.1 h.0 in let f = q.1 h.1 in let g : true && true ≡ true = refl in cc),
)

-- nothing outside is to be inside
pub inside_law : (value after : Node → Bool) (a b rest : MatrixEntries) (outside none : Bool) → none ≡ not outside → ((outside ≡ true) ↔ HasSome after rest) → ((t : List ℕ) → truth after rest t ≡ truth value a t && not (truth value b t)) → ((none ≡ true) ↔ IsInside value a b)
inside_law value after a b rest outside none is some same = (
  (λ (q : none ≡ true). λ (t : List ℕ) (p : truth value a t ≡ true). elim (cases_Bool (truth value b t)) [
    | inl t_in ↦ t_in
    | inr is_false ↦ (let k : true && not false ≡ true = refl in
        let there : truth after rest t ≡ true = same t ∙ ap (λ (c : Bool). c && not (truth value b t)) p ∙ ap (λ (c : Bool). not c) is_false in
        let o = some.1 (t, there) in
        absurd (false≢true (ap not (sym o) ∙ sym is ∙ q)))
  ]),
  (λ (q : IsInside value a b). elim (cases_Bool outside) [
    | inl is_true ↦ (let s = some.0 is_true in
        let parts = both (truth value a s.0) (not (truth value b s.0)) (sym (same s.0) ∙ s.1) in
        absurd (false≢true (ap not (sym (q s.0 parts.0)) ∙ parts.1)))
    | inr is_false ↦ is ∙ ap not is_false
  ]),
)

-- nothing in just one of two sets is to have them equal
pub equal_law : (value after : Node → Bool) (a b rest : MatrixEntries) (different none : Bool) → none ≡ not different → ((different ≡ true) ↔ HasSome after rest) → ((t : List ℕ) → truth after rest t ≡ xor (truth value a t) (truth value b t)) → ((none ≡ true) ↔ IsEqual value a b)
equal_law value after a b rest different none is some same = (
  (λ (q : none ≡ true). λ (t : List ℕ). same_of (truth value a t) (truth value b t) (λ p.
      let o = some.1 (t, same t ∙ p) in false≢true (ap not (sym o) ∙ sym is ∙ q))),
  (λ (q : IsEqual value a b). elim (cases_Bool different) [
    | inl is_true ↦ let s = some.0 is_true in absurd (never (truth value a s.0) (truth value b s.0) (q s.0) (sym (same s.0) ∙ s.1))
    | inr is_false ↦ is ∙ ap not is_false
  ]),
)
  where
    same_of : (v w : Bool) → (xor v w ≡ true → ⊥) → v ≡ w
    same_of true true f = refl
    same_of true false f = absurd (f refl)
    same_of false true f = absurd (f refl)
    same_of false false f = refl

    never : (v w : Bool) → v ≡ w → xor v w ≡ true → ⊥
    never true true e h = false≢true h
    never true false e h = true≢false e
    never false true e h = false≢true e
    never false false e h = false≢true h

-- ---- answers as nodes

pub question_made : {E : Type 0} (r : Result Node E) (belongs : Node → Type 0) (after : (ℕ → Bool) → Node → Bool) (meaning : (ℕ → Bool) → Bool) (P : (ℕ → Bool) → Type 0) → IfOk r (λ n. belongs n × ((x : ℕ → Bool) → after x n ≡ meaning x)) → ((x : ℕ → Bool) → (meaning x ≡ true) ↔ P x) → IfOk r (λ n. (x : ℕ → Bool) → (after x n ≡ true) ↔ P x)
question_made (Ok n) belongs after meaning P h means = λ x. ((λ e. (means x).0 (sym (h.1 x) ∙ e)), (λ p. h.1 x ∙ (means x).1 p))
question_made (Err e) belongs after meaning P h means = tt

pub computed : {S E : Type 0} (r : Result Node E) (belongs : S → Node → Type 0) (value : S → (ℕ → Bool) → Node → Bool) (h : S) (meaning : (ℕ → Bool) → Bool) → IfOk r (λ n. Computes belongs value h n meaning) → IfOk r (λ n. belongs h n × ((x : ℕ → Bool) → value h x n ≡ meaning x))
computed (Ok n) belongs value h meaning c = (c.there, c.gives)
computed (Err e) belongs value h meaning c = tt

pub node_belongs : {S E : Type 0} (r : Result Node E) (belongs : S → Node → Type 0) (value : S → (ℕ → Bool) → Node → Bool) (h : S) (meaning : (ℕ → Bool) → Bool) → IfOk r (λ n. Computes belongs value h n meaning) → IfOk r (λ n. belongs h n)
node_belongs (Ok n) belongs value h meaning c = c.there
node_belongs (Err e) belongs value h meaning c = tt

-- a test by other words
pub through : (b c : Bool) (P : Type 0) → b ≡ c → (c ≡ true) ↔ P → (b ≡ true) ↔ P
through b c P e h = ((λ f. h.0 (sym e ∙ f)), (λ p. e ∙ h.1 p))

-- a node that may be wanting, as a node
pub node_made : {S : Type 0} (belongs : S → Node → Type 0) (value : S → (ℕ → Bool) → Node → Bool) (h : S) (o : Option Node) (n : Node) (meaning : (ℕ → Bool) → Bool) → OptionComputes belongs value h o meaning → o ≡ Some n → Computes belongs value h n meaning
node_made belongs value h o n meaning c e = record { there = c.there n e; gives = λ x. sym (ap (λ (p : Option Node). truth_of (value h x) p) e) ∙ c.gives x }

pub none_made : {S : Type 0} (belongs : S → Node → Type 0) (value : S → (ℕ → Bool) → Node → Bool) (h : S) (o : Option Node) (n : Node) (meaning : (ℕ → Bool) → Bool) → OptionComputes belongs value h o meaning → o ≡ None → Computes belongs value h n (λ _. false) → Computes belongs value h n meaning
none_made belongs value h o n meaning c e k = record { there = k.there; gives = λ x. k.gives x ∙ sym (ap (λ (p : Option Node). truth_of (value h x) p) e) ∙ c.gives x }
