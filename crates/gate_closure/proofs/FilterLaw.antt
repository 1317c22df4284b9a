-- What the entries that are filtered say of the set.
use Rattle.std.proofs.Common.{◌≡◌, ◌↔◌, ◌⊎◌, ℕ, suc, ◌-◌, ◌≤◌, Bool, true, false, not, ◌&&◌, ◌||◌, List, [], ◌∷◌, ◌++◌, length, get_or, Result, Ok, Err, IfOk, refl, sym, ◌∙◌, ap, arith, inl, inr, length-append}
use Rattle.std.specs.List.{list_any}
use Rattle.std.proofs.lemmas.Bool.{cases_Bool, false≢true}
use Rattle.std.proofs.lemmas.List.Folds.{Any-from_list_any, list_any_at}
use Rattle.gate_trait.specs.declared.node.Node.{Node}
use Rattle.core_tuples.specs.Sets.{is_same}
use Rattle.core_tuples.proofs.OrderedLemmas.{both, same_exact, same_itself}
use Rattle.gate_matrix.specs.declared.entry.Entry.{Entry}
use Rattle.gate_matrix.specs.Matrices.{MatrixEntries, IsMatrix, truth, has}
use Rattle.gate_matrix.proofs.FoundLemmas.{found_entry, truth_here}
use Rattle.gate_closure.specs.declared.filters.Side.TheVariants.{First, Last}
use Rattle.gate_closure.specs.Filters.{atom_at, IsFirst, IsOverridden, IsLeftRestricted, IsRightRestricted}

and_assoc : (a b c : Bool) → (a && b) && c ≡ a && (b && c)
and_assoc true b c = refl
and_assoc false b c = refl

and_or : (a b c : Bool) → (a || b) && c ≡ (a && c) || (b && c)
and_or true true true = refl
and_or true true false = refl
and_or true false true = refl
and_or true false false = refl
and_or false b c = refl

-- what is asked of an entry's tuple is asked of t where they are the same
shared_here : (f : List ℕ → Bool) (s t : List ℕ) (v : Bool) → is_same s t && (v && f s) ≡ (is_same s t && v) && f t
shared_here f s t v = elim (cases_Bool (is_same s t)) [
  | inl e ↦ (let same : s ≡ t = same_exact s t e in
      ap (λ (u : List ℕ). is_same s t && (v && f u)) same ∙ sym (and_assoc (is_same s t) v (f t)))
  | inr e ↦ ap (λ (b : Bool). b && (v && f s)) e ∙ ap (λ (b : Bool). (b && v) && f t) (sym e)
]

-- entries that are kept where a test of their tuples holds
pub shared_truth : (f : List ℕ → Bool) (value : Node → Bool) (es : List Entry) (t : List ℕ) → list_any (λ e. is_same e.tuple t && (value e.node && f e.tuple)) es ≡ has value es t && f t
shared_truth f value [] t = refl
shared_truth f value (e ∷ es) t =
    ap (λ (c : Bool). c || list_any (λ d. is_same d.tuple t && (value d.node && f d.tuple)) es) (shared_here f e.tuple t (value e.node))
    ∙ ap (λ (c : Bool). ((is_same e.tuple t && value e.node) && f t) || c) (shared_truth f value es t)
    ∙ sym (and_or (is_same e.tuple t && value e.node) (has value es t) (f t))

-- a tuple that is true has the matrix's columns
pub wide_true : (value : Node → Bool) (a : MatrixEntries) (t : List ℕ) → IsMatrix a → truth value a t ≡ true → length t ≡ a.arity
wide_true value a t i h =
    let o = found_entry value a.entries t h in
    ap (λ (s : List ℕ). length s) (sym o.4) ∙ ap (λ (e : Entry). length e.tuple) (sym o.3) ∙ i.columns o.0 o.1 o.2

first_split : (t : List ℕ) → 1 ≤ length t → (u : List ℕ) × (t ≡ get_or t 0 0 ∷ u)
first_split [] long = absurd (omega arith)
first_split (x ∷ t) long = (t, refl)

last_split : (t : List ℕ) → 1 ≤ length t → (u : List ℕ) × (t ≡ u ++ get_or t (length t - 1) 0 ∷ [])
last_split [] long = absurd (omega arith)
last_split (x ∷ []) long = ([], refl)
last_split (x ∷ (y ∷ t)) long =
    let r = last_split (y ∷ t) (omega arith) in
    let e : length (x ∷ (y ∷ t)) - 1 ≡ suc (length (y ∷ t) - 1) = omega arith in
    (x ∷ r.0, ap (λ (s : List ℕ). x ∷ s) r.1 ∙ ap (λ (n : ℕ). x ∷ (r.0 ++ get_or (x ∷ (y ∷ t)) n 0 ∷ [])) (sym e))

last_snoc : (s : List ℕ) (c : ℕ) → get_or (s ++ c ∷ []) (length (s ++ c ∷ []) - 1) 0 ≡ c
last_snoc [] c = refl
last_snoc (x ∷ s) c =
    let e : length (x ∷ (s ++ c ∷ [])) - 1 ≡ suc (length (s ++ c ∷ []) - 1) = omega (arith, length-append s (c ∷ [])) in
    ap (λ (n : ℕ). get_or (x ∷ (s ++ c ∷ [])) n 0) e ∙ last_snoc s c

and_two : (p q : Bool) → p ≡ true → q ≡ true → p && q ≡ true
and_two p q e f = let g : true && true ≡ true = refl in cc

pub left_means : (value : Node → Bool) (s a : MatrixEntries) (t : List ℕ) → IsMatrix a → (truth value a t && truth value s (atom_at First t ∷ []) ≡ true) ↔ IsLeftRestricted value s a t
left_means value s a t i = (
  (λ h.
      let parts = both (truth value a t) (truth value s (get_or t 0 0 ∷ [])) h in
      let r = first_split t (omega (arith, i.least, wide_true value a t i parts.0)) in
      (parts.0, (get_or t 0 0, r.0, r.1, parts.1))),
  (λ (there, (x, u, e, inside)).
      and_two (truth value a t) (truth value s (get_or t 0 0 ∷ [])) there (ap (λ (v : List ℕ). truth value s (get_or v 0 0 ∷ [])) e ∙ inside)),
)

pub right_means : (value : Node → Bool) (a s : MatrixEntries) (t : List ℕ) → IsMatrix a → (truth value a t && truth value s (atom_at Last t ∷ []) ≡ true) ↔ IsRightRestricted value a s t
right_means value a s t i = (
  (λ h.
      let parts = both (truth value a t) (truth value s (get_or t (length t - 1) 0 ∷ [])) h in
      let r = last_split t (omega (arith, i.least, wide_true value a t i parts.0)) in
      (parts.0, (r.0, get_or t (length t - 1) 0, r.1, parts.1))),
  (λ (there, (u, x, e, inside)).
      and_two (truth value a t) (truth value s (get_or t (length t - 1) 0 ∷ [])) there
      (ap (λ (v : List ℕ). truth value s (get_or v (length v - 1) 0 ∷ [])) e ∙ ap (λ (n : ℕ). truth value s (n ∷ [])) (last_snoc u x) ∙ inside)),
)

-- the test of first atoms
pub first_means : (value : Node → Bool) (a : MatrixEntries) (t : List ℕ) → IsMatrix a → (list_any (λ e. is_same (get_or e.tuple 0 0 ∷ []) t && value e.node) a.entries ≡ true) ↔ IsFirst value a t
first_means value a t i = (
  (λ h.
      let o = Any-from_list_any (λ (e : Entry). is_same (get_or e.tuple 0 0 ∷ []) t && value e.node) a.entries h in
      let e = o.1 in
      let parts = both (is_same (get_or e.tuple 0 0 ∷ []) t) (value e.node) o.4 in
      let wide : length e.tuple ≡ a.arity = ap (λ (d : Entry). length d.tuple) (sym o.3) ∙ i.columns o.0 o.1 o.2 in
      let r = first_split e.tuple (omega (arith, i.least)) in
      record {
        x = get_or e.tuple 0 0;
        u = r.0;
        is = sym (same_exact (get_or e.tuple 0 0 ∷ []) t parts.0);
        there = ap (λ (s : List ℕ). truth value a s) (sym r.1) ∙ truth_here value a o.0 e i o.2 o.3 ∙ parts.1;
      }),
  (λ f.
      let o = found_entry value a.entries (f.x ∷ f.u) f.there in
      let e = o.1 in
      let begins : get_or e.tuple 0 0 ∷ [] ≡ t = ap (λ (s : List ℕ). get_or s 0 0 ∷ []) o.4 ∙ sym f.is in
      let p = λ (d : Entry). is_same (get_or d.tuple 0 0 ∷ []) t && value d.node in
      list_any_at p a.entries o.0 e o.2 (ap p o.3 ∙ and_two (is_same (get_or e.tuple 0 0 ∷ []) t) (value e.node)
      (ap (λ (s : List ℕ). is_same (get_or e.tuple 0 0 ∷ []) s) (sym begins) ∙ same_itself (get_or e.tuple 0 0 ∷ [])) o.5)),
)

or_cases : (v w : Bool) → v || w ≡ true → (v ≡ true) ⊎ (w ≡ true)
or_cases true w h = inl refl
or_cases false w h = inr h

or_left : (v w : Bool) → v ≡ true → v || w ≡ true
or_left v w e = ap (λ (b : Bool). b || w) e

or_right : (v w : Bool) → w ≡ true → v || w ≡ true
or_right true w e = refl
or_right false w e = e

not_true : (b : Bool) → not b ≡ true → b ≡ true → ⊥
not_true true h k = false≢true h
not_true false h k = false≢true k

-- the tuples of the first that begin as none of the second does, and those of the second
pub override_means : (value : Node → Bool) (a b : MatrixEntries) (t : List ℕ) (over : Bool) → IsMatrix a → (over ≡ true) ↔ IsFirst value b (atom_at First t ∷ []) → ((truth value a t && not over) || truth value b t ≡ true) ↔ IsOverridden value a b t
override_means value a b t over i begins = (
  (λ h. elim (or_cases (truth value a t && not over) (truth value b t) h) [
    | inl kept ↦ (let parts = both (truth value a t) (not over) kept in
        inr (parts.0, (λ x s u e there. not_true over parts.1 (begins.1 (record { x = x; u = u; is = ap (λ (v : List ℕ). get_or v 0 0 ∷ []) e; there = there })))))
    | inr there ↦ inl there
  ]),
  (elim [
    | inl there ↦ or_right (truth value a t && not over) (truth value b t) there
    | inr (there, none) ↦ elim (cases_Bool over) [
      | inl e ↦ (let f = begins.0 e in
          let r = first_split t (omega (arith, i.least, wide_true value a t i there)) in
          let same : f.x ≡ get_or t 0 0 = let g = f.is in cc in
          absurd (none (get_or t 0 0) r.0 f.u r.1 (ap (λ (n : ℕ). truth value b (n ∷ f.u)) (sym same) ∙ f.there)))
      | inr e ↦ or_left (truth value a t && not over) (truth value b t) (and_two (truth value a t) (not over) there (ap not e))
    ]
  ]),
)

-- a matrix of which the truth is known, by other words
pub filtered_made : {E : Type 0} (r : Result MatrixEntries E) (after : (ℕ → Bool) → Node → Bool) (h q : (ℕ → Bool) → List ℕ → Bool) → IfOk r (λ m. (x : ℕ → Bool) (t : List ℕ) → truth (after x) m t ≡ h x t) → ((x : ℕ → Bool) (t : List ℕ) → h x t ≡ q x t) → IfOk r (λ m. (x : ℕ → Bool) (t : List ℕ) → truth (after x) m t ≡ q x t)
filtered_made (Ok m) after h q truths same = λ x t. truths x t ∙ same x t
filtered_made (Err e) after h q truths same = tt

pub means_made : {E : Type 0} (r : Result MatrixEntries E) (after : (ℕ → Bool) → Node → Bool) (q : (ℕ → Bool) → List ℕ → Bool) (P : (ℕ → Bool) → List ℕ → Type 0) → IfOk r (λ m. (x : ℕ → Bool) (t : List ℕ) → truth (after x) m t ≡ q x t) → ((x : ℕ → Bool) (t : List ℕ) → (q x t ≡ true) ↔ P x t) → IfOk r (λ m. (x : ℕ → Bool) (t : List ℕ) → (truth (after x) m t ≡ true) ↔ P x t)
means_made (Ok m) after q P truths means = λ x t. ((λ e. (means x t).0 (sym (truths x t) ∙ e)), (λ p. truths x t ∙ (means x t).1 p))
means_made (Err e) after q P truths means = tt

pub arity_made : {E : Type 0} (r : Result MatrixEntries E) (m n : ℕ) → m ≡ n → IfOk r (λ d. d.arity ≡ m) → IfOk r (λ d. d.arity ≡ n)
arity_made (Ok d) m n e h = h ∙ e
arity_made (Err e) m n f h = tt
