-- How many tuples of a matrix are true.
use Rattle.std.proofs.Common.{◌≡◌, ◌≢◌, ◌↔◌, ◌⊎◌, ℕ, zero, suc, ◌+◌, ◌<◌, Bool, true, false, ◌&&◌, ◌||◌, cond, List, [], ◌∷◌, length, map, get_or, Contains, All, AllPairs, refl, sym, ap, ◌∙◌, subst, arith, inl, inr, ℤ, pos}
use Rattle.std.specs.declared.cmp.Ordering.TheVariants.{Less}
use Rattle.std.specs.List.{AllByRecursion, count_by, sum_by}
use Rattle.std.specs.List.Sorted.{IsStrictlySortedBy}
use Rattle.std.proofs.lemmas.Bool.{cases_Bool, false≢true}
use Rattle.std.proofs.lemmas.List.Sums.{sum_by-cons}
use Rattle.std.proofs.lemmas.List.Elements.{All-from_recursion}
use Rattle.std.proofs.lemmas.List.Kept.{AllPairs-cons}
use Rattle.gate_trait.specs.declared.node.Node.{Node}
use Rattle.core_meaning.specs.World.{World}
use Rattle.core_meaning.specs.Integers.{wrap}
use Rattle.core_meaning.specs.Operators.{IsCount}
use Rattle.core_tuples.specs.Sets.{tuple_cmp, is_same}
use Rattle.core_tuples.proofs.OrderedLemmas.{same_exact, same_itself, apart}
use Rattle.gate_matrix.specs.declared.entry.Entry.{Entry}
use Rattle.gate_matrix.specs.Matrices.{MatrixEntries, IsMatrix, tuples_of, truth, has}
use Rattle.gate_matrix.proofs.FoundLemmas.{has_truth}
use Rattle.gate_operators.specs.Sets.{set_of}

-- the tuples whose nodes are true
abbrev pub found : (Node → Bool) → List Entry → List (List ℕ)
found v [] = []
found v (e ∷ es) = cond (v e.node) (e.tuple ∷ found v es) (found v es)

pub count_is : (v : Node → Bool) (es : List Entry) → length (found v es) ≡ count_by v (map (λ e. e.node) es)
count_is v [] = refl
count_is v (e ∷ es) =
    either (v e.node) e.tuple (found v es)
    ∙ ap (λ (n : ℕ). cond (v e.node) 1 0 + n) (count_is v es)
    ∙ sym (sum_by-cons (λ (n : Node). cond (v n) 1 0) e.node (map (λ (d : Entry). d.node) es))
  where
    either : (b : Bool) (t : List ℕ) (ts : List (List ℕ)) → length (cond b (t ∷ ts) ts) ≡ cond b 1 0 + length ts
    either true t ts = omega arith
    either false t ts = omega arith

-- what all tuples have, those that are found have
found_all : (P : List ℕ → Type 0) (v : Node → Bool) (es : List Entry) → AllByRecursion P (tuples_of es) → AllByRecursion P (found v es)
found_all P v [] all = tt
found_all P v (e ∷ es) all = elim (cases_Bool (v e.node)) [
  | inl h ↦ subst (λ (b : Bool). AllByRecursion P (cond b (e.tuple ∷ found v es) (found v es))) (sym h) (all.0, found_all P v es all.1)
  | inr h ↦ subst (λ (b : Bool). AllByRecursion P (cond b (e.tuple ∷ found v es) (found v es))) (sym h) (found_all P v es all.1)
]

differ : (s t : List ℕ) → tuple_cmp s t ≡ Less → s ≢ t
differ s t less same = false≢true (sym (apart s t less) ∙ (ap (λ (u : List ℕ). is_same s u) (sym same) ∙ same_itself s))

all_differ : (s : List ℕ) (ts : List (List ℕ)) → AllByRecursion (λ t. tuple_cmp s t ≡ Less) ts → AllByRecursion (λ t. s ≢ t) ts
all_differ s [] all = tt
all_differ s (t ∷ ts) all = (differ s t all.0, all_differ s ts all.1)

none_twice : AllPairs {X = List ℕ} (λ x y. x ≢ y) []
none_twice = λ i j d lt in_list. absurd (omega arith)

pub found_once : (v : Node → Bool) (es : List Entry) → IsStrictlySortedBy tuple_cmp (tuples_of es) → AllPairs (λ x y. x ≢ y) (found v es)
unfolding IsStrictlySortedBy
found_once v [] s = none_twice
found_once v (e ∷ es) s = elim (cases_Bool (v e.node)) [
  | inl h ↦ subst (λ (b : Bool). AllPairs (λ x y. x ≢ y) (cond b (e.tuple ∷ found v es) (found v es))) (sym h)
      (AllPairs-cons (λ x y. x ≢ y) e.tuple (found v es) (All-from_recursion (λ t. e.tuple ≢ t) (found v es) (all_differ e.tuple (found v es) (found_all (λ t. tuple_cmp e.tuple t ≡ Less) v es s.0))) (found_once v es s.1))
  | inr h ↦ subst (λ (b : Bool). AllPairs (λ x y. x ≢ y) (cond b (e.tuple ∷ found v es) (found v es))) (sym h) (found_once v es s.1)
]

-- ---- what is in a list

here : {X : Type 0} (x y : X) (xs : List X) → x ≡ y → Contains (x ∷ xs) y
here x y xs e = (zero, omega arith, e)

there : {X : Type 0} (x y : X) (xs : List X) → Contains xs y → Contains (x ∷ xs) y
there x y xs c = (suc c.0, omega (arith, c.1), c.2)

which : {X : Type 0} (x y : X) (xs : List X) → Contains (x ∷ xs) y → (x ≡ y) ⊎ Contains xs y
which x y xs c = at x y xs c.0 c.1 c.2
  where
    at : {X : Type 0} (x y : X) (xs : List X) (k : ℕ) → k < length (x ∷ xs) → get_or (x ∷ xs) k y ≡ y → (x ≡ y) ⊎ Contains xs y
    at x y xs zero lt e = inl e
    at x y xs (suc k) lt e = inr (k, omega arith, e)

-- a tuple is found where some entry has it and is true
pub found_has : (v : Node → Bool) (es : List Entry) (t : List ℕ) → Contains (found v es) t ↔ (has v es t ≡ true)
found_has v [] t = ((λ c. absurd (omega (arith, c.1))), (λ h. absurd (false≢true h)))
found_has v (e ∷ es) t =
    let rest = found_has v es t in
    elim (cases_Bool (v e.node)) [
      | inl h ↦ (
        (λ c. elim (which e.tuple t (found v es) (subst (λ (b : Bool). Contains (cond b (e.tuple ∷ found v es) (found v es)) t) h c)) [
          | inl same ↦ or_first (is_same e.tuple t && v e.node) (has v es t) (and_both (is_same e.tuple t) (v e.node) (ap (λ (u : List ℕ). is_same e.tuple u) (sym same) ∙ same_itself e.tuple) h)
          | inr more ↦ or_second (is_same e.tuple t && v e.node) (has v es t) (rest.0 more)
        ]),
        (λ q. subst (λ (b : Bool). Contains (cond b (e.tuple ∷ found v es) (found v es)) t) (sym h) (elim (or_cases (is_same e.tuple t && v e.node) (has v es t) q) [
          | inl both ↦ here e.tuple t (found v es) (same_exact e.tuple t (and_first (is_same e.tuple t) (v e.node) both))
          | inr more ↦ there e.tuple t (found v es) (rest.1 more)
        ])),
      )
      | inr h ↦ (
        (λ c. or_second (is_same e.tuple t && v e.node) (has v es t) (rest.0 (subst (λ (b : Bool). Contains (cond b (e.tuple ∷ found v es) (found v es)) t) h c))),
        (λ q. subst (λ (b : Bool). Contains (cond b (e.tuple ∷ found v es) (found v es)) t) (sym h) (elim (or_cases (is_same e.tuple t && v e.node) (has v es t) q) [
          | inl both ↦ absurd (false≢true (sym h ∙ and_second (is_same e.tuple t) (v e.node) both))
          | inr more ↦ rest.1 more
        ])),
      )
    ]
  where
    or_first : (a b : Bool) → a ≡ true → a || b ≡ true
    or_first true b e = refl
    or_first false b e = absurd (false≢true e)

    or_second : (a b : Bool) → b ≡ true → a || b ≡ true
    or_second true b e = refl
    or_second false b e = e

    or_cases : (a b : Bool) → a || b ≡ true → (a ≡ true) ⊎ (b ≡ true)
    or_cases true b e = inl refl
    or_cases false b e = inr e

    and_both : (a b : Bool) → a ≡ true → b ≡ true → a && b ≡ true
    and_both true b e f = f
    and_both false b e f = absurd (false≢true e)

    and_first : (a b : Bool) → a && b ≡ true → a ≡ true
    and_first true b e = refl
    and_first false b e = absurd (false≢true e)

    and_second : (a b : Bool) → a && b ≡ true → b ≡ true
    and_second true b e = e
    and_second false b e = absurd (false≢true e)

-- the wrapped number of nodes that are true is the number of tuples of the set
pub count_law : (w : World) (v : Node → Bool) (m : MatrixEntries) (n : ℤ) → IsMatrix m → n ≡ wrap w.bits (pos (count_by v (map (λ e. e.node) m.entries))) → IsCount w (set_of v m) n
count_law w v m n i e = (
  found v m.entries,
  record {
    distinct = found_once v m.entries i.sorted;
    all_and_only = λ t.
        let law = found_has v m.entries t in
        let same = has_truth v m.entries t i.sorted in
        ((λ c. sym same ∙ law.0 c), (λ h. law.1 (same ∙ h)));
  },
  e ∙ ap (λ (k : ℕ). wrap w.bits (pos k)) (sym (count_is v m.entries)),
)
