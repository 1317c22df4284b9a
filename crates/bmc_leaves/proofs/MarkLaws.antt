-- The atoms whose nodes are true.
use Rattle.std.proofs.Common.{◌≡◌, ◌≢◌, ◌↔◌, ◌⊎◌, ℕ, zero, suc, ◌+◌, ◌<◌, Bool, true, false, cond, List, [], ◌∷◌, length, get_or, Contains, AllPairs, Some, slice_get, refl, sym, ap, ◌∙◌, subst, arith, inl, inr}
use Rattle.std.specs.declared.cmp.Ordering.TheVariants.{Less}
use Rattle.std.specs.List.{AllByRecursion, count_by}
use Rattle.std.specs.List.Sorted.{IsStrictlySortedBy}
use Rattle.std.proofs.lemmas.Bool.{cases_Bool, false≢true}
use Rattle.std.proofs.lemmas.List.Sums.{sum_by-cons}
use Rattle.std.proofs.lemmas.List.Elements.{All-from_recursion}
use Rattle.std.proofs.lemmas.List.Kept.{AllPairs-cons}
use Rattle.gate_trait.specs.declared.node.Node.{Node}
use Rattle.gate_temporal.specs.Rows.{row_value}
use Rattle.core_tuples.specs.Sets.{tuple_cmp, is_same}
use Rattle.core_tuples.proofs.OrderedLemmas.{same_itself, apart}
use Rattle.core_meaning.specs.Operators.{IsListOf}
use Rattle.core_meaning.specs.Kept.{IsWithin}
use Rattle.core_laws.proofs.ListedLemmas.{once, same_length}

abbrev pub first_of : List ℕ → ℕ
first_of [] = 0
first_of (a ∷ t) = a

pub single : (t : List ℕ) → length t ≡ 1 → t ≡ first_of t ∷ []
single [] e = absurd (omega arith)
single (a ∷ []) e = refl
single (a ∷ b ∷ t) e = absurd (omega arith)

-- of tuples of one number, those whose nodes are true
abbrev pub marked : (Node → Bool) → List (List ℕ) → List Node → List ℕ
marked v [] ns = []
marked v (t ∷ ts) [] = []
marked v (t ∷ ts) (n ∷ ns) = cond (v n) (first_of t ∷ marked v ts ns) (marked v ts ns)

either : (b : Bool) (a : ℕ) (rest : List ℕ) → length (cond b (a ∷ rest) rest) ≡ cond b 1 0 + length rest
either true a rest = omega arith
either false a rest = omega arith

marked_count : (v : Node → Bool) (ts : List (List ℕ)) (ns : List Node) → length ns ≡ length ts → length (marked v ts ns) ≡ count_by v ns
marked_count v [] [] e = refl
marked_count v [] (n ∷ ns) e = absurd (omega arith)
marked_count v (t ∷ ts) [] e = absurd (omega arith)
marked_count v (t ∷ ts) (n ∷ ns) e =
    either (v n) (first_of t) (marked v ts ns)
    ∙ ap (λ (k : ℕ). cond (v n) 1 0 + k) (marked_count v ts ns (omega arith))
    ∙ sym (sum_by-cons (λ (m : Node). cond (v m) 1 0) n ns)

here : (x y : ℕ) (xs : List ℕ) → x ≡ y → Contains (x ∷ xs) y
here x y xs e = (zero, omega arith, e)

there : (x y : ℕ) (xs : List ℕ) → Contains xs y → Contains (x ∷ xs) y
there x y xs c = (suc c.0, omega (arith, c.1), c.2)

which_at : (x y : ℕ) (xs : List ℕ) (k : ℕ) → k < length (x ∷ xs) → get_or (x ∷ xs) k y ≡ y → (x ≡ y) ⊎ Contains xs y
which_at x y xs zero lt e = inl e
which_at x y xs (suc k) lt e = inr (k, omega arith, e)

which : (x y : ℕ) (xs : List ℕ) → Contains (x ∷ xs) y → (x ≡ y) ⊎ Contains xs y
which x y xs c = which_at x y xs c.0 c.1 c.2

-- the atom stands at a place whose node is true
abbrev pub IsMarked : (Node → Bool) → List (List ℕ) → List Node → ℕ → Type 0
IsMarked v ts ns a = (j : ℕ) × (slice_get ts j ≡ Some (a ∷ [])) × (row_value v ns j ≡ true)

none_at : (t : List ℕ) (j : ℕ) → slice_get [] j ≡ Some t → ⊥
none_at t j at = cc

later : (v : Node → Bool) (t : List ℕ) (ts : List (List ℕ)) (n : Node) (ns : List Node) (a : ℕ) → IsMarked v ts ns a → IsMarked v (t ∷ ts) (n ∷ ns) a
later v t ts n ns a r = (suc r.0, r.1, r.2)

where_marked : (v : Node → Bool) (t : List ℕ) (ts : List (List ℕ)) (n : Node) (ns : List Node) (a j : ℕ) → slice_get (t ∷ ts) j ≡ Some (a ∷ []) → row_value v (n ∷ ns) j ≡ true → ((t ≡ a ∷ []) × (v n ≡ true)) ⊎ IsMarked v ts ns a
where_marked v t ts n ns a zero at is = let same : t ≡ a ∷ [] = cc in inl (same, is)
where_marked v t ts n ns a (suc k) at is = inr (k, at, is)

marked_has : (v : Node → Bool) (ts : List (List ℕ)) (ns : List Node) → AllByRecursion (λ t. length t ≡ 1) ts → length ns ≡ length ts → (a : ℕ) → Contains (marked v ts ns) a ↔ IsMarked v ts ns a
marked_has v [] ns all e a = ((λ c. absurd (omega (arith, c.1))), (λ h. absurd (none_at (a ∷ []) h.0 h.1)))
marked_has v (t ∷ ts) [] all e a = absurd (omega arith)
marked_has v (t ∷ ts) (n ∷ ns) all e a =
    let rest = marked_has v ts ns all.1 (omega arith) a in
    elim (cases_Bool (v n)) [
      | inl h ↦ (
        (λ c. elim (which (first_of t) a (marked v ts ns) (subst (λ (b : Bool). Contains (cond b (first_of t ∷ marked v ts ns) (marked v ts ns)) a) h c)) [
          | inl same ↦ (zero, ap Some (single t all.0 ∙ ap (λ (k : ℕ). k ∷ []) same), h)
          | inr more ↦ later v t ts n ns a (rest.0 more)
        ]),
        (λ q. subst (λ (b : Bool). Contains (cond b (first_of t ∷ marked v ts ns) (marked v ts ns)) a) (sym h) (elim (where_marked v t ts n ns a q.0 q.1 q.2) [
          | inl now ↦ here (first_of t) a (marked v ts ns) (ap first_of now.0)
          | inr more ↦ there (first_of t) a (marked v ts ns) (rest.1 more)
        ])),
      )
      | inr h ↦ (
        (λ c. later v t ts n ns a (rest.0 (subst (λ (b : Bool). Contains (cond b (first_of t ∷ marked v ts ns) (marked v ts ns)) a) h c))),
        (λ q. subst (λ (b : Bool). Contains (cond b (first_of t ∷ marked v ts ns) (marked v ts ns)) a) (sym h) (elim (where_marked v t ts n ns a q.0 q.1 q.2) [
          | inl now ↦ absurd (false≢true (sym h ∙ now.1))
          | inr more ↦ rest.1 more
        ])),
      )
    ]

-- what the first numbers of all tuples have, those that are marked have
marked_all : (P : ℕ → Type 0) (v : Node → Bool) (ts : List (List ℕ)) (ns : List Node) → AllByRecursion (λ t. P (first_of t)) ts → AllByRecursion P (marked v ts ns)
marked_all P v [] ns all = tt
marked_all P v (t ∷ ts) [] all = tt
marked_all P v (t ∷ ts) (n ∷ ns) all = elim (cases_Bool (v n)) [
  | inl h ↦ subst (λ (b : Bool). AllByRecursion P (cond b (first_of t ∷ marked v ts ns) (marked v ts ns))) (sym h) (all.0, marked_all P v ts ns all.1)
  | inr h ↦ subst (λ (b : Bool). AllByRecursion P (cond b (first_of t ∷ marked v ts ns) (marked v ts ns))) (sym h) (marked_all P v ts ns all.1)
]

differ : (s t : List ℕ) → tuple_cmp s t ≡ Less → s ≢ t
differ s t less same = false≢true (sym (apart s t less) ∙ (ap (λ (u : List ℕ). is_same s u) (sym same) ∙ same_itself s))

all_differ : (s : List ℕ) (ts : List (List ℕ)) → length s ≡ 1 → AllByRecursion (λ t. length t ≡ 1) ts → AllByRecursion (λ t. tuple_cmp s t ≡ Less) ts → AllByRecursion (λ t. first_of s ≢ first_of t) ts
all_differ s [] one all less = tt
all_differ s (t ∷ ts) one all less = (
  (λ same. differ s t less.0 (single s one ∙ ap (λ (a : ℕ). a ∷ []) same ∙ sym (single t all.0))),
  all_differ s ts one all.1 less.1,
)

none_twice : AllPairs {X = ℕ} (λ x y. x ≢ y) []
none_twice = λ i j d lt in_list. absurd (omega arith)

marked_once : (v : Node → Bool) (ts : List (List ℕ)) (ns : List Node) → AllByRecursion (λ t. length t ≡ 1) ts → IsStrictlySortedBy tuple_cmp ts → AllPairs (λ x y. x ≢ y) (marked v ts ns)
unfolding IsStrictlySortedBy
marked_once v [] ns all s = none_twice
marked_once v (t ∷ ts) [] all s = none_twice
marked_once v (t ∷ ts) (n ∷ ns) all s = elim (cases_Bool (v n)) [
  | inl h ↦ subst (λ (b : Bool). AllPairs (λ x y. x ≢ y) (cond b (first_of t ∷ marked v ts ns) (marked v ts ns))) (sym h)
      (AllPairs-cons (λ x y. x ≢ y) (first_of t) (marked v ts ns) (All-from_recursion (λ a. first_of t ≢ a) (marked v ts ns) (marked_all (λ a. first_of t ≢ a) v ts ns (all_differ t ts all.0 all.1 s.0))) (marked_once v ts ns all.1 s.1))
  | inr h ↦ subst (λ (b : Bool). AllPairs (λ x y. x ≢ y) (cond b (first_of t ∷ marked v ts ns) (marked v ts ns))) (sym h) (marked_once v ts ns all.1 s.1)
]

-- as many nodes are true as the set has atoms, where it has those whose nodes are true
pub count_law : (In : ℕ → Type 0) (exact : Bool) (number : ℕ) (v : Node → Bool) (ts : List (List ℕ)) (ns : List Node) → AllByRecursion (λ t. length t ≡ 1) ts → IsStrictlySortedBy tuple_cmp ts → length ns ≡ length ts → ((a : ℕ) → IsMarked v ts ns a ↔ In a) → IsWithin exact number (count_by v ns) ↔ ((atoms : List ℕ) × IsListOf In atoms × IsWithin exact number (length atoms))
count_law In exact number v ts ns all sorted long same =
    let count = marked_count v ts ns long in
    let mine : IsListOf In (marked v ts ns) = record {
      distinct = marked_once v ts ns all sorted;
      all_and_only = λ a. let has = marked_has v ts ns all long a in ((λ c. (same a).0 (has.0 c)), (λ i. has.1 ((same a).1 i)));
    } in (
      (λ h. (marked v ts ns, mine, subst (λ (k : ℕ). IsWithin exact number k) (sym count) h)),
      (λ (atoms, theirs, h). subst (λ (k : ℕ). IsWithin exact number k)
          (same_length atoms (marked v ts ns) (once atoms theirs.distinct) (once (marked v ts ns) mine.distinct) (λ a. ((λ c. (mine.all_and_only a).1 ((theirs.all_and_only a).0 c)), (λ c. (theirs.all_and_only a).1 ((mine.all_and_only a).0 c)))) ∙ count) h),
    )
