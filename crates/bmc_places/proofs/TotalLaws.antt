-- The integers in a set of single numbers, and their sum.
use Rattle.std.proofs.Common.{◌≡◌, ◌≢◌, ◌↔◌, ◌≤◌, ◌<◌, ◌+◌, ◌-◌, ◌^◌, ℕ, suc, Bool, true, false, cond, nat_lt, List, [], ◌∷◌, length, map, All, AllPairs, Contains, slice_index, refl, sym, ap, ◌∙◌, subst, arith, inl, inr, ℤ, pos, ◌+ℤ◌, ◌-ℤ◌}
use Rattle.std.proofs.lemmas.Bool.Decides.{nat_tests}
use Rattle.std.proofs.Math.IntN.{+ℤ_idl}
use Rattle.std.proofs.lemmas.List.Elements.{All-nil, All-cons, All-contains}
use Rattle.std.proofs.lemmas.List.Kept.{AllPairs-cons}
use Rattle.gate_trait.specs.declared.node.Node.{Node}
use Rattle.core_meaning.specs.Integers.{wrap, sum_of}
use Rattle.core_meaning.specs.World.{World, integer_of}
use Rattle.core_meaning.specs.Operators.{IsNumber}
use Rattle.core_tuples.specs.declared.universe.Universe.{Universe}
use Rattle.gate_matrix.specs.declared.entry.Entry.{Entry}
use Rattle.gate_matrix.specs.Matrices.{MatrixEntries, IsMatrix}
use Rattle.gate_matrix.proofs.FoundLemmas.{has_truth, found_entry}
use Rattle.gate_operators.specs.Sets.{set_of}
use Rattle.gate_arithmetic.specs.Members.{integer_for, integer_sum}
use Rattle.gate_numbers.proofs.CountLaw.{found, found_once, found_has}
use Rattle.bmc_places.proofs.ListLaws.{contains_cases, contains_none, contains_first}

-- the integers among single numbers
abbrev pub members_in : ℕ → List (List ℕ) → List ℕ
members_in n [] = []
members_in n (t ∷ ts) = cond (nat_lt (slice_index t 0) n) (members_in n ts) (slice_index t 0 ∷ members_in n ts)

single : (t : List ℕ) → length t ≡ 1 → t ≡ slice_index t 0 ∷ []
single [] long = absurd (omega arith)
single (a ∷ []) long = refl
single (a ∷ b ∷ t) long = absurd (omega arith)

all_after : {X : Type 0} (P : X → Type 0) (x : X) (xs : List X) → All P (x ∷ xs) → All P xs
all_after P x xs all = λ k d lt. all (suc k) d (omega arith)

all_first : {X : Type 0} (P : X → Type 0) (x : X) (xs : List X) → All P (x ∷ xs) → P x
all_first P x xs all = all 0 x (omega arith)

contains_more : {X : Type 0} (x : X) (xs : List X) (z : X) → Contains xs z → Contains (x ∷ xs) z
contains_more x xs z (k, lt, e) = (suc k, omega arith, e)

-- ---- their sum

no_more : (s : ℤ) → pos 0 +ℤ s ≡ s
no_more s = +ℤ_idl s

member_case : (w : World) (u : Universe) (c : Bool) (a : ℕ) (rest : List ℕ) (s : ℤ) → w.atoms ≡ u.atoms → w.bits ≡ u.bits → sum_of (map (integer_of w) rest) ≡ s
    → sum_of (map (integer_of w) (cond c rest (a ∷ rest))) ≡ cond c (pos 0) (pos (a - u.atoms) -ℤ pos (2 ^ (u.bits - 1))) +ℤ s
member_case w u true a rest s atoms bits e = e ∙ sym (no_more s)
member_case w u false a rest s atoms bits e =
    ap (λ (z : ℤ). integer_of w a +ℤ z) e
    ∙ ap (λ (n : ℕ). (pos (a - n) -ℤ pos (2 ^ (w.bits - 1))) +ℤ s) atoms
    ∙ ap (λ (n : ℕ). (pos (a - u.atoms) -ℤ pos (2 ^ (n - 1))) +ℤ s) bits

found_case : (w : World) (u : Universe) (b : Bool) (t : List ℕ) (ts : List (List ℕ)) (s : ℤ) → w.atoms ≡ u.atoms → w.bits ≡ u.bits → sum_of (map (integer_of w) (members_in u.atoms ts)) ≡ s
    → sum_of (map (integer_of w) (members_in u.atoms (cond b (t ∷ ts) ts))) ≡ cond b (integer_for u (slice_index t 0)) (pos 0) +ℤ s
found_case w u true t ts s atoms bits e = member_case w u (nat_lt (slice_index t 0) u.atoms) (slice_index t 0) (members_in u.atoms ts) s atoms bits e
found_case w u false t ts s atoms bits e = e ∙ sym (no_more s)

total_sum : (w : World) (u : Universe) (v : Node → Bool) (es : List Entry) → w.atoms ≡ u.atoms → w.bits ≡ u.bits → sum_of (map (integer_of w) (members_in u.atoms (found v es))) ≡ integer_sum u v es
total_sum w u v [] atoms bits = refl
total_sum w u v (e ∷ es) atoms bits = found_case w u (v e.node) e.tuple (found v es) (integer_sum u v es) atoms bits (total_sum w u v es atoms bits)

-- ---- each once

long_case : (b : Bool) (t : List ℕ) (ts : List (List ℕ)) → length t ≡ 1 → All (λ u. length u ≡ 1) ts → All (λ u. length u ≡ 1) (cond b (t ∷ ts) ts)
long_case true t ts one rest = All-cons (λ (u : List ℕ). length u ≡ 1) t ts one rest
long_case false t ts one rest = rest

found_long : (v : Node → Bool) (es : List Entry) → All (λ e. length e.tuple ≡ 1) es → All (λ t. length t ≡ 1) (found v es)
found_long v [] all = All-nil (λ (t : List ℕ). length t ≡ 1)
found_long v (e ∷ es) all = long_case (v e.node) e.tuple (found v es) (all_first (λ (d : Entry). length d.tuple ≡ 1) e es all) (found_long v es (all_after (λ (d : Entry). length d.tuple ≡ 1) e es all))

member_all : (P : ℕ → Type 0) (b : Bool) (a : ℕ) (rest : List ℕ) → P a → All P rest → All P (cond b rest (a ∷ rest))
member_all P true a rest one all = all
member_all P false a rest one all = All-cons P a rest one all

members_all : (P : ℕ → Type 0) (Q : List ℕ → Type 0) → ((t : List ℕ) → Q t → P (slice_index t 0)) → (n : ℕ) (ts : List (List ℕ)) → All Q ts → All P (members_in n ts)
members_all P Q f n [] all = All-nil P
members_all P Q f n (t ∷ ts) all = member_all P (nat_lt (slice_index t 0) n) (slice_index t 0) (members_in n ts) (f t (all_first Q t ts all)) (members_all P Q f n ts (all_after Q t ts all))

none_twice : AllPairs {X = ℕ} (λ x y. x ≢ y) []
none_twice = λ i j d lt in_list. absurd (omega arith)

once_case : (b : Bool) (a : ℕ) (rest : List ℕ) → All (λ x. a ≢ x) rest → AllPairs {X = ℕ} (λ x y. x ≢ y) rest → AllPairs {X = ℕ} (λ x y. x ≢ y) (cond b rest (a ∷ rest))
once_case true a rest others pairs = pairs
once_case false a rest others pairs = AllPairs-cons (λ (x y : ℕ). x ≢ y) a rest others pairs

differs : (t s : List ℕ) → length t ≡ 1 → (t ≢ s) × (length s ≡ 1) → slice_index t 0 ≢ slice_index s 0
differs t s long (other, one) same = other (single t long ∙ ap (λ (k : ℕ). k ∷ []) same ∙ sym (single s one))

once : (n : ℕ) (ts : List (List ℕ)) → All (λ t. length t ≡ 1) ts → AllPairs (λ x y. x ≢ y) ts → AllPairs {X = ℕ} (λ x y. x ≢ y) (members_in n ts)
once n [] long pairs = none_twice
once n (t ∷ ts) long pairs =
    let after : All (λ s. length s ≡ 1) ts = all_after (λ (s : List ℕ). length s ≡ 1) t ts long in
    let first : length t ≡ 1 = all_first (λ (r : List ℕ). length r ≡ 1) t ts long in
    let others : All (λ s. (t ≢ s) × (length s ≡ 1)) ts = λ k d lt. (pairs 0 (suc k) d (omega arith) (omega arith), after k d lt) in
    once_case (nat_lt (slice_index t 0) n) (slice_index t 0) (members_in n ts)
    (members_all (λ (b : ℕ). slice_index t 0 ≢ b) (λ (s : List ℕ). (t ≢ s) × (length s ≡ 1)) (λ s q. differs t s first q) n ts others)
    (once n ts after (λ i j d lt in_list. pairs (suc i) (suc j) d (omega arith) (omega arith)))

-- ---- all of them

low : (a n : ℕ) → nat_lt a n ≡ true → a < n
low a n e = grind (arith, nat_tests)

high : (a n : ℕ) → nat_lt a n ≡ false → n ≤ a
high a n e = grind (arith, nat_tests)

has_case : (n f a : ℕ) (t : List ℕ) (ts : List (List ℕ)) → t ≡ f ∷ [] → Contains (members_in n ts) a ↔ ((n ≤ a) × Contains ts (a ∷ [])) → (b : Bool) → nat_lt f n ≡ b → Contains (cond b (members_in n ts) (f ∷ members_in n ts)) a ↔ ((n ≤ a) × Contains (t ∷ ts) (a ∷ []))
has_case n f a t ts is rest true below = (
  (λ c. let p = rest.0 c in (p.0, contains_more t ts (a ∷ []) p.1)),
  (λ p. elim (contains_cases t ts (a ∷ []) p.1) [
    | inl same ↦ absurd (let lt = low f n below in let le = p.0 in let e : f ≡ a = ap (λ (r : List ℕ). slice_index r 0) (sym is ∙ same) in omega (arith, lt, le, e))
    | inr more ↦ rest.1 (p.0, more)
  ]),
)
has_case n f a t ts is rest false above = (
  (λ c. elim (contains_cases f (members_in n ts) a c) [
    | inl same ↦ ((let le = high f n above in omega (arith, le, same)), subst (λ (r : List ℕ). Contains (t ∷ ts) r) (is ∙ ap (λ (k : ℕ). k ∷ []) same) (contains_first t ts))
    | inr more ↦ (let p = rest.0 more in (p.0, contains_more t ts (a ∷ []) p.1))
  ]),
  (λ p. elim (contains_cases t ts (a ∷ []) p.1) [
    | inl same ↦ (let e : f ≡ a = ap (λ (r : List ℕ). slice_index r 0) (sym is ∙ same) in subst (λ (k : ℕ). Contains (f ∷ members_in n ts) k) e (contains_first f (members_in n ts)))
    | inr more ↦ contains_more f (members_in n ts) a (rest.1 (p.0, more))
  ]),
)

members_has : (n : ℕ) (ts : List (List ℕ)) (a : ℕ) → All (λ t. length t ≡ 1) ts → Contains (members_in n ts) a ↔ ((n ≤ a) × Contains ts (a ∷ []))
members_has n [] a long = ((λ c. absurd (contains_none a c)), (λ p. absurd (contains_none (a ∷ []) p.1)))
members_has n (t ∷ ts) a long =
    has_case n (slice_index t 0) a t ts (single t (all_first (λ (r : List ℕ). length r ≡ 1) t ts long)) (members_has n ts a (all_after (λ (r : List ℕ). length r ≡ 1) t ts long)) (nat_lt (slice_index t 0) n) refl

-- the wrapped sum of the integers of a set of single numbers, all of the universe, is what it stands for
pub total_law : (w : World) (u : Universe) (v : Node → Bool) (m : MatrixEntries) (z : ℤ) → w.atoms ≡ u.atoms → w.bits ≡ u.bits → IsMatrix m → m.arity ≡ 1 → All (λ e. (a : ℕ) → e.tuple ≡ a ∷ [] → a < u.atoms + 2 ^ u.bits) m.entries → z ≡ wrap u.bits (integer_sum u v m.entries) → IsNumber w (set_of v m) z
total_law w u v m z atoms bits matrix one within is =
    let es = m.entries in
    let long : All (λ e. length e.tuple ≡ 1) es = subst (λ (k : ℕ). All (λ (e : Entry). length e.tuple ≡ k) es) one matrix.columns in
    let singles = found_long v es long in (
      members_in u.atoms (found v es),
      record {
        distinct = once u.atoms (found v es) singles (found_once v es matrix.sorted);
        all_and_only = λ a.
            let has_it = members_has u.atoms (found v es) a singles in
            let found_it = found_has v es (a ∷ []) in
            let same = has_truth v es (a ∷ []) matrix.sorted in
            let power = ap (λ (k : ℕ). 2 ^ k) bits in (
              (λ c.
                  let p = has_it.0 c in
                  let true_it = sym same ∙ found_it.0 p.1 in
                  let (k, e, lt, here, tuple, there) = found_entry v es (a ∷ []) true_it in
                  let below = All-contains (λ (d : Entry). (b : ℕ) → d.tuple ≡ b ∷ [] → b < u.atoms + 2 ^ u.bits) es e within (k, lt, here) a tuple in
                  let from = p.0 in
                  ((omega (arith, from, atoms), omega (arith, below, atoms, power)), true_it)),
              (λ q. has_it.1 ((let from = q.0.0 in omega (arith, from, atoms)), found_it.1 (same ∙ q.1))),
            );
      },
      is ∙ ap (λ (k : ℕ). wrap k (integer_sum u v es)) (sym bits) ∙ ap (λ (s : ℤ). wrap w.bits s) (sym (total_sum w u v es atoms bits)),
    )
