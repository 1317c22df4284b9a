-- The tuples of a set that pass a test.
use Rattle.std.proofs.Common.{◌≡◌, ◌↔◌, ◌⊎◌, inl, inr, ℕ, zero, suc, ◌+◌, ◌-◌, ◌<◌, ◌≤◌, Bool, true, false, if◌then◌else◌, List, [], ◌∷◌, ◌++◌, length, take, drop, slice_get, Some, Contains, refl, ap, sym, ◌∙◌, subst, arith}
use Rattle.std.specs.declared.cmp.Ordering.TheVariants.{Less}
use Rattle.std.specs.List.{AllByRecursion}
use Rattle.std.specs.List.Sorted.{IsStrictlySortedBy}
use Rattle.std.specs.Cmp.Lexicographic.{nat_list_cmp_total}
use Rattle.std.proofs.lemmas.Bool.{cases_lt}
use Rattle.std.specs.Prelude.{slice_index_or}
use Rattle.std.proofs.lemmas.List.{take-append-drop, length-take-le, get_or_past, append-nil}
use Rattle.std.proofs.lemmas.List.Elements.{Contains-append_cases, Contains-append_left, Contains-append_right}
use Rattle.core_tuples.proofs.OrderLemmas.{cons_cases, cons_here, cons_later, no_members, not_below_itself, take_get, some_same}
use Rattle.core_tuples.specs.Sets.{tuple_cmp, TupleList, IsTupleSet, In, HasJust}
use Rattle.bound_uppers.specs.Table.{keep, chosen, least, truth}

-- the value of a variable that has one, and of another
pub truth_at : (values : List Bool) (v : ℕ) → 0 < v → truth values v ≡ slice_index_or values (v - 1) false
truth_at values zero some = absurd (omega arith)
truth_at values (suc v) some = let less : suc v - 1 ≡ v = omega arith in rw less refl

pub truth_past : (values : List Bool) (v : ℕ) → length values < v → truth values v ≡ false
truth_past values zero past = absurd (omega arith)
truth_past values (suc v) past = get_or_past values v false (omega arith)

pub truth_none : (values : List Bool) (v : ℕ) → v ≡ 0 → truth values v ≡ false
truth_none values zero e = refl
truth_none values (suc v) e = absurd (omega arith)

-- where nothing stays
pub nothing_more : {X : Type 0} (xs : List X) (t : X) → xs ++ keep false t [] ≡ xs
nothing_more xs t = append-nil xs

keep_append : {X : Type 0} (b : Bool) (x : X) (xs ys : List X) → keep b x xs ++ ys ≡ keep b x (xs ++ ys)
keep_append true x xs ys = refl
keep_append false x xs ys = refl

pub chosen_append : {X : Type 0} (p : ℕ → Bool) (j n : ℕ) (xs : List X) (t : X) → j + length xs ≡ n → chosen p j (xs ++ t ∷ []) ≡ chosen p j xs ++ keep (p n) t []
chosen_append p j n [] t e = let same : j ≡ n = omega arith in ap (λ (m : ℕ). keep (p m) t []) same
chosen_append p j n (x ∷ xs) t e = ap (λ zs. keep (p j) x zs) (chosen_append p (suc j) n xs t (omega arith)) ∙ sym (keep_append (p j) x (chosen p (suc j) xs) (keep (p n) t []))

-- one place further
pub chosen_more : {X : Type 0} (p : ℕ → Bool) (xs : List X) (k : ℕ) (t : X) → k < length xs → slice_get xs k ≡ Some t → chosen p 0 (take (k + 1) xs) ≡ chosen p 0 (take k xs) ++ keep (p k) t []
chosen_more p xs k t lt e =
    let count = length-take-le k xs (omega arith) in
    ap (λ ys. chosen p 0 ys) (take_get xs k t lt e) ∙ chosen_append p 0 k (take k xs) t (omega arith)

-- what holds of all holds of those that are chosen
all_keep : {X : Type 0} (P : X → Type 0) (b : Bool) (x : X) (xs : List X) → P x → AllByRecursion P xs → AllByRecursion P (keep b x xs)
all_keep P true x xs here all = (here, all)
all_keep P false x xs here all = all

all_chosen : {X : Type 0} (P : X → Type 0) (p : ℕ → Bool) (j : ℕ) (xs ys : List X) → AllByRecursion P (xs ++ ys) → AllByRecursion P (chosen p j xs ++ ys)
all_chosen P p j [] ys all = all
all_chosen P p j (x ∷ xs) ys all =
    subst (AllByRecursion P) (sym (keep_append (p j) x (chosen p (suc j) xs) ys)) (all_keep P (p j) x (chosen p (suc j) xs ++ ys) all.0 (all_chosen P p (suc j) xs ys all.1))

sorted_keep : (b : Bool) (x : List ℕ) (xs : List (List ℕ)) → AllByRecursion (λ y. tuple_cmp x y ≡ Less) xs → IsStrictlySortedBy tuple_cmp xs → IsStrictlySortedBy tuple_cmp (keep b x xs)
unfolding IsStrictlySortedBy
sorted_keep true x xs all s = (all, s)
sorted_keep false x xs all s = s

sorted_chosen : (p : ℕ → Bool) (j : ℕ) (xs ys : List (List ℕ)) → IsStrictlySortedBy tuple_cmp (xs ++ ys) → IsStrictlySortedBy tuple_cmp (chosen p j xs ++ ys)
unfolding IsStrictlySortedBy
sorted_chosen p j [] ys s = s
sorted_chosen p j (x ∷ xs) ys s =
    subst (IsStrictlySortedBy tuple_cmp) (sym (keep_append (p j) x (chosen p (suc j) xs) ys))
    (sorted_keep (p j) x (chosen p (suc j) xs ++ ys) (all_chosen (λ y. tuple_cmp x y ≡ Less) p (suc j) xs ys s.0) (sorted_chosen p (suc j) xs ys s.1))

all_front : {X : Type 0} (P : X → Type 0) (xs ys : List X) → AllByRecursion P (xs ++ ys) → AllByRecursion P xs
all_front P [] ys all = tt
all_front P (x ∷ xs) ys all = (all.0, all_front P xs ys all.1)

sorted_front : (xs ys : List (List ℕ)) → IsStrictlySortedBy tuple_cmp (xs ++ ys) → IsStrictlySortedBy tuple_cmp xs
unfolding IsStrictlySortedBy
sorted_front [] ys s = tt
sorted_front (x ∷ xs) ys s = (all_front (λ y. tuple_cmp x y ≡ Less) xs ys s.0, sorted_front xs ys s.1)

pub sorted_take : (k : ℕ) (xs : List (List ℕ)) → IsStrictlySortedBy tuple_cmp xs → IsStrictlySortedBy tuple_cmp (take k xs)
sorted_take k xs s = sorted_front (take k xs) (drop k xs) (rw take-append-drop s)

keep_none : {X : Type 0} (P : List X → Type 0) (xs : List X) (t : X) (b : Bool) → P (xs ++ t ∷ []) → P xs → P (xs ++ keep b t [])
keep_none P xs t true with_it without = with_it
keep_none P xs t false with_it without = subst P (sym (append-nil xs)) without

-- those chosen so far, and then the next, are in order
pub next_sorted : (p : ℕ → Bool) (xs : List (List ℕ)) (k : ℕ) (t : List ℕ) (b : Bool) → IsStrictlySortedBy tuple_cmp xs → k < length xs → slice_get xs k ≡ Some t → IsStrictlySortedBy tuple_cmp (chosen p 0 (take k xs) ++ keep b t [])
next_sorted p xs k t b s lt e =
    let whole : IsStrictlySortedBy tuple_cmp (take k xs ++ t ∷ []) = subst (IsStrictlySortedBy tuple_cmp) (take_get xs k t lt e) (sorted_take (k + 1) xs s) in
    let those = sorted_chosen p 0 (take k xs) (t ∷ []) whole in
    keep_none (IsStrictlySortedBy tuple_cmp) (chosen p 0 (take k xs)) t b those (sorted_front (chosen p 0 (take k xs)) (t ∷ []) those)

there_is : {X : Type 0} (xs : List X) (k : ℕ) → k < length xs → (x : X) × (slice_get xs k ≡ Some x)
there_is [] k lt = absurd (omega arith)
there_is (x ∷ xs) zero lt = (x, refl)
there_is (x ∷ xs) (suc k) lt = there_is xs k (omega arith)

-- those chosen so far, and one more
pub chosen_next : (p : ℕ → Bool) (xs : List (List ℕ)) (k : ℕ) (b : Bool) (old new : List (List ℕ)) → IsStrictlySortedBy tuple_cmp xs → k < length xs → b ≡ p k → old ≡ chosen p 0 (take k xs) → ((t : List ℕ) → slice_get xs k ≡ Some t → IsStrictlySortedBy tuple_cmp (old ++ keep b t []) → new ≡ old ++ keep b t []) → new ≡ chosen p 0 (take (k + 1) xs)
chosen_next p xs k b old new s lt is was adds =
    let t = there_is xs k lt in
    let sorted : IsStrictlySortedBy tuple_cmp (old ++ keep b t.0 []) = subst (λ (ys : List (List ℕ)). IsStrictlySortedBy tuple_cmp (ys ++ keep b t.0 [])) (sym was) (next_sorted p xs k t.0 b s lt t.1) in
    let one : new ≡ old ++ keep b t.0 [] = adds t.0 t.1 sorted in
    one ∙ (ap (λ (ys : List (List ℕ)). ys ++ keep b t.0 []) was ∙ (ap (λ (c : Bool). chosen p 0 (take k xs) ++ keep c t.0 []) is ∙ sym (chosen_more p xs k t.0 lt t.1)))

-- ---- sorted lists with the same tuples are the same

pub rec_at : {X : Type 0} (P : X → Type 0) (xs : List X) (t : X) → AllByRecursion P xs → Contains xs t → P t
rec_at P [] t all h = absurd (no_members t h)
rec_at P (x ∷ xs) t all h = elim (cons_cases x xs t h) [ inl here ↦ subst P (sym here) all.0 | inr later ↦ rec_at P xs t all.1 later ]

crossed : (a b : List ℕ) → tuple_cmp a b ≡ Less → tuple_cmp b a ≡ Less → ⊥
crossed a b h k = not_below_itself a (nat_list_cmp_total.trans a b a h k)

same_head : (a b : List ℕ) (xs ys : List (List ℕ)) → AllByRecursion (λ y. tuple_cmp a y ≡ Less) xs → AllByRecursion (λ y. tuple_cmp b y ≡ Less) ys → (a ≡ b) ⊎ Contains ys a → (b ≡ a) ⊎ Contains xs b → a ≡ b
same_head a b xs ys above_a above_b (inl e) rest = e
same_head a b xs ys above_a above_b (inr later) (inl e) = sym e
same_head a b xs ys above_a above_b (inr later) (inr other) = absurd (crossed a b (rec_at (λ y. tuple_cmp a y ≡ Less) xs b above_a other) (rec_at (λ y. tuple_cmp b y ≡ Less) ys a above_b later))

-- what is above the head is in the rest
in_rest : (a b : List ℕ) (ys : List (List ℕ)) (t : List ℕ) → a ≡ b → tuple_cmp a t ≡ Less → (t ≡ b) ⊎ Contains ys t → Contains ys t
in_rest a b ys t e up (inr later) = later
in_rest a b ys t e up (inl here) = absurd (not_below_itself a (subst (λ (u : List ℕ). tuple_cmp a u ≡ Less) (here ∙ sym e) up))

pub sorted_same : (xs ys : List (List ℕ)) → IsStrictlySortedBy tuple_cmp xs → IsStrictlySortedBy tuple_cmp ys → ((t : List ℕ) → Contains xs t → Contains ys t) → ((t : List ℕ) → Contains ys t → Contains xs t) → xs ≡ ys
unfolding IsStrictlySortedBy
sorted_same [] [] s r there back = refl
sorted_same [] (y ∷ ys) s r there back = absurd (no_members y (back y (cons_here y ys y refl)))
sorted_same (x ∷ xs) [] s r there back = absurd (no_members x (there x (cons_here x xs x refl)))
sorted_same (x ∷ xs) (y ∷ ys) s r there back =
    let head : x ≡ y = same_head x y xs ys s.0 r.0 (cons_cases y ys x (there x (cons_here x xs x refl))) (cons_cases x xs y (back y (cons_here y ys y refl))) in
    let rest : xs ≡ ys = sorted_same xs ys s.1 r.1
    (λ t h. in_rest x y ys t head (rec_at (λ z. tuple_cmp x z ≡ Less) xs t s.0 h) (cons_cases y ys t (there t (cons_later x xs t h))))
    (λ t h. in_rest y x xs t (sym head) (rec_at (λ z. tuple_cmp y z ≡ Less) ys t r.0 h) (cons_cases x xs t (back t (cons_later y ys t h)))) in
    cc

-- a set to which a tuple above all others was added
pub put_end : (new old : List (List ℕ)) (t : List ℕ) → IsStrictlySortedBy tuple_cmp new → IsStrictlySortedBy tuple_cmp (old ++ t ∷ []) → ((u : List ℕ) → Contains new u ↔ (Contains old u ⊎ (u ≡ t))) → new ≡ old ++ t ∷ []
put_end new old t s r just = sorted_same new (old ++ t ∷ []) s r
    (λ u h. elim ((just u).0 h) [ inl was ↦ Contains-append_left old (t ∷ []) u was | inr is ↦ Contains-append_right old (t ∷ []) u (cons_here t [] u is) ])
    (λ u h. elim (Contains-append_cases old (t ∷ []) u h) [ inl was ↦ (just u).1 (inl was) | inr is ↦ elim (cons_cases t [] u is) [ inl here ↦ (just u).1 (inr here) | inr none ↦ absurd (no_members u none) ] ])

-- the next tuple of an upper bound, added
pub put_is : (upper : List (List ℕ)) (place : ℕ) (row copy : List ℕ) (old new : TupleList) (t : List ℕ) → slice_get upper place ≡ Some row → copy ≡ row → HasJust new old.arity (λ u. In u old ⊎ (u ≡ copy)) → IsTupleSet new → slice_get upper place ≡ Some t → IsStrictlySortedBy tuple_cmp (old.tuples ++ keep true t []) → new.tuples ≡ old.tuples ++ keep true t []
put_is upper place row copy old new t at is just set e s =
    let alike : row ≡ t = some_same row t (sym at ∙ e) in
    let copied : copy ≡ t = is ∙ alike in
    put_end new.tuples old.tuples t set.sorted s (λ u. (
      (λ h. elim ((just.just u).0 h) [ inl was ↦ inl was | inr this ↦ inr (this ∙ copied) ]),
      (λ h. elim h [ inl was ↦ (just.just u).1 (inl was) | inr this ↦ (just.just u).1 (inr (this ∙ sym copied)) ]),
    ))

-- ---- the least number that passes

pub least_none : (p : ℕ → Bool) (n other : ℕ) → ((s : ℕ) → s < n → p s ≡ false) → least p n other ≡ other
least_none p zero other none = refl
least_none p (suc n) other none = ap (λ (b : Bool). least p n (if b then n else other)) (none n (omega arith)) ∙ least_none p n other (λ s lt. none s (omega arith))

least_at : (p : ℕ → Bool) (n s other : ℕ) → ((other : ℕ) → s < n → least p n other ≡ s) → s < suc n → p s ≡ true → ((q : ℕ) → q < s → p q ≡ false) → (s < n) ⊎ (n ≤ s) → least p (suc n) other ≡ s
least_at p n s other less lt is none (inl near) = less (if p n then n else other) near
least_at p n s other less lt is none (inr far) =
    let same : n ≡ s = omega arith in
    let here : p n ≡ true = ap p same ∙ is in
    ap (λ (b : Bool). least p n (if b then n else other)) here ∙ (least_none p n n (λ q below. none q (omega arith)) ∙ same)

pub least_is : (p : ℕ → Bool) (n s other : ℕ) → s < n → p s ≡ true → ((q : ℕ) → q < s → p q ≡ false) → least p n other ≡ s
least_is p zero s other lt is none = absurd (omega arith)
least_is p (suc n) s other lt is none = least_at p n s other (λ o near. least_is p n s o near is none) lt is none (cases_lt s n)

one_way : (b : Bool) (n : ℕ) → (if b then n else n) ≡ n
one_way true n = refl
one_way false n = refl

-- where there is no choice
pub least_alone : (p : ℕ → Bool) (n : ℕ) → n ≤ 1 → least p n 0 ≡ 0
least_alone p zero le = refl
least_alone p (suc zero) le = one_way (p 0) 0
least_alone p (suc (suc n)) le = absurd (omega arith)

-- the first state of which a row of variables is true
abbrev pub first_true : List Bool → ℕ → ℕ → ℕ
first_true values loops n = least (λ s. truth values (loops + s)) n 0

pub loop_here : (values : List Bool) (loops n s : ℕ) → s < n → truth values (loops + s) ≡ true → ((q : ℕ) → q < s → truth values (loops + q) ≡ false) → s ≡ first_true values loops n
loop_here values loops n s lt so none = sym (least_is (λ q. truth values (loops + q)) n s 0 lt so none)

pub loop_nowhere : (values : List Bool) (loops n k : ℕ) → n ≤ k → ((q : ℕ) → q < k → truth values (loops + q) ≡ false) → 0 ≡ first_true values loops n
loop_nowhere values loops n k le none = sym (least_none (λ q. truth values (loops + q)) n 0 (λ q lt. none q (omega (arith, lt, le))))

pub loop_alone : (values : List Bool) (loops n : ℕ) → n ≤ 1 → 0 ≡ first_true values loops n
loop_alone values loops n le = sym (least_alone (λ q. truth values (loops + q)) n le)
