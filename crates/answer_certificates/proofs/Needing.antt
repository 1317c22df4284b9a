-- Each fact that is kept is needed.
use Rattle.std.proofs.Common.{◌≡◌, ◌≢◌, ◌∙◌, ◌⊎◌, inl, inr, ⊎_elim, ℕ, zero, suc, ◌+◌, ◌-◌, ◌<◌, ◌≤◌, Bool, true, false, not, ◌||◌, cond, nat_lt, List, [], ◌∷◌, map, length, slice_get, get_or, All, Some, refl, sym, ap, subst, arith}
use Rattle.std.specs.List.{Contains}
use Rattle.std.proofs.lemmas.Bool.{cases_lt, lt-ltb}
use Rattle.std.proofs.lemmas.List.Elements.{All-nil, All-cons, All-head, All-tail}
use Rattle.core_tree.specs.declared.tree.Formula.{Formula}
use Rattle.core_tree.specs.Trees.{Claim, claim_of}
use Rattle.core_meaning.specs.declared.scopes.Scopes.{Scopes}
use Rattle.core_meaning.specs.declared.target.Target.{Target}
use Rattle.core_meaning.specs.Called.{no_bodies}
use Rattle.core_meaning.specs.Kept.{world_of, KeepsNumbers}
use Rattle.core_meaning.specs.Meaning.{no_names, Holds}
use Rattle.core_meaning.specs.Sequence.{LassoValue}
use Rattle.bound_uppers.specs.declared.table.Bounds.{Bounds}
use Rattle.bound_uppers.specs.Candidates.{IsCandidate}
use Rattle.bound_uppers.specs.Table.{IsTable}
use Rattle.answer_search.specs.Clauses.{HoldsFirst}
use Rattle.answer_certificates.specs.Parts.{is_out, stays, staying, IsPartOf, IsMetFor, AreLeftOut, MeetsThese, IsAsked, AreNeeded, AreNeededBelow, GoesOn}

-- ---- formulas that stay

all_of_cond : (P : Claim → Type 0) (b : Bool) (c : Claim) (rest : List Claim) → All P (cond b (c ∷ rest) rest) → All P rest
all_of_cond P true c rest h = All-tail P c rest h
all_of_cond P false c rest h = h

head_of_cond : (P : Claim → Type 0) (b : Bool) (c : Claim) (rest : List Claim) → b ≡ true → All P (cond b (c ∷ rest) rest) → P c
head_of_cond P true c rest is h = All-head P c rest h
head_of_cond P false c rest is h = absurd (cc)

-- what holds of all that stay holds of each
pub stay_there : (P : Claim → Type 0) (stay : ℕ → Bool) (fs : List Formula) (n k m : ℕ) (f : Formula) → m ≡ n + k → slice_get fs k ≡ Some f → stay m ≡ true → All P (staying stay n fs) → P (claim_of f)
stay_there P stay [] n k m f at there is h = absurd (cc)
stay_there P stay (g ∷ fs) n zero m f at there is h =
    let same : m ≡ n = omega (arith, at) in
    let both : Some g ≡ Some f = there in
    let it : g ≡ f = cc in
    subst (λ (x : Formula). P (claim_of x)) it (head_of_cond P (stay n) (claim_of g) (staying stay (n + 1) fs) (subst (λ (x : ℕ). stay x ≡ true) same is) h)
stay_there P stay (g ∷ fs) n (suc k) m f at there is h =
    stay_there P stay fs (n + 1) k m f (omega (arith, at)) there is (all_of_cond P (stay n) (claim_of g) (staying stay (n + 1) fs) h)

all_claims : (P : Claim → Type 0) (fs : List Formula) → All (λ (f : Formula). P (claim_of f)) fs → All P (map claim_of fs)
all_claims P [] h = All-nil P
all_claims P (f ∷ fs) h = All-cons P (claim_of f) (map claim_of fs) (All-head (λ (x : Formula). P (claim_of x)) f fs h) (all_claims P fs (All-tail (λ (x : Formula). P (claim_of x)) f fs h))

-- ---- flags

not_true : (a : Bool) → not a ≡ true → a ≡ false
not_true true e = absurd (cc)
not_true false e = refl

true_or : (a b : Bool) → a ≡ true → (a || b) ≡ true
true_or a b e = ap (λ (x : Bool). x || b) e

or_not : (a b : Bool) → b ≡ false → (a || not b) ≡ true
or_not true b e = refl
or_not false b e = ap not e

split_or : (a b : Bool) → (a || not b) ≡ true → (a ≡ true) ⊎ (b ≡ false)
split_or true b e = inl refl
split_or false b e = inr (not_true b e)

is_false : (a b : Bool) → (a ≡ true → b ≡ true) → b ≡ false → a ≡ false
is_false true b h e = (let both : true ≡ false = sym (h refl) ∙ e in absurd (cc))
is_false false b h e = refl

true_or_false : (a : Bool) → (a ≡ true) ⊎ (a ≡ false)
true_or_false true = inl refl
true_or_false false = inr refl

same_or_apart : (k n : ℕ) → (k ≡ n) ⊎ (k ≢ n)
same_or_apart k n = ⊎_elim
    (λ (low : k < n). inr (λ e. omega (arith, low, e)))
    (λ (up : n ≤ k). ⊎_elim (λ (more : n < k). inr (λ e. omega (arith, more, e))) (λ (most : k ≤ n). inl (omega (arith, up, most))) (cases_lt n k))
    (cases_lt k n)

-- no flag stands behind the last one
out_beyond : (dropped : List Bool) (k : ℕ) → length dropped ≤ k → is_out dropped k ≡ false
out_beyond [] k low = refl
out_beyond (d ∷ ds) zero low = absurd (omega (arith, low))
out_beyond (d ∷ ds) (suc k) low = out_beyond ds k (omega (arith, low))

below_all : (kept : List ℕ) (n k : ℕ) → All (λ fact. fact < n) kept → Contains kept k → k < n
below_all kept n k few c = subst (λ (m : ℕ). m < n) c.2 (few c.0 k c.1)

-- a place that stays where fewer facts are left out
pub stays_before : (first : ℕ) (old new : List Bool) → ((k : ℕ) → is_out old k ≡ true → is_out new k ≡ true) → (k : ℕ) → stays first new k ≡ true → stays first old k ≡ true
stays_before first old new keeps k is = ⊎_elim
    (λ (low : nat_lt k first ≡ true). true_or (nat_lt k first) (not (is_out old (k - first))) low)
    (λ (out : is_out new (k - first) ≡ false). or_not (nat_lt k first) (is_out old (k - first)) (is_false (is_out old (k - first)) (is_out new (k - first)) (keeps (k - first)) out))
    (split_or (nat_lt k first) (is_out new (k - first)) is)

-- a place that isn't that of a fact stays where that one is left out too
pub stays_without : (first fact : ℕ) (old new : List Bool) → ((k : ℕ) → k ≢ fact → is_out new k ≡ is_out old k) → (k : ℕ) → stays first old k ≡ true → k ≢ first + fact → stays first new k ≡ true
stays_without first fact old new others k is apart = ⊎_elim
    (λ (low : k < first). true_or (nat_lt k first) (not (is_out new (k - first))) (lt-ltb k first low))
    (λ (up : first ≤ k).
    let other : k - first ≢ fact = λ e. apart (omega (arith, e, up)) in
    ⊎_elim
    (λ (low : nat_lt k first ≡ true). true_or (nat_lt k first) (not (is_out new (k - first))) low)
    (λ (out : is_out old (k - first) ≡ false). or_not (nat_lt k first) (is_out new (k - first)) (others (k - first) other ∙ out))
    (split_or (nat_lt k first) (is_out old (k - first)) is))
    (cases_lt k first)

-- ---- what the searches show

-- on a lasso that meets the rest all formulas hold that stay
pub met_these : (target : Target) (first : ℕ) (limits : Bounds) (dropped : List Bool) → IsMetFor target first limits dropped → IsTable limits → (lasso : LassoValue) × MeetsThese target limits (λ k. stays first dropped k ≡ true) lasso
met_these target first limits dropped met table =
    let (part, is, lasso, meets) = met table in
    let numbers = meets.1.0 in
    let formulas = meets.1.1 in
    let Here : Scopes → Claim → Type 0 = λ scopes claim. Holds (world_of scopes lasso) no_bodies claim no_names 0 in
    let all : All (Here part.scopes) (staying (stays first dropped) 0 target.formulas) = subst (All (Here part.scopes)) is.formulas (all_claims (Here part.scopes) part.formulas formulas) in (
      lasso,
      record {
        candidate = meets.0;
        numbers = subst (λ (s : Scopes). KeepsNumbers s lasso) is.scopes numbers;
        formulas = λ k f there stay. subst (λ (s : Scopes). Here s (claim_of f)) is.scopes (stay_there (Here part.scopes) (stays first dropped) target.formulas 0 k k f (omega arith) there stay all);
      },
    )

-- where fewer formulas are asked
pub meets_fewer : (target : Target) (limits : Bounds) (more fewer : ℕ → Type 0) (lasso : LassoValue) → ((k : ℕ) → fewer k → more k) → MeetsThese target limits more lasso → MeetsThese target limits fewer lasso
meets_fewer target limits more fewer lasso into meets = record { candidate = meets.candidate; numbers = meets.numbers; formulas = λ k f there passes. meets.formulas k f there (into k passes) }

-- nothing changes where a fact is left out already
pub stays_left : (target : Target) (first : ℕ) (limits : Bounds) (fact : ℕ) (dropped : List Bool) → is_out dropped fact ≡ true → GoesOn target first limits fact dropped dropped
stays_left target first limits fact dropped is = record { keeps = λ k e. e; needed = λ e table. (let both : true ≡ false = sym is ∙ e in absurd (cc)) }

-- one more is left out
pub leaves_out : (target : Target) (first : ℕ) (limits : Bounds) (fact : ℕ) (old new : List Bool) → is_out new fact ≡ true → ((k : ℕ) → k ≢ fact → is_out new k ≡ is_out old k) → GoesOn target first limits fact old new
leaves_out target first limits fact old new out others = record {
  keeps = λ k e. ⊎_elim
      (λ (same : k ≡ fact). subst (λ (n : ℕ). is_out new n ≡ true) (sym same) out)
      (λ (apart : k ≢ fact). others k apart ∙ e)
      (same_or_apart k fact);
  needed = λ e table. (let both : true ≡ false = sym out ∙ e in absurd (cc));
}

-- a lasso without the fact shows that it is needed
pub is_needed : (target : Target) (first : ℕ) (limits : Bounds) (fact : ℕ) (old new : List Bool) → ((k : ℕ) → k ≢ fact → is_out new k ≡ is_out old k) → IsMetFor target first limits new → GoesOn target first limits fact old old
is_needed target first limits fact old new others met = record {
  keeps = λ k e. e;
  needed = λ e table.
      let (lasso, meets) = met_these target first limits new met table in
      (lasso, meets_fewer target limits (λ k. stays first new k ≡ true) (λ k. (stays first old k ≡ true) × (k ≢ first + fact)) lasso (λ k passes. stays_without first fact old new others k passes.0 passes.1) meets);
}

-- ---- one fact after the other

pub none_needed : (target : Target) (first : ℕ) (limits : Bounds) (dropped : List Bool) → AreNeededBelow target first limits dropped 0
none_needed target first limits dropped table fact low out = absurd (omega (arith, low))

pub needed_more : (target : Target) (first : ℕ) (limits : Bounds) (fact : ℕ) (old new : List Bool) → GoesOn target first limits fact old new → AreNeededBelow target first limits old fact → AreNeededBelow target first limits new (fact + 1)
needed_more target first limits fact old new goes needed table other low out = ⊎_elim
    (λ (early : other < fact).
    let (lasso, meets) = needed table other early (is_false (is_out old other) (is_out new other) (goes.keeps other) out) in
    (lasso, meets_fewer target limits (λ k. (stays first old k ≡ true) × (k ≢ first + other)) (λ k. (stays first new k ≡ true) × (k ≢ first + other)) lasso (λ k passes. (stays_before first old new goes.keeps k passes.0, passes.1)) meets))
    (λ (late : fact ≤ other).
    let same : fact ≡ other = omega (arith, late, low) in
    subst (λ (n : ℕ). (lasso : LassoValue) × MeetsThese target limits (λ k. (stays first new k ≡ true) × (k ≢ first + n)) lasso) same (goes.needed (subst (λ (n : ℕ). is_out new n ≡ false) (sym same) out) table))
    (cases_lt other fact)

-- what is asked stays
asked_stays : (first facts : ℕ) (kept : List ℕ) (dropped : List Bool) → All (λ fact. fact < facts) kept → AreLeftOut facts kept dropped → (k : ℕ) → IsAsked first facts kept k → stays first dropped k ≡ true
asked_stays first facts kept dropped few out k asked = ⊎_elim
    (λ (low : k < first). true_or (nat_lt k first) (not (is_out dropped (k - first))) (lt-ltb k first low))
    (λ (rest : (first + facts ≤ k) ⊎ Contains kept (k - first)). or_not (nat_lt k first) (is_out dropped (k - first)) (⊎_elim
    (λ (far : first + facts ≤ k). out_beyond dropped (k - first) (omega (arith, far, out.count)))
    (λ (has : Contains kept (k - first)). (out.each (k - first) (below_all kept facts (k - first) few has)).0 has)
    rest))
    asked

pub needed_kept : (target : Target) (first facts : ℕ) (limits : Bounds) (kept : List ℕ) (dropped : List Bool) → All (λ fact. fact < facts) kept → AreLeftOut facts kept dropped → AreNeededBelow target first limits dropped facts → IsTable limits → AreNeeded target first facts limits kept
needed_kept target first facts limits kept dropped few out needed table fact has =
    let low : fact < facts = below_all kept facts fact few has in
    let (lasso, meets) = needed table fact low ((out.each fact low).0 has) in
    (lasso, meets_fewer target limits (λ k. (stays first dropped k ≡ true) × (k ≢ first + fact)) (λ k. IsAsked first facts kept k × (k ≢ first + fact)) lasso (λ k passes. (asked_stays first facts kept dropped few out k passes.0, passes.1)) meets)
