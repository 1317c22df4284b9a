-- Where a tuple stands in a set of tuples.
use Rattle.std.proofs.Common.{◌≡◌, ℕ, zero, suc, ◌+◌, ◌<◌, ◌≤◌, Bool, true, false, if◌then◌else◌, List, [], ◌∷◌, length, get_or, slice_get, Some, None, Contains, refl, ap, sym, ◌∙◌, subst, arith}
use Rattle.std.specs.List.{AllByRecursion, AllWithin}
use Rattle.std.specs.List.Sorted.{IsStrictlySortedBy}
use Rattle.std.specs.declared.cmp.Ordering.TheVariants.{Less, Greater}
use Rattle.std.proofs.lemmas.Option.{slice_get-get_or}
use Rattle.core_tuples.specs.Sets.{tuple_cmp, is_same}
use Rattle.core_tuples.proofs.OrderLemmas.{cons_here, cons_later, not_in_gap}
use Rattle.core_tuples.proofs.OrderedLemmas.{same_exact, same_itself, apart, sorted_back, head_below}
use Rattle.bound_naming.specs.Reckoned.{place_in}

pub there : {X : Type 0} (xs : List X) (k : ℕ) (x : X) → k < length xs → x ≡ get_or xs k x → slice_get xs k ≡ Some x
there xs k x lt is = slice_get-get_or xs k x lt ∙ ap (λ y. Some y) (sym is)

pub rec_get : {X : Type 0} (P : X → Type 0) (xs : List X) (k : ℕ) (x : X) → AllByRecursion P xs → slice_get xs k ≡ Some x → P x
rec_get P [] k x all at = cc
rec_get P (y ∷ ys) zero x all at = let is : y ≡ x = cc in subst P is all.0
rec_get P (y ∷ ys) (suc k) x all at = rec_get P ys k x all.1 at

found_from : (ts : List (List ℕ)) (k n : ℕ) (t : List ℕ) → IsStrictlySortedBy tuple_cmp ts → slice_get ts k ≡ Some t → place_in t n ts ≡ Some (n + k)
found_from [] k n t sorted at = cc
found_from (u ∷ us) zero n t sorted at =
    let is : u ≡ t = cc in
    let same : is_same u t ≡ true = subst (λ (x : List ℕ). is_same u x ≡ true) is (same_itself u) in
    let here : n ≡ n + 0 = omega arith in
    ap (λ (b : Bool). if b then Some n else place_in t (suc n) us) same ∙ ap (λ (m : ℕ). Some m) here
found_from (u ∷ us) (suc k) n t sorted at =
    let low : tuple_cmp u t ≡ Less = rec_get (λ (z : List ℕ). tuple_cmp u z ≡ Less) us k t (head_below u us sorted) at in
    let next : suc n + k ≡ n + suc k = omega arith in
    ap (λ (b : Bool). if b then Some n else place_in t (suc n) us) (apart u t low)
    ∙ (found_from us k (suc n) t (sorted_back (u ∷ []) us sorted) at ∙ ap (λ (m : ℕ). Some m) next)

pub found_is : (ts : List (List ℕ)) (k : ℕ) (t : List ℕ) → IsStrictlySortedBy tuple_cmp ts → slice_get ts k ≡ Some t → Some k ≡ place_in t 0 ts
found_is ts k t sorted at =
    let here : 0 + k ≡ k = omega arith in
    sym (found_from ts k 0 t sorted at ∙ ap (λ (m : ℕ). Some m) here)

lost_case : (b : Bool) (u : List ℕ) (us : List (List ℕ)) (n : ℕ) (t : List ℕ) → is_same u t ≡ b → (Contains (u ∷ us) t → ⊥) → place_in t (suc n) us ≡ None → (if b then Some n else place_in t (suc n) us) ≡ None
lost_case true u us n t e lost rest = absurd (lost (cons_here u us t (sym (same_exact u t e))))
lost_case false u us n t e lost rest = rest

lost_from : (ts : List (List ℕ)) (n : ℕ) (t : List ℕ) → (Contains ts t → ⊥) → place_in t n ts ≡ None
lost_from [] n t lost = refl
lost_from (u ∷ us) n t lost = lost_case (is_same u t) u us n t refl lost (lost_from us (suc n) t (λ among. lost (cons_later u us t among)))

pub lost_is : (ts : List (List ℕ)) (t : List ℕ) → (Contains ts t → ⊥) → None ≡ place_in t 0 ts
lost_is ts t lost = sym (lost_from ts 0 t lost)

-- where the search ends, the tuple isn't there
pub searched : (ts : List (List ℕ)) (t : List ℕ) (low high : ℕ) → low ≤ high → high ≤ low → high ≤ length ts → AllWithin (λ y. tuple_cmp y t ≡ Less) ts 0 low → AllWithin (λ y. tuple_cmp y t ≡ Greater) ts high (length ts) → Contains ts t → ⊥
searched ts t low high le ge bound before after among =
    let same : low ≡ high = omega (arith, le, ge) in
    not_in_gap ts t high (record { bound = bound; before = subst (λ (n : ℕ). AllWithin (λ (y : List ℕ). tuple_cmp y t ≡ Less) ts 0 n) same before; after = after }) among
