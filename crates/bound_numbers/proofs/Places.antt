-- Lists by their places: what is dropped, what is set, and what holds at each place before one.
use Rattle.std.proofs.Common.{◌≡◌, ◌⊎◌, inl, inr, ℕ, zero, suc, ◌+◌, ◌<◌, ◌≤◌, ◌==◌, nat_lt, Bool, true, false, if◌then◌else◌, List, [], ◌∷◌, ◌++◌, length, get_or, drop, set, Some, slice_get, refl, sym, ap, ◌∙◌, subst, arith}
use Rattle.std.proofs.lemmas.Bool.{cases_lt, cases_eq, eq-eqb, ne_eqb, ltb-false}
use Rattle.std.proofs.lemmas.List.{drop_more, length-set, get_or-set_same, get_or-set_other}
use Rattle.std.proofs.lemmas.Option.{slice_get_within, get_or_from_slice_get}

-- an item and those after it
pub dropped : {X : Type 0} (l : List X) (x : X) (i from to : ℕ) → slice_get l i ≡ Some x → from ≡ i + 1 → to ≡ i → drop to l ≡ x ∷ drop from l
dropped l x i from to item after at =
    ap (λ n. drop n l) at ∙ drop_more l i x (slice_get_within l i x item) ∙ ap (λ y. y ∷ drop (i + 1) l) (get_or_from_slice_get l i x x item) ∙ ap (λ n. x ∷ drop n l) (sym after)

set_cases : {X : Type 0} (l : List X) (q s : ℕ) (x d : X) → s < length l → (q ≡ s) ⊎ (q ≡ s → ⊥) → get_or (set l q x) s d ≡ (if q == s then x else get_or l s d)
set_cases l q s x d lt (inl same) =
    ap (λ n. get_or (set l q x) n d) (sym same) ∙ get_or-set_same l q x d (omega (arith, same, lt)) ∙ ap (λ b. if b then x else get_or l s d) (sym (eq-eqb q s same))
set_cases l q s x d lt (inr other) =
    get_or-set_other l q s x d (λ e. other (sym e)) ∙ ap (λ b. if b then x else get_or l s d) (sym (ne_eqb q s other))

set_test : {X : Type 0} (l : List X) (q s : ℕ) (x d : X) (b : Bool) → nat_lt q (length l) ≡ b → s < length l → get_or (if b then set l q x else l) s d ≡ (if q == s then x else get_or l s d)
set_test l q s x d true e lt = set_cases l q s x d lt (cases_eq q s)
set_test l q s x d false e lt =
    let far : length l ≤ q = ltb-false q (length l) e in
    ap (λ b. if b then x else get_or l s d) (sym (ne_eqb q s (λ same. absurd (omega (arith, same, far, lt)))))

-- an item is set, where its place is in the list
pub set_at : {X : Type 0} (l : List X) (q s : ℕ) (x d : X) → s < length l → get_or (if nat_lt q (length l) then set l q x else l) s d ≡ (if q == s then x else get_or l s d)
set_at l q s x d lt = set_test l q s x d (nat_lt q (length l)) refl lt

set_count : {X : Type 0} (l : List X) (q : ℕ) (x : X) (b : Bool) → length (if b then set l q x else l) ≡ length l
set_count l q x true = length-set l q x
set_count l q x false = refl

pub set_length : {X : Type 0} (l : List X) (q : ℕ) (x : X) → length (if nat_lt q (length l) then set l q x else l) ≡ length l
set_length l q x = set_count l q x (nat_lt q (length l))

module _ {X : Type 0} (P : ℕ → X → Type 0) (l : List X) where
  pub front_more : (n : ℕ) → ((k : ℕ) (x : X) → k < n → slice_get l k ≡ Some x → P k x) → ((x : X) → slice_get l n ≡ Some x → P n x) → (k : ℕ) (x : X) → k < n + 1 → slice_get l k ≡ Some x → P k x
  front_more n before here k x lt at = elim (cases_lt k n) [
    | inl sooner ↦ before k x sooner at
    | inr last ↦ let e : n ≡ k = omega arith in subst (λ j. P j x) e (here x (subst (λ j. slice_get l j ≡ Some x) (sym e) at))
  ]

  pub front_all : (n : ℕ) → length l ≤ n → ((k : ℕ) (x : X) → k < n → slice_get l k ≡ Some x → P k x) → (k : ℕ) (x : X) → slice_get l k ≡ Some x → P k x
  front_all n high before k x at = before k x (let within = slice_get_within l k x at in omega arith) at

-- what holds of an item holds of what stands at its place
pub here_at : {X : Type 0} (P : X → Type 0) (l : List X) (n : ℕ) (d : X) → slice_get l n ≡ Some d → P d → (x : X) → slice_get l n ≡ Some x → P x
here_at P l n d item h x at = subst P (sym (get_or_from_slice_get l n d d item) ∙ get_or_from_slice_get l n x d at) h

get_early : {X : Type 0} (xs : List X) (x : X) (k : ℕ) → k < length xs → slice_get (xs ++ x ∷ []) k ≡ slice_get xs k
get_early [] x k lt = absurd (omega arith)
get_early (y ∷ xs) x zero lt = refl
get_early (y ∷ xs) x (suc k) lt = get_early xs x k (omega arith)

get_end : {X : Type 0} (xs : List X) (x : X) → slice_get (xs ++ x ∷ []) (length xs) ≡ Some x
get_end [] x = refl
get_end (y ∷ xs) x = get_end xs x

-- an item at the end of a list
pub get_kept : {X : Type 0} (xs new : List X) (x y : X) (k : ℕ) → new ≡ xs ++ x ∷ [] → slice_get xs k ≡ Some y → slice_get new k ≡ Some y
get_kept {X = X} xs new x y k e is = ap (λ (zs : List X). slice_get zs k) e ∙ (get_early xs x k (slice_get_within xs k y is) ∙ is)

pub get_new : {X : Type 0} (xs new : List X) (x : X) (n : ℕ) → new ≡ xs ++ x ∷ [] → length xs ≡ n → slice_get new n ≡ Some x
get_new {X = X} xs new x n e count = ap (λ (zs : List X). slice_get zs n) e ∙ subst (λ (m : ℕ). slice_get (xs ++ x ∷ []) m ≡ Some x) count (get_end xs x)
