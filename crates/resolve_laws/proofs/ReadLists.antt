-- Lists that are the same: their parts, and their last elements.
use Rattle.std.proofs.Common.{◌≡◌, ◌∙◌, ◌⊎◌, ℕ, List, [], ◌∷◌, ◌++◌, length, take, drop, map, Some, refl, sym, ap, inl, inr}
use Rattle.std.proofs.Math.Seq.{take-append_seam, drop-append_seam}

-- two lists of equal length, each with a list behind it
pub same_parts : {X : Type 0} (xs us ys vs : List X) → length xs ≡ length us → xs ++ ys ≡ us ++ vs → (xs ≡ us) × (ys ≡ vs)
same_parts xs us ys vs size same = (
  sym (take-append_seam xs ys) ∙ (ap (take (length xs)) same ∙ (ap (λ (n : ℕ). take n (us ++ vs)) size ∙ take-append_seam us vs)),
  sym (drop-append_seam xs ys) ∙ (ap (drop (length xs)) same ∙ (ap (λ (n : ℕ). drop n (us ++ vs)) size ∙ drop-append_seam us vs)),
)

first_same : {X : Type 0} (x y : X) (xs ys : List X) → x ∷ xs ≡ y ∷ ys → x ≡ y
first_same x y xs ys same = cc

rest_same : {X : Type 0} (x y : X) (xs ys : List X) → x ∷ xs ≡ y ∷ ys → xs ≡ ys
rest_same x y xs ys same = cc

pub no_last : {X : Type 0} (xs ys : List X) (x : X) → [] ≡ xs ++ x ∷ ys → ⊥
no_last [] ys x same = cc
no_last (y ∷ xs) ys x same = cc

-- an element of a list with one behind it is that one, or stands in the list
pub last_cases : {X : Type 0} (before behind : List X) (d : X) (ds : List X) (x : X) → ds ++ x ∷ [] ≡ before ++ d ∷ behind → ((ds ≡ before) × (x ≡ d)) ⊎ ((rest : List X) × (ds ≡ before ++ d ∷ rest))
last_cases [] behind d [] x same = inl (refl, first_same x d [] behind same)
last_cases [] behind d (y ∷ ds) x same = inr (ds, ap (λ z. z ∷ ds) (first_same y d (ds ++ x ∷ []) behind same))
last_cases (b ∷ before) behind d [] x same = absurd (no_last before behind d (rest_same x b [] (before ++ d ∷ behind) same))
last_cases (b ∷ before) behind d (y ∷ ds) x same = by (last_cases before behind d ds x (rest_same y b (ds ++ x ∷ []) (before ++ d ∷ behind) same))
  where
    begun : y ≡ b
    begun = first_same y b (ds ++ x ∷ []) (before ++ d ∷ behind) same

    by : ((ds ≡ before) × (x ≡ d)) ⊎ ((rest : List _) × (ds ≡ before ++ d ∷ rest)) → ((y ∷ ds ≡ b ∷ before) × (x ≡ d)) ⊎ ((rest : List _) × (y ∷ ds ≡ b ∷ before ++ d ∷ rest))
    by (inl h) = inl (ap (λ z. z ∷ ds) begun ∙ ap (λ zs. b ∷ zs) h.0, h.1)
    by (inr h) = inr (h.0, ap (λ z. z ∷ ds) begun ∙ ap (λ zs. b ∷ zs) h.1)

-- values that are all there
pub same_there : {X : Type 0} (xs ys : List X) → map (λ (x : X). Some x) xs ≡ map (λ (x : X). Some x) ys → xs ≡ ys
same_there [] [] same = refl
same_there [] (y ∷ ys) same = absurd cc
same_there (x ∷ xs) [] same = absurd cc
same_there {X} (x ∷ xs) (y ∷ ys) same = heads ∙ ap (λ (zs : List X). y ∷ zs) (same_there xs ys (rest_same (Some x) (Some y) (map (λ (z : X). Some z) xs) (map (λ (z : X). Some z) ys) same))
  where
    head : x ≡ y
    head = cc

    heads : x ∷ xs ≡ y ∷ xs
    heads = ap (λ (z : X). z ∷ xs) head
