-- Lists seen from their end, and what is in them.
use Rattle.std.proofs.Common.{◌≡◌, List, [], ◌∷◌, ◌++◌, Option, Some, None, refl, sym, ap, subst, ◌∙◌}
use Rattle.std.specs.Prelude.{Contains}
use Rattle.std.proofs.lemmas.List.Elements.{Contains-append_left, Contains-append_right, Contains-push}

-- a list with a last element is not empty
pub no_last : {A : Type 0} (xs : List A) (x : A) → [] ≡ xs ++ x ∷ [] → ⊥
no_last [] x h = cc
no_last (y ∷ xs) x h = cc

pub no_first : {A : Type 0} (xs : List A) (x : A) → [] ≡ x ∷ xs → ⊥
no_first xs x h = cc

pub same_first : {A : Type 0} (xs ys : List A) (x y : A) → x ∷ xs ≡ y ∷ ys → (x ≡ y) × (xs ≡ ys)
same_first xs ys x y h = (cc, cc)

-- two lists are one: so are their last elements, and what stands before these
pub same_last : {A : Type 0} (xs ys : List A) (x y : A) → xs ++ x ∷ [] ≡ ys ++ y ∷ [] → (xs ≡ ys) × (x ≡ y)
same_last [] [] x y h = (refl, (same_first [] [] x y h).0)
same_last [] (z ∷ ys) x y h = absurd (no_last ys y (same_first [] (ys ++ y ∷ []) x z h).1)
same_last (z ∷ xs) [] x y h = absurd (no_last xs x (sym (same_first (xs ++ x ∷ []) [] z y h).1))
same_last (z ∷ xs) (w ∷ ys) x y h =
    let heads = same_first (xs ++ x ∷ []) (ys ++ y ∷ []) z w h in
    let rest = same_last xs ys x y heads.1 in
    (ap (λ (v : _). v ∷ xs) heads.0 ∙ ap (λ (vs : List _). w ∷ vs) rest.0, rest.1)

pub has_first : {A : Type 0} (xs : List A) (x : A) → Contains (x ∷ xs) x
has_first xs x = Contains-append_left (x ∷ []) xs x (Contains-push [] x)

pub has_last : {A : Type 0} (xs all : List A) (x : A) → all ≡ xs ++ x ∷ [] → Contains all x
has_last xs all x h = subst (λ ys. Contains ys x) (sym h) (Contains-push xs x)

pub has_before : {A : Type 0} (xs all : List A) (x y : A) → all ≡ xs ++ x ∷ [] → Contains xs y → Contains all y
has_before xs all x y h is = subst (λ ys. Contains ys y) (sym h) (Contains-append_left xs (x ∷ []) y is)

pub has_middle : {A : Type 0} (xs ys all : List A) (x : A) → all ≡ xs ++ x ∷ ys → Contains all x
has_middle xs ys all x h = subst (λ zs. Contains zs x) (sym h) (Contains-append_right xs (x ∷ ys) x (has_first ys x))

pub no_option : {A : Type 0} (x : A) → ◌≡◌ {A = Option A} None (Some x) → ⊥
no_option x h = cc

pub same_option : {A : Type 0} (x y : A) → ◌≡◌ {A = Option A} (Some x) (Some y) → x ≡ y
same_option x y h = cc
