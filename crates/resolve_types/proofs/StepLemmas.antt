-- Lemmas on what one item more adds, to a list that a test maps and to pairs of two lists.
use Rattle.std.proofs.Common.{◌≡◌, ℕ, ◌+◌, ◌<◌, List, [], ◌∷◌, ◌++◌, Option, length, get_or, take, sym, ◌∙◌, ap, append_assoc, append-nil}
use Rattle.std.specs.List.{filter_map, cons_option}
use Rattle.std.proofs.lemmas.List.{take_more}
use Rattle.std.proofs.lemmas.List.Elements.{filter_map-append}
use Rattle.std.proofs.lemmas.Grind.{flat_map-append}
use Rattle.resolve_types.specs.Types.{pairs}

-- one item more of a list that a test maps
pub filter_map_more : {X Y : Type 0} (h : X → Option Y) (before : List Y) (xs : List X) (i : ℕ) (x : X) → i < length xs → x ≡ get_or xs i x →
    (before ++ filter_map h (take i xs)) ++ cons_option (h x) [] ≡ before ++ filter_map h (take (i + 1) xs)
filter_map_more h before xs i x lt e =
    append_assoc before (filter_map h (take i xs)) (cons_option (h x) [])
    ∙ ap (λ ys. before ++ ys) (sym (filter_map-append h (take i xs) (x ∷ [])) ∙ ap (λ ys. filter_map h ys) (ap (λ y. take i xs ++ y ∷ []) e ∙ sym (take_more xs i x lt)))

-- one item more of the first list of pairs
pub pairs_more : {X Y Z : Type 0} (f : X → Y → Option Z) (xs : List X) (ys : List Y) (i : ℕ) (x : X) → i < length xs → x ≡ get_or xs i x →
    pairs f (take i xs) ys ++ filter_map (f x) ys ≡ pairs f (take (i + 1) xs) ys
pairs_more f xs ys i x lt e =
    ap (λ zs. pairs f (take i xs) ys ++ zs) (sym (append-nil (filter_map (f x) ys)))
    ∙ sym (flat_map-append (λ w. filter_map (f w) ys) (take i xs) (x ∷ []))
    ∙ ap (λ ws. pairs f ws ys) (ap (λ y. take i xs ++ y ∷ []) e ∙ sym (take_more xs i x lt))
