-- One item more of a list, from the front and from the back.
use Rattle.std.proofs.Common.{◌≡◌, ◌∙◌, ℕ, suc, ◌+◌, ◌-◌, ◌<◌, ◌≤◌, List, [], ◌∷◌, ◌++◌, map, length, take, drop, get_or, refl, sym, ap, drop-cons, add-one, arith}
use Rattle.std.proofs.Math.Seq.{take-add}
use Rattle.std.proofs.lemmas.List.{length-drop, length-take-le, take_all, take_more}

pub take_next : {X : Type 0} (xs : List X) (i : ℕ) (x : X) → i < length xs → x ≡ get_or xs i x → take (i + 1) xs ≡ take i xs ++ x ∷ []
take_next xs i x inside at = take_more xs i x inside ∙ ap (λ z. take i xs ++ z ∷ []) (sym at)

pub drop_next : {X : Type 0} (xs : List X) (i : ℕ) (x : X) → i < length xs → x ≡ get_or xs i x → drop i xs ≡ x ∷ drop (i + 1) xs
drop_next xs i x inside at = drop-cons xs i x inside ∙ ap (λ z. z ∷ drop (suc i) xs) (sym at) ∙ ap (λ k. x ∷ drop k xs) (sym (add-one i))

-- going back: after `step` items from the end
pub take_back : {X : Type 0} (xs : List X) (step place : ℕ) (x : X) → step < length xs → place ≡ length xs - 1 - step → x ≡ get_or xs place x → take (length xs - step) xs ≡ take (length xs - (step + 1)) xs ++ x ∷ []
take_back xs step place x inside here at =
    let more : length xs - step ≡ place + 1 = omega arith in
    let less : length xs - (step + 1) ≡ place = omega arith in
    ap (λ n. take n xs) more ∙ take_next xs place x (omega arith) at ∙ ap (λ n. take n xs ++ x ∷ []) (sym less)

pub take_none : {X : Type 0} (xs : List X) (step : ℕ) → length xs ≤ step → take (length xs - step) xs ≡ []
take_none xs step past =
    let none : length xs - step ≡ 0 = omega arith in
    ap (λ n. take n xs) none

pub take_whole : {X : Type 0} (xs : List X) → take (length xs - 0) xs ≡ xs
take_whole xs = take_all (length xs - 0) xs (omega arith)

pub map_behind : {X Y : Type 0} (f : X → Y) (xs : List X) (x : X) → map f (xs ++ x ∷ []) ≡ map f xs ++ f x ∷ []
map_behind f [] x = refl
map_behind f (y ∷ ys) x = ap (λ z. f y ∷ z) (map_behind f ys x)

pub map_parts : {X Y : Type 0} (f : X → Y) (xs ys : List X) → map f (xs ++ ys) ≡ map f xs ++ map f ys
map_parts f [] ys = refl
map_parts f (x ∷ xs) ys = ap (λ z. f x ∷ z) (map_parts f xs ys)

pub map_next : {X Y : Type 0} (f : X → Y) (xs : List X) (i : ℕ) (x : X) → i < length xs → x ≡ get_or xs i x → map f (take (i + 1) xs) ≡ map f (take i xs) ++ f x ∷ []
map_next f xs i x inside at = ap (map f) (take_next xs i x inside at) ∙ map_behind f (take i xs) x

pub take_length : {X : Type 0} (xs : List X) (i : ℕ) → i ≤ length xs → length (take i xs) ≡ i
take_length xs i inside = length-take-le i xs inside

-- so many items from a place on
pub take_range : {X : Type 0} (xs : List X) (from count : ℕ) → from ≤ length xs → from + count ≤ length xs →
    (from + length (take (from + count - from) (drop from xs)) ≤ length xs) × (take (from + length (take (from + count - from) (drop from xs))) xs ≡ take from xs ++ take (from + count - from) (drop from xs))
take_range xs from count inside within =
    let rest : length (drop from xs) ≡ length xs - from = length-drop from xs in
    let many : length (take (from + count - from) (drop from xs)) ≡ count = length-take-le (from + count - from) (drop from xs) (omega (arith, rest)) ∙ omega arith in
    let same : from + count - from ≡ count = omega arith in
    (omega (arith, many), ap (λ n. take (from + n) xs) many ∙ take-add from count xs ∙ ap (λ n. take from xs ++ take n (drop from xs)) (sym same))
