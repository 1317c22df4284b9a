-- The first of places that are gathered item by item.
use Rattle.std.proofs.Common.{◌≡◌, ℕ, zero, suc, ◌+◌, ◌<◌, ◌≤◌, List, [], ◌∷◌, ◌++◌, map, take, length, get_or, Option, None, refl, sym, ap, ◌∙◌, arith}
use Rattle.std.proofs.lemmas.List.{take_more, append-nil, append_assoc}
use Rattle.core_tree.specs.declared.model.Origin.{Origin}
use Rattle.bound_definitions.specs.Places.{earlier, first_from, each, each_behind}

pub first_append : (found : Option Origin) (xs ys : List Origin) → first_from found (xs ++ ys) ≡ first_from (first_from found xs) ys
first_append found [] ys = refl
first_append found (x ∷ xs) ys = first_append (earlier found x) xs ys

pub whole : {X : Type 0} (xs : List X) (i : ℕ) → length xs ≤ i → take i xs ≡ xs
whole [] zero far = refl
whole [] (suc i) far = refl
whole (x ∷ xs) zero far = absurd (omega arith)
whole (x ∷ xs) (suc i) far = ap (λ ys. x ∷ ys) (whole xs i (omega arith))

module _ {X Y : Type 0} (f : X → List Y) where
  pub each_append : (xs ys : List X) → each f (xs ++ ys) ≡ each f xs ++ each f ys
  each_append [] ys = refl
  each_append (x ∷ xs) ys = ap (λ r. f x ++ r) (each_append xs ys) ∙ sym (append_assoc (f x) (each f xs) (each f ys))

  pub each_last : (xs : List X) (i : ℕ) (d : X) → i < length xs → each f (take (i + 1) xs) ≡ each f (take i xs) ++ f (get_or xs i d)
  each_last xs i d lt = ap (each f) (take_more xs i d lt) ∙ each_append (take i xs) (get_or xs i d ∷ []) ∙ ap (λ r. each f (take i xs) ++ r) (append-nil (f (get_or xs i d)))

  -- a turn of a loop, in which what the function gives of an item is added
  pub each_turn : (xs : List X) (i next : ℕ) (x : X) (start old new : List Y) → next ≡ i + 1 → i < length xs → x ≡ get_or xs i x → old ≡ start ++ each f (take i xs) → new ≡ old ++ f x → new ≡ start ++ each f (take next xs)
  each_turn xs i next x start old new one lt item was is =
      is ∙ ap (λ l. l ++ f x) was ∙ append_assoc start (each f (take i xs)) (f x)
      ∙ ap (λ l. start ++ l) (ap (λ (y : X). each f (take i xs) ++ f y) item ∙ sym (each_last xs i x lt) ∙ ap (λ (n : ℕ). each f (take n xs)) (sym one))

  pub each_end : (xs : List X) (i : ℕ) (start new : List Y) → length xs ≤ i → new ≡ start ++ each f (take i xs) → new ≡ start ++ each f xs
  each_end xs i start new far is = is ∙ ap (λ (ys : List X). start ++ each f ys) (whole xs i far)

  pub each_map : {W : Type 0} (g : W → X) (ws : List W) → each f (map g ws) ≡ each (λ w. f (g w)) ws
  each_map g [] = refl
  each_map g (w ∷ ws) = ap (λ l. f (g w) ++ l) (each_map g ws)

  pub each_whole : (xs : List X) (i : ℕ) → length xs ≤ i → each f (take i xs) ≡ each f xs
  each_whole xs i far = ap (each f) (whole xs i far)

module _ {X : Type 0} (f : X → List Origin) (found : Option Origin) where
  -- one item more, and no more items
  pub first_more : (xs : List X) (i : ℕ) (d : X) → i < length xs → first_from found (each f (take (i + 1) xs)) ≡ first_from (first_from found (each f (take i xs))) (f (get_or xs i d))
  first_more xs i d lt = ap (first_from found) (each_last f xs i d lt) ∙ first_append found (each f (take i xs)) (f (get_or xs i d))

  pub first_whole : (xs : List X) (i : ℕ) → length xs ≤ i → first_from found (each f (take i xs)) ≡ first_from found (each f xs)
  first_whole xs i far = ap (first_from found) (each_whole f xs i far)

  -- a turn of a loop, where the item is read and its places are noted
  pub first_turn : (xs : List X) (i next : ℕ) (x : X) (old new : Option Origin) → next ≡ i + 1 → i < length xs → x ≡ get_or xs i x → old ≡ first_from found (each f (take i xs)) → new ≡ first_from old (f x) → new ≡ first_from found (each f (take next xs))
  first_turn xs i next x old new one lt item was is =
      is ∙ ap (λ (o : Option Origin). first_from o (f x)) was ∙ ap (λ (y : X). first_from (first_from found (each f (take i xs))) (f y)) item
      ∙ sym (first_more xs i x lt) ∙ ap (λ (n : ℕ). first_from found (each f (take n xs))) (sym one)

module _ {X : Type 0} (f : List X → X → List Origin) where
  behind_last : (before xs : List X) (y : X) → each_behind f before (xs ++ y ∷ []) ≡ each_behind f before xs ++ f (before ++ xs) y
  behind_last before [] y = append-nil (f before y) ∙ ap (λ (b : List X). f b y) (sym (append-nil before))
  behind_last before (x ∷ xs) y =
      ap (λ r. f before x ++ r) (behind_last (before ++ x ∷ []) xs y ∙ ap (λ (b : List X). each_behind f (before ++ x ∷ []) xs ++ f b y) (append_assoc before (x ∷ []) xs))
      ∙ sym (append_assoc (f before x) (each_behind f (before ++ x ∷ []) xs) (f (before ++ x ∷ xs) y))

  -- the same where the items before are looked at
  pub behind_turn : (xs : List X) (i next : ℕ) (x : X) (old new : Option Origin) → next ≡ i + 1 → i < length xs → x ≡ get_or xs i x → old ≡ first_from None (each_behind f [] (take i xs)) → new ≡ first_from old (f (take i xs) x) → new ≡ first_from None (each_behind f [] (take next xs))
  behind_turn xs i next x old new one lt item was is =
      is ∙ ap (λ (o : Option Origin). first_from o (f (take i xs) x)) was
      ∙ sym (first_append None (each_behind f [] (take i xs)) (f (take i xs) x))
      ∙ ap (first_from None) (ap (λ (y : X). each_behind f [] (take i xs) ++ f (take i xs) y) item ∙ sym (behind_last [] (take i xs) (get_or xs i x)) ∙ ap (each_behind f []) (sym (take_more xs i x lt)))
      ∙ ap (λ (n : ℕ). first_from None (each_behind f [] (take n xs))) (sym one)

  pub behind_whole : (xs : List X) (i : ℕ) → length xs ≤ i → first_from None (each_behind f [] (take i xs)) ≡ first_from None (each_behind f [] xs)
  behind_whole xs i far = ap (λ (ys : List X). first_from None (each_behind f [] ys)) (whole xs i far)
