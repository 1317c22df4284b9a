-- Lists made item by item.
use Rattle.std.proofs.Common.{◌≡◌, ℕ, ◌+◌, ◌<◌, ◌≤◌, List, [], ◌∷◌, ◌++◌, length, map, take, get_or, refl, ap, sym, ◌∙◌, subst}
use Rattle.std.proofs.lemmas.List.{take_more}
use Rattle.core_tuples.proofs.OrderLemmas.{take_all}
use Rattle.bound_uppers.specs.Kinds.{HasRows}

module _ {X Y : Type 0} (f : X → Y) where
  pub map_none : (xs : List X) → [] ≡ map f (take 0 xs)
  map_none [] = refl
  map_none (x ∷ xs) = refl

  joined : (xs : List X) (x : X) → map f (xs ++ x ∷ []) ≡ map f xs ++ f x ∷ []
  joined [] x = refl
  joined (y ∷ xs) x = ap (λ ys. f y ∷ ys) (joined xs x)

  pub map_next : (xs : List X) (k : ℕ) (x : X) (old new : List Y) → k < length xs → x ≡ get_or xs k x → old ≡ map f (take k xs) → new ≡ old ++ f x ∷ [] → new ≡ map f (take (k + 1) xs)
  map_next xs k x old new lt is was e =
      let longer : take (k + 1) xs ≡ take k xs ++ x ∷ [] = take_more xs k x lt ∙ ap (λ (c : X). take k xs ++ c ∷ []) (sym is) in
      e ∙ (ap (λ (ys : List Y). ys ++ f x ∷ []) was ∙ (sym (joined (take k xs) x) ∙ ap (λ (ys : List X). map f ys) (sym longer)))

  pub map_whole : (xs : List X) (k : ℕ) (all : List Y) → length xs ≤ k → all ≡ map f (take k xs) → all ≡ map f xs
  map_whole xs k all le e = e ∙ ap (λ (ys : List X). map f ys) (take_all xs k le)

pub same_rows : (all mine rows : List (List ℕ)) → mine ≡ rows → HasRows all mine → HasRows all rows
same_rows all mine rows e has = subst (λ (xs : List (List ℕ)). HasRows all xs) e has
