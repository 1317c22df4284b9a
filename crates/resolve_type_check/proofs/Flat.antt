-- What is in lists that are made of lists.
use Rattle.std.proofs.Common.{◌≡◌, List, [], ◌∷◌, ◌++◌, map, Contains, flat_map, sym, subst, arith, ◌⊎◌, inl, inr, ⊎_elim}
use Rattle.std.proofs.lemmas.List.Elements.{Contains-append_left, Contains-append_right, Contains-append_cases, Contains-push_cases, Contains-push}
use Rattle.std.proofs.lemmas.List.Concat.{flat_map-cons, flat_map_single}

pub none_in : {X : Type 0} (x : X) → Contains [] x → ⊥
none_in x h = let lt = h.1 in omega (arith, lt)

pub only_in : {X : Type 0} (x z : X) → Contains (x ∷ []) z → x ≡ z
only_in x z h = ⊎_elim (λ n. absurd (none_in z n)) (λ e. e) (Contains-push_cases [] x z h)

pub head_in : {X : Type 0} (x : X) (xs : List X) → Contains (x ∷ xs) x
head_in x xs = Contains-append_left (x ∷ []) xs x (Contains-push [] x)

pub tail_in : {X : Type 0} (y : X) (xs : List X) (x : X) → Contains xs x → Contains (y ∷ xs) x
tail_in y xs x h = Contains-append_right (y ∷ []) xs x h

pub cons_cases : {X : Type 0} (y : X) (xs : List X) (x : X) → Contains (y ∷ xs) x → (y ≡ x) ⊎ Contains xs x
cons_cases y xs x h = ⊎_elim (λ a. inl (only_in y x a)) (λ b. inr b) (Contains-append_cases (y ∷ []) xs x h)

pub append_within : {X : Type 0} (a b c d : List X) → ((x : X) → Contains a x → Contains c x) → ((x : X) → Contains b x → Contains d x) → (x : X) → Contains (a ++ b) x → Contains (c ++ d) x
append_within a b c d f g x h = ⊎_elim (λ k. Contains-append_left c d x (f x k)) (λ k. Contains-append_right c d x (g x k)) (Contains-append_cases a b x h)

module _ {X Y : Type 0} where
  pub into_flat : (f : X → List Y) (xs : List X) (x : X) (y : Y) → Contains xs x → Contains (f x) y → Contains (flat_map f xs) y
  into_flat f [] x y h k = absurd (none_in x h)
  into_flat f (z ∷ xs) x y h k = subst (λ l. Contains l y) (sym (flat_map-cons f z xs)) (⊎_elim
      (λ (e : z ≡ x). Contains-append_left (f z) (flat_map f xs) y (subst (λ w. Contains (f w) y) (sym e) k))
      (λ r. Contains-append_right (f z) (flat_map f xs) y (into_flat f xs x y r k))
      (cons_cases z xs x h))

  pub from_flat : (f : X → List Y) (xs : List X) (y : Y) → Contains (flat_map f xs) y → (x : X) × Contains xs x × Contains (f x) y
  from_flat f [] y h = absurd (none_in y h)
  from_flat f (z ∷ xs) y h = ⊎_elim
      (λ a. (z, head_in z xs, a))
      (λ b. let found = from_flat f xs y b in (found.0, tail_in z xs found.0 found.1, found.2))
      (Contains-append_cases (f z) (flat_map f xs) y (subst (λ l. Contains l y) (flat_map-cons f z xs) h))

  pub flat_within : (f g : X → List Y) (a b : List X) → ((x : X) → Contains a x → Contains b x) → ((x : X) (y : Y) → Contains (f x) y → Contains (g x) y) → (y : Y) → Contains (flat_map f a) y → Contains (flat_map g b) y
  flat_within f g a b w v y h = let found = from_flat f a y h in into_flat g b found.0 y (w found.0 found.1) (v found.0 y found.2)

  pub map_within : (f : X → Y) (a b : List X) → ((x : X) → Contains a x → Contains b x) → (y : Y) → Contains (map f a) y → Contains (map f b) y
  map_within f a b w y h =
      subst (λ l. Contains l y) (flat_map_single f b)
      (flat_within (λ x. f x ∷ []) (λ x. f x ∷ []) a b w (λ x z k. k) y
      (subst (λ l. Contains l y) (sym (flat_map_single f a)) h))

  pub into_map : (f : X → Y) (xs : List X) (x : X) → Contains xs x → Contains (map f xs) (f x)
  into_map f xs x h = subst (λ l. Contains l (f x)) (flat_map_single f xs) (into_flat (λ z. f z ∷ []) xs x (f x) h (head_in (f x) []))

  pub from_map : (f : X → Y) (xs : List X) (y : Y) → Contains (map f xs) y → (x : X) × Contains xs x × (f x ≡ y)
  from_map f xs y h =
      let found = from_flat (λ z. f z ∷ []) xs y (subst (λ l. Contains l y) (sym (flat_map_single f xs)) h) in
      (found.0, found.1, only_in (f found.0) y found.2)
