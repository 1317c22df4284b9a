-- One step of a walk along a list, and its end.
use Rattle.std.proofs.Common.{◌≡◌, ◌∙◌, ℕ, suc, ◌+◌, ◌<◌, ◌≤◌, List, ◌∷◌, length, drop, get_or, refl, sym, ap, subst, drop-cons, add-one}
use Rattle.std.proofs.lemmas.List.{drop_all}
use Rattle.resolve_told_sigs.specs.Walks.{Walks}

pub front_of : {X : Type 0} (xs : List X) (i : ℕ) (x : X) → i < length xs → x ≡ get_or xs i x → drop i xs ≡ x ∷ drop (i + 1) xs
front_of xs i x inside at = drop-cons xs i x inside ∙ ap (λ z. z ∷ drop (suc i) xs) (sym at) ∙ ap (λ k. x ∷ drop k xs) (sym (add-one i))

-- one item more
pub walks_next : {S X : Type 0} (R : S → X → S → Type 0) (s u v : S) (xs : List X) (i : ℕ) (x : X) → i < length xs → x ≡ get_or xs i x → R u x v →
    ((t : S) → Walks R u (drop i xs) t → Walks R s xs t) → (t : S) → Walks R v (drop (i + 1) xs) t → Walks R s xs t
walks_next R s u v xs i x inside at here on t rest = on t (subst (λ ys. Walks R u ys t) (sym (front_of xs i x inside at)) (v, here, rest))

-- no item is left
pub walks_end : {S X : Type 0} (R : S → X → S → Type 0) (s u : S) (xs : List X) (i : ℕ) → length xs ≤ i → ((t : S) → Walks R u (drop i xs) t → Walks R s xs t) → Walks R s xs u
walks_end R s u xs i past on = on u (subst (λ ys. Walks R u ys u) (sym (drop_all i xs past)) refl)
