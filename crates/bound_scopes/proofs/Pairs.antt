-- Pairs of a sig and its scope, and what holds of the first items of a list.
use Rattle.std.proofs.Common.{◌≡◌, ℕ, zero, suc, ◌+◌, ◌<◌, ◌≤◌, List, [], ◌∷◌, All, take, get_or, length, Option, Some, IfSome, slice_get, refl, sym, ap, ◌∙◌, subst, arith}
use Rattle.std.proofs.lemmas.List.Elements.{All-more}
use Rattle.std.proofs.lemmas.Option.{same_Some}
use Rattle.core_tree.specs.declared.model.Sig.{Sig}
use Rattle.core_meaning.specs.declared.scopes.SigScope.{SigScope}
use Rattle.bound_scopes.specs.Numbers.{IsSigScope}

-- the pair at a place
pub here_got : (sigs : List Sig) (numbers : List SigScope) (i : ℕ) (d : Sig) (e : SigScope) → slice_get sigs i ≡ Some d → slice_get numbers i ≡ Some e → IsSigScope d e → (x : Sig) → slice_get sigs i ≡ Some x → IfSome (slice_get numbers i) (IsSigScope x)
here_got sigs numbers i d e at_d at_e is x at =
    subst (λ (o : Option SigScope). IfSome o (IsSigScope x)) (sym at_e) (subst (λ (y : Sig). IsSigScope y e) (same_Some d x (sym at_d ∙ at)) is)

pub all_more : {X : Type 0} (P : X → Type 0) (l : List X) (i : ℕ) (g : X) → i < length l → g ≡ get_or l i g → All P (take i l) → P g → All P (take (i + 1) l)
all_more P l i g lt item all here = All-more P l i g lt all (subst P item here)

whole : {X : Type 0} (l : List X) (k : ℕ) → length l ≤ k → take k l ≡ l
whole [] zero low = refl
whole [] (suc k) low = refl
whole (x ∷ l) zero low = absurd (omega (arith, low))
whole (x ∷ l) (suc k) low = ap (λ r. x ∷ r) (whole l k (omega (arith, low)))

pub all_whole : {X : Type 0} (P : X → Type 0) (l : List X) (i : ℕ) → length l ≤ i → All P (take i l) → All P l
all_whole {X = X} P l i le all = subst (λ (k : List X). All P k) (whole l i le) all

-- nothing stands past the end
pub past_none : {X : Type 0} (P : X → Type 0) (l : List X) (k : ℕ) → length l ≤ k → IfSome (slice_get l k) P
past_none P [] k far = tt
past_none P (x ∷ l) zero far = absurd (omega (arith, far))
past_none P (x ∷ l) (suc k) far = past_none P l k (omega (arith, far))
