-- What the test of a field's owner says, and one parent more.
use Rattle.std.proofs.Common.{◌≡◌, ℕ, ◌+◌, ◌<◌, ◌≤◌, Bool, true, false, not, ◌&&◌, nat_lt, IsTrue, List, take, length, get_or, Option, Some, None, IfSome, All, refl, sym, ap, ◌∙◌, subst, ltb-true, arith}
use Rattle.std.specs.Option.{is_some}
use Rattle.std.proofs.lemmas.List.Elements.{All-more}
use Rattle.core_tree.specs.declared.model.Field.{Field}
use Rattle.resolve_check.specs.Kept.{HasOwner}
use Rattle.resolve_check.proofs.Parts.{not_false, both_from}
use Rattle.resolve_check.proofs.NameLists.{whole}

flip : (b : Bool) → not b ≡ true → b ≡ true → ⊥
flip true e h = not_false e
flip false e h = not_false h

pub owner_none : (sigs : ℕ) (f : Field) (declared : Bool) → declared ≡ is_some f.declared → f.owner ≡ None → not declared ≡ true → HasOwner sigs f
owner_none sigs f declared e none t = record {
  owner = subst (λ (o : Option ℕ). IfSome o (λ s. s < sigs)) (sym none) tt;
  declared = (λ h. absurd (flip (is_some f.declared) (ap not (sym e) ∙ t) h), λ h. absurd (not_false (ap is_some (sym none) ∙ h)));
}

pub owner_some : (sigs : ℕ) (f : Field) (declared : Bool) (s : ℕ) (all : Bool) → declared ≡ is_some f.declared → f.owner ≡ Some s → all ≡ (nat_lt s sigs && declared) → all ≡ true → HasOwner sigs f
owner_some sigs f declared s all e some ea t =
    let b = both_from (nat_lt s sigs) declared (sym ea ∙ t) in
    record {
      owner = subst (λ (o : Option ℕ). IfSome o (λ k. k < sigs)) (sym some) (ltb-true s sigs b.first);
      declared = (λ h. ap is_some some, λ h. sym e ∙ b.second);
    }

pub all_more : {X : Type 0} (P : X → Type 0) (l : List X) (i : ℕ) (g : X) → i < length l → g ≡ get_or l i g → All P (take i l) → P g → All P (take (i + 1) l)
all_more P l i g lt item all here = All-more P l i g lt all (subst P item here)

pub all_whole : {X : Type 0} (P : X → Type 0) (l : List X) (i : ℕ) → length l ≤ i → All P (take i l) → All P l
all_whole {X = X} P l i le all = subst (λ (k : List X). All P k) (whole l i le) all
