-- Going up from sigs to their parents.
use Rattle.std.proofs.Common.{◌≡◌, ◌⊎◌, inl, inr, ℕ, zero, suc, ◌<◌, List, [], ◌∷◌, ◌++◌, length, All, Some, slice_get, refl, sym, ap, subst, arith}
use Rattle.core_tree.specs.declared.model.Sig.{Sig}
use Rattle.core_tree.specs.declared.model.SigKind.{SigKind}
use Rattle.core_tree.specs.declared.model.Column.TheVariants.{Sig as SigColumn}
use Rattle.core_tree.specs.Models.{IsAncestor, parent, above, IsParent, parents_of}
use Rattle.core_meaning.specs.Declarations.{IsChild}
use Rattle.core_laws.specs.Typed.{ExtendsPlain}
use Rattle.core_laws.proofs.Members.{Member, Different, to_contains, few_below}

-- the sigs that are come to from the first, each a step from the one before it, up to the last
abbrev pub Climb : (ℕ → ℕ → Type 0) → ℕ → List ℕ → ℕ → Type 0
Climb R a [] b = a ≡ b
Climb R a (p ∷ ps) b = R a p × Climb R p ps b

pub climb_more : (R : ℕ → ℕ → Type 0) (a b c : ℕ) (ps : List ℕ) → Climb R a ps b → R b c → Climb R a (ps ++ c ∷ []) c
climb_more R a b c [] e step = (subst (λ x. R x c) (sym e) step, refl)
climb_more R a b c (p ∷ ps) climb step = (climb.0, climb_more R p b c ps climb.1 step)

pub one_more : (ps : List ℕ) (c : ℕ) → length (ps ++ c ∷ []) ≡ suc (length ps)
one_more [] c = refl
one_more (p ∷ ps) c = ap suc (one_more ps c)

-- what a hierarchy of sigs keeps
pub record IsTree (sigs : List Sig) : Type 0 where
  pub above : (s : ℕ) → ¬ IsAncestor sigs s s
  pub parents : (s : ℕ) (d : Sig) → slice_get sigs s ≡ Some d → All (IsParent (length sigs)) (parents_of d.kind)
  pub plain : ExtendsPlain sigs

all_member : {X : Type 0} (P : X → Type 0) (xs : List X) (x : X) → All P xs → Member x xs → P x
all_member P [] x all m = elim m [ ]
all_member P (y ∷ ys) x all (inl e) = subst P e (all 0 y (omega arith))
all_member P (y ∷ ys) x all (inr m) = all_member P ys x (λ k d lt. all (suc k) d (omega (arith, lt))) m

pub item_of : {X : Type 0} (xs : List X) (k : ℕ) (x : X) (P : X → Type 0) → All P xs → slice_get xs k ≡ Some x → P x
item_of [] k x P all get = cc
item_of (y ∷ xs) zero x P all get = let is : y ≡ x = cc in subst P is (all 0 y (omega arith))
item_of (y ∷ xs) (suc k) x P all get = item_of xs k x P (λ j d lt. all (suc j) d (omega (arith, lt))) get

pub get_there : {X : Type 0} (xs : List X) (k : ℕ) → k < length xs → (x : X) × (slice_get xs k ≡ Some x)
get_there [] k lt = absurd (omega (arith, lt))
get_there (x ∷ xs) zero lt = (x, refl)
get_there (x ∷ xs) (suc k) lt = get_there xs k (omega (arith, lt))

pub get_within : {X : Type 0} (xs : List X) (k : ℕ) (x : X) → slice_get xs k ≡ Some x → k < length xs
get_within [] k x e = cc
get_within (y ∷ xs) zero x e = omega arith
get_within (y ∷ xs) (suc k) x e = let lt = get_within xs k x e in omega (arith, lt)

module _ (sigs : List Sig) where
  -- p is a parent of a, or a extends p
  abbrev pub HasParent : ℕ → ℕ → Type 0
  HasParent a p = (d : Sig) × (slice_get sigs a ≡ Some d) × Member (SigColumn p) (parents_of d.kind)

  abbrev pub Extending : ℕ → ℕ → Type 0
  Extending a p = IsChild sigs p a

  extends_parent : (a p : ℕ) → Extending a p → HasParent a p
  extends_parent a p (d, get, is) = (d, get, subst (λ (k : SigKind). Member (SigColumn p) (parents_of k)) (sym is) (inl refl))

  pub climb_parents : (a b : ℕ) (ps : List ℕ) → Climb Extending a ps b → Climb HasParent a ps b
  climb_parents a b [] e = e
  climb_parents a b (p ∷ ps) climb = (extends_parent a p climb.0, climb_parents p b ps climb.1)

  is_above : (a b : ℕ) (ps : List ℕ) (x : ℕ) → Climb HasParent a ps b → Member x ps → IsAncestor sigs x a
  is_above a b [] x climb m = elim m [ ]
  is_above a b (p ∷ ps) x ((d, get, among), climb) (inl e) = parent d get (to_contains (parents_of d.kind) (SigColumn x) (subst (λ q. Member (SigColumn q) (parents_of d.kind)) e among))
  is_above a b (p ∷ ps) x ((d, get, among), climb) (inr m) = above d get (to_contains (parents_of d.kind) (SigColumn p) among) (is_above p b ps x climb m)

  module _ (tree : IsTree sigs) where
    different : (a b : ℕ) (ps : List ℕ) → Climb HasParent a ps b → Different (a ∷ ps)
    different a b [] climb = ((λ m. m), tt)
    different a b (p ∷ ps) climb = ((λ m. tree.above a (is_above a b (p ∷ ps) a climb m)), different p b ps climb.1)

    pub parent_within : (a p : ℕ) → HasParent a p → p < length sigs
    parent_within a p (d, get, among) = all_member (IsParent (length sigs)) (parents_of d.kind) (SigColumn p) (tree.parents a d get) among

    within : (a b : ℕ) (ps : List ℕ) (x : ℕ) → a < length sigs → Climb HasParent a ps b → Member x (a ∷ ps) → x < length sigs
    within a b ps x lt climb (inl e) = subst (λ y. y < length sigs) e lt
    within a b [] x lt climb (inr m) = elim m [ ]
    within a b (p ∷ ps) x lt climb (inr m) = within p b ps x (parent_within a p climb.0) climb.1 m

    -- one goes up over fewer sigs than there are
    pub few_steps : (a b : ℕ) (ps : List ℕ) → a < length sigs → Climb HasParent a ps b → length ps < length sigs
    few_steps a b ps lt climb =
        let few = few_below (length sigs) (a ∷ ps) (different a b ps climb) (λ x m. within a b ps x lt climb m) in
        omega (arith, few)

  -- the last step of one way up
  pub last_step : (a b : ℕ) (ps : List ℕ) → Climb Extending a ps b → (a ≡ b) ⊎ ((e : ℕ) × (qs : List ℕ) × Climb Extending a qs e × Extending e b)
  last_step a b [] climb = inl climb
  last_step a b (p ∷ ps) climb = elim (last_step p b ps climb.1) [
    | inl is ↦ inr (a, [], refl, subst (λ x. Extending a x) is climb.0)
    | inr (e, qs, way, last) ↦ inr (e, p ∷ qs, (climb.0, way), last)
  ]
