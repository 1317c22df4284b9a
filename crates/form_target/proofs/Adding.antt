-- Formulas that are added one after another.
use Rattle.std.proofs.Common.{◌≡◌, ◌↔◌, ℕ, ◌+◌, ◌≤◌, List, [], ◌∷◌, ◌++◌, length, All, Some, slice_get, sym, subst}
use Rattle.std.proofs.lemmas.List.Elements.{All-push, All-nil}
use Rattle.core_tree.specs.declared.model.Model.{Model}
use Rattle.core_tree.specs.declared.tree.Formula.{Formula}
use Rattle.core_tree.specs.Trees.{Claim, claim_of}
use Rattle.core_tree.specs.Columns.{no_columns}
use Rattle.core_tree.specs.Models.{IsModel, IsRightFormula}
use Rattle.core_meaning.specs.World.{World}
use Rattle.core_meaning.specs.Meaning.{Holds, no_names}
use Rattle.core_meaning.specs.Called.{bodies_of}
use Rattle.form_target.specs.Asked.{EachOf, EachBelow}
use Rattle.form_target.specs.Added.{IsWorldOf, HoldsIn, IsClosed, Adds}
use Rattle.form_target.proofs.Lists.{all_one_more, each_one_more, each_below_all, none_below}

module _ (model : Model) where
  -- where nothing is asked nothing is added
  pub adds_none : (fs : List Formula) (P : World → ℕ → Type 0) → ((w : World) (i : ℕ) → P w i) → Adds model fs fs P
  adds_none fs P all = record { same = λ w i here. ((λ x. (x, all w i)), (λ x. x.0)); closed = λ is x. x }

  pub adds_claim : (old : List Formula) (f : Formula) (c : Claim) (P : World → ℕ → Type 0) → claim_of f ≡ c → ((w : World) (i : ℕ) → IsWorldOf model w → Holds w (bodies_of w model.bodies) c no_names i ↔ P w i) → (IsModel model → IsRightFormula model c no_columns) → Adds model old (old ++ f ∷ []) P
  adds_claim old f c P is means right = record {
    same = λ w i here.
        let one : HoldsIn model w i f ↔ P w i = subst (λ k. Holds w (bodies_of w model.bodies) k no_names i ↔ P w i) (sym is) (means w i here) in
        let more = all_one_more (HoldsIn model w i) old f in (
          (λ h. ((more.0 h).0, one.0 (more.0 h).1)),
          (λ h. more.1 (h.0, one.1 h.1)),
        );
    closed = λ good all. All-push (IsClosed model) old f all (subst (λ k. IsRightFormula model k no_columns) (sym is) (right good));
  }

  pub adds_both : (old mid new : List Formula) (P Q : World → ℕ → Type 0) → Adds model old mid P → Adds model mid new Q → Adds model old new (λ w i. P w i × Q w i)
  adds_both old mid new P Q u v = record {
    same = λ w i here.
        let one = u.same w i here in
        let two = v.same w i here in (
          (λ h.
              let k = two.0 h in
              let l = one.0 k.0 in
              (l.0, (l.1, k.1))),
          (λ h. two.1 (one.1 (h.0, h.1.0), h.1.1)),
        );
    closed = λ good all. v.closed good (u.closed good all);
  }

  -- what is asked, in other words
  pub adds_as : (old new : List Formula) (P Q : World → ℕ → Type 0) → ((w : World) (i : ℕ) → P w i ↔ Q w i) → Adds model old new P → Adds model old new Q
  adds_as old new P Q same u = record {
    same = λ w i here.
        let one = u.same w i here in (
          (λ h. ((one.0 h).0, (same w i).0 (one.0 h).1)),
          (λ h. one.1 (h.0, (same w i).1 h.1)),
        );
    closed = u.closed;
  }

  -- one element of a list after another
  pub adds_next : {X : Type 0} (xs : List X) (n : ℕ) (y : X) (Q : World → ℕ → ℕ → X → Type 0) (old mid new : List Formula) → slice_get xs n ≡ Some y → Adds model old mid (λ w i. EachBelow xs n (Q w i)) → Adds model mid new (λ w i. Q w i n y) → Adds model old new (λ w i. EachBelow xs (n + 1) (Q w i))
  adds_next xs n y Q old mid new at u v = adds_as old new (λ w i. EachBelow xs n (Q w i) × Q w i n y) (λ w i. EachBelow xs (n + 1) (Q w i)) (λ w i. each_one_more xs n y (Q w i) at) (adds_both old mid new (λ w i. EachBelow xs n (Q w i)) (λ w i. Q w i n y) u v)

  pub adds_all : {X : Type 0} (xs : List X) (n : ℕ) (Q : World → ℕ → ℕ → X → Type 0) (old new : List Formula) → length xs ≤ n → Adds model old new (λ w i. EachBelow xs n (Q w i)) → Adds model old new (λ w i. EachOf xs (Q w i))
  adds_all xs n Q old new past u = adds_as old new (λ w i. EachBelow xs n (Q w i)) (λ w i. EachOf xs (Q w i)) (λ w i. each_below_all xs n (Q w i) past) u

  pub adds_start : {X : Type 0} (xs : List X) (Q : World → ℕ → ℕ → X → Type 0) (fs : List Formula) → Adds model fs fs (λ w i. EachBelow xs 0 (Q w i))
  adds_start xs Q fs = adds_none fs (λ w i. EachBelow xs 0 (Q w i)) (λ w i. none_below xs (Q w i))

  -- all formulas, from none on
  pub adds_to_none : (new : List Formula) (P : World → ℕ → Type 0) → Adds model [] new P → ((w : World) (i : ℕ) → IsWorldOf model w → All (HoldsIn model w i) new ↔ P w i) × (IsModel model → All (IsClosed model) new)
  adds_to_none new P u = (
    (λ w i here. ((λ h. ((u.same w i here).0 h).1), (λ h. (u.same w i here).1 (All-nil (HoldsIn model w i), h)))),
    (λ good. u.closed good (All-nil (IsClosed model))),
  )
