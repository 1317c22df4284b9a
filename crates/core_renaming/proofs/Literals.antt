-- What lies in the upper bound of a sig that extends another is an atom of the top-level sig above it.
use Rattle.std.proofs.Common.{◌≡◌, ℕ, zero, suc, ◌<◌, List, [], ◌∷◌, ◌++◌, length, Contains, Some, slice_get, inl, inr, refl, sym, ◌∙◌, subst, arith}
use Rattle.core_tree.specs.declared.model.Model.{Model}
use Rattle.core_tree.specs.declared.model.Sig.{Sig}
use Rattle.core_tree.specs.declared.model.SigKind.TheVariants.{Top, Extends}
use Rattle.core_tree.specs.declared.model.Column.TheVariants.{Sig as SigColumn}
use Rattle.core_tree.specs.Models.{IsRightSig}
use Rattle.core_tree.specs.Types.{TypeRow, standing, sig_rows}
use Rattle.core_meaning.specs.declared.scopes.Scopes.{Scopes}
use Rattle.core_meaning.specs.Kept.{IsAtomOf, InRowBound, InSigBound, top_above}
use Rattle.core_laws.specs.Typed.{IsStanding}
use Rattle.core_laws.proofs.Climbs.{Climb, IsTree, Extending, item_of, get_within}
use Rattle.core_laws.proofs.Standing.{IsPlainKind, tops, stands_at, plain_rows}
use Rattle.core_laws.proofs.Ranges.{IsTopAtom}
use Rattle.core_renaming.specs.Sigs.{IsWellFormed}

both_ways : (R : ℕ → ℕ → Type 0) (a b c : ℕ) (ps qs : List ℕ) → Climb R a ps b → Climb R b qs c → Climb R a (ps ++ qs) c
both_ways R a b c [] qs e climb = subst (λ x. Climb R x qs c) (sym e) climb
both_ways R a b c (p ∷ ps) qs (step, up) climb = (step, both_ways R p b c ps qs up climb)

plain_of : (d : Sig) → IsStanding d → IsPlainKind d.kind
plain_of d (inl top) = inl top
plain_of d (inr (p, is, still)) = inr (p, is)

module _ (sigs : List Sig) where
  abbrev IsTopSig : ℕ → Type 0
  IsTopSig t = (d : Sig) × (slice_get sigs t ≡ Some d) × (d.kind ≡ Top)

  no_parent : (t p : ℕ) → IsTopSig t → Extending sigs t p → ⊥
  no_parent t p (d, get, top) (e, there, is) =
      let same : d ≡ e = cc in
      cc

  one_parent : (s p q : ℕ) → Extending sigs s p → Extending sigs s q → p ≡ q
  one_parent s p q (d, get, is) (e, there, are) =
      let same : d ≡ e = cc in
      cc

  -- one goes up to one top-level sig
  one_top_level : (s t u : ℕ) (ps qs : List ℕ) → Climb (Extending sigs) s ps t → IsTopSig t → Climb (Extending sigs) s qs u → IsTopSig u → t ≡ u
  one_top_level s t u [] [] one top_t two top_u = sym one ∙ two
  one_top_level s t u [] (q ∷ qs) one top_t two top_u = absurd (no_parent t q top_t (subst (λ x. Extending sigs x q) one two.0))
  one_top_level s t u (p ∷ ps) [] one top_t two top_u = absurd (no_parent u p top_u (subst (λ x. Extending sigs x p) two one.0))
  one_top_level s t u (p ∷ ps) (q ∷ qs) one top_t two top_u = one_top_level p t u ps qs one.1 top_t (subst (λ x. Climb (Extending sigs) x qs u) (sym (one_parent s p q one.0 two.0)) two.1) top_u

  -- as which sig one stands in types has the same top-level sig above it
  same_top : (tree : IsTree sigs) (s : ℕ) (d : Sig) → slice_get sigs s ≡ Some d → IsPlainKind d.kind → top_above sigs (length sigs) (standing sigs (length sigs) s) ≡ top_above sigs (length sigs) s
  same_top tree s d get plain =
      let t : ℕ = standing sigs (length sigs) s in
      let (ps, way, e, there, stands) = stands_at sigs tree s d get plain in
      let (qs, up, first, first_there, first_top) = tops sigs tree (length sigs) t t [] e (get_within sigs t e there) refl (omega arith) there (plain_of e stands) in
      let (zs, straight, last, last_there, last_top) = tops sigs tree (length sigs) s s [] d (get_within sigs s d get) refl (omega arith) get plain in
      one_top_level s (top_above sigs (length sigs) t) (top_above sigs (length sigs) s) (ps ++ qs) zs (both_ways (Extending sigs) s t (top_above sigs (length sigs) t) ps qs way up) (first, first_there, first_top) straight (last, last_there, last_top)

  rows_are : (n s : ℕ) (d : Sig) → slice_get sigs s ≡ Some d → IsPlainKind d.kind → s < n → sig_rows sigs n s ≡ (SigColumn (standing sigs (length sigs) s) ∷ []) ∷ []
  rows_are zero s d get plain lt = absurd (omega (arith, lt))
  rows_are (suc n) s d get plain lt = plain_rows sigs n s d get plain

one_row : (row r : TypeRow) → Contains (row ∷ []) r → row ≡ r
one_row row r (zero, lt, e) = e
one_row row r (suc k, lt, e) = absurd (omega (arith, lt))

pub bounded_atom : (model : Model) (scopes : Scopes) → IsWellFormed model scopes → (s p a : ℕ) (d : Sig) → slice_get model.sigs s ≡ Some d → d.kind ≡ Extends p → InSigBound model scopes s d a → IsAtomOf model scopes s a
bounded_atom model scopes right s p a d get is bound =
    let tree : IsTree model.sigs = record {
      above = right.kept.hierarchy;
      parents = λ k e there. (item_of model.sigs k e (IsRightSig model) right.kept.sigs there).parents;
      plain = right.plain;
    } in
    let plain : IsPlainKind d.kind = inr (p, is) in
    let (r, among, inside) = bound.typed in
    let rows = rows_are model.sigs (length model.sigs) s d get plain (get_within model.sigs s d get) in
    let row = one_row (SigColumn (standing model.sigs (length model.sigs) s) ∷ []) r (subst (λ rs. Contains rs r) rows among) in
    let there : InRowBound model scopes (SigColumn (standing model.sigs (length model.sigs) s) ∷ []) (a ∷ []) = subst (λ q. InRowBound model scopes q (a ∷ [])) (sym row) inside in
    subst (λ t. IsTopAtom scopes.numbers t a) (same_top model.sigs tree s d get plain) there.0
