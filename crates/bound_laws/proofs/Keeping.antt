-- The moves of owners' atoms to their own atoms keep the sigs.
use Rattle.std.proofs.Common.{◌≡◌, inl, inr, ℕ, ◌+◌, ◌<◌, true, List, [], ◌∷◌, length, Contains, Some, is_some, slice_get, refl, sym, ap, ◌∙◌, subst, arith}
use Rattle.std.proofs.lemmas.Bool.{false≢true}
use Rattle.core_tree.specs.declared.model.Model.{Model}
use Rattle.core_tree.specs.declared.model.Sig.{Sig}
use Rattle.core_tree.specs.declared.model.SigKind.TheVariants.{Extends}
use Rattle.core_tree.specs.declared.model.Column.TheVariants.{Sig as SigColumn}
use Rattle.core_meaning.specs.declared.scopes.SigScope.{SigScope}
use Rattle.core_meaning.specs.declared.scopes.Scopes.{Scopes}
use Rattle.core_meaning.specs.Sequence.{LassoValue}
use Rattle.core_meaning.specs.World.{InRelation}
use Rattle.core_meaning.specs.Kept.{world_of, first_atom, or_zero_number, IsLiteral}
use Rattle.core_renaming.specs.Sigs.{IsTopSigAtom, KeepsSigs, literal_atom}
use Rattle.core_laws.specs.Typed.{IsTypedLasso, HasColumn, ColumnsHaveAtoms, SigsOfOneAtom}
use Rattle.core_laws.proofs.Ranges.{IsTopAtom, one_top, among_atoms}
use Rattle.core_laws.proofs.Climbs.{Climb, Extending, get_within}
use Rattle.core_laws.proofs.Standing.{IsPlainKind, tops}
use Rattle.core_laws.proofs.Held.{IsGiven, top_there}
use Rattle.core_laws.proofs.Fields.{given_of}
use Rattle.bound_owners.specs.Own.{HasOrigins, top_of, owner_at, does_own}
use Rattle.bound_laws.proofs.Moving.{Move, moving, kept, stays}
use Rattle.bound_laws.proofs.Owning.{owner_is, owner_place, owner_one, owner_column, only_itself}
use Rattle.bound_laws.proofs.Places.{owner_low, origin_up}

-- an atom of a top-level sig, by what the scopes say of it
scoped_of_top : (scopes : Scopes) (t a : ℕ) (e : SigScope) → slice_get scopes.numbers t ≡ Some e → IsTopAtom scopes.numbers t a → IsTopSigAtom scopes.numbers t e a
scoped_of_top scopes t a e get (low, high) = (low, subst (λ (n : ℕ). a < first_atom scopes.numbers t + n) (ap or_zero_number get) high)

top_of_scoped : (scopes : Scopes) (t a : ℕ) (e : SigScope) → slice_get scopes.numbers t ≡ Some e → IsTopSigAtom scopes.numbers t e a → IsTopAtom scopes.numbers t a
top_of_scoped scopes t a e get (low, high) = (low, subst (λ (n : ℕ). a < first_atom scopes.numbers t + n) (sym (ap or_zero_number get)) high)

module _ (model : Model) (scopes : Scopes) (lasso : LassoValue) where
  -- the move of a sig that owns an atom: from the atom that it has to its own
  pub record IsMoveOf (s : ℕ) (m : Move) : Type 0 where
    pub has : InRelation (world_of scopes lasso) s 0 (m.atom ∷ [])
    pub alone : (b : ℕ) → InRelation (world_of scopes lasso) s 0 (b ∷ []) → m.atom ≡ b
    pub number : ℕ
    pub at : owner_at model.sigs scopes.numbers (top_of model.sigs s) number ≡ Some s
    pub place : m.place ≡ first_atom scopes.numbers (top_of model.sigs s) + number

  module _ (typed : IsTypedLasso model scopes lasso) where
    pub move_of : (s : ℕ) → does_own model.sigs scopes.numbers s ≡ true → (m : Move) × IsMoveOf s m
    move_of s owns =
        let (k, at) = owner_place model scopes s owns in
        let (a, held, alone) = owner_one model scopes lasso typed 0 (top_of model.sigs s) k s at in
        (record { atom = a; place = first_atom scopes.numbers (top_of model.sigs s) + k }, record { has = held; alone = alone; number = k; at = at; place = refl })

    column_of : (s : ℕ) (m : Move) → IsMoveOf s m → HasColumn model scopes lasso (SigColumn s) m.atom
    column_of s m is = owner_column model scopes lasso typed (top_of model.sigs s) is.number s m.atom is.at is.has

    -- the top-level sig above a sig that extends another, with the way up to it, and what the scopes say of it
    record IsBelow (s t : ℕ) : Type 0 where
      steps : List ℕ
      climb : Climb (Extending model.sigs) s steps t
      top : Sig
      there : slice_get model.sigs t ≡ Some top
      scope : SigScope
      scoped : slice_get scopes.numbers t ≡ Some scope
      marked : scope.top ≡ true

    below : (s p : ℕ) (d : Sig) → slice_get model.sigs s ≡ Some d → d.kind ≡ Extends p → IsBelow s (top_of model.sigs s)
    below s p d get kind =
        let given : IsGiven model scopes lasso = given_of model scopes lasso typed in
        let plain : IsPlainKind d.kind = inr (p, kind) in
        let (ps, climb, t, there, is) = tops model.sigs given.tree (length model.sigs) s s [] d (get_within model.sigs s d get) refl (omega arith) get plain in
        let (e, scoped, marked) = top_there model scopes lasso given (top_of model.sigs s) t there is in
        record { steps = ps; climb = climb; top = t; there = there; scope = e; scoped = scoped; marked = marked }

    move_below : (s : ℕ) (m : Move) → IsMoveOf s m → IsBelow s (top_of model.sigs s)
    move_below s m is =
        let (d, owner) = owner_is model scopes (top_of model.sigs s) is.number s is.at in
        let (p, kind) = owner.single.child in
        below s p d owner.there kind

    -- a place of a move is an atom of the top-level sig above the owner
    place_in : (s : ℕ) (m : Move) → IsMoveOf s m → IsTopAtom scopes.numbers (top_of model.sigs s) m.place
    place_in s m is =
        let low = owner_low model scopes (top_of model.sigs s) is.number s is.at in
        let place = is.place in
        (omega (arith, place), omega (arith, low, place))

    one_owner : (top k s q : ℕ) → owner_at model.sigs scopes.numbers top k ≡ Some s → owner_at model.sigs scopes.numbers top k ≡ Some q → s ≡ q
    one_owner top k s q one two = cc

    -- moves to one place are of one sig
    pub same_place : (s q : ℕ) (m o : Move) → IsMoveOf s m → IsMoveOf q o → m.place ≡ o.place → s ≡ q
    same_place s q m o one two e =
        let mine = move_below s m one in
        let theirs = move_below q o two in
        let tops_same : top_of model.sigs s ≡ top_of model.sigs q = one_top scopes.numbers (top_of model.sigs s) (top_of model.sigs q) o.place mine.scope theirs.scope mine.scoped mine.marked theirs.scoped theirs.marked (subst (IsTopAtom scopes.numbers (top_of model.sigs s)) e (place_in s m one)) (place_in q o two) in
        let firsts : first_atom scopes.numbers (top_of model.sigs s) ≡ first_atom scopes.numbers (top_of model.sigs q) = ap (first_atom scopes.numbers) tops_same in
        let first_place = one.place in
        let second_place = two.place in
        let number : one.number ≡ two.number = omega (arith, e, firsts, first_place, second_place) in
        one_owner (top_of model.sigs q) two.number s q (subst (λ (k : ℕ). owner_at model.sigs scopes.numbers (top_of model.sigs q) k ≡ Some s) number (subst (λ (t : ℕ). owner_at model.sigs scopes.numbers t one.number ≡ Some s) tops_same one.at)) two.at

    -- and so are those from one atom
    pub same_atom : SigsOfOneAtom → (s q : ℕ) (m o : Move) → IsMoveOf s m → IsMoveOf q o → m.atom ≡ o.atom → s ≡ q
    same_atom one_atom s q m o one two e =
        let (d, mine) = owner_is model scopes (top_of model.sigs s) one.number s one.at in
        let (c, theirs) = owner_is model scopes (top_of model.sigs q) two.number q two.at in
        elim (one_atom model scopes lasso typed o.atom s q (subst (HasColumn model scopes lasso (SigColumn s)) e (column_of s m one)) (column_of q o two)) [
          | inl under ↦ only_itself model.sigs (length model.sigs) s q theirs.alone under
          | inr under ↦ sym (only_itself model.sigs (length model.sigs) q s mine.alone under)
        ]

    module _ (atoms : ColumnsHaveAtoms) where
      atom_in : (s : ℕ) (m : Move) → IsMoveOf s m → IsTopAtom scopes.numbers (top_of model.sigs s) m.atom
      atom_in s m is = atoms model scopes lasso typed s m.atom (column_of s m is)

      -- where one atom of the top-level sig above an owner is a sig's, all are
      with_another : (s : ℕ) (m : Move) → IsMoveOf s m → (t : ℕ) (e : SigScope) → slice_get scopes.numbers t ≡ Some e → e.top ≡ true → (x y : ℕ) → IsTopAtom scopes.numbers (top_of model.sigs s) x → IsTopAtom scopes.numbers (top_of model.sigs s) y → IsTopSigAtom scopes.numbers t e x → IsTopSigAtom scopes.numbers t e y
      with_another s m is t e get top x y one two of_sig =
          let mine = move_below s m is in
          let same : top_of model.sigs s ≡ t = one_top scopes.numbers (top_of model.sigs s) t x mine.scope e mine.scoped mine.marked get top one (top_of_scoped scopes t x e get of_sig) in
          scoped_of_top scopes t y e get (subst (λ (u : ℕ). IsTopAtom scopes.numbers u y) same two)

      -- below a literal's top-level sig no sig owns an atom
      no_literal : HasOrigins model.sigs → (q : ℕ) (m : Move) → IsMoveOf q m → (s p : ℕ) (d : Sig) → slice_get model.sigs s ≡ Some d → IsLiteral model scopes d p → (x : ℕ) → IsTopAtom scopes.numbers (top_of model.sigs q) x → IsTopAtom scopes.numbers (top_of model.sigs s) x → ⊥
      no_literal origins q m is s p d get (none, kind) x one two =
          let (c, owner) = owner_is model scopes (top_of model.sigs q) is.number q is.at in
          let mine = move_below q m is in
          let theirs = below s p d get kind in
          let same : top_of model.sigs q ≡ top_of model.sigs s = one_top scopes.numbers (top_of model.sigs q) (top_of model.sigs s) x mine.scope theirs.scope mine.scoped mine.marked theirs.scoped theirs.marked one two in
          let both : Some mine.top ≡ Some theirs.top = sym mine.there ∙ (ap (slice_get model.sigs) same ∙ theirs.there) in
          let it : mine.top ≡ theirs.top = cc in
          let up = origin_up model.sigs origins q (top_of model.sigs q) mine.steps c mine.top mine.climb owner.there mine.there in
          let down = origin_up model.sigs origins s (top_of model.sigs s) theirs.steps d theirs.top theirs.climb get theirs.there in
          absurd (false≢true (sym (ap (λ o. is_some o) none) ∙ (down ∙ (ap (λ (y : Sig). is_some y.origin) (sym it) ∙ (sym up ∙ owner.single.origin)))))

      -- the renaming that makes such moves keeps the sigs
      pub keeps_sigs : HasOrigins model.sigs → (ms : List Move) → ((m : Move) → Contains ms m → (s : ℕ) × IsMoveOf s m) → KeepsSigs model scopes (moving ms)
      keeps_sigs origins ms are = record {
        sigs = λ t e get top a. kept (IsTopSigAtom scopes.numbers t e) ms (λ m among.
            let (s, is) = are m among in (
              with_another s m is t e get top m.atom m.place (atom_in s m is) (place_in s m is),
              with_another s m is t e get top m.place m.atom (place_in s m is) (atom_in s m is),
            )) a;
        integers = λ a high. stays ms a (λ m among.
            let (s, is) = are m among in
            let mine = move_below s m is in (
              (λ same. let low = among_atoms scopes.numbers (top_of model.sigs s) m.atom mine.scope mine.scoped mine.marked (atom_in s m is) in absurd (omega (arith, low, high, same))),
              (λ same. let low = among_atoms scopes.numbers (top_of model.sigs s) m.place mine.scope mine.scoped mine.marked (place_in s m is) in absurd (omega (arith, low, high, same))),
            ));
        literals = λ s d p get literal own. stays ms (literal_atom scopes s p) (λ m among.
            let (q, is) = are m among in (
              (λ same. no_literal origins q m is s p d get literal (literal_atom scopes s p) (subst (IsTopAtom scopes.numbers (top_of model.sigs q)) same (atom_in q m is)) own),
              (λ same. no_literal origins q m is s p d get literal (literal_atom scopes s p) (subst (IsTopAtom scopes.numbers (top_of model.sigs q)) same (place_in q m is)) own),
            ));
      }
