-- What the columns of types hold: of a sig the atoms that it has at some position.
use Rattle.std.proofs.Common.{◌≡◌, ◌⊎◌, inl, inr, ℕ, zero, suc, ◌<◌, ◌≤◌, Bool, true, false, if◌then◌else◌, List, [], ◌∷◌, length, Some, None, slice_get, refl, sym, ap, ◌∙◌, subst, arith}
use Rattle.std.proofs.lemmas.Bool.{cases_eq, false≢true}
use Rattle.core_tree.specs.declared.model.Model.{Model}
use Rattle.core_tree.specs.declared.model.Sig.{Sig}
use Rattle.core_tree.specs.declared.model.SigKind.{SigKind}
use Rattle.core_tree.specs.declared.model.SigKind.TheVariants.{Top, Extends}
use Rattle.core_tree.specs.declared.model.Column.{Column}
use Rattle.core_tree.specs.declared.model.Column.TheVariants.{Sig as SigColumn, Int as IntColumn}
use Rattle.core_tree.specs.Types.{TypeRow, meet, is_under, sig_rows}
use Rattle.core_meaning.specs.declared.scopes.SigScope.{SigScope}
use Rattle.core_meaning.specs.declared.scopes.Scopes.{Scopes}
use Rattle.core_meaning.specs.Sequence.{LassoValue}
use Rattle.core_meaning.specs.World.{InRelation}
use Rattle.core_meaning.specs.Declarations.{IsPlaced, SigDeclared}
use Rattle.core_meaning.specs.Called.{bodies_of}
use Rattle.core_meaning.specs.Kept.{FitsModel, Keeps, world_of, IsAtomOf, InColumnBound, InRowBound, InSigBound, atom_count, top_above}
use Rattle.core_meaning.specs.Satisfied.{DeclaresAt}
use Rattle.core_laws.specs.Typed.{AreScopesOf, HasSets, IsStanding}
use Rattle.core_laws.specs.Typed as typed
use Rattle.core_laws.proofs.Members.{Member, of_contains}
use Rattle.core_laws.proofs.Climbs.{Climb, IsTree, get_there, get_within, Extending, last_step, parent_within, climb_parents, few_steps}
use Rattle.core_laws.proofs.Standing.{IsPlainKind, top_of, top_itself, stands_itself, plain_rows, lies_under}
use Rattle.core_laws.proofs.Ranges.{IsTopAtom, one_top, among_atoms}

-- a lasso that keeps the scopes, where the declarations hold at each position
pub record IsGiven (model : Model) (scopes : Scopes) (lasso : LassoValue) : Type 0 where
  pub tree : IsTree model.sigs
  pub rightly : AreScopesOf model scopes
  pub fits : FitsModel model scopes lasso
  pub sets : HasSets lasso
  pub keeps : Keeps model scopes lasso
  pub declared : (i : ℕ) → DeclaresAt model scopes lasso i

module _ (model : Model) (scopes : Scopes) (lasso : LassoValue) where
  abbrev pub HasColumn : Column → ℕ → Type 0
  HasColumn = typed.HasColumn model scopes lasso

  abbrev pub HasRow : TypeRow → List ℕ → Type 0
  HasRow = typed.HasRow model scopes lasso

  abbrev pub InSigAt : ℕ → ℕ → ℕ → Type 0
  InSigAt i s a = InRelation (world_of scopes lasso) s i (a ∷ [])

  module _ (given : IsGiven model scopes lasso) where
    pub sig_declared : (i s : ℕ) (d : Sig) → slice_get model.sigs s ≡ Some d → SigDeclared model (world_of scopes lasso) (bodies_of (world_of scopes lasso) model.bodies) i s d
    sig_declared i s d get = (given.declared i).sigs s d get

    pub child_in : (i s p a : ℕ) → Extending model.sigs s p → InSigAt i s a → InSigAt i p a
    child_in i s p a (d, get, is) has =
        let placed : IsPlaced model (world_of scopes lasso) (bodies_of (world_of scopes lasso) model.bodies) i s (Extends p) = subst (λ (k : SigKind). IsPlaced model (world_of scopes lasso) (bodies_of (world_of scopes lasso) model.bodies) i s k) is (sig_declared i s d get).placed in
        placed (a ∷ []) has

    pub climb_in : (i s t a : ℕ) (ps : List ℕ) → Climb (Extending model.sigs) s ps t → InSigAt i s a → InSigAt i t a
    climb_in i s t a [] e has = subst (λ x. InSigAt i x a) e has
    climb_in i s t a (p ∷ ps) climb has = climb_in i p t a ps climb.1 (child_in i s p a climb.0 has)

    -- two sigs of one atom at one position lie one under the other, where they have one sig above them
    related : (i a c d t : ℕ) (ps qs : List ℕ) → Climb (Extending model.sigs) c ps t → Climb (Extending model.sigs) d qs t → InSigAt i c a → InSigAt i d a →
        ((zs : List ℕ) × Climb (Extending model.sigs) c zs d) ⊎ ((zs : List ℕ) × Climb (Extending model.sigs) d zs c)
    related i a c d t [] qs one two in_c in_d = inr (qs, subst (λ x. Climb (Extending model.sigs) d qs x) (sym one) two)
    related i a c d t (p ∷ ps) qs one two in_c in_d = elim (related i a p d t ps qs one.1 two (child_in i c p a one.0 in_c) in_d) [
      | inl (zs, way) ↦ inl (p ∷ zs, (one.0, way))
      | inr (zs, way) ↦ elim (last_step model.sigs d p zs way) [
        | inl same ↦ inl (p ∷ [], (one.0, sym same))
        | inr (e, ws, up, last) ↦ elim (cases_eq c e) [
          | inl same ↦ inr (ws, subst (λ x. Climb (Extending model.sigs) d ws x) (sym same) up)
          | inr other ↦ absurd (
              let there = get_there model.sigs p (parent_within model.sigs given.tree c p (climb_parents model.sigs c p (p ∷ []) (one.0, refl)).0) in
              (sig_declared i p there.0 there.1).disjoint c e one.0 last other (a ∷ []) in_c (climb_in i d e a ws up in_d))
        ]
      ]
    ]

    standing_plain : (d : Sig) → IsStanding d → IsPlainKind d.kind
    standing_plain d (inl top) = inl top
    standing_plain d (inr (p, is, still)) = inr (p, is)

    own_row : (n s : ℕ) (d : Sig) → slice_get model.sigs s ≡ Some d → IsStanding d → s < n → sig_rows model.sigs n s ≡ (SigColumn s ∷ []) ∷ []
    own_row zero s d get is lt = absurd (omega (arith, lt))
    own_row (suc n) s d get is lt = plain_rows model.sigs n s d get (standing_plain d is) ∙ ap (λ x. (SigColumn x ∷ []) ∷ []) (stands_itself model.sigs (length model.sigs) s d get is)

    -- an atom of a sig is one of the top-level sig above it
    pub atom_in : (s a : ℕ) → HasColumn (SigColumn s) a → IsAtomOf model scopes s a
    atom_in s a (d, get, is, (i, has)) =
        let bound : InSigBound model scopes s d a = given.keeps.bounded s d get i a has in
        let lt = get_within model.sigs s d get in
        let rows = own_row (length model.sigs) s d get is lt in
        let (r, among, row) = bound.typed in
        elim (subst (λ rs. Member r rs) rows (of_contains (sig_rows model.sigs (length model.sigs) s) r among)) [
          | inl same ↦ (subst (λ q. InRowBound model scopes q (a ∷ [])) (sym same) row).0
          | inr none ↦ elim none [ ]
        ]

    pub column_bound : (c : Column) (a : ℕ) → HasColumn c a → InColumnBound model scopes c a
    column_bound IntColumn a has = has
    column_bound (SigColumn s) a has = atom_in s a has

    pub row_bound : (r : TypeRow) (t : List ℕ) → HasRow r t → InRowBound model scopes r t
    row_bound [] [] has = tt
    row_bound (c ∷ r) (a ∷ t) has = (column_bound c a has.0, row_bound r t has.1)
    row_bound [] (a ∷ t) has = elim has [ ]
    row_bound (c ∷ r) [] has = elim has [ ]

    pub top_there : (t : ℕ) (d : Sig) → slice_get model.sigs t ≡ Some d → d.kind ≡ Top → (e : SigScope) × (slice_get scopes.numbers t ≡ Some e) × (e.top ≡ true)
    top_there t d get top =
        let lt = get_within model.sigs t d get in
        let count = given.rightly.count in
        let (e, there) = get_there scopes.numbers t (omega (arith, lt, count)) in
        (e, there, given.rightly.top t d e get there top)

    -- an atom of a sig is no integer
    pub no_integer : (s a : ℕ) → HasColumn (SigColumn s) a → atom_count scopes.numbers ≤ a → ⊥
    no_integer s a (d, get, is, (i, has)) high =
        let (ps, climb, t, there, top) = top_of model.sigs given.tree s d get is in
        let (e, number, marked) = top_there (top_above model.sigs (length model.sigs) s) t there top in
        let low = among_atoms scopes.numbers (top_above model.sigs (length model.sigs) s) a e number marked (atom_in s a (d, get, is, (i, has))) in
        omega (arith, low, high)

    -- at one position: the sigs lie one under the other
    under_at : (i a c d : ℕ) (cd dd : Sig) → slice_get model.sigs c ≡ Some cd → IsStanding cd → slice_get model.sigs d ≡ Some dd → IsStanding dd → InSigAt i c a → InSigAt i d a →
        (is_under model.sigs (length model.sigs) c d ≡ true) ⊎ (is_under model.sigs (length model.sigs) d c ≡ true)
    under_at i a c d cd dd get_c is_c get_d is_d in_c in_d =
        let (ps, climb_c, tc, there_c, top_c) = top_of model.sigs given.tree c cd get_c is_c in
        let (qs, climb_d, td, there_d, top_d) = top_of model.sigs given.tree d dd get_d is_d in
        let (ec, number_c, marked_c) = top_there (top_above model.sigs (length model.sigs) c) tc there_c top_c in
        let (ed, number_d, marked_d) = top_there (top_above model.sigs (length model.sigs) d) td there_d top_d in
        let same : top_above model.sigs (length model.sigs) d ≡ top_above model.sigs (length model.sigs) c = one_top scopes.numbers (top_above model.sigs (length model.sigs) d) (top_above model.sigs (length model.sigs) c) a ed ec number_d marked_d number_c marked_c (atom_in d a (dd, get_d, is_d, (i, in_d))) (atom_in c a (cd, get_c, is_c, (i, in_c))) in
        elim (related i a c d (top_above model.sigs (length model.sigs) c) ps qs climb_c (subst (λ x. Climb (Extending model.sigs) d qs x) same climb_d) in_c in_d) [
          | inl (zs, way) ↦ inl (lies_under model.sigs (length model.sigs) c d zs way (steps_few c d zs (get_within model.sigs c cd get_c) way))
          | inr (zs, way) ↦ inr (lies_under model.sigs (length model.sigs) d c zs way (steps_few d c zs (get_within model.sigs d dd get_d) way))
        ]
      where
        steps_few : (x y : ℕ) (zs : List ℕ) → x < length model.sigs → Climb (Extending model.sigs) x zs y → length zs ≤ length model.sigs
        steps_few x y zs lt way = let few = few_steps model.sigs given.tree x y zs lt (climb_parents model.sigs x y zs way) in omega (arith, few)

    -- what stays the same is in a sig at every position
    always_in : (i j s a : ℕ) (d : Sig) → slice_get model.sigs s ≡ Some d → d.is_var ≡ false → InSigAt i s a → InSigAt j s a
    always_in i j s a d get still has = given.keeps.sigs s d get still i j (a ∷ []) has

    -- the sigs of one atom, at any positions, lie one under the other
    pub under_ever : (a c d : ℕ) → HasColumn (SigColumn c) a → HasColumn (SigColumn d) a → (is_under model.sigs (length model.sigs) c d ≡ true) ⊎ (is_under model.sigs (length model.sigs) d c ≡ true)
    under_ever a c d (cd, get_c, is_c, (i, in_c)) (dd, get_d, is_d, (j, in_d)) = go cd.is_var dd.is_var refl refl
      where
        tops_same : cd.kind ≡ Top → dd.kind ≡ Top → c ≡ d
        tops_same top_c top_d =
            let up_c = top_itself model.sigs (length model.sigs) c cd get_c top_c in
            let up_d = top_itself model.sigs (length model.sigs) d dd get_d top_d in
            let (ec, number_c, marked_c) = top_there c cd get_c top_c in
            let (ed, number_d, marked_d) = top_there d dd get_d top_d in
            one_top scopes.numbers c d a ec ed number_c marked_c number_d marked_d
            (subst (λ x. IsTopAtom scopes.numbers x a) up_c (atom_in c a (cd, get_c, is_c, (i, in_c))))
            (subst (λ x. IsTopAtom scopes.numbers x a) up_d (atom_in d a (dd, get_d, is_d, (j, in_d))))

        moving_top : (e : Sig) → IsStanding e → e.is_var ≡ true → e.kind ≡ Top
        moving_top e (inl top) moves = top
        moving_top e (inr (p, is, still)) moves = absurd (false≢true (sym still ∙ moves))

        go : (x y : Bool) → cd.is_var ≡ x → dd.is_var ≡ y → (is_under model.sigs (length model.sigs) c d ≡ true) ⊎ (is_under model.sigs (length model.sigs) d c ≡ true)
        go false y ex ey = under_at j a c d cd dd get_c is_c get_d is_d (always_in i j c a cd get_c ex in_c) in_d
        go true false ex ey = under_at i a c d cd dd get_c is_c get_d is_d in_c (always_in j i d a dd get_d ey in_d)
        go true true ex ey = inl (lies_under model.sigs (length model.sigs) c d [] (tops_same (moving_top cd is_c ex) (moving_top dd is_d ey)) (omega arith))

    -- two columns of one atom meet in a column that has it
    pub meets : (c d : Column) (a : ℕ) → HasColumn c a → HasColumn d a → (x : Column) × (meet model.sigs c d ≡ Some x) × HasColumn x a
    meets IntColumn IntColumn a one two = (IntColumn, refl, one)
    meets IntColumn (SigColumn d) a one two = absurd (no_integer d a two one.0)
    meets (SigColumn c) IntColumn a one two = absurd (no_integer c a one two.0)
    meets (SigColumn c) (SigColumn d) a one two = by_sides c d a one two (is_under model.sigs (length model.sigs) c d) (is_under model.sigs (length model.sigs) d c) refl refl (under_ever a c d one two)
      where
        by_sides : (c d a : ℕ) → HasColumn (SigColumn c) a → HasColumn (SigColumn d) a → (u v : Bool) → is_under model.sigs (length model.sigs) c d ≡ u → is_under model.sigs (length model.sigs) d c ≡ v →
            (is_under model.sigs (length model.sigs) c d ≡ true) ⊎ (is_under model.sigs (length model.sigs) d c ≡ true) → (x : Column) × (meet model.sigs (SigColumn c) (SigColumn d) ≡ Some x) × HasColumn x a
        by_sides c d a one two true v eu ev either = (SigColumn c, ap (λ (t : Bool). if t then Some (SigColumn c) else if is_under model.sigs (length model.sigs) d c then Some (SigColumn d) else None) eu, one)
        by_sides c d a one two false true eu ev either = (SigColumn d, ap (λ (t : Bool). if t then Some (SigColumn c) else if is_under model.sigs (length model.sigs) d c then Some (SigColumn d) else None) eu ∙ ap (λ (t : Bool). if t then Some (SigColumn d) else None) ev, two)
        by_sides c d a one two false false eu ev (inl truly) = absurd (false≢true (sym eu ∙ truly))
        by_sides c d a one two false false eu ev (inr truly) = absurd (false≢true (sym ev ∙ truly))
