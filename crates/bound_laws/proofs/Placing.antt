-- The fields that a formula places have only tuples of their rows, where it holds at the first position.
-- A quantifier says only that it isn't so that there are no atoms: so what follows is said of whatever can't be refuted.
use Rattle.std.proofs.Common.{◌≡◌, inl, inr, ℕ, suc, ◌+◌, ◌<◌, ◌≤◌, List, [], ◌∷◌, length, Some, slice_get, sym, ◌∙◌, subst, arith}
use Rattle.std.proofs.lemmas.Bool.{cases_lt}
use Rattle.std.proofs.lemmas.List.{length-map}
use Rattle.std.proofs.lemmas.Option.{slice_get_within}
use Rattle.core_tree.specs.declared.model.Model.{Model}
use Rattle.core_tree.specs.declared.model.Field.{Field}
use Rattle.core_tree.specs.declared.operators.Quantity.{Quantity}
use Rattle.core_tree.specs.declared.operators.Quantity.TheVariants.{Some as SomeOf}
use Rattle.core_tree.specs.Trees.{Term, Variables, Claim, Claims, field, no_variables, more_variables, inside, equal, within, test, compare, negation, every, connect, choose_claim, for_all, counted, temporal, temporal_pair, let_claim, call_claim, no_claims, more_claims}
use Rattle.core_tree.specs.Types.{TypeRows, NameRows, with_rows, type_of}
use Rattle.core_meaning.specs.declared.scopes.SigScope.{SigScope}
use Rattle.core_meaning.specs.declared.scopes.Scopes.{Scopes}
use Rattle.core_meaning.specs.Sequence.{LassoValue}
use Rattle.core_meaning.specs.World.{InRelation}
use Rattle.core_meaning.specs.Meaning.{Names, with_name, atom, ForEach, HoldEach}
use Rattle.core_meaning.specs.Called.{bodies_of}
use Rattle.core_meaning.specs.Kept.{world_of}
use Rattle.core_meaning.specs.Satisfied.{HoldsAt, InTermAt}
use Rattle.core_laws.proofs.Held.{IsGiven}
use Rattle.core_laws.proofs.Members.{of_contains, to_contains}
use Rattle.core_laws.proofs.Rows.{InRows}
use Rattle.core_laws.proofs.Terms.{names_more, atom_rows}
use Rattle.bound_laws.specs.Placed.{IsKnownType, IsNext, NamesAfter, Places, PlaceAll}
use Rattle.bound_laws.proofs.Typing.{Have, Typed, below_typed}

module _ (model : Model) (scopes : Scopes) (lasso : LassoValue) (given : IsGiven model scopes lasso) where
  abbrev In : TypeRows → List ℕ → Type 0
  In rows t = InRows model scopes lasso rows t

  -- the tuples of the fields below a number have rows
  pub record AreKnown (n : ℕ) : Type 0 where
    pub few : n ≤ length model.fields
    pub typed : (g : ℕ) → g < n → Typed model scopes lasso given g

  -- the tuples of an expression have rows
  known_typed : (n : ℕ) (names : NameRows) (e : Term) (rows : TypeRows) (means : Names) → AreKnown n → IsKnownType model n names e rows → Have model scopes lasso given names means → (i : ℕ) (t : List ℕ) → InTermAt model scopes lasso e means i t → In rows t
  known_typed n names e rows means known is have i t has =
      let (r, among, row) = below_typed model scopes lasso given n known.few known.typed e names means is.below have i t has in
      (r, of_contains rows r (is.typed r (to_contains (type_of model e names) r among)), row)

  -- a static field that lies in a bound at the first position
  field_known : (n : ℕ) (names : NameRows) (means : Names) (place e : Term) → AreKnown n → Have model scopes lasso given names means → IsNext model n names place e →
      ((t : List ℕ) → InTermAt model scopes lasso place means 0 t → InTermAt model scopes lasso e means 0 t) → AreKnown (suc n)
  field_known n names means place e known have next lies = record {
    few = let low = slice_get_within model.fields n next.next next.there in omega (arith, low);
    typed = λ g low. elim (cases_lt g n) [
      | inl less ↦ known.typed g less
      | inr more ↦ let same : n ≡ g = omega (arith, low, more) in subst (λ h. Typed model scopes lasso given h) same typed_here
    ];
  }
    where
      top : length model.sigs ≡ length (world_of scopes lasso).top
      top = sym (length-map scopes.numbers (λ (s : SigScope). s.top) ∙ given.rightly.count)

      typed_here : Typed model scopes lasso given n
      typed_here f get i t has =
          let same : next.next ≡ f = some_same (slice_get model.fields n) next.next f next.there get in
          let first : InRelation (world_of scopes lasso) (length model.sigs + n) 0 t = given.keeps.fields n next.next next.there next.rows.static i 0 t has in
          let held : InTermAt model scopes lasso (field n) means 0 t = subst (λ k. InRelation (world_of scopes lasso) (k + n) 0 t) top first in
          let bound = lies t (subst (λ (p : Term). InTermAt model scopes lasso p means 0 t) (sym next.is) held) in
          subst (λ (o : Field). In o.rows t) same (known_typed n names e next.next.rows means known next.rows.typed have 0 t bound)
        where
          some_same : {X : Type 0} (o : _) (x y : X) → o ≡ Some x → o ≡ Some y → x ≡ y
          some_same o x y one two = cc

  -- the names under variables, for atoms of their bounds
  under : (vs : Variables) (Off : Names → Type 0) (n : ℕ) (names inner : NameRows) (means : Names) (earlier : List ℕ) → AreKnown n → NamesAfter model n vs names inner → Have model scopes lasso given names means →
      ((others : Names) → Have model scopes lasso given inner others → Off others) → ForEach (world_of scopes lasso) (bodies_of (world_of scopes lasso) model.bodies) vs Off means 0 earlier
  under no_variables Off n names inner means earlier known after have off = off means (subst (λ (m : NameRows). Have model scopes lasso given m means) after have)
  under (more_variables x apart e rest) Off n names inner means earlier known (rows, is, after) have off = λ a among different.
      let first = known_typed n names e rows means known is have 0 (a ∷ []) among in
      under rest Off n (with_rows names x rows) inner (with_name means x (atom a)) (a ∷ earlier) known after
      (names_more model scopes lasso given names means x rows (atom a) have (atom_rows model scopes lasso given rows a first)) off

  mutual
    pub places : (f : Claim) (names : NameRows) (means : Names) (from to : ℕ) → Places model f names from to → AreKnown from → Have model scopes lasso given names means →
        HoldsAt model scopes lasso f means 0 → (AreKnown to → ⊥) → ⊥
    places (inside a b) names means from to is known have holds off = off (subst AreKnown (sym is) known)
    places (equal a b) names means from to is known have holds off = off (subst AreKnown (sym is) known)
    places (within a m e) names means from to (inl is) known have holds off = off (subst AreKnown (sym is) known)
    places (within a m e) names means from to (inr (next, is)) known have holds off = off (subst AreKnown (sym is) (field_known from names means a e known have next holds.0))
    places (test q a) names means from to is known have holds off = off (subst AreKnown (sym is) known)
    places (compare op a b) names means from to is known have holds off = off (subst AreKnown (sym is) known)
    places (negation f) names means from to is known have holds off = off (subst AreKnown (sym is) known)
    places (every fs) names means from to is known have holds off = place_all fs names means from to is known have holds off
    places (connect op f g) names means from to is known have holds off = off (subst AreKnown (sym is) known)
    places (choose_claim f g h) names means from to is known have holds off = off (subst AreKnown (sym is) known)
    places (for_all vs f) names means from to is known have holds off = off (subst AreKnown (sym is) known)
    places (counted q vs f) names means from to (inl is) known have holds off = off (subst AreKnown (sym is) known)
    places (counted q vs f) names means from to (inr (some, inner, after, is)) known have holds off =
        let Fails : Type 0 = ForEach (world_of scopes lasso) (bodies_of (world_of scopes lasso) model.bodies) vs (λ others. ¬ HoldsAt model scopes lasso f others 0) means 0 [] in
        let not_none : Fails → ⊥ = quantified q some holds in
        not_none (under vs (λ others. ¬ HoldsAt model scopes lasso f others 0) from names inner means [] known after have (λ others has here. places f inner others from to is known has here off))
      where
        quantified : (q : Quantity) → q ≡ SomeOf → HoldsAt model scopes lasso (counted q vs f) means 0 → ¬ ForEach (world_of scopes lasso) (bodies_of (world_of scopes lasso) model.bodies) vs (λ others. ¬ HoldsAt model scopes lasso f others 0) means 0 []
        quantified q e h = subst (λ (p : Quantity). HoldsAt model scopes lasso (counted p vs f) means 0) e h
    places (temporal op f) names means from to is known have holds off = off (subst AreKnown (sym is) known)
    places (temporal_pair op f g) names means from to is known have holds off = off (subst AreKnown (sym is) known)
    places (let_claim x e f) names means from to (inl is) known have holds off = off (subst AreKnown (sym is) known)
    places (let_claim x e f) names means from to (inr (rows, has, is)) known have holds off =
        places f (with_rows names x rows) (with_name means x (λ j. InTermAt model scopes lasso e means j)) from to is known
        (names_more model scopes lasso given names means x rows (λ j. InTermAt model scopes lasso e means j) have (λ j t h. known_typed from names e rows means known has have j t h)) holds off
    places (call_claim body es) names means from to is known have holds off = off (subst AreKnown (sym is) known)

    place_all : (fs : Claims) (names : NameRows) (means : Names) (from to : ℕ) → PlaceAll model fs names from to → AreKnown from → Have model scopes lasso given names means →
        HoldEach (world_of scopes lasso) (bodies_of (world_of scopes lasso) model.bodies) fs means 0 → (AreKnown to → ⊥) → ⊥
    place_all no_claims names means from to is known have holds off = off (subst AreKnown (sym is) known)
    place_all (more_claims f rest) names means from to (between, is, others) known have holds off =
        places f names means from between is known have holds.0 (λ more. place_all rest names means between to others more have holds.1 off)
