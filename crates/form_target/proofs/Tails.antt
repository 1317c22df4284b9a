-- What each function adds, by the formula that it pushes.
use Rattle.std.proofs.Common.{◌≡◌, ◌≢◌, ◌↔◌, ◌∙◌, ℕ, zero, suc, ◌+◌, ◌<◌, ◌≤◌, Bool, true, false, List, [], ◌∷◌, ◌++◌, take, drop, length, get_or, All, Contains, Option, Some, None, IfSome, IsTrue, slice_get, refl, sym, ap, subst, arith}
use Rattle.std.proofs.lemmas.Option.{none-some, same_Some}
use Rattle.std.proofs.lemmas.List.Elements.{All-head, All-take, All-drop}
use Rattle.std.proofs.lemmas.List.{take-append-drop}
use Rattle.core_tree.specs.declared.model.Model.{Model}
use Rattle.core_tree.specs.declared.model.Sig.{Sig}
use Rattle.core_tree.specs.declared.model.SigKind.{SigKind}
use Rattle.core_tree.specs.declared.model.SigKind.TheVariants.{Top, Extends, Subset}
use Rattle.core_tree.specs.declared.model.Column.{Column}
use Rattle.core_tree.specs.declared.model.Column.TheVariants.{Sig as SigColumn, Int as IntColumn}
use Rattle.core_tree.specs.declared.model.Field.{Field}
use Rattle.core_tree.specs.declared.model.FieldBound.{FieldBound}
use Rattle.core_tree.specs.declared.operators.Multiplicity.{Multiplicity}
use Rattle.core_tree.specs.declared.operators.Multiplicity.TheVariants.{Set, One, Lone, Some as AtLeastOne}
use Rattle.core_tree.specs.declared.operators.Quantity.{Quantity}
use Rattle.core_tree.specs.declared.operators.Quantity.TheVariants.{Some as SomeOf, No, One as OneOf, Lone as LoneOf}
use Rattle.core_tree.specs.declared.operators.RelationOp.TheVariants.{Union, Intersection, Join, LeftRestrict}
use Rattle.core_tree.specs.declared.tree.Formula.{Formula}
use Rattle.core_tree.specs.Trees.{Term, Claim, empty, sig, field, name, combine, inside, within, test, for_all, no_variables, more_variables, term_of, claim_of}
use Rattle.core_tree.specs.Columns.{no_columns}
use Rattle.core_tree.specs.Models.{parents_of, IsParent, this_column, IsRightFormula, IsModel}
use Rattle.core_meaning.specs.World.{World}
use Rattle.core_meaning.specs.Operators.{IsInside, IsListOf, HasQuantity, HasMultiplicity}
use Rattle.core_meaning.specs.Meaning.{Holds, no_names}
use Rattle.core_meaning.specs.Called.{bodies_of}
use Rattle.core_meaning.specs.Declarations.{this_is, IsChild, IsPlaced, Declares}
use Rattle.form_target.specs.Children.{IsChildColumn}
use Rattle.form_target.specs.Unions.{column_term, IsUnion, of_none, of_one, of_both}
use Rattle.form_target.specs.Asked.{list_in, ShareList, Pairwise, EachOf, EachBelow, IsSigTuple, IsInOne, AreApart, IsCovered, HasFact, IsSigDeclared, IsOwned, IsBounded, HasApartValues, IsFieldDeclared, IsAlone, HaveNoShared, IsApartFrom, IsFieldAsked}
use Rattle.form_target.specs.Added.{IsWorldOf, HoldsIn, IsClosed, Adds, IsDeclaredField}
use Rattle.form_target.proofs.Lists.{all_of, Across, pairwise_parts, pairwise_whole, few_pairwise}
use Rattle.form_target.proofs.Adding.{adds_none, adds_claim, adds_both, adds_as, adds_to_none}
use Rattle.form_target.proofs.SigParts.{still, inside_union, no_shared, for_each_is, covered_is, no_children_covered, sig_declared}
use Rattle.form_target.proofs.FieldParts.{owned_is, bounded_is, apart_values_is, no_shared_is, all_declared}
use Rattle.form_target.proofs.Closed.{sig_there, inside_closed, shared_closed, right_sig, for_each_closed, fields_closed, owned_closed, bounded_closed, apart_values_closed}

module _ (model : Model) (old new : List Formula) where
  -- one formula is pushed
  added : (f : Formula) (c : Claim) (P : World → ℕ → Type 0) → new ≡ old ++ f ∷ [] → claim_of f ≡ c → ((w : World) (i : ℕ) → IsWorldOf model w → Holds w (bodies_of w model.bodies) c no_names i ↔ P w i) → (IsModel model → IsRightFormula model c no_columns) → Adds model old new P
  added f c P items is means right = subst (λ l. Adds model old l P) (sym items) (adds_claim model old f c P is means right)

  abbrev Placed : ℕ → SigKind → Type 0
  Placed s kind = Adds model old new (λ w i. IsPlaced model w (bodies_of w model.bodies) i s kind)

  module _ (s : ℕ) (d : Sig) (at : slice_get model.sigs s ≡ Some d) where
    parents_there : IsModel model → All (IsParent (length model.sigs)) (parents_of d.kind)
    parents_there good = (right_sig model good s d at).parents

    parent_there : (p : ℕ) → d.kind ≡ Extends p → IsModel model → p < length model.sigs
    parent_there p kind good = All-head (IsParent (length model.sigs)) (SigColumn p) [] (subst (λ k. All (IsParent (length model.sigs)) (parents_of k)) kind (parents_there good))

    pub placed_child : (p : ℕ) (f : Formula) → d.kind ≡ Extends p → new ≡ old ++ f ∷ [] → claim_of f ≡ inside (sig s) (sig p) → Placed s d.kind
    placed_child p f kind items is = subst (Placed s) (sym kind) (added f (inside (sig s) (sig p)) (λ w i. IsPlaced model w (bodies_of w model.bodies) i s (Extends p)) items is (λ w i there. still) (λ good. (sig_there model s d at, parent_there p kind good, refl)))

    pub placed_subset : (ps : List Column) (f : Formula) (e : Term) → d.kind ≡ Subset ps → new ≡ old ++ f ∷ [] → claim_of f ≡ inside (sig s) e → IsUnion ps e → Placed s d.kind
    placed_subset ps f e kind items is union = subst (Placed s) (sym kind) (added f (inside (sig s) e) (λ w i. IsPlaced model w (bodies_of w model.bodies) i s (Subset ps)) items is (λ w i there. inside_union model w i s ps e union) (λ good. inside_closed model s ps e (sig_there model s d at) union (subst (λ k. All (IsParent (length model.sigs)) (parents_of k)) kind (parents_there good))))

    pub counted_one : (f : Formula) → d.multiplicity ≡ One → new ≡ old ++ f ∷ [] → claim_of f ≡ test OneOf (sig s) → Adds model old new (λ w i. HasMultiplicity d.multiplicity (IsSigTuple model w i s))
    counted_one f word items is = subst (λ m. Adds model old new (λ w i. HasMultiplicity m (IsSigTuple model w i s))) (sym word) (added f (test OneOf (sig s)) (λ w i. HasMultiplicity One (IsSigTuple model w i s)) items is (λ w i there. still) (λ good. sig_there model s d at))

    pub counted_lone : (f : Formula) → d.multiplicity ≡ Lone → new ≡ old ++ f ∷ [] → claim_of f ≡ test LoneOf (sig s) → Adds model old new (λ w i. HasMultiplicity d.multiplicity (IsSigTuple model w i s))
    counted_lone f word items is = subst (λ m. Adds model old new (λ w i. HasMultiplicity m (IsSigTuple model w i s))) (sym word) (added f (test LoneOf (sig s)) (λ w i. HasMultiplicity Lone (IsSigTuple model w i s)) items is (λ w i there. still) (λ good. sig_there model s d at))

    pub counted_some : (f : Formula) → d.multiplicity ≡ AtLeastOne → new ≡ old ++ f ∷ [] → claim_of f ≡ test SomeOf (sig s) → Adds model old new (λ w i. HasMultiplicity d.multiplicity (IsSigTuple model w i s))
    counted_some f word items is = subst (λ m. Adds model old new (λ w i. HasMultiplicity m (IsSigTuple model w i s))) (sym word) (added f (test SomeOf (sig s)) (λ w i. HasMultiplicity AtLeastOne (IsSigTuple model w i s)) items is (λ w i there. still) (λ good. sig_there model s d at))

    pub appended_fact : (fact f : Formula) (copied : Claim) → d.appended ≡ Some fact → new ≡ old ++ f ∷ [] → claim_of f ≡ for_all (more_variables 0 0 (sig s) no_variables) copied → copied ≡ claim_of fact → Adds model old new (λ w i. HasFact model w i s d)
    appended_fact fact f copied there items is same = added f (for_all (more_variables 0 0 (sig s) no_variables) copied) (λ w i. HasFact model w i s d) items is
        (λ w i world. subst (λ o. Holds w (bodies_of w model.bodies) (for_all (more_variables 0 0 (sig s) no_variables) copied) no_names i ↔ IfSome o (λ g. (a : ℕ) → IsSigTuple model w i s (a ∷ []) → Holds w (bodies_of w model.bodies) (claim_of g) (this_is a) i)) (sym there)
        (subst (λ k. Holds w (bodies_of w model.bodies) (for_all (more_variables 0 0 (sig s) no_variables) copied) no_names i ↔ ((a : ℕ) → IsSigTuple model w i s (a ∷ []) → Holds w (bodies_of w model.bodies) k (this_is a) i)) same (for_each_is model w i s copied)))
        (λ good. for_each_closed model s copied (sig_there model s d at) (subst (λ k. IsRightFormula model k this_column) (sym same) (subst (λ o. IfSome o (λ g. IsRightFormula model (claim_of g) this_column)) there (right_sig model good s d at).appended)))

    module _ (cs : List Column) (all : IsListOf (IsChildColumn model.sigs s) cs) where
      child_parent : (c : Column) → IsChildColumn model.sigs s c → IsParent (length model.sigs) c
      child_parent (SigColumn c) (e, ate, kind) = sig_there model c e ate
      child_parent IntColumn child = tt

      pub children_there : All (IsParent (length model.sigs)) cs
      children_there = all_of (IsParent (length model.sigs)) cs (λ c there. child_parent c ((all.all_and_only c).0 there))

      pub covered_union : (c : Column) (f : Formula) (e : Term) → IsTrue d.is_abstract → Contains cs c → new ≡ old ++ f ∷ [] → claim_of f ≡ inside (sig s) e → IsUnion cs e → Adds model old new (λ w i. IsCovered model w i s d)
      covered_union c f e stands there items is union = adds_as model old new (λ w i. IsInside (IsSigTuple model w i s) (IsInOne model w i cs)) (λ w i. IsCovered model w i s d) (λ w i. covered_is model w i s d cs all stands c there)
          (added f (inside (sig s) e) (λ w i. IsInside (IsSigTuple model w i s) (IsInOne model w i cs)) items is (λ w i world. inside_union model w i s cs e union) (λ good. inside_closed model s cs e (sig_there model s d at) union children_there))

  -- halves that share nothing, and each two of either
  pub apart_halves : (mid more : List Formula) (cs left right : List Column) (n : ℕ) (f : Formula) (a b : Term) → left ≡ take n cs → right ≡ drop n cs → mid ≡ old ++ f ∷ [] → claim_of f ≡ test No (combine Intersection a b) → IsUnion left a → IsUnion right b → All (IsParent (length model.sigs)) cs →
      Adds model mid more (λ w i. Pairwise (AreApart model w i) left) → Adds model more new (λ w i. Pairwise (AreApart model w i) right) → Adds model old new (λ w i. Pairwise (AreApart model w i) cs)
  apart_halves mid more cs left right n f a b isl isr items is ua ub all u v =
      let whole : left ++ right ≡ cs = ap (λ k. k ++ right) isl ∙ ap (λ k. take n cs ++ k) isr ∙ take-append-drop n cs in
      let low = subst (All (IsParent (length model.sigs))) (sym isl) (All-take (IsParent (length model.sigs)) n cs all) in
      let high = subst (All (IsParent (length model.sigs))) (sym isr) (All-drop (IsParent (length model.sigs)) n cs all) in
      let first : Adds model old mid (λ w i. Across (AreApart model w i) left right) = subst (λ l. Adds model old l (λ w i. Across (AreApart model w i) left right)) (sym items) (adds_claim model old f (test No (combine Intersection a b)) (λ w i. Across (AreApart model w i) left right) is (λ w i there. no_shared model w i left right a b ua ub) (λ good. shared_closed model left right a b ua ub low high)) in
      subst (λ k. Adds model old new (λ w i. Pairwise (AreApart model w i) k)) whole
      (adds_as model old new (λ w i. Across (AreApart model w i) left right × (Pairwise (AreApart model w i) left × Pairwise (AreApart model w i) right)) (λ w i. Pairwise (AreApart model w i) (left ++ right))
      (λ w i. (
        (λ h. pairwise_whole (AreApart model w i) left right h.0 h.1.0 h.1.1),
        (λ h. let parts = pairwise_parts (AreApart model w i) left right h in (parts.0, (parts.1, parts.2))),
      ))
      (adds_both model old mid new (λ w i. Across (AreApart model w i) left right) (λ w i. Pairwise (AreApart model w i) left × Pairwise (AreApart model w i) right) first
      (adds_both model mid more new (λ w i. Pairwise (AreApart model w i) left) (λ w i. Pairwise (AreApart model w i) right) u v)))

  -- the parts of a sig's declaration, one after another
  pub sig_parts : (a b c e : List Formula) (s : ℕ) (d : Sig) (cs : List Column) → IsListOf (IsChildColumn model.sigs s) cs →
      Adds model old a (λ w i. IsPlaced model w (bodies_of w model.bodies) i s d.kind) → Adds model a b (λ w i. IsCovered model w i s d) → Adds model b c (λ w i. Pairwise (AreApart model w i) cs) → Adds model c e (λ w i. HasMultiplicity d.multiplicity (IsSigTuple model w i s)) → Adds model e new (λ w i. HasFact model w i s d) →
      Adds model old new (λ w i. IsSigDeclared model w i s d)
  sig_parts a b c e s d cs all one two three four five =
      let last = adds_both model c e new (λ w i. HasMultiplicity d.multiplicity (IsSigTuple model w i s)) (λ w i. HasFact model w i s d) four five in
      let later = adds_both model b c new (λ w i. Pairwise (AreApart model w i) cs) (λ w i. HasMultiplicity d.multiplicity (IsSigTuple model w i s) × HasFact model w i s d) three last in
      let more = adds_both model a b new (λ w i. IsCovered model w i s d) (λ w i. Pairwise (AreApart model w i) cs × (HasMultiplicity d.multiplicity (IsSigTuple model w i s) × HasFact model w i s d)) two later in
      adds_as model old new (λ w i. IsPlaced model w (bodies_of w model.bodies) i s d.kind × (IsCovered model w i s d × (Pairwise (AreApart model w i) cs × (HasMultiplicity d.multiplicity (IsSigTuple model w i s) × HasFact model w i s d)))) (λ w i. IsSigDeclared model w i s d) (λ w i. sig_declared model w i s d cs all)
      (adds_both model old a new (λ w i. IsPlaced model w (bodies_of w model.bodies) i s d.kind) (λ w i. IsCovered model w i s d × (Pairwise (AreApart model w i) cs × (HasMultiplicity d.multiplicity (IsSigTuple model w i s) × HasFact model w i s d))) one more)

  module _ (k s : ℕ) (d : FieldBound) (this : IsDeclaredField model k s d) where
    abbrev value_term : ℕ → Term
    value_term x = combine Join (name x) (field k)

    pub owned_added : (f : Formula) (e : Term) → new ≡ old ++ f ∷ [] → claim_of f ≡ inside (field k) e → e ≡ combine LeftRestrict (sig s) (field k) → Adds model old new (λ w i. IsOwned model w i k s)
    owned_added f e items is same = added f (inside (field k) (combine LeftRestrict (sig s) (field k))) (λ w i. IsOwned model w i k s) items (is ∙ ap (inside (field k)) same) (λ w i there. owned_is model w i there k s) (λ good. owned_closed model k s d this good)

    pub bounded_added : (f : Formula) (v b : Term) → new ≡ old ++ f ∷ [] → claim_of f ≡ for_all (more_variables 0 0 (sig s) no_variables) (within v d.bound.multiplicity b) → v ≡ value_term 0 → b ≡ term_of d.bound.expr → Adds model old new (λ w i. IsBounded model w i k s d.bound)
    bounded_added f v b items is first second = added f (for_all (more_variables 0 0 (sig s) no_variables) (within (value_term 0) d.bound.multiplicity (term_of d.bound.expr))) (λ w i. IsBounded model w i k s d.bound) items
        (is ∙ ap (λ x. for_all (more_variables 0 0 (sig s) no_variables) (within x d.bound.multiplicity b)) first ∙ ap (λ x. for_all (more_variables 0 0 (sig s) no_variables) (within (value_term 0) d.bound.multiplicity x)) second)
        (λ w i there. bounded_is model w i there k s d.bound) (λ good. bounded_closed model k s d this good)

    pub values_added : (f g : Formula) (x y : Term) → new ≡ old ++ f ∷ [] → IsTrue d.disj_values → claim_of f ≡ for_all (more_variables 0 0 (sig s) (more_variables 1 1 (sig s) no_variables)) (claim_of g) → claim_of g ≡ test No (combine Intersection x y) → x ≡ value_term 0 → y ≡ value_term 1 → Adds model old new (λ w i. IsTrue d.disj_values → HasApartValues model w i k s)
    values_added f g x y items stands is inner first second = adds_as model old new (λ w i. HasApartValues model w i k s) (λ w i. IsTrue d.disj_values → HasApartValues model w i k s) (λ w i. ((λ h x. h), (λ h. h stands)))
        (added f (for_all (more_variables 0 0 (sig s) (more_variables 1 1 (sig s) no_variables)) (test No (combine Intersection (value_term 0) (value_term 1)))) (λ w i. HasApartValues model w i k s) items
        (is ∙ ap (for_all (more_variables 0 0 (sig s) (more_variables 1 1 (sig s) no_variables))) (inner ∙ ap (λ z. test No (combine Intersection z y)) first ∙ ap (λ z. test No (combine Intersection (value_term 0) z)) second))
        (λ w i there. apart_values_is model w i there k s) (λ good. apart_values_closed model k s d this good))

    pub field_parts : (a b : List Formula) → Adds model old a (λ w i. IsOwned model w i k s) → Adds model a b (λ w i. IsBounded model w i k s d.bound) → Adds model b new (λ w i. IsTrue d.disj_values → HasApartValues model w i k s) → Adds model old new (λ w i. IsFieldDeclared model w i k s d)
    field_parts a b one two three = adds_as model old new (λ w i. IsOwned model w i k s × (IsBounded model w i k s d.bound × (IsTrue d.disj_values → HasApartValues model w i k s))) (λ w i. IsFieldDeclared model w i k s d) (λ w i. ((λ h. (h.0, h.1.0, h.1.1)), (λ h. (h.0, (h.1, h.2)))))
        (adds_both model old a new (λ w i. IsOwned model w i k s) (λ w i. IsBounded model w i k s d.bound × (IsTrue d.disj_values → HasApartValues model w i k s)) one
        (adds_both model a b new (λ w i. IsBounded model w i k s d.bound) (λ w i. IsTrue d.disj_values → HasApartValues model w i k s) two three))

  -- a field with an owner, and one without
  pub alone_declared : (k s : ℕ) (f : Field) (d : FieldBound) → f.owner ≡ Some s → f.declared ≡ Some d → Adds model old new (λ w i. IsFieldDeclared model w i k s d) → Adds model old new (λ w i. IsAlone model w i k f)
  alone_declared k s f d owner said u = adds_as model old new (λ w i. IsFieldDeclared model w i k s d) (λ w i. IsAlone model w i k f) (λ w i. (
    (λ h s2 d2 owner2 said2.
        let same_s : s ≡ s2 = same_Some s s2 (sym owner ∙ owner2) in
        let same_d : d ≡ d2 = same_Some d d2 (sym said ∙ said2) in
        subst (λ x. IsFieldDeclared model w i k x d2) same_s (subst (IsFieldDeclared model w i k s) same_d h)),
    (λ h. h s d owner said),
  )) u

  pub apart_pushed : (k m : ℕ) (f g : Field) (pushed : Formula) → slice_get model.fields k ≡ Some f → slice_get model.fields m ≡ Some g → k < m → ShareList f g → f.columns ≡ g.columns → new ≡ old ++ pushed ∷ [] → claim_of pushed ≡ test No (combine Intersection (field k) (field m)) → Adds model old new (λ w i. IsApartFrom model w i k f m g)
  apart_pushed k m f g pushed atk atm less share columns items is = adds_as model old new (λ w i. HaveNoShared model w i k m) (λ w i. IsApartFrom model w i k f m g) (λ w i. ((λ h lt there. h), (λ h. h less share)))
      (added pushed (test No (combine Intersection (field k) (field m))) (λ w i. HaveNoShared model w i k m) items is (λ w i there. no_shared_is model w i there k m) (λ good. fields_closed model good k m f g atk atm columns))

  pub field_both : (mid : List Formula) (k : ℕ) (f : Field) → Adds model old mid (λ w i. IsAlone model w i k f) → Adds model mid new (λ w i. EachOf model.fields (IsApartFrom model w i k f)) → Adds model old new (λ w i. IsFieldAsked model w i k f)
  field_both mid k f u v = adds_both model old mid new (λ w i. IsAlone model w i k f) (λ w i. EachOf model.fields (IsApartFrom model w i k f)) u v

module _ (model : Model) (fs : List Formula) where
  pub placed_top : (s : ℕ) (d : Sig) → d.kind ≡ Top → Adds model fs fs (λ w i. IsPlaced model w (bodies_of w model.bodies) i s d.kind)
  placed_top s d kind = subst (λ k. Adds model fs fs (λ w i. IsPlaced model w (bodies_of w model.bodies) i s k)) (sym kind) (adds_none model fs (λ w i. IsPlaced model w (bodies_of w model.bodies) i s Top) (λ w i. tt))

  pub counted_set : (s : ℕ) (d : Sig) → d.multiplicity ≡ Set → Adds model fs fs (λ w i. HasMultiplicity d.multiplicity (IsSigTuple model w i s))
  counted_set s d word = subst (λ m. Adds model fs fs (λ w i. HasMultiplicity m (IsSigTuple model w i s))) (sym word) (adds_none model fs (λ w i. HasMultiplicity Set (IsSigTuple model w i s)) (λ w i. tt))

  pub no_fact : (s : ℕ) (d : Sig) → d.appended ≡ None → Adds model fs fs (λ w i. HasFact model w i s d)
  no_fact s d none = adds_none model fs (λ w i. HasFact model w i s d) (λ w i. subst (λ o. IfSome o (λ g. (a : ℕ) → IsSigTuple model w i s (a ∷ []) → Holds w (bodies_of w model.bodies) (claim_of g) (this_is a) i)) (sym none) tt)

  pub not_covered : (s : ℕ) (d : Sig) → (IsTrue d.is_abstract → ⊥) → Adds model fs fs (λ w i. IsCovered model w i s d)
  not_covered s d plain = adds_none model fs (λ w i. IsCovered model w i s d) (λ w i stands. absurd (plain stands))

  pub childless : (s : ℕ) (d : Sig) (cs : List Column) → IsListOf (IsChildColumn model.sigs s) cs → length cs ≡ 0 → Adds model fs fs (λ w i. IsCovered model w i s d)
  childless s d cs all none = adds_none model fs (λ w i. IsCovered model w i s d) (λ w i. no_children_covered model w i s d cs all none)

  pub no_values : (k s : ℕ) (d : FieldBound) → (IsTrue d.disj_values → ⊥) → Adds model fs fs (λ w i. IsTrue d.disj_values → HasApartValues model w i k s)
  no_values k s d plain = adds_none model fs (λ w i. IsTrue d.disj_values → HasApartValues model w i k s) (λ w i stands. absurd (plain stands))

  pub no_owner : (k : ℕ) (f : Field) → f.owner ≡ None → Adds model fs fs (λ w i. IsAlone model w i k f)
  no_owner k f none = adds_none model fs (λ w i. IsAlone model w i k f) (λ w i s d owner said. absurd (none-some s (sym none ∙ owner)))

  pub not_declared : (k : ℕ) (f : Field) → f.declared ≡ None → Adds model fs fs (λ w i. IsAlone model w i k f)
  not_declared k f none = adds_none model fs (λ w i. IsAlone model w i k f) (λ w i s d owner said. absurd (none-some d (sym none ∙ said)))

  pub not_later : (k m : ℕ) (f g : Field) → (k < m → ⊥) → Adds model fs fs (λ w i. IsApartFrom model w i k f m g)
  not_later k m f g never = adds_none model fs (λ w i. IsApartFrom model w i k f m g) (λ w i less. absurd (never less))

  pub not_shared : (k m : ℕ) (f g : Field) → (ShareList f g → ⊥) → Adds model fs fs (λ w i. IsApartFrom model w i k f m g)
  not_shared k m f g never = adds_none model fs (λ w i. IsApartFrom model w i k f m g) (λ w i less share. absurd (never share))

  pub no_list : (k : ℕ) (f : Field) → list_in f.declared ≡ None → Adds model fs fs (λ w i. EachOf model.fields (IsApartFrom model w i k f))
  no_list k f none = adds_none model fs (λ w i. EachOf model.fields (IsApartFrom model w i k f)) (λ w i m g at less share. absurd (none-some share.1 (sym none ∙ share.4)))

pub few_apart : (model : Model) (fs : List Formula) (cs : List Column) → length cs < 2 → Adds model fs fs (λ w i. Pairwise (AreApart model w i) cs)
few_apart model fs cs few = adds_none model fs (λ w i. Pairwise (AreApart model w i) cs) (λ w i. few_pairwise (AreApart model w i) cs few)

-- all formulas
pub all_added : (model : Model) (mid new : List Formula) → Adds model [] mid (λ w i. EachOf model.sigs (IsSigDeclared model w i)) → Adds model mid new (λ w i. EachOf model.fields (IsFieldAsked model w i)) →
    ((w : World) (i : ℕ) → IsWorldOf model w → All (HoldsIn model w i) new ↔ Declares model w (bodies_of w model.bodies) i) × (IsModel model → All (IsClosed model) new)
all_added model mid new u v = adds_to_none model new (λ w i. Declares model w (bodies_of w model.bodies) i) (adds_as model [] new (λ w i. EachOf model.sigs (IsSigDeclared model w i) × EachOf model.fields (IsFieldAsked model w i)) (λ w i. Declares model w (bodies_of w model.bodies) i) (λ w i. all_declared model w i) (adds_both model [] mid new (λ w i. EachOf model.sigs (IsSigDeclared model w i)) (λ w i. EachOf model.fields (IsFieldAsked model w i)) u v))

-- unions
pub union_both : (cs left right : List Column) (n : ℕ) (a b e : Term) → left ≡ take n cs → right ≡ drop n cs → IsUnion left a → IsUnion right b → e ≡ combine Union a b → IsUnion cs e
union_both cs left right n a b e isl isr ua ub is =
    let whole : left ++ right ≡ cs = ap (λ k. k ++ right) isl ∙ ap (λ k. take n cs ++ k) isr ∙ take-append-drop n cs in
    subst (λ k. IsUnion k e) whole (subst (IsUnion (left ++ right)) (sym is) (of_both left right a b ua ub))

pub union_none : (cs : List Column) → length cs ≡ 0 → IsUnion cs empty
union_none [] none = of_none
union_none (c ∷ cs) none = absurd (omega (arith, none))

pub union_one : (cs : List Column) (c : Column) (e : Term) → length cs ≡ 1 → c ≡ get_or cs 0 c → e ≡ column_term c → IsUnion cs e
union_one [] c e size is same = absurd (omega (arith, size))
union_one (x ∷ []) c e size is same = subst (IsUnion (x ∷ [])) (sym (same ∙ ap column_term is)) (of_one x)
union_one (x ∷ y ∷ cs) c e size is same = absurd (omega (arith, size))

-- the first of a list is the same, whatever is taken where there is none
pub first_same : (cs : List Column) (c d : Column) → length cs ≡ 1 → get_or cs 0 c ≡ get_or cs 0 d
first_same [] c d size = absurd (omega (arith, size))
first_same (x ∷ cs) c d size = refl
