-- What the formulas of a sig say.
use Rattle.std.proofs.Common.{◌≡◌, ◌≢◌, ◌⊎◌, ◌↔◌, ◌∙◌, ℕ, zero, suc, ◌+◌, ◌<◌, List, [], ◌∷◌, ◌++◌, take, drop, length, All, Contains, Option, Some, None, IfSome, IsTrue, refl, sym, ap, subst, arith, inl, inr}
use Rattle.std.proofs.lemmas.List.Elements.{Contains-append_left, Contains-append_right, Contains-append_cases}
use Rattle.core_tree.specs.declared.model.Model.{Model}
use Rattle.core_tree.specs.declared.model.Sig.{Sig}
use Rattle.core_tree.specs.declared.model.Column.{Column}
use Rattle.core_tree.specs.declared.model.Column.TheVariants.{Sig as SigColumn, Int as IntColumn}
use Rattle.core_tree.specs.declared.operators.RelationOp.TheVariants.{Union, Intersection}
use Rattle.core_tree.specs.declared.operators.Quantity.TheVariants.{No}
use Rattle.core_tree.specs.Trees.{Term, Claim, sig, combine, inside, test, for_all, no_variables, more_variables}
use Rattle.core_meaning.specs.World.{World}
use Rattle.core_meaning.specs.Operators.{Tuples, IsInside, IsListOf, HasMultiplicity}
use Rattle.core_meaning.specs.Meaning.{Names, no_names, with_name, atom, InTerm, Holds, IsApart}
use Rattle.core_meaning.specs.Called.{bodies_of}
use Rattle.core_meaning.specs.Declarations.{IsChild, IsPlaced, SigDeclared}
use Rattle.form_target.specs.Children.{IsChildColumn}
use Rattle.form_target.specs.Unions.{column_term, IsUnion, of_none, of_one, of_both}
use Rattle.form_target.specs.Asked.{Pairwise, IsSigTuple, IsColumnTuple, IsInOne, AreApart, IsCovered, HasFact, IsSigDeclared}
use Rattle.form_target.proofs.Lists.{nothing_in, first_in, one_in, Across, pairwise_at, pairwise_of}

pub still : {P : Type 0} → P ↔ P
still = ((λ x. x), (λ x. x))

-- before a variable that stands alone there is none from which it differs
pub apart_alone : (a : ℕ) → IsApart 0 a []
apart_alone a k d lt = absurd (omega (arith, lt))

-- the number of a sig
abbrev number_of : Column → ℕ
number_of (SigColumn c) = c
number_of IntColumn = 0

same_sig : (b c : ℕ) → SigColumn b ≡ SigColumn c → b ≡ c
same_sig b c e = ap number_of e

module _ (model : Model) (w : World) (i : ℕ) where
  abbrev In : Term → Names → Tuples
  In e names t = InTerm w (bodies_of w model.bodies) e names i t

  column_is : (c : Column) (names : Names) (t : List ℕ) → In (column_term c) names t ↔ IsColumnTuple model w i c t
  column_is (SigColumn s) names t = still
  column_is IntColumn names t = still

  in_left : (l r : List Column) (t : List ℕ) → IsInOne model w i l t → IsInOne model w i (l ++ r) t
  in_left l r t (c, k, h) = (c, Contains-append_left l r c k, h)

  in_right : (l r : List Column) (t : List ℕ) → IsInOne model w i r t → IsInOne model w i (l ++ r) t
  in_right l r t (c, k, h) = (c, Contains-append_right l r c k, h)

  in_either : (l r : List Column) (t : List ℕ) → IsInOne model w i (l ++ r) t → IsInOne model w i l t ⊎ IsInOne model w i r t
  in_either l r t (c, k, h) = elim (Contains-append_cases l r c k) [ inl left ↦ inl (c, left, h) | inr right ↦ inr (c, right, h) ]

  pub union_is : (cs : List Column) (e : Term) → IsUnion cs e → (names : Names) (t : List ℕ) → In e names t ↔ IsInOne model w i cs t
  union_is _ _ of_none names t = ((λ never. absurd never), (λ (c, k, h). absurd (nothing_in c k)))
  union_is _ _ (of_one c) names t = (
    (λ h. (c, first_in c [], (column_is c names t).0 h)),
    (λ (x, k, h). (column_is c names t).1 (subst (λ y. IsColumnTuple model w i y t) (sym (one_in c x k)) h)),
  )
  union_is _ _ (of_both l r a b u v) names t =
      let one = union_is l a u names t in
      let two = union_is r b v names t in (
        (λ h. elim h [ inl left ↦ in_left l r t (one.0 left) | inr right ↦ in_right l r t (two.0 right) ]),
        (λ h. elim (in_either l r t h) [ inl left ↦ inl (one.1 left) | inr right ↦ inr (two.1 right) ]),
      )

  -- a sig inside a union
  pub inside_union : (s : ℕ) (cs : List Column) (e : Term) → IsUnion cs e → Holds w (bodies_of w model.bodies) (inside (sig s) e) no_names i ↔ IsInside (IsSigTuple model w i s) (IsInOne model w i cs)
  inside_union s cs e u = ((λ h t x. (union_is cs e u no_names t).0 (h t x)), (λ h t x. (union_is cs e u no_names t).1 (h t x)))

  -- nothing is in two unions
  pub no_shared : (l r : List Column) (a b : Term) → IsUnion l a → IsUnion r b → Holds w (bodies_of w model.bodies) (test No (combine Intersection a b)) no_names i ↔ Across (AreApart model w i) l r
  no_shared l r a b u v = (
    (λ none x y inx iny t hx hy. none (t, ((union_is l a u no_names t).1 (x, inx, hx), (union_is r b v no_names t).1 (y, iny, hy)))),
    (λ cross (t, shared).
        let (x, inx, hx) = (union_is l a u no_names t).0 shared.0 in
        let (y, iny, hy) = (union_is r b v no_names t).0 shared.1 in
        cross x y inx iny t hx hy),
  )

  pub for_each_is : (s : ℕ) (f : Claim) → Holds w (bodies_of w model.bodies) (for_all (more_variables 0 0 (sig s) no_variables) f) no_names i ↔ ((a : ℕ) → IsSigTuple model w i s (a ∷ []) → Holds w (bodies_of w model.bodies) f (with_name no_names 0 (atom a)) i)
  for_each_is s f = ((λ h a x. h a x (apart_alone a)), (λ h a x apart. h a x))

  child_of : (s : ℕ) (b : Column) (t : List ℕ) → IsChildColumn model.sigs s b → IsColumnTuple model w i b t → (c : ℕ) × IsChild model.sigs s c × IsSigTuple model w i c t
  child_of s (SigColumn c) t child h = (c, child, h)
  child_of s IntColumn t child h = absurd child

  some_child : (s : ℕ) (b : Column) → IsChildColumn model.sigs s b → (c : ℕ) × IsChild model.sigs s c
  some_child s (SigColumn c) child = (c, child)
  some_child s IntColumn child = absurd child

  -- the children of an abstract sig
  pub covered_is : (s : ℕ) (d : Sig) (cs : List Column) → IsListOf (IsChildColumn model.sigs s) cs → IsTrue d.is_abstract → (c : Column) → Contains cs c → IsInside (IsSigTuple model w i s) (IsInOne model w i cs) ↔ IsCovered model w i s d
  covered_is s d cs all stands first there = (
    (λ h stands_too c child t x.
        let (b, inb, hb) = h t x in
        child_of s b t ((all.all_and_only b).0 inb) hb),
    (λ h t x.
        let (c, child) = some_child s first ((all.all_and_only first).0 there) in
        let (b, child_b, hb) = h stands c child t x in
        (SigColumn b, (all.all_and_only (SigColumn b)).1 child_b, hb)),
  )

  no_child : (cs : List Column) (c : Column) → length cs ≡ 0 → Contains cs c → ⊥
  no_child cs c none (k, lt, e) = omega (arith, lt, none)

  pub no_children_covered : (s : ℕ) (d : Sig) (cs : List Column) → IsListOf (IsChildColumn model.sigs s) cs → length cs ≡ 0 → IsCovered model w i s d
  no_children_covered s d cs all none stands c child t x = absurd (no_child cs (SigColumn c) none ((all.all_and_only (SigColumn c)).1 child))

  turn : (x y : Column) → AreApart model w i x y → AreApart model w i y x
  turn x y h t hy hx = h t hx hy

  children_apart : (s : ℕ) (d : Sig) → IsSigDeclared model w i s d → (x y : Column) → IsChildColumn model.sigs s x → IsChildColumn model.sigs s y → x ≢ y → AreApart model w i x y
  children_apart s d h (SigColumn b) (SigColumn c) isb isc ne t hb hc = h.disjoint b c isb isc (λ e. ne (ap SigColumn e)) t hb hc
  children_apart s d h (SigColumn b) IntColumn isb isc ne t hb hc = absurd isc
  children_apart s d h IntColumn y isb isc ne t hb hc = absurd isb

  -- all that a sig's declaration asks
  pub sig_declared : (s : ℕ) (d : Sig) (cs : List Column) → IsListOf (IsChildColumn model.sigs s) cs →
      (IsPlaced model w (bodies_of w model.bodies) i s d.kind × (IsCovered model w i s d × (Pairwise (AreApart model w i) cs × (HasMultiplicity d.multiplicity (IsSigTuple model w i s) × HasFact model w i s d)))) ↔ IsSigDeclared model w i s d
  sig_declared s d cs all = (
    (λ (placed, (covered, (apart, (counted, fact)))). record {
      placed = placed;
      abstract_union = covered;
      disjoint = λ b c isb isc ne t hb hc. pairwise_at (AreApart model w i) turn cs (SigColumn b) (SigColumn c) apart ((all.all_and_only (SigColumn b)).1 isb) ((all.all_and_only (SigColumn c)).1 isc) (λ e. ne (same_sig b c e)) t hb hc;
      multiplicity = counted;
      appended = fact;
    }),
    (λ h. (h.placed, (h.abstract_union, (pairwise_of (AreApart model w i) cs all.distinct (λ x y inx iny ne. children_apart s d h x y ((all.all_and_only x).0 inx) ((all.all_and_only y).0 iny) ne), (h.multiplicity, h.appended))))),
  )
