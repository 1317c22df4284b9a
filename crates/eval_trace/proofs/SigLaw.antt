-- What the tests of a sig's declaration say together.
use Rattle.std.proofs.Common.{◌≡◌, ◌≢◌, ◌⊎◌, ◌↔◌, ℕ, zero, suc, ◌+◌, ◌<◌, ◌≤◌, List, [], ◌∷◌, refl, sym, ap, subst, ◌∙◌, inl, inr, arith, length, slice_get, Some, None, Bool, true, false, IsTrue}
use Rattle.std.proofs.lemmas.Bool.{cases_lt}
use Rattle.core_tree.specs.declared.model.Sig.{Sig}
use Rattle.core_tree.specs.declared.model.SigKind.{SigKind}
use Rattle.core_tree.specs.declared.model.SigKind.TheVariants.{Extends}
use Rattle.core_tree.specs.declared.tree.Formula.{Formula}
use Rattle.core_tree.specs.Trees.{claim_of}
use Rattle.core_meaning.specs.Operators.{HasMultiplicity, IsInside}
use Rattle.core_meaning.specs.Declarations.{IsChild, IsPlaced, this_is}
use Rattle.core_tuples.specs.Sets.{TupleList, In, IsTupleSet}
use Rattle.eval_context.specs.Settings.{SettingValue, world}
use Rattle.eval_steps.specs.Judged.{bodies, HoldsIn, IsFound, set_in}
use Rattle.eval_steps.specs.declared.held.Held.{Held}
use Rattle.eval_tree.proofs.FoundLemmas.{true_holds, false_fails}
use Rattle.eval_tree.proofs.FrontLemmas.{ForFront, front_all, columns_of, place_in}
use Rattle.eval_trace.proofs.SetLaw.{inside_found, AreGathered, gathered_none, gathered_same, gathered_more, gathered_fails}
use Rattle.eval_trace.specs.Asked.{Members, InChildren, AreApart, IsFilled, HoldsForEach, HasAppended, SigIs}

-- whether a sig's kind is that of a child
pub is_extends : (kind : SigKind) (p q : ℕ) → kind ≡ Extends q → (b : Bool) → IsTrue b ↔ (q ≡ p) → IsTrue b ↔ (kind ≡ Extends p)
is_extends kind p q is b k = ((λ t. is ∙ ap Extends (k.0 t)), (λ e. let same : q ≡ p = cc in k.1 same))

pub no_child : (c : ℕ) (sigs : List Sig) (p : ℕ) (d : Sig) → slice_get sigs c ≡ Some d → ¬ (d.kind ≡ Extends p) → ¬ IsChild sigs p c
no_child c sigs p d at no' (e, there, is) = let same : e ≡ d = cc in no' (subst (λ (z : Sig). z.kind ≡ Extends p) same is)

-- the children before a place
abbrev pub ChildBefore : List Sig → ℕ → ℕ → ℕ → Type 0
ChildBefore sigs p k b = (b < k) × IsChild sigs p b

got_below : {X : Type 0} (xs : List X) (k : ℕ) (x : X) → slice_get xs k ≡ Some x → k < length xs
got_below xs k x at = elim (cases_lt k (length xs)) [ inl lt ↦ lt | inr over ↦ let none = got_none xs k over in absurd cc ]
  where
    got_none : {X : Type 0} (xs : List X) (k : ℕ) → length xs ≤ k → slice_get xs k ≡ None
    got_none [] k over = refl
    got_none (x ∷ xs) zero over = absurd (omega arith)
    got_none (x ∷ xs) (suc k) over = got_none xs k (omega arith)

module _ (sigs : List Sig) (p : ℕ) where
  pub skip_child : (k : ℕ) (d : Sig) → slice_get sigs k ≡ Some d → ¬ (d.kind ≡ Extends p) → (b : ℕ) → ChildBefore sigs p k b ↔ ChildBefore sigs p (k + 1) b
  skip_child k d at no' b = (
    (λ (lt, c). (omega arith, c)),
    (λ (lt, c). (elim (cases_lt b k) [ inl low ↦ low | inr high ↦ let e : b ≡ k = omega arith in absurd (no_child k sigs p d at no' (subst (λ (z : ℕ). IsChild sigs p z) e c)) ], c)),
  )

  pub more_child : (k : ℕ) (d : Sig) → slice_get sigs k ≡ Some d → d.kind ≡ Extends p → (b : ℕ) → ChildBefore sigs p (k + 1) b ↔ (ChildBefore sigs p k b ⊎ (b ≡ k))
  more_child k d at is b = (
    (λ (lt, c). elim (cases_lt b k) [ inl low ↦ inl (low, c) | inr high ↦ inr (omega arith) ]),
    (elim [ inl (lt, c) ↦ (omega arith, c) | inr e ↦ (omega arith, subst (λ (z : ℕ). IsChild sigs p z) (sym e) (d, at, is)) ]),
  )

  pub all_children : (k : ℕ) → length sigs ≤ k → (b : ℕ) → ChildBefore sigs p k b ↔ IsChild sigs p b
  all_children k over b = ((λ (lt, c). c), (λ (d, at, is). (let lt = got_below sigs b d at in omega arith, (d, at, is))))

  -- no child stands before a place
  pub none_before : (b : ℕ) → ¬ ChildBefore sigs p 0 b
  none_before b (lt, c) = omega arith

  pub child_here : (k : ℕ) (d : Sig) → slice_get sigs k ≡ Some d → d.kind ≡ Extends p → IsTrue true ↔ ((c : ℕ) × IsChild sigs p c)
  child_here k d at is = true_holds (k, (d, at, is))

  pub no_more : (k : ℕ) (d : Sig) → slice_get sigs k ≡ Some d → ¬ (d.kind ≡ Extends p) → ((b : ℕ) → ¬ ChildBefore sigs p k b) → (b : ℕ) → ¬ ChildBefore sigs p (k + 1) b
  no_more k d at no' none b c = none b ((skip_child k d at no' b).1 c)

  pub childless : (k : ℕ) → length sigs ≤ k → ((b : ℕ) → ¬ ChildBefore sigs p k b) → IsTrue false ↔ ((c : ℕ) × IsChild sigs p c)
  childless k over none = false_fails (λ (b, c). none b ((all_children k over b).1 c))

module _ (s : SettingValue) (i p : ℕ) where
  -- the children before a place, gathered
  abbrev pub Gathered : ℕ → TupleList → Type 0
  Gathered k all = AreGathered (λ b. Members s i b) (ChildBefore s.model.sigs p k) all

  pub children_none : (h : Held) → IsFound h (λ _. ⊥) → Gathered 0 (set_in h)
  children_none h f = gathered_none (λ b. Members s i b) (ChildBefore s.model.sigs p 0) (set_in h) (none_before s.model.sigs p) f

  pub children_skip : (k : ℕ) (d : Sig) → slice_get s.model.sigs k ≡ Some d → ¬ (d.kind ≡ Extends p) → (h : Held) → Gathered k (set_in h) → Gathered (k + 1) (set_in h)
  children_skip k d at no' h g = gathered_same (λ b. Members s i b) (ChildBefore s.model.sigs p k) (ChildBefore s.model.sigs p (k + 1)) (set_in h) (skip_child s.model.sigs p k d at no') g

  pub children_more : (k : ℕ) (d : Sig) → slice_get s.model.sigs k ≡ Some d → d.kind ≡ Extends p → (h one new : Held) → Gathered k (set_in h) → IsFound one (Members s i k) → ¬ ((t : List ℕ) × In t (set_in h) × In t (set_in one)) → IsFound new (λ t. In t (set_in h) ⊎ In t (set_in one)) → Gathered (k + 1) (set_in new)
  children_more k d at is h one new g v none u = gathered_more (λ b. Members s i b) (ChildBefore s.model.sigs p k) (ChildBefore s.model.sigs p (k + 1)) (set_in h) (set_in one) (set_in new) k (more_child s.model.sigs p k d at is) g v none u

  pub children_fail : (k : ℕ) (d : Sig) → slice_get s.model.sigs k ≡ Some d → d.kind ≡ Extends p → (h one : Held) → Gathered k (set_in h) → IsFound one (Members s i k) → (t : List ℕ) × In t (set_in h) × In t (set_in one) → ¬ AreApart s i p
  children_fail k d at is h one g v both = gathered_fails (λ b. Members s i b) (ChildBefore s.model.sigs p k) (IsChild s.model.sigs p) (set_in h) (set_in one) k (λ b c. c.1) (d, at, is) (λ (lt, c). omega arith) g v both

  pub children_all : (k : ℕ) → length s.model.sigs ≤ k → (h : Held) → Gathered k (set_in h) → AreApart s i p × IsFound h (InChildren s i p)
  children_all k over h g =
      let whole = gathered_same (λ b. Members s i b) (ChildBefore s.model.sigs p k) (IsChild s.model.sigs p) (set_in h) (all_children s.model.sigs p k over) g in
      (whole.apart, record { just = whole.together })

  -- whether the children are disjoint and fill the sig
  module _ (d : Sig) where
    pub filled_fails : ¬ AreApart s i p → IsTrue false ↔ (AreApart s i p × IsFilled s i p d)
    filled_fails no' = false_fails (λ (x, y). no' x)

    pub filled_not_asked : AreApart s i p → d.is_abstract ≡ false → IsTrue true ↔ (AreApart s i p × IsFilled s i p d)
    filled_not_asked apart e = true_holds (apart, λ is c child. absurd cc)

    pub filled_childless : AreApart s i p → ¬ ((c : ℕ) × IsChild s.model.sigs p c) → IsTrue true ↔ (AreApart s i p × IsFilled s i p d)
    filled_childless apart none = true_holds (apart, λ is c child. absurd (none (c, child)))

    pub filled_by : AreApart s i p → d.is_abstract ≡ true → (c : ℕ) × IsChild s.model.sigs p c → (x y : Held) → IsFound x (Members s i p) → IsFound y (InChildren s i p) → (b : Bool) → IsTrue b ↔ IsInside (λ t. In t (set_in x)) (λ t. In t (set_in y)) → IsTrue b ↔ (AreApart s i p × IsFilled s i p d)
    filled_by apart is some x y hx hy b k =
        let inside = inside_found x y (Members s i p) (InChildren s i p) hx hy b k in
        ((λ t. (apart, λ e c child. inside.0 t)), (λ (a, f). inside.1 (f is some.0 some.1)))

-- a formula for each member
module _ (s : SettingValue) (i n : ℕ) (f : Formula) where
  abbrev pub ForMember : ℕ → Type 0
  ForMember a = HoldsIn s (claim_of f) (this_is a) i

  pub no_member : (x : Held) (set : TupleList) → set ≡ set_in x → IsFound x (Members s i n) → IsTupleSet set → set.arity ≢ 1 → IsTrue true ↔ HoldsForEach s i n f
  no_member x set e h is other = true_holds (λ a m. absurd (other (sym (columns_of set (a ∷ []) is (subst (λ (z : TupleList). In (a ∷ []) z) (sym e) ((h.just (a ∷ [])).1 m))))))

  pub member_fails : (x : Held) (set : TupleList) → set ≡ set_in x → IsFound x (Members s i n) → (k a : ℕ) → k < length set.tuples → slice_get set.tuples k ≡ Some (a ∷ []) → ¬ ForMember a → IsTrue false ↔ HoldsForEach s i n f
  member_fails x set e h k a lt at no' = false_fails (λ all. no' (all a ((h.just (a ∷ [])).0 (subst (λ (z : TupleList). In (a ∷ []) z) e (place_in set.tuples k (a ∷ []) lt at)))))

  pub members_all : (x : Held) (set : TupleList) → set ≡ set_in x → IsFound x (Members s i n) → (k : ℕ) → length set.tuples ≤ k → ForFront ForMember set.tuples k → IsTrue true ↔ HoldsForEach s i n f
  members_all x set e h k over all = true_holds (λ a m. front_all ForMember set.tuples k over all a (subst (λ (z : TupleList). In (a ∷ []) z) (sym e) ((h.just (a ∷ [])).1 m)))

-- a sig's declaration
module _ (s : SettingValue) (i n : ℕ) (d : Sig) where
  pub sig_many : ¬ HasMultiplicity d.multiplicity (Members s i n) → IsTrue false ↔ SigIs s i n d
  sig_many no' = false_fails (λ h. no' h.multiplicity)

  pub sig_placed : ¬ IsPlaced s.model (world s) (bodies s) i n d.kind → IsTrue false ↔ SigIs s i n d
  sig_placed no' = false_fails (λ h. no' h.placed)

  pub sig_children : ¬ (AreApart s i n × IsFilled s i n d) → IsTrue false ↔ SigIs s i n d
  sig_children no' = false_fails (λ h. no' (h.disjoint, h.abstract_union))

  pub sig_all : HasMultiplicity d.multiplicity (Members s i n) → IsPlaced s.model (world s) (bodies s) i n d.kind → AreApart s i n × IsFilled s i n d → (b : Bool) → IsTrue b ↔ HasAppended s i n d.appended → IsTrue b ↔ SigIs s i n d
  sig_all many placed children b k = (
    (λ t. record { placed = placed; abstract_union = children.1; disjoint = children.0; multiplicity = many; appended = k.0 t }),
    (λ h. k.1 h.appended),
  )
