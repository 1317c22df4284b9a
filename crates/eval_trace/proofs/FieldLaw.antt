-- What the tests of a field's declaration say together.
use Rattle.std.proofs.Common.{◌≡◌, ◌≢◌, ◌⊎◌, ◌↔◌, ℕ, zero, suc, ◌+◌, ◌<◌, ◌≤◌, List, [], ◌∷◌, ◌++◌, refl, sym, ap, subst, ◌∙◌, inl, inr, arith, take, length, Contains, slice_get, Option, Some, None, Result, Ok, Err, IfOk, Bool, true, false, IsTrue}
use Rattle.std.proofs.lemmas.Bool.{cases_lt}
use Rattle.core_tree.specs.declared.model.Field.{Field}
use Rattle.core_tree.specs.declared.model.FieldBound.{FieldBound}
use Rattle.core_tree.specs.declared.model.Bound.{Bound}
use Rattle.core_tree.specs.Trees.{term_of}
use Rattle.core_meaning.specs.Operators.{Tuples, IsInside, HasMultiplicity}
use Rattle.core_meaning.specs.Meaning.{Fits}
use Rattle.core_meaning.specs.Declarations.{this_is, FieldDeclared}
use Rattle.core_window.proofs.SameLemmas.{same_trans, turn, inside_same, multiplicity_same}
use Rattle.core_tuples.specs.Sets.{TupleList, In, IsTupleSet}
use Rattle.eval_sets.specs.SetOf.{IsSetOf}
use Rattle.eval_context.specs.Settings.{SettingValue, world}
use Rattle.eval_steps.specs.Judged.{bodies, Means, IsFound, set_in}
use Rattle.eval_steps.specs.declared.held.Held.{Held}
use Rattle.eval_tree.proofs.FoundLemmas.{set_to, true_holds, false_fails, three_same}
use Rattle.eval_tree.proofs.ListLemmas.{contains_none, take_all, take_front, more_cases, more_here, more_before}
use Rattle.eval_tree.proofs.FrontLemmas.{ForFront, front_all, first_of, columns_of, place_in}
use Rattle.eval_tree.proofs.FitsSame.{fits_to}
use Rattle.eval_trace.proofs.SetLaw.{same_self, AreGathered, gathered_none, gathered_more, gathered_fails}
use Rattle.eval_trace.specs.Asked.{Members, Entries, Values, IsBounded, AreBounded, IsOwned, AreDifferent, ListIs, IsListed, IsAlone, FieldIs}
use Rattle.core_window.specs.Repeats.{SameTuples}

-- what an atom has in a field
pub values_found : (s : SettingValue) (i k a : ℕ) (x : Held) (set rest : TupleList) → IsFound x (Entries s i k) → set ≡ set_in x → IsSetOf rest (λ t. In ((a ∷ []) ++ t) set) → IsSetOf rest (Values s i k a)
values_found s i k a x set rest h e r = set_to rest _ (Values s i k a) (λ t. ((λ m. (h.just (a ∷ t)).0 (subst (λ (z : TupleList). In (a ∷ t) z) e m)), (λ v. subst (λ (z : TupleList). In (a ∷ t) z) (sym e) ((h.just (a ∷ t)).1 v)))) r

-- the atoms of the first tuples, and what they have, gathered
abbrev pub InFront : TupleList → ℕ → ℕ → Type 0
InFront set place a = Contains (take place set.tuples) (a ∷ [])

abbrev pub GatheredFront : SettingValue → ℕ → ℕ → TupleList → ℕ → TupleList → Type 0
GatheredFront s i k set place all = AreGathered (λ a. Values s i k a) (InFront set place) all

module _ (s : SettingValue) (i k n : ℕ) where
  -- the members of the sig, by a set that is read of them
  module _ (x : Held) (set : TupleList) (e : set ≡ set_in x) (h : IsFound x (Members s i n)) where
    member_of : (a : ℕ) → In (a ∷ []) set → Members s i n (a ∷ [])
    member_of a c = (h.just (a ∷ [])).0 (subst (λ (z : TupleList). In (a ∷ []) z) e c)

    of_member : (a : ℕ) → Members s i n (a ∷ []) → In (a ∷ []) set
    of_member a m = subst (λ (z : TupleList). In (a ∷ []) z) (sym e) ((h.just (a ∷ [])).1 m)

    -- bounds
    module _ (b : Bound) where
      pub bounded_none : IsTupleSet set → set.arity ≢ 1 → IsTrue true ↔ AreBounded s i k n b
      bounded_none is other = true_holds (λ a m. absurd (other (sym (columns_of set (a ∷ []) is (of_member a m)))))

      pub bounded_fails : (place a : ℕ) → place < length set.tuples → slice_get set.tuples place ≡ Some (a ∷ []) → ¬ IsBounded s i k b a → IsTrue false ↔ AreBounded s i k n b
      bounded_fails place a lt at no' = false_fails (λ all. no' (all a (member_of a (place_in set.tuples place (a ∷ []) lt at))))

      pub bounded_all : (place : ℕ) → length set.tuples ≤ place → ForFront (IsBounded s i k b) set.tuples place → IsTrue true ↔ AreBounded s i k n b
      bounded_all place over all = true_holds (λ a m. front_all (IsBounded s i k b) set.tuples place over all a (of_member a m))

    -- values that differ
    pub differ_none : IsTupleSet set → set.arity ≢ 1 → IsTrue true ↔ AreDifferent s i k n
    differ_none is other = true_holds (λ a b m p q. absurd (other (sym (columns_of set (a ∷ []) is (of_member a m)))))

    abbrev pub AtFront : ℕ → ℕ → Type 0
    AtFront place a = InFront set place a

    abbrev pub Gathered : ℕ → TupleList → Type 0
    Gathered place all = GatheredFront s i k set place all

    pub values_none : (all : Held) → IsFound all (λ _. ⊥) → Gathered 0 (set_in all)
    values_none all f = gathered_none (λ a. Values s i k a) (AtFront 0) (set_in all) (λ a c. contains_none (a ∷ []) c) f

    module _ (place a : ℕ) (lt : place < length set.tuples) (at : slice_get set.tuples place ≡ Some (a ∷ [])) where
      more : (b : ℕ) → AtFront (place + 1) b ↔ (AtFront place b ⊎ (b ≡ a))
      more b = (
        (λ c. elim (more_cases set.tuples place (a ∷ []) (b ∷ []) lt at c) [ inl old ↦ inl old | inr e' ↦ inr (sym (first_of a b [] [] e')) ]),
        (elim [ inl old ↦ more_before set.tuples place (a ∷ []) (b ∷ []) lt at old | inr e' ↦ subst (λ (z : ℕ). AtFront (place + 1) z) (sym e') (more_here set.tuples place (a ∷ []) lt at) ]),
      )

      pub values_more : (all one new : Held) → Gathered place (set_in all) → IsFound one (Values s i k a) → ¬ ((t : List ℕ) × In t (set_in all) × In t (set_in one)) → IsFound new (λ t. In t (set_in all) ⊎ In t (set_in one)) → Gathered (place + 1) (set_in new)
      values_more all one new g v none u = gathered_more (λ b. Values s i k b) (AtFront place) (AtFront (place + 1)) (set_in all) (set_in one) (set_in new) a more g v none u

      pub values_fail : (all one : Held) → ¬ AtFront place a → Gathered place (set_in all) → IsFound one (Values s i k a) → (t : List ℕ) × In t (set_in all) × In t (set_in one) → IsTrue false ↔ AreDifferent s i k n
      values_fail all one fresh g v both = false_fails (λ f. gathered_fails (λ b. Values s i k b) (AtFront place) (λ b. Members s i n (b ∷ [])) (set_in all) (set_in one) a (λ b c. member_of b (before b c)) (member_of a (place_in set.tuples place (a ∷ []) lt at)) fresh g v both (λ b c p q. f b c p q))
        where
          before : (b : ℕ) → AtFront place b → In (b ∷ []) set
          before b c = take_front set.tuples place (b ∷ []) c

    pub values_all : (place : ℕ) → length set.tuples ≤ place → (all : Held) → Gathered place (set_in all) → IsTrue true ↔ AreDifferent s i k n
    values_all place over all g = true_holds (λ a b p q. g.apart a b (there a p) (there b q))
      where
        there : (a : ℕ) → Members s i n (a ∷ []) → AtFront place a
        there a m = subst (λ (z : List (List ℕ)). Contains z (a ∷ [])) (sym (take_all set.tuples place over)) (of_member a m)

-- what lies in a bound, by a set that is read of it
pub bounded_is : (s : SettingValue) (i k a : ℕ) (b : Bound) (x : Held) (set : TupleList) → set ≡ set_in x → IsFound x (Values s i k a) → (IsInside (λ t. In t set) (Means s (term_of b.expr) (this_is a) i) × HasMultiplicity b.multiplicity (λ t. In t set) × Fits (world s) (bodies s) (term_of b.expr) (this_is a) i (λ t. In t set)) ↔ IsBounded s i k b a
bounded_is s i k a b x set e h =
    let V : Tuples = Values s i k a in
    let B : Tuples = Means s (term_of b.expr) (this_is a) i in
    let same : SameTuples (λ t. In t set) V = subst (λ (z : TupleList). SameTuples (λ t. In t z) V) (sym e) h.just in
    three_same (inside_same (λ t. In t set) V B B same (same_self B)) (multiplicity_same b.multiplicity (λ t. In t set) V same)
    (fits_to (world s) (bodies s) (term_of b.expr) (this_is a) i (λ t. In t set) V same, fits_to (world s) (bodies s) (term_of b.expr) (this_is a) i V (λ t. In t set) (λ t. turn (same t)))

-- `disj` after the colon
pub not_asked : (asked : Bool) (P : Type 0) → asked ≡ false → IsTrue true ↔ (IsTrue asked → P)
not_asked asked P e = true_holds (λ t. absurd cc)

pub asked_for : (asked : Bool) (P : Type 0) → asked ≡ true → (b : Bool) → IsTrue b ↔ P → IsTrue b ↔ (IsTrue asked → P)
asked_for asked P e b k = ((λ t _. k.0 t), (λ f. k.1 (f e)))

-- fields of one `disj` list
module _ (f g : Field) where
  pub other_owner : ¬ (f.owner ≡ g.owner) → IsTrue false ↔ IsListed f g
  other_owner no' = false_fails (λ (o, d, e, n, x, y, p, q). no' (sym o))

  pub no_list : ListIs f.declared None → IsTrue false ↔ IsListed f g
  no_list l = false_fails (λ (o, d, e, n, x, y, p, q). let z : None ≡ d.disj_list = subst (λ (w : Option FieldBound). ListIs w None) x l in absurd cc)

  pub no_other_list : ListIs g.declared None → IsTrue false ↔ IsListed f g
  no_other_list l = false_fails (λ (o, d, e, n, x, y, p, q). let z : None ≡ e.disj_list = subst (λ (w : Option FieldBound). ListIs w None) y l in absurd cc)

  declares : (o : Option FieldBound) (m : ℕ) → ListIs o (Some m) → (d : FieldBound) × (o ≡ Some d) × (d.disj_list ≡ Some m)
  declares None m l = absurd cc
  declares (Some d) m l = (d, refl, sym l)

  pub one_list : f.owner ≡ g.owner → (m n : ℕ) → ListIs f.declared (Some m) → ListIs g.declared (Some n) → (b : Bool) → IsTrue b ↔ (m ≡ n) → IsTrue b ↔ IsListed f g
  one_list o m n l r b k = (
    (λ t.
        let (d, x, p) = declares f.declared m l in
        let (e, y, q) = declares g.declared n r in
        (sym o, d, e, n, x, y, p ∙ ap Some (k.0 t), q)),
    (λ (o', d, e, j, x, y, p, q).
        let u : Some m ≡ d.disj_list = subst (λ (w : Option FieldBound). ListIs w (Some m)) x l in
        let v : Some n ≡ e.disj_list = subst (λ (w : Option FieldBound). ListIs w (Some n)) y r in
        let same : m ≡ n = cc in
        k.1 same),
  )

-- a tuple of two fields
pub entries_shared : (x y : Held) (A B : Tuples) → IsFound x A → IsFound y B → (b : Bool) → IsTrue b ↔ ((t : List ℕ) × In t (set_in x) × In t (set_in y)) → IsTrue b ↔ ((t : List ℕ) × A t × B t)
entries_shared x y A B hx hy b k = same_trans k ((λ (t, p, q). (t, (hx.just t).0 p, (hy.just t).0 q)), (λ (t, p, q). (t, (hx.just t).1 p, (hy.just t).1 q)))

-- fields before a place
module _ (s : SettingValue) (i k : ℕ) (f : Field) where
  abbrev pub AloneFrom : ℕ → Type 0
  AloneFrom m = (g : Field) → slice_get s.model.fields m ≡ Some g → IsListed f g → m ≢ k → (a : ℕ) (u : List ℕ) → Values s i k a u → Values s i m a u → ⊥

  abbrev pub AloneBefore : ℕ → Type 0
  AloneBefore place = (m : ℕ) → m < place → AloneFrom m

  pub alone_none : AloneBefore 0
  alone_none m lt = absurd (omega arith)

  next : (place : ℕ) → AloneBefore place → AloneFrom place → AloneBefore (place + 1)
  next place h here m lt = elim (cases_lt m place) [ inl low ↦ h m low | inr high ↦ let e : place ≡ m = omega arith in subst AloneFrom e here ]

  pub alone_same : (place : ℕ) → AloneBefore place → place ≡ k → AloneBefore (place + 1)
  alone_same place h e = next place h (λ m there listed other a u x y. absurd (other e))

  module _ (place : ℕ) (g : Field) (at : slice_get s.model.fields place ≡ Some g) where
    only : (e : Field) → slice_get s.model.fields place ≡ Some e → e ≡ g
    only e there = cc

    pub alone_unlisted : AloneBefore place → ¬ IsListed f g → AloneBefore (place + 1)
    alone_unlisted h no' = next place h (λ m there listed other a u x y. no' (subst (λ (z : Field). IsListed f z) (only m there) listed))

    pub alone_more : AloneBefore place → ¬ ((t : List ℕ) × Entries s i k t × Entries s i place t) → AloneBefore (place + 1)
    alone_more h none = next place h (λ m there listed other a u p q. none (a ∷ u, p, q))

    pub alone_fails : (t : List ℕ) × Entries s i k t × Entries s i place t → place ≢ k → IsListed f g → (owner : ℕ) → IsOwned s i k owner → IsTrue false ↔ IsAlone s i k f
    alone_fails (t, p, q) other listed owner owned = false_fails (λ all.
        let (a, u, e, m) = owned t p in
        all place g at listed other a u (subst (λ (l : List ℕ). Entries s i k l) e p) (subst (λ (l : List ℕ). Entries s i place l) e q))

  pub alone_all : (place : ℕ) → length s.model.fields ≤ place → AloneBefore place → IsTrue true ↔ IsAlone s i k f
  alone_all place over h = true_holds (λ m g at. h m (let lt = got_below s.model.fields m g at in omega arith) g at)
    where
      got_none : {X : Type 0} (xs : List X) (j : ℕ) → length xs ≤ j → slice_get xs j ≡ None
      got_none [] j over = refl
      got_none (x ∷ xs) zero over = absurd (omega arith)
      got_none (x ∷ xs) (suc j) over = got_none xs j (omega arith)

      got_below : {X : Type 0} (xs : List X) (j : ℕ) (x : X) → slice_get xs j ≡ Some x → j < length xs
      got_below xs j x at = elim (cases_lt j (length xs)) [ inl lt ↦ lt | inr over ↦ let none = got_none xs j over in absurd cc ]

-- a field's declaration
module _ (s : SettingValue) (i k : ℕ) (f : Field) (n : ℕ) (d : FieldBound) (is : f.declared ≡ Some d) where
  abbrev pub Is : Type 0
  Is = FieldDeclared s.model (world s) (bodies s) i k f n d

  alone_of : Is → IsAlone s i k f
  alone_of h m g at (o, d', e, j, x, y, p, q) other a u v w =
      let same : d' ≡ d = cc in
      h.disj_list m g e at o y j (subst (λ (z : FieldBound). z.disj_list ≡ Some j) same p) q other a u v w

  pub field_owned : ¬ IsOwned s i k n → IsTrue false ↔ Is
  field_owned no' = false_fails (λ h. no' h.owned)

  pub field_bounded : ¬ AreBounded s i k n d.bound → IsTrue false ↔ Is
  field_bounded no' = false_fails (λ h. no' (λ a m. (h.bounded a m, h.multiplicity a m, h.arrows a m)))

  pub field_differ : ¬ (IsTrue d.disj_values → AreDifferent s i k n) → IsTrue false ↔ Is
  field_differ no' = false_fails (λ h. no' h.disj_values)

  pub field_all : IsOwned s i k n → AreBounded s i k n d.bound → (IsTrue d.disj_values → AreDifferent s i k n) → (b : Bool) → IsTrue b ↔ IsAlone s i k f → IsTrue b ↔ Is
  field_all owned bounded differ b c = (
    (λ t. record {
      owned = owned;
      bounded = λ a m. (bounded a m).0;
      multiplicity = λ a m. (bounded a m).1;
      arrows = λ a m. (bounded a m).2;
      disj_values = differ;
      disj_list = λ m g e at o y j p q other a u v w. c.0 t m g at (o, d, e, j, is, y, p, q) other a u v w;
    }),
    (λ h. c.1 (alone_of h)),
  )

-- a field without an owner or a text is asked nothing
module _ (s : SettingValue) (i k : ℕ) (f : Field) where
  pub no_owner : f.owner ≡ None → IsTrue true ↔ FieldIs s i k f
  no_owner e = true_holds (λ n d o x. absurd cc)

  pub no_text : f.declared ≡ None → IsTrue true ↔ FieldIs s i k f
  no_text e = true_holds (λ n d o x. absurd cc)

  pub field_is : (n : ℕ) (d : FieldBound) → f.owner ≡ Some n → f.declared ≡ Some d → (E : Type 0) (r : Result Bool E) → IfOk r (λ b. f.declared ≡ Some d → IsTrue b ↔ FieldDeclared s.model (world s) (bodies s) i k f n d) → IfOk r (λ b. IsTrue b ↔ FieldIs s i k f)
  field_is n d o x E (Ok b) h = let k' = h x in (
    (λ t m e p q.
        let sn : n ≡ m = cc in
        let sd : d ≡ e = cc in
        subst (λ (z : FieldBound). FieldDeclared s.model (world s) (bodies s) i k f m z) sd (subst (λ (z : ℕ). FieldDeclared s.model (world s) (bodies s) i k f z d) sn (k'.0 t))),
    (λ all. k'.1 (all n d o x)),
  )
  field_is n d o x E (Err e) h = tt
