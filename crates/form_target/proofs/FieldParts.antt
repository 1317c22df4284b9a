-- What the formulas of a field say.
use Rattle.std.proofs.Common.{◌≡◌, ◌≢◌, ◌⊎◌, ◌↔◌, ◌∙◌, ℕ, zero, suc, ◌+◌, ◌<◌, List, [], ◌∷◌, ◌++◌, take, length, All, Option, Some, None, IsTrue, slice_get, refl, sym, ap, subst, arith, inl, inr}
use Rattle.std.proofs.lemmas.Bool.{cases_lt}
use Rattle.std.proofs.lemmas.Option.{none-some}
use Rattle.core_tree.specs.declared.model.Model.{Model}
use Rattle.core_tree.specs.declared.model.Field.{Field}
use Rattle.core_tree.specs.declared.model.FieldBound.{FieldBound}
use Rattle.core_tree.specs.declared.model.Bound.{Bound}
use Rattle.core_tree.specs.declared.operators.RelationOp.TheVariants.{Intersection, Join, LeftRestrict}
use Rattle.core_tree.specs.declared.operators.Multiplicity.{Multiplicity}
use Rattle.core_tree.specs.declared.operators.Multiplicity.TheVariants.{Set, One, Lone, Some as AtLeastOne}
use Rattle.core_tree.specs.declared.operators.Quantity.TheVariants.{No}
use Rattle.core_tree.specs.Trees.{Term, Claim, sig, field, name, product, combine, inside, within, test, for_all, no_variables, more_variables, term_of}
use Rattle.core_meaning.specs.World.{World, InRelation}
use Rattle.core_meaning.specs.Operators.{Tuples, IsInside, HasSome, IsLone, HasMultiplicity}
use Rattle.core_meaning.specs.Meaning.{Names, Bodies, no_names, with_name, atom, InTerm, Holds, Fits, IsApart}
use Rattle.core_meaning.specs.Called.{bodies_of}
use Rattle.core_meaning.specs.Declarations.{this_is, FieldDeclared, Declares}
use Rattle.form_target.specs.Asked.{list_in, ShareList, EachOf, IsSigTuple, IsFieldTuple, IsValue, IsSigDeclared, IsOwned, IsBounded, HasApartValues, IsFieldDeclared, IsAlone, HaveNoShared, IsApartFrom, IsFieldAsked}
use Rattle.form_target.specs.Added.{IsWorldOf}
use Rattle.form_target.proofs.SigParts.{still, apart_alone, for_each_is}

abbrev SameTuples : Tuples → Tuples → Type 0
SameTuples A B = (t : List ℕ) → A t ↔ B t

turn : (A B : Tuples) → SameTuples A B → SameTuples B A
turn A B same t = ((same t).1, (same t).0)

some_to : (A B : Tuples) → SameTuples A B → HasSome A → HasSome B
some_to A B same (t, h) = (t, (same t).0 h)

lone_to : (A B : Tuples) → SameTuples A B → IsLone A → IsLone B
lone_to A B same h t u x y = h t u ((same t).1 x) ((same u).1 y)

multiplicity_to : (m : Multiplicity) (A B : Tuples) → SameTuples A B → HasMultiplicity m A → HasMultiplicity m B
multiplicity_to Set A B same h = tt
multiplicity_to One A B same h = (some_to A B same h.0, lone_to A B same h.1)
multiplicity_to Lone A B same h = lone_to A B same h
multiplicity_to AtLeastOne A B same h = some_to A B same h

module _ (w : World) (bodies : Bodies) (names : Names) (i : ℕ) where
  fits_to : (e : Term) (A B : Tuples) → SameTuples A B → Fits w bodies e names i A → Fits w bodies e names i B
  fits_to (product a m n b) A B same h = (
    (λ s k.
        let found = h.0 s k in
        (multiplicity_to n (λ u. A (s ++ u)) (λ u. B (s ++ u)) (λ u. same (s ++ u)) found.0, fits_to b (λ u. A (s ++ u)) (λ u. B (s ++ u)) (λ u. same (s ++ u)) found.1)),
    (λ u k.
        let found = h.1 u k in
        (multiplicity_to m (λ s. A (s ++ u)) (λ s. B (s ++ u)) (λ s. same (s ++ u)) found.0, fits_to a (λ s. A (s ++ u)) (λ s. B (s ++ u)) (λ s. same (s ++ u)) found.1)),
  )
  fits_to e A B same h = tt

-- a list of one number
abbrev head_or : ℕ → List ℕ → ℕ
head_or d [] = d
head_or d (x ∷ xs) = x

longer : (y z : ℕ) (s : List ℕ) (x a : ℕ) → length (y ∷ z ∷ (s ++ x ∷ [])) ≡ 1 → ⊥
longer y z s x a e = omega (arith, e)

two_is_not_one : (y x : ℕ) → length (y ∷ x ∷ []) ≡ 1 → ⊥
two_is_not_one y x e = omega (arith, e)

none_before : (s : List ℕ) (x a : ℕ) → s ++ x ∷ [] ≡ a ∷ [] → s ≡ []
none_before [] x a e = refl
none_before (y ∷ []) x a e = absurd (two_is_not_one y x (ap length e))
none_before (y ∷ z ∷ s) x a e = absurd (longer y z s x a (ap length e))

last_is : (s : List ℕ) (x a : ℕ) → s ++ x ∷ [] ≡ a ∷ [] → x ≡ a
last_is [] x a e = ap (head_or 0) e
last_is (y ∷ []) x a e = absurd (two_is_not_one y x (ap length e))
last_is (y ∷ z ∷ s) x a e = absurd (longer y z s x a (ap length e))

-- the second of two different variables
differs : (a b : ℕ) → a ≢ b → IsApart 1 b (a ∷ [])
differs a b ne zero d lt = λ e. ne (sym e)
differs a b ne (suc k) d lt = absurd (omega (arith, lt))

differ : (a b : ℕ) → IsApart 1 b (a ∷ []) → a ≢ b
differ a b apart = λ e. apart zero a (omega arith) (sym e)

module _ (model : Model) (w : World) (i : ℕ) (here : IsWorldOf model w) where
  abbrev In : Term → Names → Tuples
  In e names t = InTerm w (bodies_of w model.bodies) e names i t

  abbrev Says : Claim → Names → Type 0
  Says f names = Holds w (bodies_of w model.bodies) f names i

  field_is : (k : ℕ) (names : Names) (t : List ℕ) → In (field k) names t ↔ IsFieldTuple model w i k t
  field_is k names t = subst (λ n. InRelation w (length w.top + k) i t ↔ InRelation w (n + k) i t) here still

  -- what an atom has in a field
  value_is : (k x a : ℕ) (names : Names) → ((t : List ℕ) → names x i t ↔ (t ≡ a ∷ [])) → SameTuples (In (combine Join (name x) (field k)) names) (IsValue model w i k a)
  value_is k x a names means t = (
    (λ (s, u, y, h, f, e).
        let one = (means (s ++ y ∷ [])).0 h in
        let same : t ≡ u = subst (λ l. t ≡ l ++ u) (none_before s y a one) e in
        let there = (field_is k names (y ∷ u)).0 f in
        subst (λ l. IsFieldTuple model w i k (a ∷ l)) (sym same) (subst (λ z. IsFieldTuple model w i k (z ∷ u)) (last_is s y a one) there)),
    (λ f. ([], t, a, (means (a ∷ [])).1 refl, (field_is k names (a ∷ t)).1 f, refl)),
  )

  pub owned_is : (k s : ℕ) → Says (inside (field k) (combine LeftRestrict (sig s) (field k))) no_names ↔ IsOwned model w i k s
  owned_is k s = (
    (λ h t x. (h t ((field_is k no_names t).1 x)).1),
    (λ h t x. (x, h t ((field_is k no_names t).0 x))),
  )

  abbrev value_term : ℕ → ℕ → Term
  value_term x k = combine Join (name x) (field k)

  bound_to : (k a : ℕ) (b : Bound) → Says (within (value_term 0 k) b.multiplicity (term_of b.expr)) (this_is a) → IsInside (IsValue model w i k a) (In (term_of b.expr) (this_is a)) × HasMultiplicity b.multiplicity (IsValue model w i k a) × Fits w (bodies_of w model.bodies) (term_of b.expr) (this_is a) i (IsValue model w i k a)
  bound_to k a b (lies, count, fits) =
      let value = value_is k 0 a (this_is a) (λ t. still) in (
        (λ t y. lies t ((value t).1 y)),
        multiplicity_to b.multiplicity (In (value_term 0 k) (this_is a)) (IsValue model w i k a) value count,
        fits_to w (bodies_of w model.bodies) (this_is a) i (term_of b.expr) (In (value_term 0 k) (this_is a)) (IsValue model w i k a) value fits,
      )

  bound_from : (k a : ℕ) (b : Bound) → IsInside (IsValue model w i k a) (In (term_of b.expr) (this_is a)) × HasMultiplicity b.multiplicity (IsValue model w i k a) × Fits w (bodies_of w model.bodies) (term_of b.expr) (this_is a) i (IsValue model w i k a) → Says (within (value_term 0 k) b.multiplicity (term_of b.expr)) (this_is a)
  bound_from k a b (lies, count, fits) =
      let value = value_is k 0 a (this_is a) (λ t. still) in
      let back = turn (In (value_term 0 k) (this_is a)) (IsValue model w i k a) value in (
        (λ t y. lies t ((value t).0 y)),
        multiplicity_to b.multiplicity (IsValue model w i k a) (In (value_term 0 k) (this_is a)) back count,
        fits_to w (bodies_of w model.bodies) (this_is a) i (term_of b.expr) (IsValue model w i k a) (In (value_term 0 k) (this_is a)) back fits,
      )

  pub bounded_is : (k s : ℕ) (b : Bound) → Says (for_all (more_variables 0 0 (sig s) no_variables) (within (value_term 0 k) b.multiplicity (term_of b.expr))) no_names ↔ IsBounded model w i k s b
  bounded_is k s b =
      let each = for_each_is model w i s (within (value_term 0 k) b.multiplicity (term_of b.expr)) in (
        (λ h a x. bound_to k a b (each.0 h a x)),
        (λ h. each.1 (λ a x. bound_from k a b (h a x))),
      )

  -- two atoms, by the names 0 and 1
  abbrev pair : ℕ → ℕ → Names
  pair a b = with_name (with_name no_names 0 (atom a)) 1 (atom b)

  first_value : (k a b : ℕ) → SameTuples (In (value_term 0 k) (pair a b)) (IsValue model w i k a)
  first_value k a b = value_is k 0 a (pair a b) (λ t. still)

  second_value : (k a b : ℕ) → SameTuples (In (value_term 1 k) (pair a b)) (IsValue model w i k b)
  second_value k a b = value_is k 1 b (pair a b) (λ t. still)

  pub apart_values_is : (k s : ℕ) → Says (for_all (more_variables 0 0 (sig s) (more_variables 1 1 (sig s) no_variables)) (test No (combine Intersection (value_term 0 k) (value_term 1 k)))) no_names ↔ HasApartValues model w i k s
  apart_values_is k s = (
    (λ h a b x y ne u ha hb. h a x (apart_alone a) b y (differs a b ne) (u, ((first_value k a b u).1 ha, (second_value k a b u).1 hb))),
    (λ h a x alone b y apart (u, shared). h a b x y (differ a b apart) u ((first_value k a b u).0 shared.0) ((second_value k a b u).0 shared.1)),
  )

  pub no_shared_is : (k m : ℕ) → Says (test No (combine Intersection (field k) (field m))) no_names ↔ HaveNoShared model w i k m
  no_shared_is k m = (
    (λ none t x y. none (t, ((field_is k no_names t).1 x, (field_is m no_names t).1 y))),
    (λ h (t, shared). h t ((field_is k no_names t).0 shared.0) ((field_is m no_names t).0 shared.1)),
  )

bound_there : (o : Option FieldBound) (n : ℕ) → list_in o ≡ Some n → (d : FieldBound) × (o ≡ Some d) × (d.disj_list ≡ Some n)
bound_there (Some d) n e = (d, refl, e)
bound_there None n e = absurd (none-some n e)

module _ (model : Model) (w : World) (i : ℕ) where
  -- all that the declarations of fields ask
  abbrev AreAsked : Type 0
  AreAsked = EachOf model.fields (IsFieldAsked model w i)

  abbrev AreDeclared : Type 0
  AreDeclared = (k : ℕ) (f : Field) (s : ℕ) (d : FieldBound) → slice_get model.fields k ≡ Some f → f.owner ≡ Some s → f.declared ≡ Some d → FieldDeclared model w (bodies_of w model.bodies) i k f s d

  apart_fields : AreAsked → (k m : ℕ) (f g : Field) → slice_get model.fields k ≡ Some f → slice_get model.fields m ≡ Some g → ShareList f g → ShareList g f → m ≢ k → (t : List ℕ) → IsFieldTuple model w i k t → IsFieldTuple model w i m t → ⊥
  apart_fields all k m f g atk atm there back ne t hk hm = elim (cases_lt k m) [
    | inl less ↦ (all k f atk).1 m g atm less there t hk hm
    | inr past ↦ (all m g atm).1 k f atk (omega (arith, past, ne)) back t hm hk
  ]

  apart_at : AreAsked → (k : ℕ) (f : Field) (s : ℕ) (d : FieldBound) → slice_get model.fields k ≡ Some f → f.owner ≡ Some s → f.declared ≡ Some d →
      (m : ℕ) (g : Field) (e : FieldBound) → slice_get model.fields m ≡ Some g → g.owner ≡ f.owner → g.declared ≡ Some e → (n : ℕ) → d.disj_list ≡ Some n → e.disj_list ≡ Some n → m ≢ k → (a : ℕ) (u : List ℕ) → IsValue model w i k a u → IsValue model w i m a u → ⊥
  apart_at all k f s d atk owner said m g e atm same saide n inn outn ne a u hk hm =
      let list_f : list_in f.declared ≡ Some n = subst (λ x. list_in x ≡ Some n) (sym said) inn in
      let list_g : list_in g.declared ≡ Some n = subst (λ x. list_in x ≡ Some n) (sym saide) outn in
      let owner_g : g.owner ≡ Some s = same ∙ owner in
      apart_fields all k m f g atk atm (s, n, owner, owner_g, list_f, list_g) (s, n, owner_g, owner, list_g, list_f) ne (a ∷ u) hk hm

  asked_to : AreAsked → AreDeclared
  asked_to all k f s d atk owner said =
      let alone = (all k f atk).0 s d owner said in
      record {
        owned = alone.0;
        bounded = λ a x. (alone.1 a x).0;
        multiplicity = λ a x. (alone.1 a x).1;
        arrows = λ a x. (alone.1 a x).2;
        disj_values = alone.2;
        disj_list = apart_at all k f s d atk owner said;
      }

  alone_from : AreDeclared → (k : ℕ) (f : Field) → slice_get model.fields k ≡ Some f → IsAlone model w i k f
  alone_from all k f atk s d owner said =
      let there = all k f s d atk owner said in
      (there.owned, (λ a x. (there.bounded a x, there.multiplicity a x, there.arrows a x)), there.disj_values)

  apart_from : AreDeclared → (k : ℕ) (f : Field) → slice_get model.fields k ≡ Some f → EachOf model.fields (IsApartFrom model w i k f)
  apart_from all k f atk m g atm less (s, n, owner_f, owner_g, list_f, list_g) t x y =
      let (d, said_f, in_f) = bound_there f.declared n list_f in
      let (e, said_g, in_g) = bound_there g.declared n list_g in
      let there = all k f s d atk owner_f said_f in
      let (a, u, is, ours) = there.owned t x in
      let same : g.owner ≡ f.owner = owner_g ∙ sym owner_f in
      let ne : m ≢ k = omega (arith, less) in
      there.disj_list m g e atm same said_g n in_f in_g ne a u (subst (IsFieldTuple model w i k) is x) (subst (IsFieldTuple model w i m) is y)

  -- all that the declarations ask
  pub all_declared : (EachOf model.sigs (IsSigDeclared model w i) × EachOf model.fields (IsFieldAsked model w i)) ↔ Declares model w (bodies_of w model.bodies) i
  all_declared = (
    (λ h. record { sigs = λ s d at. h.0 s d at; fields = asked_to h.1 }),
    (λ h. ((λ s d at. h.sigs s d at), (λ k f at. (alone_from h.fields k f at, apart_from h.fields k f at)))),
  )
