-- Where each owner has its own atom, sigs and fields lie in what the table gives them.
use Rattle.std.proofs.Common.{◌≡◌, inl, inr, ℕ, zero, suc, eqb, ◌||◌, if◌then◌else◌, ◌+◌, ◌-◌, ◌<◌, Bool, true, false, not, IsTrue, List, [], ◌∷◌, length, Contains, ◌&&◌, Option, Some, None, is_some, slice_get, get_or, refl, sym, ap, ◌∙◌, subst, arith}
use Rattle.std.specs.List.{list_any}
use Rattle.std.proofs.lemmas.Bool.{false≢true, eqb-true, eq-eqb, and_parts, not-true}
use Rattle.core_tuples.proofs.OrderLemmas.{cons_here, cons_later}
use Rattle.core_tree.specs.declared.model.Model.{Model}
use Rattle.core_tree.specs.declared.model.Sig.{Sig}
use Rattle.core_tree.specs.declared.model.SigKind.{SigKind}
use Rattle.core_tree.specs.declared.model.SigKind.TheVariants.{Top, Extends, Subset}
use Rattle.core_tree.specs.declared.operators.Multiplicity.{Multiplicity}
use Rattle.core_tree.specs.declared.operators.Multiplicity.TheVariants.{Set, One, Lone, Some as AtLeastOne}
use Rattle.core_tree.specs.declared.model.Column.{Column}
use Rattle.core_tree.specs.declared.model.Column.TheVariants.{Sig as SigColumn, Int as IntColumn}
use Rattle.core_tree.specs.Types.{TypeRow, by_parent, by_sig, is_under}
use Rattle.core_meaning.specs.declared.scopes.Scopes.{Scopes}
use Rattle.core_meaning.specs.Sequence.{LassoValue}
use Rattle.core_meaning.specs.World.{InRelation}
use Rattle.core_meaning.specs.Operators.{HasMultiplicity}
use Rattle.core_meaning.specs.Kept.{world_of, first_atom}
use Rattle.core_laws.specs.Typed.{IsTypedLasso, HasColumn, HasRow, ColumnsHaveAtoms, SigsOfOneAtom}
use Rattle.bound_owners.specs.Own.{is_one, is_single, does_extend, is_extended, is_constant, constants, fits, top_of, owner_at, owner_of, does_own, is_given}
use Rattle.bound_uppers.specs.Given.{InColumnTable, InRowTable}
use Rattle.bound_owners.proofs.Owning.{own_listed, fitting, listed_constant}
use Rattle.bound_laws.specs.Owning.{OwnersHave}
use Rattle.bound_laws.proofs.Columns.{one_number}

-- ---- what owners are; these speak of definitions alone

item_there : (xs : List ℕ) (k d : ℕ) → k < length xs → slice_get xs k ≡ Some (get_or xs k d)
item_there [] k d lt = absurd (omega (arith, lt))
item_there (x ∷ xs) zero d lt = refl
item_there (x ∷ xs) (suc k) d lt = item_there xs k d (omega (arith, lt))

-- a sig that owns an atom is the owner at some place of its top-level sig
pub owner_place : (model : Model) (scopes : Scopes) (s : ℕ) → does_own model.sigs scopes.numbers s ≡ true → (k : ℕ) × (owner_at model.sigs scopes.numbers (top_of model.sigs s) k ≡ Some s)
owner_place model scopes s owns =
    let (on, fit) = and_parts (is_constant model.sigs s) (fits model.sigs scopes.numbers (top_of model.sigs s)) owns in
    let (k, lt, e) = own_listed model.sigs s on in
    (k, ap (λ (xs : List ℕ). slice_get xs k) (fitting model.sigs scopes.numbers (top_of model.sigs s) fit) ∙ (item_there (constants model.sigs (top_of model.sigs s)) k s lt ∙ ap (λ (x : ℕ). Some x) e))

-- what a static `one sig` is that extends another
pub record IsSingle (d : Sig) : Type 0 where
  pub static : d.is_var ≡ false
  pub one : d.multiplicity ≡ One
  pub origin : is_some d.origin ≡ true
  pub child : (p : ℕ) × (d.kind ≡ Extends p)

one_word : (m : Multiplicity) → is_one m ≡ true → m ≡ One
one_word Set e = absurd (false≢true e)
one_word One e = refl
one_word Lone e = absurd (false≢true e)
one_word AtLeastOne e = absurd (false≢true e)

child_kind : (k : SigKind) → by_parent false (λ p. true) k ≡ true → (p : ℕ) × (k ≡ Extends p)
child_kind Top e = absurd (false≢true e)
child_kind (Extends p) e = (p, refl)
child_kind (Subset ps) e = absurd (false≢true e)

single_is : (d : Sig) → is_single d ≡ true → IsSingle d
single_is d on =
    let (most, child) = and_parts (not d.is_var && is_one d.multiplicity && is_some d.origin) (by_parent false (λ p. true) d.kind) on in
    let (some, origin) = and_parts (not d.is_var && is_one d.multiplicity) (is_some d.origin) most in
    let (static, one) = and_parts (not d.is_var) (is_one d.multiplicity) some in
    record { static = not-true d.is_var static; one = one_word d.multiplicity one; origin = origin; child = child_kind d.kind child }

-- an owner is there, a static `one sig` that extends another and that none extends
pub record IsOwner (model : Model) (top c : ℕ) (d : Sig) : Type 0 where
  pub there : slice_get model.sigs c ≡ Some d
  pub single : IsSingle d
  pub alone : is_extended model.sigs c ≡ false
  pub below : top_of model.sigs c ≡ top

constant_there : (o : Option Sig) → by_sig false is_single o ≡ true → (d : Sig) × (o ≡ Some d) × (is_single d ≡ true)
constant_there None e = absurd (false≢true e)
constant_there (Some d) e = (d, refl, e)

item_among : (xs : List ℕ) (k x : ℕ) → slice_get xs k ≡ Some x → Contains xs x
item_among [] k x e = cc
item_among (y ∷ xs) zero x e = let is : y ≡ x = cc in cons_here y xs x (sym is)
item_among (y ∷ xs) (suc k) x e = cons_later y xs x (item_among xs k x e)

pub listed_owner : (model : Model) (scopes : Scopes) (top k c : ℕ) (b : Bool) → fits model.sigs scopes.numbers top ≡ b → slice_get (if b then constants model.sigs top else []) k ≡ Some c → Contains (constants model.sigs top) c
listed_owner model scopes top k c true e at = item_among (constants model.sigs top) k c at
listed_owner model scopes top k c false e at = cc

pub owner_is : (model : Model) (scopes : Scopes) (top k c : ℕ) → owner_at model.sigs scopes.numbers top k ≡ Some c → (d : Sig) × IsOwner model top c d
owner_is model scopes top k c at =
    let listed = listed_owner model scopes top k c (fits model.sigs scopes.numbers top) refl at in
    let (constant, below) = and_parts (is_constant model.sigs c) (eqb (top_of model.sigs c) top) (listed_constant model.sigs top c listed) in
    let (there, alone) = and_parts (by_sig false is_single (slice_get model.sigs c)) (not (is_extended model.sigs c)) constant in
    let (d, get, single) = constant_there (slice_get model.sigs c) there in
    (d, record { there = get; single = single_is d single; alone = not-true (is_extended model.sigs c) alone; below = eqb-true (top_of model.sigs c) top below })

any_at : (p : Sig → Bool) (ds : List Sig) (k : ℕ) (d : Sig) → slice_get ds k ≡ Some d → p d ≡ true → list_any p ds ≡ true
any_at p [] k d get on = cc
any_at p (e ∷ ds) zero d get on = let is : e ≡ d = cc in ap (λ (b : Bool). b || list_any p ds) (ap p is ∙ on)
any_at p (e ∷ ds) (suc k) d get on = ap (λ (b : Bool). p e || b) (any_at p ds k d get on) ∙ or_true (p e)
  where
    or_true : (b : Bool) → (b || true) ≡ true
    or_true true = refl
    or_true false = refl

-- what lies under a sig that none extends is that sig
pub only_itself : (sigs : List Sig) (n s c : ℕ) → is_extended sigs c ≡ false → is_under sigs n s c ≡ true → s ≡ c
only_itself sigs zero s c none under = eqb-true s c under
only_itself sigs (suc n) s c none under = by_test (λ p h. only_itself sigs n p c none h) (eqb s c) refl under
  where
    by_kind : ((p : ℕ) → is_under sigs n p c ≡ true → p ≡ c) → (d : Sig) → slice_get sigs s ≡ Some d → (kind : SigKind) → d.kind ≡ kind → by_parent false (λ p. is_under sigs n p c) kind ≡ true → s ≡ c
    by_kind up d get Top e h = absurd (false≢true h)
    by_kind up d get (Subset ps) e h = absurd (false≢true h)
    by_kind up d get (Extends p) e h =
        let extends : does_extend c d ≡ true = ap (λ (k : SigKind). by_parent false (λ q. eqb q c) k) e ∙ eq-eqb p c (up p h) in
        absurd (false≢true (sym none ∙ any_at (does_extend c) sigs s d get extends))

    by_sig_there : ((p : ℕ) → is_under sigs n p c ≡ true → p ≡ c) → (o : Option Sig) → slice_get sigs s ≡ o → by_sig false (λ d. by_parent false (λ p. is_under sigs n p c) d.kind) o ≡ true → s ≡ c
    by_sig_there up None e h = absurd (false≢true h)
    by_sig_there up (Some d) e h = by_kind up d e d.kind refl h

    by_test : ((p : ℕ) → is_under sigs n p c ≡ true → p ≡ c) → (b : Bool) → eqb s c ≡ b → (if b then true else by_sig false (λ d. by_parent false (λ p. is_under sigs n p c) d.kind) (slice_get sigs s)) ≡ true → s ≡ c
    by_test up true e h = eqb-true s c e
    by_test up false e h = by_sig_there up (slice_get sigs s) refl h

-- a sig lies under itself
under_itself : (sigs : List Sig) (n s : ℕ) → is_under sigs n s s ≡ true
under_itself sigs zero s = eq-eqb s s refl
under_itself sigs (suc n) s = ap (λ (b : Bool). if b then true else by_sig false (λ d. by_parent false (λ p. is_under sigs n p s) d.kind) (slice_get sigs s)) (eq-eqb s s refl)

module _ (model : Model) (scopes : Scopes) (lasso : LassoValue) (typed : IsTypedLasso model scopes lasso) where
  -- an owner has an atom at each position, and no other: it is a `one sig`, and the declarations hold
  pub owner_one : (i top k c : ℕ) → owner_at model.sigs scopes.numbers top k ≡ Some c → (a : ℕ) × InRelation (world_of scopes lasso) c i (a ∷ []) × ((b : ℕ) → InRelation (world_of scopes lasso) c i (b ∷ []) → a ≡ b)
  owner_one i top k c at =
      let (d, owner) = owner_is model scopes top k c at in
      let said : HasMultiplicity One (λ t. InRelation (world_of scopes lasso) c i t) = subst (λ (m : Multiplicity). HasMultiplicity m (λ t. InRelation (world_of scopes lasso) c i t)) owner.single.one ((typed.declared i).sigs c d owner.there).multiplicity in
      let (t, has) = said.0 in
      let (a, is) = one_number model scopes lasso typed.fits typed.sets i c d t owner.there has in
      let held : InRelation (world_of scopes lasso) c i (a ∷ []) = subst (λ (u : List ℕ). InRelation (world_of scopes lasso) c i u) is has in
      (a, held, λ b other. let same : a ∷ [] ≡ b ∷ [] = said.1 (a ∷ []) (b ∷ []) held other in same_number a b same)
    where
      same_number : (x y : ℕ) → x ∷ [] ≡ y ∷ [] → x ≡ y
      same_number x y e = cc

  pub owner_column : (top k c a : ℕ) → owner_at model.sigs scopes.numbers top k ≡ Some c → InRelation (world_of scopes lasso) c 0 (a ∷ []) → HasColumn model scopes lasso (SigColumn c) a
  owner_column top k c a at held =
      let (d, owner) = owner_is model scopes top k c at in
      let (p, kind) = owner.single.child in
      (d, owner.there, inr (p, kind, owner.single.static), (0, held))

module _ (model : Model) (scopes : Scopes) (lasso : LassoValue) (typed : IsTypedLasso model scopes lasso) (atoms : ColumnsHaveAtoms) (one_atom : SigsOfOneAtom) (have : OwnersHave model scopes lasso) where
  owner_has : (top k c : ℕ) → owner_at model.sigs scopes.numbers top k ≡ Some c → (a : ℕ) × HasColumn model scopes lasso (SigColumn c) a × (a ≡ first_atom scopes.numbers top + k)
  owner_has top k c at =
      let (a, held, alone) = owner_one model scopes lasso typed 0 top k c at in
      (a, owner_column model scopes lasso typed top k c a at held, have top k c at 0 a held)

  nobody : (o : Option ℕ) (c : ℕ) → o ≡ None → o ≡ Some c → ⊥
  nobody o c e f = cc

  -- an atom without owner isn't had by a sig that owns one
  lacks : (s a : ℕ) → HasColumn model scopes lasso (SigColumn s) a → owner_of model.sigs scopes.numbers (top_of model.sigs s) a ≡ None → (b : Bool) → does_own model.sigs scopes.numbers s ≡ b → IsTrue (not b)
  lacks s a (d, get, stands, (i, has)) none false e = refl
  lacks s a (d, get, stands, (i, has)) none true e =
      let (k, at) = owner_place model scopes s e in
      let is : a ≡ first_atom scopes.numbers (top_of model.sigs s) + k = have (top_of model.sigs s) k s at i a has in
      let place : a - first_atom scopes.numbers (top_of model.sigs s) ≡ k = omega (arith, is) in
      absurd (nobody (owner_of model.sigs scopes.numbers (top_of model.sigs s) a) s none (ap (owner_at model.sigs scopes.numbers (top_of model.sigs s)) place ∙ at))

  -- the owner of an atom lies under each sig that has the atom
  under : (s a c : ℕ) → HasColumn model scopes lasso (SigColumn s) a → owner_of model.sigs scopes.numbers (top_of model.sigs s) a ≡ Some c → is_under model.sigs (length model.sigs) c s ≡ true
  under s a c has at =
      let (b, column, is) = owner_has (top_of model.sigs s) (a - first_atom scopes.numbers (top_of model.sigs s)) c at in
      let low = (atoms model scopes lasso typed s a has).0 in
      let same : b ≡ a = omega (arith, is, low) in
      let theirs : HasColumn model scopes lasso (SigColumn c) a = subst (HasColumn model scopes lasso (SigColumn c)) same column in
      elim (one_atom model scopes lasso typed a c s theirs has) [
        | inl below ↦ below
        | inr other ↦
            let (d, owner) = owner_is model scopes (top_of model.sigs s) (a - first_atom scopes.numbers (top_of model.sigs s)) c at in
            let it : s ≡ c = only_itself model.sigs (length model.sigs) s c owner.alone other in
            subst (λ (x : ℕ). is_under model.sigs (length model.sigs) c x ≡ true) (sym it) (under_itself model.sigs (length model.sigs) c)
      ]

  by_owner : (s a : ℕ) → HasColumn model scopes lasso (SigColumn s) a → (o : Option ℕ) → owner_of model.sigs scopes.numbers (top_of model.sigs s) a ≡ o → IsTrue (is_given model.sigs scopes.numbers o s)
  by_owner s a has None e = lacks s a has e (does_own model.sigs scopes.numbers s) refl
  by_owner s a has (Some c) e = under s a c has e

  column_given : (c : Column) (a : ℕ) → HasColumn model scopes lasso c a → InColumnTable model scopes c a
  column_given IntColumn a has = has
  column_given (SigColumn s) a has = record {
    atom = atoms model scopes lasso typed s a has;
    given = by_owner s a has (owner_of model.sigs scopes.numbers (top_of model.sigs s) a) refl;
  }

  pub row_given : (r : TypeRow) (t : List ℕ) → HasRow model scopes lasso r t → InRowTable model scopes r t
  row_given [] [] has = tt
  row_given (c ∷ r) (a ∷ t) has = (column_given c a has.0, row_given r t has.1)
  row_given [] (a ∷ t) has = elim has [ ]
  row_given (c ∷ r) [] has = elim has [ ]
