-- On a lasso the declarations of a model hold at a position or don't.
use Rattle.std.specs.Prelude.{◌≡◌, ◌≢◌, ◌⊎◌, ℕ, ◌+◌, ◌<◌, Bool, true, false, List, [], ◌∷◌, Contains, length, Option, Some, None, IfSome, IsTrue, slice_get}
use Rattle.std.proofs.Common.{inl, inr, refl, sym, ap, subst, ◌∙◌}
use Rattle.std.proofs.lemmas.Bool.{false≢true}
use Rattle.std.proofs.lemmas.Option.{slice_get_within}
use Rattle.core_tree.specs.declared.model.Model.{Model}
use Rattle.core_tree.specs.declared.model.Sig.{Sig}
use Rattle.core_tree.specs.declared.model.SigKind.{SigKind}
use Rattle.core_tree.specs.declared.model.SigKind.TheVariants.{Top, Extends, Subset}
use Rattle.core_tree.specs.declared.model.Column.{Column}
use Rattle.core_tree.specs.declared.model.Column.TheVariants.{Sig as SigColumn, Int as IntColumn}
use Rattle.core_tree.specs.declared.model.Field.{Field}
use Rattle.core_tree.specs.declared.model.FieldBound.{FieldBound}
use Rattle.core_tree.specs.Trees.{term_of, claim_of}
use Rattle.core_tree.specs.Past.{no_depths, past_in, past_of, body_depths}
use Rattle.core_meaning.specs.World.{World}
use Rattle.core_meaning.specs.Operators.{Tuples, IsInside, HasMultiplicity}
use Rattle.core_meaning.specs.Meaning.{Bodies, no_names, InTerm, Holds, Fits}
use Rattle.core_meaning.specs.Declarations.{IsChild, this_is, InSig, InField, InValue, InColumn, IsPlaced, SigDeclared, FieldDeclared, Declares}
use Rattle.core_window.specs.Repeats.{uncounted, HasLoop}
use Rattle.core_decided.specs.Decided.{IsDecided, IsListed, this_depths, DeclaresFewPast}
use Rattle.core_decided.proofs.Listing.{decided_by, decided_not, decided_both, decided_if, decided_nat, some_is_none, listed_by, listed_over, listed_that, listed_below, decided_each, decided_in, option_cases, none_is_some, same_some, decided_option, decided_places}
use Rattle.core_decided.proofs.Cutting.{listed_after, listed_atoms}
use Rattle.core_decided.proofs.Combining.{listed_relation, listed_int, first_in, decided_inside, decided_multiplicity}
use Rattle.core_decided.proofs.Deciding.{Fine, FineBodies, atom_fine, nothing_fine, term_listed, fits_decided, holds_decided}

decided_true : (b : Bool) → IsDecided (IsTrue b)
decided_true true = inl refl
decided_true false = inr false≢true

decided_owner : (o p : Option ℕ) → IsDecided (o ≡ p)
decided_owner None None = inl refl
decided_owner None (Some n) = inr (none_is_some n)
decided_owner (Some m) None = inr (λ e. none_is_some m (sym e))
decided_owner (Some m) (Some n) = decided_by (λ e. ap {B = Option ℕ} Some e) (same_some m n) (decided_nat m n)

decided_if_some : {X : Type 0} (o : Option X) (P Q : X → Type 0) → IfSome o P → ((x : X) → P x → IsDecided (Q x)) → IsDecided (IfSome o Q)
decided_if_some None P Q p d = inl tt
decided_if_some (Some x) P Q p d = d x p

decided_kind : (k : SigKind) (p : ℕ) → IsDecided (k ≡ Extends p)
decided_kind Top p = inr (λ (e : Top ≡ Extends p). cc)
decided_kind (Extends q) p = decided_by (λ e. ap Extends e) (λ (e : Extends q ≡ Extends p). cc) (decided_nat q p)
decided_kind (Subset ps) p = inr (λ (e : Subset ps ≡ Extends p). cc)

decided_child : (sigs : List Sig) (p c : ℕ) → IsDecided (IsChild sigs p c)
decided_child sigs p c = one (option_cases (slice_get sigs c))
  where
    one : (slice_get sigs c ≡ None) ⊎ ((d : Sig) × (slice_get sigs c ≡ Some d)) → IsDecided (IsChild sigs p c)
    one (inl n) = inr (λ (d, e, k). none_is_some d (sym n ∙ e))
    one (inr (d, e)) = decided_by (λ k. (d, e, k)) (λ (o, f, k). subst (λ (v : Sig). v.kind ≡ Extends p) (same_some o d (sym f ∙ e)) k) (decided_kind d.kind p)

listed_children : (sigs : List Sig) (p : ℕ) → IsListed (IsChild sigs p)
listed_children sigs p =
    listed_by (λ c. (c < length sigs) × IsChild sigs p c) (IsChild sigs p) (λ c b. b.1) (λ c (d, e, k). (slice_get_within sigs c d e, (d, e, k)))
    (listed_that (λ c. c < length sigs) (IsChild sigs p) (listed_below (length sigs)) (λ c lt. decided_child sigs p c))

-- no tuple of one set with a first atom is in the other
decided_disjoint : (A B : Tuples) → IsListed A → IsListed B → IsDecided ((a : ℕ) (u : List ℕ) → A (a ∷ u) → B (a ∷ u) → ⊥)
decided_disjoint A B l m =
    decided_by (λ f a u k. f (a ∷ u) k a u refl) (λ f t k a u e b. f a u (subst A e k) b)
    (decided_each A (λ t. (a : ℕ) (u : List ℕ) → t ≡ a ∷ u → B (a ∷ u) → ⊥) l (λ t k. one t))
  where
    one : (t : List ℕ) → IsDecided ((a : ℕ) (u : List ℕ) → t ≡ a ∷ u → B (a ∷ u) → ⊥)
    one [] = inl (λ a u e. absurd (some_is_none a u e))
    one (x ∷ t) = decided_by (λ n a u e b. n (subst B (sym e) b)) (λ f b. f x t refl b) (decided_not (decided_in B m (x ∷ t)))

module _ (model : Model) (w : World) (some : HasLoop w.lasso) (bodies : Bodies) (bodies_fine : FineBodies w some bodies (body_depths model.bodies)) (i : ℕ) where
  sig_listed : (s : ℕ) → IsListed (InSig model w bodies i s)
  sig_listed s = listed_relation w s i

  atoms_listed : (s : ℕ) → IsListed (λ (a : ℕ). InSig model w bodies i s (a ∷ []))
  atoms_listed s = listed_atoms (InSig model w bodies i s) (sig_listed s)

  field_listed : (k : ℕ) → IsListed (InField model w bodies i k)
  field_listed k = listed_relation w (length model.sigs + k) i

  value_listed : (k a : ℕ) → IsListed (InValue model w bodies i k a)
  value_listed k a = listed_after (InField model w bodies i k) (field_listed k) (a ∷ [])

  column_listed : (c : Column) → IsListed (InColumn model w bodies i c)
  column_listed (SigColumn p) = sig_listed p
  column_listed IntColumn = listed_int w

  this_fine : (a : ℕ) → Fine w some (this_is a) this_depths
  this_fine a = atom_fine w some no_names no_depths 0 a (nothing_fine w some)

  decided_placed : (s : ℕ) (kind : SigKind) → IsDecided (IsPlaced model w bodies i s kind)
  decided_placed s Top = inl tt
  decided_placed s (Extends p) = decided_inside (InSig model w bodies i s) (InSig model w bodies i p) (sig_listed s) (sig_listed p)
  decided_placed s (Subset ps) =
      decided_inside (InSig model w bodies i s) (λ t. (c : Column) × Contains ps c × InColumn model w bodies i c t) (sig_listed s)
      (listed_over (Contains ps) (InColumn model w bodies i) (ps, λ c. ((λ k. k), (λ k. k))) (λ c k. column_listed c))

  decided_union : (s : ℕ) (d : Sig) → IsDecided (IsTrue d.is_abstract → (c : ℕ) → IsChild model.sigs s c → IsInside (InSig model w bodies i s) (λ t. (b : ℕ) × IsChild model.sigs s b × InSig model w bodies i b t))
  decided_union s d =
      let Union : Tuples = λ t. (b : ℕ) × IsChild model.sigs s b × InSig model w bodies i b t in
      decided_if (decided_true d.is_abstract) (decided_each (IsChild model.sigs s) (λ c. IsInside (InSig model w bodies i s) Union) (listed_children model.sigs s) (λ c k.
      decided_inside (InSig model w bodies i s) Union (sig_listed s) (listed_over (IsChild model.sigs s) (InSig model w bodies i) (listed_children model.sigs s) (λ b h. sig_listed b))))

  decided_apart : (s : ℕ) → IsDecided ((b c : ℕ) → IsChild model.sigs s b → IsChild model.sigs s c → b ≢ c → (t : List ℕ) → InSig model w bodies i b t → InSig model w bodies i c t → ⊥)
  decided_apart s =
      decided_by (λ f b c h k n t. f b h c k n t) (λ f b h c k n t. f b c h k n t)
      (decided_each (IsChild model.sigs s) (λ b. (c : ℕ) → IsChild model.sigs s c → b ≢ c → (t : List ℕ) → InSig model w bodies i b t → InSig model w bodies i c t → ⊥) (listed_children model.sigs s) (λ b h.
      decided_each (IsChild model.sigs s) (λ c. b ≢ c → (t : List ℕ) → InSig model w bodies i b t → InSig model w bodies i c t → ⊥) (listed_children model.sigs s) (λ c k.
      decided_if (decided_not (decided_nat b c)) (decided_each (InSig model w bodies i b) (λ t. InSig model w bodies i c t → ⊥) (sig_listed b) (λ t x. decided_not (decided_in (InSig model w bodies i c) (sig_listed c) t))))))

  decided_appended : (s : ℕ) (d : Sig) → IfSome d.appended (λ f. past_of (body_depths model.bodies) (claim_of f) this_depths < uncounted) → IsDecided (IfSome d.appended (λ f. (a : ℕ) → InSig model w bodies i s (a ∷ []) → Holds w bodies (claim_of f) (this_is a) i))
  decided_appended s d few =
      decided_if_some d.appended (λ f. past_of (body_depths model.bodies) (claim_of f) this_depths < uncounted) (λ f. (a : ℕ) → InSig model w bodies i s (a ∷ []) → Holds w bodies (claim_of f) (this_is a) i) few (λ f small.
      decided_each (λ a. InSig model w bodies i s (a ∷ [])) (λ a. Holds w bodies (claim_of f) (this_is a) i) (atoms_listed s) (λ a k.
      holds_decided w some bodies (body_depths model.bodies) bodies_fine (claim_of f) (this_is a) this_depths (this_fine a) small i))

  sig_decided : (s : ℕ) (d : Sig) → IfSome d.appended (λ f. past_of (body_depths model.bodies) (claim_of f) this_depths < uncounted) → IsDecided (SigDeclared model w bodies i s d)
  sig_decided s d few =
      decided_by
      (λ x. record { placed = x.0; abstract_union = x.1.0; disjoint = x.1.1.0; multiplicity = x.1.1.1.0; appended = x.1.1.1.1 })
      (λ x. (x.placed, (x.abstract_union, (x.disjoint, (x.multiplicity, x.appended)))))
      (decided_both (decided_placed s d.kind) (decided_both (decided_union s d) (decided_both (decided_apart s) (decided_both (decided_multiplicity d.multiplicity (InSig model w bodies i s) (sig_listed s)) (decided_appended s d few)))))

  -- what each atom of a sig is asked
  decided_atoms : (s : ℕ) (P : ℕ → Type 0) → ((a : ℕ) → IsDecided (P a)) → IsDecided ((a : ℕ) → InSig model w bodies i s (a ∷ []) → P a)
  decided_atoms s P d = decided_each (λ a. InSig model w bodies i s (a ∷ [])) P (atoms_listed s) (λ a k. d a)

  decided_owned : (k s : ℕ) → IsDecided (IsInside (InField model w bodies i k) (λ t. (a : ℕ) × (u : List ℕ) × (t ≡ a ∷ u) × InSig model w bodies i s (a ∷ [])))
  decided_owned k s =
      decided_each (InField model w bodies i k) (λ t. (a : ℕ) × (u : List ℕ) × (t ≡ a ∷ u) × InSig model w bodies i s (a ∷ [])) (field_listed k) (λ t x. first_in (InSig model w bodies i s) (sig_listed s) t)

  decided_values : (k s : ℕ) (d : FieldBound) → IsDecided (IsTrue d.disj_values → (a b : ℕ) → InSig model w bodies i s (a ∷ []) → InSig model w bodies i s (b ∷ []) → a ≢ b → (u : List ℕ) → InValue model w bodies i k a u → InValue model w bodies i k b u → ⊥)
  decided_values k s d =
      decided_if (decided_true d.disj_values)
      (decided_by (λ f a b x y n u. f a x b y n u) (λ f a x b y n u. f a b x y n u)
      (decided_atoms s (λ a. (b : ℕ) → InSig model w bodies i s (b ∷ []) → a ≢ b → (u : List ℕ) → InValue model w bodies i k a u → InValue model w bodies i k b u → ⊥) (λ a.
      decided_atoms s (λ b. a ≢ b → (u : List ℕ) → InValue model w bodies i k a u → InValue model w bodies i k b u → ⊥) (λ b.
      decided_if (decided_not (decided_nat a b)) (decided_each (InValue model w bodies i k a) (λ u. InValue model w bodies i k b u → ⊥) (value_listed k a) (λ u x. decided_not (decided_in (InValue model w bodies i k b) (value_listed k b) u)))))))

  -- what a field is asked with another of its sig
  abbrev Parted : ℕ → Field → FieldBound → ℕ → Field → Type 0
  Parted k f d m g =
      g.owner ≡ f.owner → (e : FieldBound) → g.declared ≡ Some e → (n : ℕ) → d.disj_list ≡ Some n → e.disj_list ≡ Some n → m ≢ k → (a : ℕ) (u : List ℕ) → InValue model w bodies i k a u → InValue model w bodies i m a u → ⊥

  decided_parted : (k : ℕ) (f : Field) (d : FieldBound) (m : ℕ) (g : Field) → IsDecided (Parted k f d m g)
  decided_parted k f d m g =
      let Disjoint : Type 0 = (a : ℕ) (u : List ℕ) → InValue model w bodies i k a u → InValue model w bodies i m a u → ⊥ in
      decided_if (decided_owner g.owner f.owner) (decided_option g.declared (λ e. (n : ℕ) → d.disj_list ≡ Some n → e.disj_list ≡ Some n → m ≢ k → Disjoint) (λ e x.
      decided_option d.disj_list (λ n. e.disj_list ≡ Some n → m ≢ k → Disjoint) (λ n y.
      decided_if (decided_owner e.disj_list (Some n)) (decided_if (decided_not (decided_nat m k)) (decided_disjoint (InField model w bodies i k) (InField model w bodies i m) (field_listed k) (field_listed m))))))

  field_decided : (k : ℕ) (f : Field) (s : ℕ) (d : FieldBound) → past_in (body_depths model.bodies) (term_of d.bound.expr) this_depths < uncounted → IsDecided (FieldDeclared model w bodies i k f s d)
  field_decided k f s d few =
      let bound = λ (a : ℕ). term_listed w some bodies (body_depths model.bodies) bodies_fine (term_of d.bound.expr) (this_is a) this_depths (this_fine a) few i in
      decided_by
      (λ x. record {
        owned = x.0;
        bounded = x.1.0;
        multiplicity = x.1.1.0;
        arrows = x.1.1.1.0;
        disj_values = x.1.1.1.1.0;
        disj_list = λ m g e at owner declared. x.1.1.1.1.1 m g at owner e declared;
      })
      (λ x. (x.owned, (x.bounded, (x.multiplicity, (x.arrows, (x.disj_values, λ m g at owner e declared. x.disj_list m g e at owner declared))))))
      (decided_both (decided_owned k s)
      (decided_both (decided_atoms s (λ a. IsInside (InValue model w bodies i k a) (InTerm w bodies (term_of d.bound.expr) (this_is a) i)) (λ a. decided_inside (InValue model w bodies i k a) (InTerm w bodies (term_of d.bound.expr) (this_is a) i) (value_listed k a) (bound a)))
      (decided_both (decided_atoms s (λ a. HasMultiplicity d.bound.multiplicity (InValue model w bodies i k a)) (λ a. decided_multiplicity d.bound.multiplicity (InValue model w bodies i k a) (value_listed k a)))
      (decided_both (decided_atoms s (λ a. Fits w bodies (term_of d.bound.expr) (this_is a) i (InValue model w bodies i k a))
      (λ a. fits_decided w some bodies (body_depths model.bodies) bodies_fine (term_of d.bound.expr) (this_is a) this_depths (this_fine a) few i (InValue model w bodies i k a) (value_listed k a)))
      (decided_both (decided_values k s d) (decided_places model.fields (Parted k f d) (λ m g at. decided_parted k f d m g)))))))

  pub declarations_decided : DeclaresFewPast model → IsDecided (Declares model w bodies i)
  declarations_decided few =
      decided_by
      (λ x. record { sigs = x.0; fields = λ k f s d at owner declared. x.1 k f at s owner d declared })
      (λ x. (x.sigs, λ k f at s owner d declared. x.fields k f s d at owner declared))
      (decided_both (decided_places model.sigs (SigDeclared model w bodies i) (λ s d at. sig_decided s d (few.facts s d at)))
      (decided_places model.fields (λ k f. (s : ℕ) → f.owner ≡ Some s → (d : FieldBound) → f.declared ≡ Some d → FieldDeclared model w bodies i k f s d) (λ k f at.
      decided_option f.owner (λ s. (d : FieldBound) → f.declared ≡ Some d → FieldDeclared model w bodies i k f s d) (λ s owner.
      decided_option f.declared (FieldDeclared model w bodies i k f s) (λ d declared. field_decided k f s d (few.bounds k f d at declared))))))
