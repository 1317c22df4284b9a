-- What the declarations of a model ask of a position.
use Rattle.std.specs.Prelude.{◌≡◌, ◌≢◌, ◌⊎◌, ℕ, ◌+◌, Bool, true, List, [], ◌∷◌, Contains, length, Option, Some, None, IfSome, IsTrue, slice_get}
use Rattle.core_tree.specs.declared.model.Model.{Model}
use Rattle.core_tree.specs.declared.model.Sig.{Sig}
use Rattle.core_tree.specs.declared.model.SigKind.{SigKind}
use Rattle.core_tree.specs.declared.model.SigKind.TheVariants.{Top, Extends, Subset}
use Rattle.core_tree.specs.declared.model.Column.{Column}
use Rattle.core_tree.specs.declared.model.Column.TheVariants.{Sig as SigColumn, Int as IntColumn}
use Rattle.core_tree.specs.declared.model.Field.{Field}
use Rattle.core_tree.specs.declared.model.FieldBound.{FieldBound}
use Rattle.core_tree.specs.Trees.{Term, term_of, claim_of}
use Rattle.core_meaning.specs.World.{World, InRelation, IsInteger}
use Rattle.core_meaning.specs.Operators.{Tuples, IsInside, HasMultiplicity}
use Rattle.core_meaning.specs.Meaning.{Names, Bodies, no_names, with_name, atom, InTerm, Holds, Fits}

-- the sig of number c extends the one of number p
abbrev pub IsChild : List Sig → ℕ → ℕ → Type 0
IsChild sigs p c = (d : Sig) × (slice_get sigs c ≡ Some d) × (d.kind ≡ Extends p)

-- `this` is an atom
abbrev pub this_is : ℕ → Names
this_is a = with_name no_names 0 (atom a)

module _ (model : Model) (w : World) (bodies : Bodies) (i : ℕ) where
  abbrev pub InSig : ℕ → Tuples
  InSig s t = InRelation w s i t

  abbrev pub InField : ℕ → Tuples
  InField f t = InRelation w (length model.sigs + f) i t

  -- what an atom has in a field
  abbrev pub InValue : ℕ → ℕ → Tuples
  InValue f a u = InField f (a ∷ u)

  -- t is in a parent
  abbrev pub InColumn : Column → Tuples
  InColumn (SigColumn p) t = InSig p t
  InColumn IntColumn t = (a : ℕ) × IsInteger w a × (t ≡ a ∷ [])

  -- where a sig lies: a child inside its parent, an `in` sig inside the union of its parents
  abbrev pub IsPlaced : ℕ → SigKind → Type 0
  IsPlaced s Top = Unit {0}
  IsPlaced s (Extends p) = IsInside (InSig s) (InSig p)
  IsPlaced s (Subset ps) = IsInside (InSig s) (λ t. (c : Column) × Contains ps c × InColumn c t)

  pub record SigDeclared (s : ℕ) (d : Sig) : Type 0 where
    pub placed : IsPlaced s d.kind
    -- an abstract sig with children is their union; without children `abstract` has no effect
    pub abstract_union : IsTrue d.is_abstract → (c : ℕ) → IsChild model.sigs s c → IsInside (InSig s) (λ t. (b : ℕ) × IsChild model.sigs s b × InSig b t)
    -- different children are disjoint
    pub disjoint : (b c : ℕ) → IsChild model.sigs s b → IsChild model.sigs s c → b ≢ c → (t : List ℕ) → InSig b t → InSig c t → ⊥
    pub multiplicity : HasMultiplicity d.multiplicity (InSig s)
    -- the appended fact holds for each atom of the sig
    pub appended : IfSome d.appended (λ f. (a : ℕ) → InSig s (a ∷ []) → Holds w bodies (claim_of f) (this_is a) i)

  -- a field k of sig s
  pub record FieldDeclared (k : ℕ) (f : Field) (s : ℕ) (d : FieldBound) : Type 0 where
    -- each tuple begins with an atom of the sig
    pub owned : IsInside (InField k) (λ t. (a : ℕ) × (u : List ℕ) × (t ≡ a ∷ u) × InSig s (a ∷ []))
    -- what each atom has lies in the bound and has its multiplicities
    pub bounded : (a : ℕ) → InSig s (a ∷ []) → IsInside (InValue k a) (InTerm w bodies (term_of d.bound.expr) (this_is a) i)
    pub multiplicity : (a : ℕ) → InSig s (a ∷ []) → HasMultiplicity d.bound.multiplicity (InValue k a)
    pub arrows : (a : ℕ) → InSig s (a ∷ []) → Fits w bodies (term_of d.bound.expr) (this_is a) i (InValue k a)
    -- `disj` after the colon: different atoms have disjoint values
    pub disj_values : IsTrue d.disj_values → (a b : ℕ) → InSig s (a ∷ []) → InSig s (b ∷ []) → a ≢ b → (u : List ℕ) → InValue k a u → InValue k b u → ⊥
    -- a leading `disj` list: at each atom its fields are disjoint
    pub disj_list : (m : ℕ) (g : Field) (e : FieldBound) → slice_get model.fields m ≡ Some g → g.owner ≡ f.owner → g.declared ≡ Some e → (n : ℕ) → d.disj_list ≡ Some n → e.disj_list ≡ Some n → m ≢ k → (a : ℕ) (u : List ℕ) → InValue k a u → InValue m a u → ⊥

  -- every declaration holds at the position; a field without owner is asked nothing
  pub record Declares : Type 0 where
    pub sigs : (s : ℕ) (d : Sig) → slice_get model.sigs s ≡ Some d → SigDeclared s d
    pub fields : (k : ℕ) (f : Field) (s : ℕ) (d : FieldBound) → slice_get model.fields k ≡ Some f → f.owner ≡ Some s → f.declared ≡ Some d → FieldDeclared k f s d
