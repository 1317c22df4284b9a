-- What single formulas of a declaration ask of a position.
use Rattle.std.specs.Prelude.{◌≡◌, ◌≢◌, ℕ, ◌<◌, List, [], ◌∷◌, length, Contains, All, Option, Some, None, IfSome, IsTrue, slice_get}
use Rattle.core_tree.specs.declared.model.Model.{Model}
use Rattle.core_tree.specs.declared.model.Sig.{Sig}
use Rattle.core_tree.specs.declared.model.Column.{Column}
use Rattle.core_tree.specs.declared.model.Field.{Field}
use Rattle.core_tree.specs.declared.model.FieldBound.{FieldBound}
use Rattle.core_tree.specs.declared.model.Bound.{Bound}
use Rattle.core_tree.specs.Trees.{term_of, claim_of}
use Rattle.core_meaning.specs.World.{World}
use Rattle.core_meaning.specs.Operators.{Tuples, IsInside, HasMultiplicity}
use Rattle.core_meaning.specs.Meaning.{InTerm, Holds, Fits}
use Rattle.core_meaning.specs.Called.{bodies_of}
use Rattle.core_meaning.specs.Declarations.{IsChild, this_is, InSig, InField, InValue, InColumn, SigDeclared}

-- the number of the leading `disj` list in which a field stands
abbrev pub list_in : Option FieldBound → Option ℕ
list_in (Some d) = d.disj_list
list_in None = None

-- two fields stand in one leading `disj` list of one sig
abbrev pub ShareList : Field → Field → Type 0
ShareList f g = (s n : ℕ) × (f.owner ≡ Some s) × (g.owner ≡ Some s) × (list_in f.declared ≡ Some n) × (list_in g.declared ≡ Some n)

-- each two elements of a list
abbrev pub Pairwise : {X : Type 0} → (X → X → Type 0) → List X → Type 0
Pairwise R [] = Unit {0}
Pairwise R (x ∷ xs) = All (R x) xs × Pairwise R xs

-- each element of a list, by its number, or those below n
abbrev pub EachOf : {X : Type 0} → List X → (ℕ → X → Type 0) → Type 0
EachOf {X} xs P = (k : ℕ) (x : X) → slice_get xs k ≡ Some x → P k x

abbrev pub EachBelow : {X : Type 0} → List X → ℕ → (ℕ → X → Type 0) → Type 0
EachBelow {X} xs n P = (k : ℕ) (x : X) → k < n → slice_get xs k ≡ Some x → P k x

module _ (model : Model) (w : World) (i : ℕ) where
  abbrev pub IsSigTuple : ℕ → Tuples
  IsSigTuple s = InSig model w (bodies_of w model.bodies) i s

  abbrev pub IsFieldTuple : ℕ → Tuples
  IsFieldTuple k = InField model w (bodies_of w model.bodies) i k

  abbrev pub IsValue : ℕ → ℕ → Tuples
  IsValue k a = InValue model w (bodies_of w model.bodies) i k a

  abbrev pub IsColumnTuple : Column → Tuples
  IsColumnTuple c = InColumn model w (bodies_of w model.bodies) i c

  -- t is in one of the columns
  abbrev pub IsInOne : List Column → Tuples
  IsInOne cs t = (c : Column) × Contains cs c × IsColumnTuple c t

  -- two columns have nothing in common
  abbrev pub AreApart : Column → Column → Type 0
  AreApart b c = (t : List ℕ) → IsColumnTuple b t → IsColumnTuple c t → ⊥

  -- an abstract sig with children is their union
  abbrev pub IsCovered : ℕ → Sig → Type 0
  IsCovered s d = IsTrue d.is_abstract → (c : ℕ) → IsChild model.sigs s c → IsInside (IsSigTuple s) (λ t. (b : ℕ) × IsChild model.sigs s b × IsSigTuple b t)

  -- the appended fact holds for each atom of the sig
  abbrev pub HasFact : ℕ → Sig → Type 0
  HasFact s d = IfSome d.appended (λ f. (a : ℕ) → IsSigTuple s (a ∷ []) → Holds w (bodies_of w model.bodies) (claim_of f) (this_is a) i)

  -- the declaration of a sig
  abbrev pub IsSigDeclared : ℕ → Sig → Type 0
  IsSigDeclared s d = SigDeclared model w (bodies_of w model.bodies) i s d

  -- each tuple of the field begins with an atom of the sig
  abbrev pub IsOwned : ℕ → ℕ → Type 0
  IsOwned k s = IsInside (IsFieldTuple k) (λ t. (a : ℕ) × (u : List ℕ) × (t ≡ a ∷ u) × IsSigTuple s (a ∷ []))

  -- what each atom of the sig has in the field lies in the bound, with its multiplicities
  abbrev pub IsBounded : ℕ → ℕ → Bound → Type 0
  IsBounded k s b = (a : ℕ) → IsSigTuple s (a ∷ []) → IsInside (IsValue k a) (InTerm w (bodies_of w model.bodies) (term_of b.expr) (this_is a) i) × HasMultiplicity b.multiplicity (IsValue k a) × Fits w (bodies_of w model.bodies) (term_of b.expr) (this_is a) i (IsValue k a)

  -- different atoms of the sig have disjoint values
  abbrev pub HasApartValues : ℕ → ℕ → Type 0
  HasApartValues k s = (a b : ℕ) → IsSigTuple s (a ∷ []) → IsSigTuple s (b ∷ []) → a ≢ b → (u : List ℕ) → IsValue k a u → IsValue k b u → ⊥

  -- the declaration of a field, apart from its leading `disj` list
  abbrev pub IsFieldDeclared : ℕ → ℕ → FieldBound → Type 0
  IsFieldDeclared k s d = IsOwned k s × IsBounded k s d.bound × (IsTrue d.disj_values → HasApartValues k s)

  abbrev pub IsAlone : ℕ → Field → Type 0
  IsAlone k f = (s : ℕ) (d : FieldBound) → f.owner ≡ Some s → f.declared ≡ Some d → IsFieldDeclared k s d

  -- two fields have no tuple in common
  abbrev pub HaveNoShared : ℕ → ℕ → Type 0
  HaveNoShared k m = (t : List ℕ) → IsFieldTuple k t → IsFieldTuple m t → ⊥

  -- nor has the field k one with a later field of its `disj` list
  abbrev pub IsApartFrom : ℕ → Field → ℕ → Field → Type 0
  IsApartFrom k f m g = k < m → ShareList f g → HaveNoShared k m

  abbrev pub IsFieldAsked : ℕ → Field → Type 0
  IsFieldAsked k f = IsAlone k f × EachOf model.fields (IsApartFrom k f)
