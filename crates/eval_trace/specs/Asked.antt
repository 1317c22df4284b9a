-- What the parts of the declarations ask of a setting at a position.
use Rattle.std.specs.Prelude.{◌≡◌, ◌≢◌, ◌<◌, ℕ, List, [], ◌∷◌, Contains, Option, Some, None, IfSome, MatchOption, IsTrue, slice_get}
use Rattle.core_tree.specs.declared.model.Sig.{Sig}
use Rattle.core_tree.specs.declared.model.Column.{Column}
use Rattle.core_tree.specs.declared.model.Field.{Field}
use Rattle.core_tree.specs.declared.model.FieldBound.{FieldBound}
use Rattle.core_tree.specs.declared.model.Bound.{Bound}
use Rattle.core_tree.specs.declared.tree.Formula.{Formula}
use Rattle.core_tree.specs.Trees.{term_of, claim_of, within}
use Rattle.core_meaning.specs.Operators.{Tuples, Times, IsInside, HasMultiplicity}
use Rattle.core_meaning.specs.Meaning.{Fits}
use Rattle.core_meaning.specs.Declarations.{IsChild, this_is, InSig, InField, InValue, InColumn, SigDeclared, FieldDeclared, Declares}
use Rattle.eval_context.specs.Settings.{SettingValue, world}
use Rattle.eval_steps.specs.Judged.{bodies, Means, HoldsIn, Again, value_term}

-- two fields of one `disj` list
abbrev pub IsListed : Field → Field → Type 0
IsListed f g = (g.owner ≡ f.owner) × (d e : FieldBound) × (n : ℕ) × (f.declared ≡ Some d) × (g.declared ≡ Some e) × (d.disj_list ≡ Some n) × (e.disj_list ≡ Some n)

module _ (s : SettingValue) (i : ℕ) where
  -- the members of a sig, the tuples of a field, and what an atom has in a field
  abbrev pub Members : ℕ → Tuples
  Members n t = InSig s.model (world s) (bodies s) i n t

  abbrev pub Entries : ℕ → Tuples
  Entries k t = InField s.model (world s) (bodies s) i k t

  abbrev pub Values : ℕ → ℕ → Tuples
  Values k a u = InValue s.model (world s) (bodies s) i k a u

  -- the members of a parent, and of some parents
  abbrev pub InParent : Column → Tuples
  InParent c t = InColumn s.model (world s) (bodies s) i c t

  abbrev pub InParents : List Column → Tuples
  InParents cs t = (c : Column) × Contains cs c × InParent c t

  -- the children of a sig share no member, and what they have together
  abbrev pub AreApart : ℕ → Type 0
  AreApart p = (b c : ℕ) → IsChild s.model.sigs p b → IsChild s.model.sigs p c → b ≢ c → (t : List ℕ) → Members b t → Members c t → ⊥

  abbrev pub InChildren : ℕ → Tuples
  InChildren p t = (b : ℕ) × IsChild s.model.sigs p b × Members b t

  -- a sig that is abstract is the union of its children, where it has any
  abbrev pub IsFilled : ℕ → Sig → Type 0
  IsFilled p d = IsTrue d.is_abstract → (c : ℕ) → IsChild s.model.sigs p c → IsInside (Members p) (InChildren p)

  -- a formula holds for each member of a sig as `this`
  abbrev pub HoldsForEach : ℕ → Formula → Type 0
  HoldsForEach n f = (a : ℕ) → Members n (a ∷ []) → HoldsIn s (claim_of f) (this_is a) i

  abbrev pub HasAppended : ℕ → Option Formula → Type 0
  HasAppended n o = IfSome o (λ f. HoldsForEach n f)

  -- what an atom has in a field lies in the bound and has its multiplicities
  abbrev pub IsBounded : ℕ → Bound → ℕ → Type 0
  IsBounded k b a = IsInside (Values k a) (Means s (term_of b.expr) (this_is a) i) × HasMultiplicity b.multiplicity (Values k a) × Fits (world s) (bodies s) (term_of b.expr) (this_is a) i (Values k a)

  abbrev pub AreBounded : ℕ → ℕ → Bound → Type 0
  AreBounded k n b = (a : ℕ) → Members n (a ∷ []) → IsBounded k b a

  -- each tuple of a field begins with a member of a sig
  abbrev pub IsOwned : ℕ → ℕ → Type 0
  IsOwned k n = IsInside (Entries k) (λ t. (a : ℕ) × (u : List ℕ) × (t ≡ a ∷ u) × Members n (a ∷ []))

  -- different members of a sig have nothing in common in a field
  abbrev pub AreDifferent : ℕ → ℕ → Type 0
  AreDifferent k n = (a b : ℕ) → Members n (a ∷ []) → Members n (b ∷ []) → a ≢ b → (u : List ℕ) → Values k a u → Values k b u → ⊥

  -- no atom has a value in a field and in another of its `disj` list
  abbrev pub IsAlone : ℕ → Field → Type 0
  IsAlone k f = (m : ℕ) (g : Field) → slice_get s.model.fields m ≡ Some g → IsListed f g → m ≢ k → (a : ℕ) (u : List ℕ) → Values k a u → Values m a u → ⊥

  -- what is asked of a sig, of a field, and of all
  abbrev pub SigIs : ℕ → Sig → Type 0
  SigIs n d = SigDeclared s.model (world s) (bodies s) i n d

  abbrev pub FieldIs : ℕ → Field → Type 0
  FieldIs k f = (n : ℕ) (d : FieldBound) → f.owner ≡ Some n → f.declared ≡ Some d → FieldDeclared s.model (world s) (bodies s) i k f n d

  abbrev pub SigsAre : Type 0
  SigsAre = (n : ℕ) (d : Sig) → slice_get s.model.sigs n ≡ Some d → SigIs n d

  abbrev pub FieldsAre : Type 0
  FieldsAre = (k : ℕ) (f : Field) → slice_get s.model.fields k ≡ Some f → FieldIs k f

  abbrev pub AllAre : Type 0
  AllAre = Declares s.model (world s) (bodies s) i

module _ (s : SettingValue) where
  -- from how many rounds of the loop on an appended fact and a bound have the same truth in each round
  abbrev pub FactRepeats : Option Formula → ℕ → Type 0
  FactRepeats o n = IfSome o (λ f. (a : ℕ) → Again s (claim_of f) (this_is a) n)

  abbrev pub BoundRepeats : Option FieldBound → ℕ → Type 0
  BoundRepeats o n = IfSome o (λ (d : FieldBound). (a k : ℕ) → Again s (within (value_term k) d.bound.multiplicity (term_of d.bound.expr)) (this_is a) n)

  -- the same of those of a sig and of a field
  abbrev pub SigRepeats : ℕ → ℕ → Type 0
  SigRepeats k n = (d : Sig) → slice_get s.model.sigs k ≡ Some d → FactRepeats d.appended n

  abbrev pub FieldRepeats : ℕ → ℕ → Type 0
  FieldRepeats k n = (f : Field) → slice_get s.model.fields k ≡ Some f → BoundRepeats f.declared n

  abbrev pub AllRepeat : ℕ → Type 0
  AllRepeat n = ((k : ℕ) → SigRepeats k n) × ((k : ℕ) → FieldRepeats k n)

-- the number of the `disj` list in what a field's text says
abbrev pub ListIs : Option FieldBound → Option ℕ → Type 0
ListIs None o = o ≡ None
ListIs (Some d) o = o ≡ d.disj_list

-- none where something holds at each position, else the first position where it doesn't
abbrev pub IsFirstWithout : Times → Option ℕ → Type 0
IsFirstWithout P o = MatchOption o ((i : ℕ) → P i) (λ p. (¬ P p) × ((i : ℕ) → i < p → P i))
