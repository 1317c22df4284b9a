-- What scopes say of the sigs of a model, and of those that a command lists.
use Rattle.std.specs.Prelude.{◌≡◌, ℕ, ◌≤◌, Bool, true, false, List, Option, Some, None, IsSome, IfSome, slice_get}
use Rattle.core_tree.specs.declared.operators.Multiplicity.{Multiplicity}
use Rattle.core_tree.specs.declared.operators.Multiplicity.TheVariants.{Set, One, Lone, Some as AtLeastOne}
use Rattle.core_tree.specs.declared.model.Origin.{Origin}
use Rattle.core_tree.specs.declared.model.Sig.{Sig}
use Rattle.core_tree.specs.declared.model.SigKind.{SigKind}
use Rattle.core_tree.specs.declared.model.SigKind.TheVariants.{Top, Extends, Subset}
use Rattle.core_tree.specs.declared.model.ScopeEntry.{ScopeEntry}
use Rattle.core_tree.specs.declared.model.ScopeSubject.{ScopeSubject}
use Rattle.core_tree.specs.declared.model.ScopeSubject.TheVariants.{Sig as SigSubject, Int, Steps, Overall, Unknown}
use Rattle.core_meaning.specs.declared.scopes.SigScope.{SigScope}

-- each sig that isn't a subset of others has a number, and just the top-level ones are marked so
abbrev pub KeepsKind : SigKind → SigScope → Type 0
KeepsKind Top e = (e.top ≡ true) × IsSome e.number
KeepsKind (Extends p) e = (e.top ≡ false) × IsSome e.number
KeepsKind (Subset ps) e = e.top ≡ false

-- a static `one sig` has just one atom, and a static `lone sig` at most one
abbrev pub KeepsWord : Bool → Multiplicity → SigScope → Type 0
KeepsWord true word e = Unit {0}
KeepsWord false Set e = Unit {0}
KeepsWord false One e = (e.number ≡ Some 1) × (e.exact ≡ true)
KeepsWord false Lone e = IfSome e.number (λ n. n ≤ 1)
KeepsWord false AtLeastOne e = Unit {0}

-- the argument of an `exactly` parameter has its number exactly
abbrev pub KeepsExactly : Option Origin → SigScope → Type 0
KeepsExactly None e = Unit {0}
KeepsExactly (Some o) e = e.exact ≡ true

pub record IsSigScope (d : Sig) (e : SigScope) : Type 0 where
  pub kind : KeepsKind d.kind e
  pub word : KeepsWord d.is_var d.multiplicity e
  pub exactly : KeepsExactly d.exactly e

abbrev pub AreSigScopes : List Sig → List SigScope → Type 0
AreSigScopes sigs numbers = (k : ℕ) (d : Sig) → slice_get sigs k ≡ Some d → IfSome (slice_get numbers k) (IsSigScope d)

-- the number that is listed, exact where `exactly` stands
pub record HasEntry (entry : ScopeEntry) (e : SigScope) : Type 0 where
  pub number : e.number ≡ Some entry.number
  pub exact : entry.exactly ≡ true → e.exact ≡ true

-- a listed sig has its number, and no name is listed that isn't one sig
abbrev pub IsListedAs : List SigScope → ScopeEntry → ScopeSubject → Type 0
IsListedAs numbers entry (SigSubject s) = IfSome (slice_get numbers s) (HasEntry entry)
IsListedAs numbers entry Int = Unit {0}
IsListedAs numbers entry Steps = Unit {0}
IsListedAs numbers entry Overall = Unit {0}
IsListedAs numbers entry Unknown = ⊥

abbrev pub IsListed : List SigScope → ScopeEntry → Type 0
IsListed numbers entry = IsListedAs numbers entry entry.subject
