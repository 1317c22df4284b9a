-- What is tested of a model's fields, part by part.
use Rattle.std.specs.Prelude.{◌≡◌, ◌<◌, ℕ, List, Option, IfSome, IsSome, Some, None, slice_get}
use Rattle.core_tree.specs.declared.model.Field.{Field}
use Rattle.core_tree.specs.declared.model.Model.{Model}
use Rattle.core_tree.specs.declared.operators.Quantity.{Quantity}
use Rattle.core_tree.specs.declared.operators.Quantity.TheVariants.{Some as SomeOf}
use Rattle.core_tree.specs.Trees.{Term, Variables, term_of}
use Rattle.core_tree.specs.Types.{TypeRows, NameRows, with_rows}
use Rattle.resolve_type_check.specs.declared.names.NamedRows.{NamedRows}
use Rattle.resolve_type_check.specs.Names.{names_of}
use Rattle.bound_laws.specs.Placed.{IsTermBelow, IsKnownType, NamesAfter}

-- the fields before a place belong to sigs
abbrev pub AreOwnedBefore : List Field → ℕ → Type 0
AreOwnedBefore fields n = (g : ℕ) (f : Field) → g < n → slice_get fields g ≡ Some f → IsSome f.owner

-- the bound of a field, where it has one, calls no function, and names only sigs and fields below these numbers
abbrev pub IsBoundBelow : ℕ → ℕ → Field → Type 0
IsBoundBelow sigs limit f = IfSome f.declared (λ d. IsTermBelow sigs limit (term_of d.bound.expr))

module _ (model : Model) (known : ℕ) where
  -- the names under variables of which there are some, and under a name for an expression
  abbrev pub AreUnder : Quantity → Variables → NameRows → List NamedRows → Type 0
  AreUnder q vs names inner = (q ≡ SomeOf) × NamesAfter model known vs names (names_of inner)

  abbrev pub AreWith : ℕ → Term → NameRows → List NamedRows → Type 0
  AreWith x e names inner = (rows : TypeRows) × IsKnownType model known names e rows × (names_of inner ≡ with_rows names x rows)

-- what a formula places in names, where there are any
abbrev pub PlacesIn : Option (List NamedRows) → (NameRows → ℕ → ℕ → Type 0) → ℕ → ℕ → Type 0
PlacesIn None InNames known to = to ≡ known
PlacesIn (Some inner) InNames known to = InNames (names_of inner) known to
