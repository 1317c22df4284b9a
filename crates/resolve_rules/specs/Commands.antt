-- What commands name: `run` a predicate, `check` an assertion; of the root alone.
use Rattle.std.specs.Prelude.{◌≡◌, ℕ, ◌<◌, false, List, Some, slice_get}
use Rattle.base_types.specs.declared.place.Rule.{Rule}
use Rattle.base_types.specs.declared.place.Rule.TheVariants as rule
use Rattle.syntax_tree.specs.declared.expr.QualName.{QualName}
use Rattle.resolve_names.specs.declared.table.Decl.TheVariants as decl
use Rattle.resolve_names.specs.Visible.{Declaration, Sees, Leads, path_of, last_of}
use Rattle.resolve_rules.specs.Candidates.{Tables}

-- an assertion: the number of its instance, and its name
abbrev pub Assertion : Type 0
Assertion = ℕ × List ℕ

module _ (tables : Tables) where
  -- a visible predicate of that name, by its number
  abbrev pub IsRun : QualName → ℕ → Type 0
  IsRun name b = (d : Declaration) × Sees tables.scopes 0 name d × (d.1.what ≡ decl.Body b) × (tables.is_function b ≡ false)

  -- a visible assertion of that name, by its number; no assertion is private
  abbrev pub IsCheck : List Assertion → QualName → ℕ → Type 0
  IsCheck asserts name n =
      (a : Assertion) × (slice_get asserts n ≡ Some a) × Leads tables.scopes 0 name.is_own (path_of name.parts) a.0 × (a.1 ≡ last_of name.parts)

-- the rule that a command's name breaks where it names these: S40 where there is none, S41 where there are several
abbrev pub CommandBreaks : (ℕ → Type 0) → Rule → Type 0
CommandBreaks Named rule.UnknownName = (n : ℕ) → Named n → ⊥
CommandBreaks Named rule.Ambiguous = (m n : ℕ) × Named m × Named n × (m < n)
CommandBreaks Named _ = ⊥
