-- Names with their types, the innermost first, and expressions that see them.
use Rattle.std.specs.Prelude.{ℕ, List, [], ◌∷◌}
use Rattle.core_tree.specs.declared.model.Model.{Model}
use Rattle.core_tree.specs.Trees.{Term, Variables, no_variables, more_variables}
use Rattle.core_tree.specs.Types.{TypeRows, NameRows, no_rows, with_rows, variable_rows, result_rows, type_of}
use Rattle.resolve_type_check.specs.declared.names.NamedRows.{NamedRows}
use Rattle.resolve_type_check.specs.Same.{SameRows}

abbrev pub names_of : List NamedRows → NameRows
names_of [] = no_rows
names_of (n ∷ ns) = with_rows (names_of ns) n.name n.rows

-- names that have the same rows
pub record SameNames (m n : NameRows) : Type 0 where
  pub at : (x : ℕ) → SameRows (m x) (n x)

-- the product of the types of variables' bounds
abbrev pub variable_types : Model → Variables → NameRows → TypeRows
variable_types model vs names = variable_rows model.sigs model.fields (result_rows model) vs names

-- the names behind variables
abbrev pub types_after : Model → Variables → NameRows → NameRows
types_after model no_variables names = names
types_after model (more_variables x apart e rest) names = types_after model rest (with_rows names x (type_of model e names))

-- the rows of an expression's type, under names that have the same rows
abbrev pub IsTypeOf : Model → Term → NameRows → TypeRows → Type 0
IsTypeOf model e names rows = (n : NameRows) → SameNames names n → SameRows rows (type_of model e n)

abbrev pub IsTypeOfVariables : Model → Variables → NameRows → TypeRows → Type 0
IsTypeOfVariables model vs names rows = (n : NameRows) → SameNames names n → SameRows rows (variable_types model vs n)
