-- The types of a model's fields as their declarations say.
use Rattle.std.specs.Prelude.{◌↔◌, IfSome, Contains, All}
use Rattle.core_tree.specs.declared.model.Model.{Model}
use Rattle.core_tree.specs.declared.model.Field.{Field}
use Rattle.core_tree.specs.Types.{TypeRow}
use Rattle.core_tree.specs.Trees.{term_of}
use Rattle.core_tree.specs.Models.{declared_rows}

-- the rows of a field with an owner are those of its sig, each followed by a row of its bound
abbrev pub HasDeclaredRows : Model → Field → Type 0
HasDeclaredRows model f = IfSome f.owner (λ s. IfSome f.declared (λ d. (r : TypeRow) → Contains f.rows r ↔ Contains (declared_rows model s (term_of d.bound.expr)) r))

abbrev pub HasTypes : Model → Type 0
HasTypes model = All (HasDeclaredRows model) model.fields
