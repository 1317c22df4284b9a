-- Names with their columns, in the order in which they came into scope: a later one hides an
-- earlier one of its number.
use Rattle.std.specs.Prelude.{ℕ, List, [], ◌∷◌}
use Rattle.core_tree.specs.Columns.{Columns, no_columns, with_columns}
use Rattle.resolve_check.specs.declared.names.Named.{Named}

-- what names say over those that were there before
abbrev pub names_over : Columns → List Named → Columns
names_over before [] = before
names_over before (n ∷ ns) = names_over (with_columns before n.name n.columns) ns

abbrev pub names_of : List Named → Columns
names_of ns = names_over no_columns ns
