-- A row of a type as the model has it.
use Rattle.std.specs.Prelude.{List, map}
use Rattle.core_tree.specs.declared.model.Column.{Column}
use Rattle.core_tree.specs.declared.model.Column.TheVariants as column
use Rattle.resolve_types.specs.declared.member.Member.{Member}
use Rattle.resolve_types.specs.declared.member.Member.TheVariants as member

abbrev pub column_of : Member → Column
column_of member.Int = column.Int
column_of (member.Sig s) = column.Sig s

abbrev pub row_of : List Member → List Column
row_of ms = map column_of ms
