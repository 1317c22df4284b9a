-- The rows of a type, each once: sets of rows as lists, restriction, turning round, closure.
use Rattle.std.specs.Prelude.{ℕ, zero, suc, ◌==◌, Bool, true, false, cond, ◌&&◌, List, [], ◌∷◌, ◌++◌, length, reverse, map}
use Rattle.std.specs.List.{list_any}
use Rattle.resolve_types.specs.Types.{Lines, Row, pairs, row_of}
use Rattle.resolve_types.specs.declared.columns.Columns.{Columns}
use Rattle.resolve_types.specs.declared.member.Member.{Member}
use Rattle.resolve_types.specs.declared.member.Member.TheVariants as member
use Rattle.resolve_types.specs.declared.rows.Way.TheVariants as way

abbrev pub same_member : Member → Member → Bool
same_member member.Int member.Int = true
same_member member.Int (member.Sig t) = false
same_member (member.Sig s) member.Int = false
same_member (member.Sig s) (member.Sig t) = s == t

abbrev pub same_row : Row → Row → Bool
same_row [] [] = true
same_row [] (n ∷ b) = false
same_row (m ∷ a) [] = false
same_row (m ∷ a) (n ∷ b) = same_member m n && same_row a b

-- whether the row stands among the rows
abbrev pub has_row : List Row → Row → Bool
has_row rows row = list_any (λ r. same_row r row) rows

-- the rows, and the row behind them where it isn't among them
abbrev pub with_row : List Row → Row → List Row
with_row rows row = cond (has_row rows row) rows (rows ++ row ∷ [])

-- the rows, and behind them each further one where it first stands
abbrev pub added : List Row → List Row → List Row
added rows [] = rows
added rows (row ∷ more) = added (with_row rows row) more

-- the rows in their order, each where it first stands
abbrev pub without_repeats : List Row → List Row
without_repeats = added []

abbrev pub distinct : Columns → Columns
distinct c = record { count = c.count; rows = without_repeats c.rows }

abbrev pub of_two_columns : List Row → Columns
of_two_columns rows = record { count = 2; rows = rows }

abbrev pub transpose_of : Columns → Columns
transpose_of c = record { count = c.count; rows = map reverse c.rows }

-- the rows, and behind them the new ones that two of them make in a join
abbrev pub once_more : Lines → List Row → List Row
once_more lines rows = added rows (pairs (row_of lines way.Join) rows rows)

abbrev pub rounds : Lines → ℕ → List Row → List Row
rounds lines zero rows = rows
rounds lines (suc n) rows = rounds lines n (once_more lines rows)

-- Each round doubles the length of the walks that were joined, and a walk needs no row twice:
-- after as many rounds as there are rows nothing new comes.
abbrev pub closure_of : Lines → Columns → Columns
closure_of lines c = of_two_columns (rounds lines (length c.rows) (without_repeats c.rows))
