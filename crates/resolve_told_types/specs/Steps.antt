-- What a line and a type say of a sig by those of its parents alone, and which rows `univ` and
-- `iden` have, in order.
use Rattle.std.specs.Prelude.{◌≡◌, ℕ, ◌<◌, List, [], ◌∷◌, ◌++◌, length, map, take, Contains, Option, Some, None, slice_get}
use Rattle.std.specs.List.{flat_map}
use Rattle.core_tree.specs.declared.model.Sig.{Sig}
use Rattle.resolve_types.specs.Types.{Lines, Row}
use Rattle.resolve_types.specs.declared.columns.Columns.{Columns}
use Rattle.resolve_types.specs.declared.member.Member.{Member}
use Rattle.resolve_types.specs.declared.member.Member.TheVariants as member
use Rattle.resolve_hierarchy.specs.declared.sigs.Kind.{Kind}
use Rattle.resolve_hierarchy.specs.declared.sigs.Kind.TheVariants as kind
use Rattle.resolve_told_types.specs.Kinds.{kinds_of}

-- the line of sig s is itself, and then that of the sig that it extends
abbrev pub IsLineStep : Lines → ℕ → Kind → List ℕ → Type 0
IsLineStep lines s kind.Top line = line ≡ s ∷ []
IsLineStep lines s (kind.Extends t) line = (rest : List ℕ) × (slice_get lines t ≡ Some rest) × (0 < length rest) × (line ≡ s ∷ rest)
IsLineStep lines s (kind.Subset ms) line = line ≡ []

abbrev pub or_zero : Option ℕ → ℕ
or_zero None = 0
or_zero (Some n) = n

abbrev pub rank_at : List ℕ → ℕ → ℕ
rank_at ranks s = or_zero (slice_get ranks s)

abbrev pub rows_in : Option Columns → List Row
rows_in None = []
rows_in (Some c) = c.rows

abbrev pub rows_at : List Columns → ℕ → List Row
rows_at types s = rows_in (slice_get types s)

-- a parent gives the row: that of `Int`, or one of its type
abbrev pub Gives : List Columns → Member → Row → Type 0
Gives types member.Int row = row ≡ member.Int ∷ []
Gives types (member.Sig t) row = Contains (rows_at types t) row

-- one of the parents gives the row
abbrev pub IsGiven : List Columns → List Member → Row → Type 0
IsGiven types parents row = (m : Member) × Contains parents m × Gives types m row

-- a parent has a type, and a rank below this one
abbrev pub IsBefore : List Columns → List ℕ → ℕ → Member → Type 0
IsBefore types ranks rank member.Int = Unit {0}
IsBefore types ranks rank (member.Sig t) = (t < length types) × (rank_at ranks t < rank)

-- a parent comes before, and what it gives is among the rows
pub record IsInside (types : List Columns) (ranks : List ℕ) (rank : ℕ) (rows : List Row) (m : Member) : Type 0 where
  pub before : IsBefore types ranks rank m
  pub whole : (row : Row) → Gives types m row → Contains rows row

-- the rows are just those that the parents give, which come before
pub record IsUnion (types : List Columns) (ranks : List ℕ) (rank : ℕ) (parents : List Member) (rows : List Row) : Type 0 where
  pub each : (m : Member) → Contains parents m → IsInside types ranks rank rows m
  pub only : (row : Row) → Contains rows row → IsGiven types parents row

abbrev pub own_row : ℕ → Row
own_row s = member.Sig s ∷ []

-- the rows of sig s are itself, or of a subset sig those of its parents
abbrev pub AreRowsByParents : List Columns → List ℕ → ℕ → Kind → List Row → Type 0
AreRowsByParents types ranks s kind.Top rows = rows ≡ own_row s ∷ []
AreRowsByParents types ranks s (kind.Extends t) rows = rows ≡ own_row s ∷ []
AreRowsByParents types ranks s (kind.Subset parents) rows = IsUnion types ranks (rank_at ranks s) parents rows

pub record IsTypeStep (types : List Columns) (ranks : List ℕ) (s : ℕ) (d : Kind) (c : Columns) : Type 0 where
  pub columns : c.count ≡ 1
  pub rows : AreRowsByParents types ranks s d c.rows

-- the rows are those of the top-level sigs before number n
pub record AreTopsBefore (sigs : List Sig) (n : ℕ) (rows : List Row) : Type 0 where
  pub only : (row : Row) → Contains rows row → (s : ℕ) × (slice_get (kinds_of sigs) s ≡ Some kind.Top) × (row ≡ own_row s)
  pub every : (s : ℕ) → s < n → slice_get (kinds_of sigs) s ≡ Some kind.Top → Contains rows (own_row s)

-- the rows of all top-level sigs
abbrev pub AreTops : List Sig → List Row → Type 0
AreTops sigs rows = AreTopsBefore sigs (length sigs) rows

-- the first m rows are the first n and, of a top-level sig, its own
abbrev pub IsNextFront : ℕ → Kind → List Row → ℕ → ℕ → Type 0
IsNextFront s kind.Top rows n m = take m rows ≡ take n rows ++ own_row s ∷ []
IsNextFront s (kind.Extends t) rows n m = m ≡ n
IsNextFront s (kind.Subset parents) rows n m = m ≡ n

-- one row before each of the others
abbrev pub pairs_with : List Row → Row → List Row
pairs_with others row = map (λ other. row ++ other) others

-- each row with each, in order
abbrev pub pairs_of : List Row → List Row
pairs_of rows = flat_map (pairs_with rows) rows
