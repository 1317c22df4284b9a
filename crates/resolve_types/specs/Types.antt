-- Types: where members meet, and which rows each operator makes.
use Rattle.std.specs.Prelude.{take, drop, reverse, length, min, ◌^◌, ℕ, ◌+◌, ◌-◌, ◌==◌, Bool, false, cond, List, [], ◌∷◌, ◌++◌, Option, Some, None, slice_get}
use Rattle.std.specs.List.{list_any, filter_map, flat_map}
use Rattle.std.specs.Option.{option_map, is_some}
use Rattle.resolve_types.specs.declared.member.Member.{Member}
use Rattle.resolve_types.specs.declared.member.Member.TheVariants as member
use Rattle.resolve_types.specs.declared.columns.Columns.{Columns}
use Rattle.resolve_types.specs.declared.rows.Way.{Way}
use Rattle.resolve_types.specs.declared.rows.Way.TheVariants as way

-- each sig with its ancestors, from itself up to its top-level sig
abbrev pub Lines : Type 0
Lines = List (List ℕ)

abbrev pub Row : Type 0
Row = List Member

abbrev pub stands_in : Option (List ℕ) → ℕ → Bool
stands_in None sig = false
stands_in (Some line) sig = list_any (λ u. u == sig) line

-- whether the second sig is the first or an ancestor of it
abbrev pub is_under : Lines → ℕ → ℕ → Bool
is_under lines sig above = stands_in (slice_get lines sig) above

-- the lower of the two, where one is the other or an ancestor of it
abbrev pub meet_of : Lines → Member → Member → Option Member
meet_of lines member.Int member.Int = Some member.Int
meet_of lines member.Int (member.Sig t) = None
meet_of lines (member.Sig s) member.Int = None
meet_of lines (member.Sig s) (member.Sig t) =
    cond (is_under lines s t) (Some (member.Sig s)) (cond (is_under lines t s) (Some (member.Sig t)) None)

-- what a test gives of each two items, in order
abbrev pub pairs : {X Y Z : Type 0} → (X → Y → Option Z) → List X → List Y → List Z
pairs f xs ys = flat_map (λ x. filter_map (f x) ys) xs

abbrev pub both_meet : Lines → Option Member → Option Member → Bool
both_meet lines (Some m) (Some n) = is_some (meet_of lines m n)
both_meet lines _ _ = false

-- whether the last member of the first row meets the first of the second
abbrev pub ends_meet : Lines → Row → Row → Bool
ends_meet lines a b = both_meet lines (slice_get a (length a - 1)) (slice_get b 0)

-- the row that two rows make in a join: without the last member of the first and the first of the second, which meet
abbrev pub joined : Lines → Row → Row → Option Row
joined lines a b = cond (ends_meet lines a b) (Some (take (length a - 1) a ++ drop 1 b)) None

-- a member before a row, where both are there
abbrev pub met_on : Option Member → Option Row → Option Row
met_on None row = None
met_on (Some m) row = option_map (λ r. m ∷ r) row

-- the meets of two rows of one length
abbrev pub met : Lines → Row → Row → Option Row
met lines [] [] = Some []
met lines (m ∷ a) (n ∷ b) = met_on (meet_of lines m n) (met lines a b)
met lines _ _ = None

-- the row with the meet of its first member and the one member of another, where they meet
abbrev pub restricted_first : Lines → Row → Row → Option Row
restricted_first lines (m ∷ []) (n ∷ rest) = option_map (λ k. k ∷ rest) (meet_of lines m n)
restricted_first lines _ _ = None

-- the same of its last member
abbrev pub restricted_last : Lines → Row → Row → Option Row
restricted_last lines row other = option_map reverse (restricted_first lines other (reverse row))

-- what each way makes of two rows
abbrev pub row_of : Lines → Way → Row → Row → Option Row
row_of lines way.Join a b = joined lines a b
row_of lines way.Product a b = Some (a ++ b)
row_of lines way.Meet a b = met lines a b
row_of lines way.First a b = restricted_first lines a b
row_of lines way.Last a b = restricted_last lines a b

-- how many columns two numbers of columns are together
abbrev pub together : ℕ → ℕ → ℕ
together a b = min (a + b) (2 ^ 32 - 1)

abbrev pub union_of : Columns → Columns → Columns
union_of a b = record { count = a.count; rows = a.rows ++ b.rows }

abbrev pub product_of : Lines → Columns → Columns → Columns
product_of lines a b = record { count = together a.count b.count; rows = pairs (row_of lines way.Product) a.rows b.rows }

abbrev pub join_of : Lines → Columns → Columns → Columns
join_of lines a b = record { count = together a.count b.count - 2; rows = pairs (row_of lines way.Join) a.rows b.rows }

abbrev pub meets_of : Lines → Columns → Columns → Columns
meets_of lines a b = record { count = a.count; rows = pairs (row_of lines way.Meet) a.rows b.rows }

abbrev pub left_restricted_of : Lines → Columns → Columns → Columns
left_restricted_of lines s a = record { count = a.count; rows = pairs (row_of lines way.First) s.rows a.rows }

abbrev pub right_restricted_of : Lines → Columns → Columns → Columns
right_restricted_of lines a s = record { count = a.count; rows = pairs (row_of lines way.Last) a.rows s.rows }
