-- How many variables a table has whose relations have all tuples of the top-level sigs of their types.
use Rattle.std.specs.Prelude.{◌≡◌, ◌<◌, ◌≤◌, ◌^◌, ℕ, min, zero, suc, ◌+◌, ◌-◌, ◌*◌, Bool, true, false, if◌then◌else◌, eqb, nat_lt, List, [], ◌∷◌, length, map, fold, sum_by, is_some, slice_get, ⊤}
use Rattle.base_types.specs.declared.fault.Fault.{Fault}
use Rattle.base_types.specs.declared.fault.Fault.TheVariants.{Refused, Memory}
use Rattle.base_types.specs.declared.place.Position.{Position}
use Rattle.base_types.specs.declared.place.Rule.TheVariants.{Cells}
use Rattle.core_tuples.specs.Merged.{has}
use Rattle.core_tree.specs.declared.model.Model.{Model}
use Rattle.core_tree.specs.declared.model.Sig.{Sig}
use Rattle.core_tree.specs.declared.model.Field.{Field}
use Rattle.core_tree.specs.declared.model.Column.{Column}
use Rattle.core_tree.specs.declared.model.Column.TheVariants.{Sig as SigColumn, Int as IntColumn}
use Rattle.core_tree.specs.Types.{TypeRows, by_parent, by_sig, sig_rows}
use Rattle.core_meaning.specs.declared.scopes.Scopes.{Scopes}
use Rattle.core_meaning.specs.Kept.{first_atom, or_zero_number, universe_size}
use Rattle.bound_owners.specs.Own.{top_of}
use Rattle.bound_uppers.specs.declared.numbers.AtomRanges.{AtomRanges}
use Rattle.bound_uppers.specs.Kinds.{integers_kind, sig_kind, span_at}

-- ---- rows

-- of rows that are equal only the last one
abbrev pub distinct : List (List ℕ) → List (List ℕ)
distinct [] = []
distinct (r ∷ rs) = if has rs r then distinct rs else r ∷ distinct rs

-- how many tuples a row has, where a kind has so many numbers: the product over its columns
abbrev pub row_count : (ℕ → ℕ) → List ℕ → ℕ
row_count count row = fold (λ n k. n * count k) 1 row

-- how many different rows have together
abbrev pub rows_count : (ℕ → ℕ) → List (List ℕ) → ℕ
rows_count count rows = sum_by (row_count count) rows

-- how many atoms the scopes give a sig: so many as its scope says, as far as the universe has them behind the atoms of the sigs before it
abbrev pub atoms_given : Scopes → ℕ → ℕ
atoms_given scopes s = min (or_zero_number (slice_get scopes.numbers s)) (universe_size scopes - first_atom scopes.numbers s)

-- how many numbers a kind has
abbrev pub kind_count : Scopes → ℕ → ℕ
kind_count scopes kind = if eqb kind integers_kind then 2 ^ scopes.bits else atoms_given scopes kind

-- how many states a lasso has: one at least
abbrev pub states_in : Scopes → ℕ
states_in scopes = if eqb scopes.states 0 then 1 else scopes.states

-- a literal's sig, one of those that follow `String`
abbrev pub is_literal : Sig → Bool
is_literal d = if is_some d.origin then false else by_parent {X = Bool} false (λ p. true) d.kind

-- a relation that stays has a variable for each of its tuples, one that is `var` has one at each state
abbrev pub over_states : Scopes → Bool → ℕ → ℕ
over_states scopes is_var n = if is_var then n * states_in scopes else n

-- ---- relations

module _ (sigs : List Sig) where
  -- the kind of a column by the top-level sig above it
  abbrev pub top_kind : Column → ℕ
  top_kind IntColumn = integers_kind
  top_kind (SigColumn s) = sig_kind (top_of sigs s)

  abbrev pub top_rows : TypeRows → List (List ℕ)
  top_rows rows = map (map top_kind) rows

  module _ (scopes : Scopes) where
    -- how many tuples a type has
    abbrev pub type_count : TypeRows → ℕ
    type_count rows = rows_count (kind_count scopes) (distinct (top_rows rows))

    -- a sig has the tuples of its type, and a literal's sig its one atom
    abbrev pub sig_count : ℕ → Sig → ℕ
    sig_count s d = over_states scopes d.is_var (if is_literal d then 1 else type_count (sig_rows sigs (length sigs) s))

    abbrev pub field_count : Field → ℕ
    field_count f = over_states scopes f.is_var (type_count f.rows)

    -- the first n sigs together
    abbrev pub sigs_count : ℕ → ℕ
    sigs_count zero = 0
    sigs_count (suc n) = sigs_count n + by_sig 0 (sig_count n) (slice_get sigs n)

-- ---- the table

-- one for each state at which the loop may begin, where there are several
abbrev pub loops_in : Scopes → ℕ
loops_in scopes = if nat_lt 1 (states_in scopes) then states_in scopes else 0

-- the variables of all relations, and those that say where the loop begins
abbrev pub table_size : Model → Scopes → ℕ
table_size model scopes = sigs_count model.sigs scopes (length model.sigs) + sum_by (field_count model.sigs scopes) model.fields + loops_in scopes

-- the most that a table has (Cells, S67)
abbrev pub most_cells : ℕ
most_cells = 1000000

abbrev pub IsLarge : Model → Scopes → Type 0
IsLarge model scopes = most_cells < table_size model scopes

abbrev pub IsSmall : Model → Scopes → Type 0
IsSmall model scopes = table_size model scopes ≤ most_cells

-- a refusal is one by S67 at this place, of a table that is too large
abbrev pub IsOfLarge : Model → Scopes → Position → Fault → Type 0
IsOfLarge model scopes keyword (Refused refusal) = (refusal ≡ record { rule = Cells; place = keyword }) × IsLarge model scopes
IsOfLarge model scopes keyword Memory = ⊤

-- ---- numbers as they are kept

-- a number, or the greatest one of 64 bits where there are more
abbrev pub capped : ℕ → ℕ
capped n = min n 18446744073709551615

abbrev pub span_count : AtomRanges → ℕ → ℕ
span_count spans kind = (span_at spans kind).count
