-- Kinds: what a column of a relation may have, and the tuples of rows of kinds.
use Rattle.std.specs.Prelude.{◌≡◌, ◌<◌, ◌≤◌, ◌^◌, ◌↔◌, ℕ, ◌+◌, ◌-◌, if◌then◌else◌, eqb, nat_lt, List, [], ◌∷◌, map, length, Contains, get_or}
use Rattle.core_tree.specs.declared.model.Sig.{Sig}
use Rattle.core_tree.specs.declared.model.Column.{Column}
use Rattle.core_tree.specs.declared.model.Column.TheVariants.{Sig as SigColumn, Int as IntColumn}
use Rattle.core_tree.specs.Types.{TypeRow, TypeRows, sig_rows}
use Rattle.core_meaning.specs.declared.scopes.SigScope.{SigScope}
use Rattle.core_meaning.specs.declared.scopes.Scopes.{Scopes}
use Rattle.core_tree.specs.Columns.{or_zero}
use Rattle.core_meaning.specs.Kept.{atoms_of_sig, atom_count, universe_size}
use Rattle.bound_owners.specs.Tops.{top_at}
use Rattle.bound_uppers.specs.declared.numbers.AtomRange.{AtomRange}
use Rattle.bound_uppers.specs.declared.numbers.AtomRanges.{AtomRanges}

-- the kind of the integers
abbrev pub integers_kind : ℕ
integers_kind = 4294967295

-- the kind of a column: of a sig the number of a sig as which it stands, as the top-level sig above it.
-- There are fewer sigs than the number before that of the integers
abbrev pub sig_kind : ℕ → ℕ
sig_kind top = if eqb top integers_kind then 4294967294 else top

abbrev pub kind_at : List ℕ → Column → ℕ
kind_at ups IntColumn = integers_kind
kind_at ups (SigColumn s) = sig_kind (top_at ups s)

abbrev pub row_kinds_of : List ℕ → TypeRow → List ℕ
row_kinds_of ups row = map (kind_at ups) row

abbrev pub rows_kinds_of : List ℕ → TypeRows → List (List ℕ)
rows_kinds_of ups rows = map (row_kinds_of ups) rows

-- the rows of kinds of a sig, going up at most so far
abbrev pub sig_kinds_of : List Sig → List ℕ → ℕ → ℕ → List (List ℕ)
sig_kinds_of sigs ups n s = rows_kinds_of ups (sig_rows sigs n s)

-- lists of the same rows
abbrev pub HasRows : List (List ℕ) → List (List ℕ) → Type 0
HasRows xs ys = (t : List ℕ) → Contains xs t ↔ Contains ys t

-- ---- the numbers of a kind

abbrev pub InSpan : AtomRange → ℕ → Type 0
InSpan span a = (span.first ≤ a) × (a < span.first + span.count)

abbrev pub no_span : AtomRange
no_span = record { first = 0; count = 0 }

abbrev pub span_at : AtomRanges → ℕ → AtomRange
span_at spans kind = if eqb kind integers_kind then spans.integers else get_or spans.sigs.items kind no_span

-- so many numbers from one on, as far as they are below a limit
abbrev pub span_in : ℕ → ℕ → ℕ → AtomRange
span_in limit first n = record { first = first; count = if nat_lt n (limit - first) then n else limit - first }

-- the numbers of each sig, where those of the first begin with this one
abbrev pub spans_from : ℕ → ℕ → List SigScope → List AtomRange
spans_from limit first [] = []
spans_from limit first (s ∷ ss) = span_in limit first (or_zero s.number) ∷ spans_from limit (first + atoms_of_sig s) ss

-- the spans are those of the scopes: of each sig its numbers that are in the universe, and the integers
pub record HasSpans (scopes : Scopes) (spans : AtomRanges) : Type 0 where
  pub few : length scopes.numbers < 4294967294
  pub most : universe_size scopes ≤ 16384
  pub sigs : spans.sigs.items ≡ spans_from (universe_size scopes) 0 scopes.numbers
  pub integers : spans.integers ≡ record { first = atom_count scopes.numbers; count = 2 ^ scopes.bits }
