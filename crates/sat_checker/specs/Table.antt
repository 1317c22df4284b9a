-- Clauses by their numbers, whose literals stand in one list.
use Rattle.std.specs.Prelude.{ℕ, ◌+◌, ◌-◌, ◌≤◌, ℤ, List, [], ◌∷◌, map, flat_map, take, drop, nat_eq, All, Option, IfSome}
use Rattle.std.specs.Map.{lookup}
use Rattle.sat_checker.specs.declared.table.Span.{Span}

-- the clause of a number
abbrev pub found : List (ℕ × List ℤ) → ℕ → Option (List ℤ)
found entries id = lookup (nat_eq id) entries

-- how many literals a span has
abbrev pub size_of : Span → ℕ
size_of span = span.end - span.first

-- the literals of a span
abbrev pub literals_at : List ℤ → Span → List ℤ
literals_at literals span = take (size_of span) (drop span.first literals)

-- the clauses of the numbers, by their spans
abbrev pub entries_of : List ℤ → List (ℕ × Span) → List (ℕ × List ℤ)
entries_of literals spans = map (λ (e : ℕ × Span). (e.0, literals_at literals e.1)) spans

-- a span lies within so many literals
abbrev pub IsWithin : ℕ → Span → Type 0
IsWithin n span = (span.first ≤ span.end) × (span.end ≤ n)

-- the span of each number does
abbrev pub AreWithin : ℕ → List (ℕ × Span) → Type 0
AreWithin n spans = (id : ℕ) → IfSome (lookup (nat_eq id) spans) (IsWithin n)

abbrev pub AllWithin : ℕ → List (ℕ × Span) → Type 0
AllWithin n spans = All (λ (e : ℕ × Span). IsWithin n e.1) spans

-- how many literals the spans have
abbrev pub total : List (ℕ × Span) → ℕ
total [] = 0
total (e ∷ spans) = size_of e.1 + total spans

-- the literals of the spans, one span behind another
abbrev pub joined : List ℤ → List (ℕ × Span) → List ℤ
joined literals spans = flat_map (λ (e : ℕ × Span). literals_at literals e.1) spans

-- a span from a place on, as long as another
abbrev pub span_from : ℕ → Span → Span
span_from n span = record { first = n; end = n + size_of span }

-- spans as long as these, one behind another from a place on
abbrev pub laid_from : ℕ → List (ℕ × Span) → List (ℕ × Span)
laid_from n [] = []
laid_from n (e ∷ spans) = (e.0, span_from n e.1) ∷ laid_from (n + size_of e.1) spans
