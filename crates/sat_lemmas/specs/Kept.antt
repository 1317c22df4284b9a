-- Which lines are kept of a list, and when those that are kept need no other.
use Rattle.std.specs.Prelude.{◌≡◌, ◌==◌, ℕ, ◌+◌, ◌-◌, Bool, true, false, not, ◌&&◌, List, [], ◌∷◌, Option, Some, None, nat_le, nat_lt, if◌then◌else◌, slice_index_or, ◌⊎◌}
use Rattle.std.specs.List.{list_all}
use Rattle.sat_lrat.specs.declared.line.Line.{Line}
use Rattle.sat_lrat.specs.declared.line.Line.TheVariants.{Lemma, Delete}
use Rattle.sat_lrat.specs.Step.{is_empty_lemma}

-- ---- marks

-- whether the line at a place is marked
abbrev pub is_marked : List Bool → ℕ → Bool
is_marked marks place = slice_index_or marks place false

-- ---- numbers, where the lemmas have those behind the clauses' in turn

-- the place of the line that has a number, unless that is a clause's
abbrev pub place_of : ℕ → ℕ → Option ℕ
place_of clauses number = if nat_le number clauses then None else Some (number - clauses - 1)

-- the line at a place is before another, and marked
abbrev pub is_kept_before : (ℕ → Bool) → ℕ → Option ℕ → Bool
is_kept_before marked place None = true
is_kept_before marked place (Some other) = nat_lt other place && marked other

-- a number that may be a hint at a place: that of a clause, or of a marked line before
abbrev pub is_known : ℕ → (ℕ → Bool) → ℕ → ℕ → Bool
is_known clauses marked place number = is_kept_before marked place (place_of clauses number)

-- it is the place of this line
abbrev pub is_place : ℕ → Option ℕ → Bool
is_place place None = false
is_place place (Some other) = other == place

-- ---- lines

-- a lemma that may be kept at a place: it has the number of the place, and its hints are known
abbrev pub may_stay : ℕ → (ℕ → Bool) → ℕ → Line → Bool
may_stay clauses marked place (Lemma id clause hints) = is_place place (place_of clauses id) && list_all (is_known clauses marked place) hints
may_stay clauses marked place (Delete ids) = false

-- a line that is marked may be kept, and one that isn't marked may be left out
abbrev pub is_right : ℕ → (ℕ → Bool) → ℕ → Line → Bool
is_right clauses marked place line = if marked place then may_stay clauses marked place line else not (is_empty_lemma line)

-- each line from a place on is so
abbrev pub are_right : ℕ → (ℕ → Bool) → ℕ → List Line → Bool
are_right clauses marked place [] = true
are_right clauses marked place (line ∷ lines) = is_right clauses marked place line && are_right clauses marked (place + 1) lines

-- the marked lines from a place on
abbrev pub kept : (ℕ → Bool) → ℕ → List Line → List Line
kept marked place [] = []
kept marked place (line ∷ lines) = if marked place then line ∷ kept marked (place + 1) lines else kept marked (place + 1) lines

-- the lines of the first list are among those of the second, in their order
abbrev pub ArePart : List Line → List Line → Type 0
ArePart [] lines = Unit {0}
ArePart (one ∷ ones) [] = ⊥
ArePart (one ∷ ones) (line ∷ lines) = ((one ≡ line) × ArePart ones lines) ⊎ ArePart (one ∷ ones) lines
