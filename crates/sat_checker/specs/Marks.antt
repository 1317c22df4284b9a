-- How the checker marks literals, and what it keeps of its marks.
use Rattle.std.specs.Prelude.{nat_abs, ℕ, ◌+◌, ◌*◌, ◌<◌, ◌≤◌, ◌==◌, ℤ, pos, negsuc, Bool, List, length, slice_index, All, Option, IfSome}

-- the place of a literal's mark
abbrev pub slot_of : ℤ → ℕ
slot_of (pos n) = 2 * n
slot_of (negsuc n) = 2 * n + 1

-- a literal is false where its mark is the present stamp
abbrev pub fails_by : ℕ → List ℕ → ℤ → Bool
fails_by stamp marks literal = slice_index marks (slot_of literal) == stamp

-- the literal and its negation have marks, of which there are n
pub record HasMarks (n : ℕ) (literal : ℤ) : Type 0 where
  pub nonzero : 0 < nat_abs literal
  pub room : 2 * nat_abs literal < n

abbrev pub IsCovered : ℕ → List ℤ → Type 0
IsCovered n clause = All (HasMarks n) clause

-- each clause that is found has marks
abbrev pub AreCovered : ℕ → (ℕ → Option (List ℤ)) → Type 0
AreCovered n clause_of = (number : ℕ) → IfSome (clause_of number) (IsCovered n)

-- no mark is later than the stamp
abbrev pub AreUpTo : ℕ → List ℕ → Type 0
AreUpTo stamp marks = (place : ℕ) → slice_index marks place ≤ stamp

-- no mark is the stamp, or later
abbrev pub AreBefore : ℕ → List ℕ → Type 0
AreBefore stamp marks = (place : ℕ) → slice_index marks place < stamp

-- what a checker keeps of its marks
pub record AreReady (clause_of : ℕ → Option (List ℤ)) (marks : List ℕ) (stamp : ℕ) : Type 0 where
  pub covered : AreCovered (length marks) clause_of
  pub up_to : AreUpTo stamp marks
