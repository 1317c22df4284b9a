-- Clauses of which none is empty.
use Rattle.std.proofs.Common.{◌≡◌, ℕ, ◌+◌, ◌<◌, ◌≤◌, ℤ, Bool, true, List, [], ◌∷◌, length, take, get_or, subst}
use Rattle.std.proofs.lemmas.List.{take_all}
use Rattle.std.proofs.lemmas.List.Elements.{All-more, All-nil}
use Rattle.sat_solver.specs.News.{AreAllFilled}

abbrev IsFilled : List ℤ → Type 0
IsFilled clause = 0 < length clause

pub filled_first : (clauses : List (List ℤ)) → AreAllFilled (take 0 clauses)
filled_first [] = All-nil IsFilled
filled_first (clause ∷ clauses) = All-nil IsFilled

pub filled_more : (clauses : List (List ℤ)) (k : ℕ) (clause : List ℤ) (b : Bool) → k < length clauses → clause ≡ get_or clauses k clause → AreAllFilled (take k clauses) → (b ≡ true → 0 < length clause) → b ≡ true → AreAllFilled (take (k + 1) clauses)
filled_more clauses k clause b lt is was says on = All-more IsFilled clauses k clause lt was (subst IsFilled is (says on))

pub filled_all : (clauses : List (List ℤ)) (k : ℕ) → length clauses ≤ k → AreAllFilled (take k clauses) → AreAllFilled clauses
filled_all clauses k le was = subst AreAllFilled (take_all k clauses le) was
