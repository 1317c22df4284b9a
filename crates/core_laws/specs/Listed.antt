-- Lists without repeats.
use Rattle.std.specs.Prelude.{List, [], ◌∷◌, Contains}

-- no member of the list stands in it again
abbrev pub AreOnce : {X : Type 0} → List X → Type 0
AreOnce [] = Unit {0}
AreOnce (x ∷ xs) = (¬ Contains xs x) × AreOnce xs
