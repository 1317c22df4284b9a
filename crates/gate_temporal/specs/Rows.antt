-- Rows of nodes: a node for each place of a window.
-- The last places of the window are one round of the loop, which goes on for ever.
use Rattle.std.specs.Prelude.{ℕ, zero, suc, ◌+◌, ◌-◌, ◌%◌, nat_lt, if◌then◌else◌, Bool, true, false, List, [], ◌∷◌, length, IsTrue, ◌≡◌, ◌<◌}
use Rattle.gate_trait.specs.declared.node.Node.{Node}

-- the value at a place of the row, where the nodes have these values
abbrev pub row_value : (Node → Bool) → List Node → ℕ → Bool
row_value value [] k = false
row_value value (n ∷ row) zero = value n
row_value value (n ∷ row) (suc k) = row_value value row k

-- the place that has the truth of a position, where rounds begin at a place and have this length
abbrev pub folded : ℕ → ℕ → ℕ → ℕ
folded first round i = if nat_lt i (first + round) then i else first + (i - first) % round

-- whether the row is true at a position
abbrev pub is_at : (Node → Bool) → List Node → ℕ → ℕ → Bool
is_at value row first i = row_value value row (folded first (length row - first) i)

abbrev pub IsAt : (Node → Bool) → List Node → ℕ → ℕ → Type 0
IsAt value row first i = IsTrue (is_at value row first i)

-- just one of the first n is true: the one at place k
pub record IsOnlyOf (is : ℕ → Bool) (n k : ℕ) : Type 0 where
  pub inside : k < n
  pub here : is k ≡ true
  pub others : (j : ℕ) → j < n → is j ≡ true → j ≡ k

-- none of the first n is true
abbrev pub IsNoneOf : (ℕ → Bool) → ℕ → Type 0
IsNoneOf is n = (j : ℕ) → j < n → is j ≡ false

-- just the node at this place is true
abbrev pub IsOnly : (Node → Bool) → List Node → ℕ → Type 0
IsOnly value row k = IsOnlyOf (row_value value row) (length row) k
