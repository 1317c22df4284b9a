-- The partial assignment of a trail: which literals are true, and how their values are kept.
use Rattle.std.specs.Prelude.{ℕ, zero, suc, ◌<◌, ◌≤◌, ◌≡◌, ℤ, pos, negsuc, List, ◌⊎◌, length, take, slice_index, slice_index_or}
use Rattle.std.specs.List.{sum_by}
use Rattle.sat_trail.specs.Literal.{index, sign, IsLiteral}

-- the true literals in the order in which they were put, the value of each variable, and the level and the reason that it was
-- last given
pub record Assignment : Type 0 where
  pub trail : List ℤ
  pub values : List ℤ
  pub levels : List ℕ
  pub reasons : List ℕ

abbrev pub value_at : List ℤ → ℕ → ℤ
value_at values i = slice_index_or values i (pos 0)

-- 1 for a variable with a value
abbrev pub weight : ℤ → ℕ
weight (pos zero) = 0
weight (pos (suc n)) = 1
weight (negsuc n) = 1

-- the first so many literals are true, each at the place that its variable keeps, and no other variable has a value
pub record IsAssigned (trail : List ℤ) (len : ℕ) (values : List ℤ) (places : List ℕ) : Type 0 where
  pub same_places : length places ≡ length values
  pub same_trail : length trail ≡ length values
  pub fits : len ≤ length values
  pub literal : (j : ℕ) → j < len → IsLiteral (length values) (value_at trail j)
  pub value : (j : ℕ) → j < len → value_at values (index (value_at trail j)) ≡ sign (value_at trail j)
  pub place : (j : ℕ) → j < len → slice_index places (index (value_at trail j)) ≡ j
  pub only : (i : ℕ) → i < length values → (value_at values i ≡ pos 0) ⊎ ((slice_index places i < len) × (index (value_at trail (slice_index places i)) ≡ i))
  pub count : sum_by weight values ≡ len

abbrev pub assignment : List ℤ → ℕ → List ℤ → List ℕ → List ℕ → Assignment
assignment trail len values levels reasons = record { trail = take len trail; values = values; levels = levels; reasons = reasons }

-- the values tell each true literal, and no other variable has one
pub record IsTold (trail values : List ℤ) : Type 0 where
  pub value : (j : ℕ) → j < length trail → value_at values (index (value_at trail j)) ≡ sign (value_at trail j)
  pub only : (i : ℕ) → i < length values → (value_at values i ≡ pos 0) ⊎ ((j : ℕ) × (j < length trail) × (index (value_at trail j) ≡ i))
