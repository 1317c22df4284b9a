-- The join of two sets.
use Rattle.std.specs.Prelude.{◌≡◌, ◌-◌, ◌==◌, ◌&&◌, ◌++◌, ◌∷◌, [], ℕ, Bool, true, List, length, take, drop, slice_index}
use Rattle.std.specs.List.{list_any}
use Rattle.gate_trait.specs.declared.node.Node.{Node}
use Rattle.core_tuples.specs.Sets.{is_same}
use Rattle.gate_matrix.specs.declared.entry.Entry.{Entry}
use Rattle.gate_matrix.specs.Matrices.{MatrixEntries, truth}

-- the first number of an entry's tuple
abbrev pub first_of : Entry → ℕ
first_of e = slice_index e.tuple 0

-- a tuple's last number, and the numbers before it
abbrev pub last_of : List ℕ → ℕ
last_of t = slice_index t (length t - 1)

abbrev pub front_of : List ℕ → List ℕ
front_of t = take (length t - 1) t

-- whether an entry and one that begins with its last number make the tuple, and both are true
abbrev pub has_join : (Node → Bool) → List Entry → List Entry → List ℕ → Bool
has_join value left right t =
    list_any (λ e. list_any (λ f. (first_of f == last_of e.tuple) && (is_same (front_of e.tuple ++ drop 1 f.tuple) t && (value e.node && value f.node))) right) left

-- the tuple is `s ++ u`, where `s ++ c` is in the first set and `c ++ u` in the second
pub record IsJoined (value : Node → Bool) (a b : MatrixEntries) (t : List ℕ) : Type 0 where
  pub s : List ℕ
  pub u : List ℕ
  pub c : ℕ
  pub is : t ≡ s ++ u
  pub left : truth value a (s ++ c ∷ []) ≡ true
  pub right : truth value b (c ∷ u) ≡ true

-- whether the tuple is one of the first set followed by one of the second, and both are true
abbrev pub has_pair : (Node → Bool) → List Entry → List Entry → List ℕ → Bool
has_pair value left right t = list_any (λ e. list_any (λ f. is_same (e.tuple ++ f.tuple) t && (value e.node && value f.node)) right) left

-- the tuple is one of the first set followed by one of the second
pub record IsPaired (value : Node → Bool) (a b : MatrixEntries) (t : List ℕ) : Type 0 where
  pub s : List ℕ
  pub u : List ℕ
  pub is : t ≡ s ++ u
  pub left : truth value a s ≡ true
  pub right : truth value b u ≡ true

-- the tuple is a pair of the set, turned round
pub record IsTurned (value : Node → Bool) (a : MatrixEntries) (t : List ℕ) : Type 0 where
  pub x : ℕ
  pub y : ℕ
  pub is : t ≡ y ∷ x ∷ []
  pub there : truth value a (x ∷ y ∷ []) ≡ true

-- whether the tuple is a pair of the set, turned round, that is true
abbrev pub has_turned : (Node → Bool) → List Entry → List ℕ → Bool
has_turned value es t = list_any (λ e. is_same (slice_index e.tuple 1 ∷ slice_index e.tuple 0 ∷ []) t && value e.node) es
