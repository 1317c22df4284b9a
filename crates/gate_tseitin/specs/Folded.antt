-- Which gates have variables: those that are reached, but for the `and`s that are folded into another.
use Rattle.std.specs.Prelude.{◌≡◌, ◌≢◌, ◌+◌, ◌≤◌, ◌==◌, if◌then◌else◌, ℕ, Bool, true, false, List, [], ◌∷◌, All, length, slice_get, Some}
use Rattle.gate_trait.specs.declared.node.Node.{Node}
use Rattle.gate_trait.specs.declared.gate.Gate.{Gate}
use Rattle.gate_trait.specs.declared.gate.Gate.TheVariants.{Constant, Input, And, Or, Xor, Choose}
use Rattle.gate_trait.specs.NodeWords.{number_of, is_negated}
use Rattle.gate_tseitin.specs.Named.{marked}
use Rattle.gate_tseitin.specs.Reached.{Grows}

-- how many of one node are of gate k
abbrev pub one_of : ℕ → Node → ℕ
one_of k n = if number_of n == k then 1 else 0

-- how many nodes of a gate are of gate k
abbrev pub count_in : ℕ → Gate → ℕ
count_in k (Constant b) = 0
count_in k (Input w) = 0
count_in k (And a b) = one_of k a + one_of k b
count_in k (Or a b) = one_of k a + one_of k b
count_in k (Xor a b) = one_of k a + one_of k b
count_in k (Choose c a b) = one_of k c + one_of k a + one_of k b

-- how many nodes of the marked gates from number j on are of gate k
abbrev pub use_count : List Bool → ℕ → ℕ → List Gate → ℕ
use_count marks k j [] = 0
use_count marks k j (g ∷ gates) = (if marked marks j then count_in k g else 0) + use_count marks k (j + 1) gates

-- a node of the gate that is of gate k is an operand of an `and`, and isn't negated
abbrev pub IsInside : ℕ → Gate → Type 0
IsInside k (Constant b) = Unit {0}
IsInside k (Input w) = Unit {0}
IsInside k (And a b) = (number_of a ≡ k → is_negated a ≡ false) × (number_of b ≡ k → is_negated b ≡ false)
IsInside k (Or a b) = (number_of a ≢ k) × (number_of b ≢ k)
IsInside k (Xor a b) = (number_of a ≢ k) × (number_of b ≢ k)
IsInside k (Choose c a b) = (number_of c ≢ k) × (number_of a ≢ k) × (number_of b ≢ k)

-- Gate k may be folded into another, where the marked gates are those that are reached. It is an `and`. No more than one
-- node of reached gates is of it, that is an operand of an `and`, and isn't negated. Neither `sure` nor a root is of it.
pub record MayFold (gates : List Gate) (sure : Node) (roots : List Node) (marks : List Bool) (k : ℕ) : Type 0 where
  pub conjunction : (a : Node) × (b : Node) × (slice_get gates k ≡ Some (And a b))
  pub once : use_count marks k 0 gates ≤ 1
  pub inside : (i : ℕ) (g : Gate) → slice_get gates i ≡ Some g → marked marks i ≡ true → IsInside k g
  pub apart : number_of sure ≢ k
  pub aside : All (λ n. number_of n ≢ k) roots

-- a gate that is reached is kept or may be folded, and no other is kept
pub record AreKept (gates : List Gate) (sure : Node) (roots : List Node) (marks kept : List Bool) : Type 0 where
  pub each : length kept ≡ length gates
  pub reached : Grows kept marks
  pub others : (k : ℕ) → marked marks k ≡ true → marked kept k ≡ false → MayFold gates sure roots marks k
