-- Sums over choices of atoms, place by place.
use Rattle.std.specs.Prelude.{◌≡◌, ◌<◌, ◌+ℤ◌, ℕ, ℤ, pos, Bool, List, [], ◌∷◌, Option, Some, None, length, map, slice_get, Vec}
use Rattle.std.specs.declared.alloc.Global.{Global}
use Rattle.gate_trait.specs.declared.node.Node.{Node}
use Rattle.core_meaning.specs.Integers.{wrap, sum_of}
use Rattle.gate_integers.specs.Numbers.{signed}
use Rattle.gate_numbers.specs.Numbers.{where_true}
use Rattle.gate_temporal.specs.Rows.{row_value}
use Rattle.bmc_places.specs.declared.gathering.Choice.{Choice}

-- the integer of these bits, if there are any; else 0
abbrev pub signed_of : (Node → Bool) → Option (List Node) → ℤ
signed_of value None = pos 0
signed_of value (Some b) = signed value b

-- the integer of this number, if there is one; else 0
abbrev pub numbered : (Node → Bool) → List (List Node) → Option ℕ → ℤ
numbered value integers None = pos 0
numbered value integers (Some k) = signed_of value (slice_get integers k)

-- the integer that stands at a place of a row of numbers, if one does; else 0
abbrev pub integer_at : (Node → Bool) → List (List Node) → List ℕ → ℕ → ℤ
integer_at value integers row i = numbered value integers (slice_get row i)

-- a tuple, whether it counts, and its integer
pub record Leaf : Type 0 where
  pub tuple : List ℕ
  pub counts : Bool
  pub integer : ℤ

-- the choices at a place, each with its integer there
abbrev pub leaves_at : (Node → Bool) → List (List Node) → ℕ → List Choice → List (Vec ℕ Global) → List Leaf
leaves_at value integers i (c ∷ cs) (n ∷ ns) = record { tuple = c.tuple; counts = row_value value c.row i; integer = integer_at value integers n.items i } ∷ leaves_at value integers i cs ns
leaves_at value integers i cs ns = []

-- what they add
abbrev pub total_of : List Leaf → ℤ
total_of leaves = sum_of (map (λ l. where_true l.counts l.integer) leaves)

-- the integer is the wrapped sum of what the choices add at a place
abbrev pub AddsUp : ((ℕ → Bool) → Node → Bool) → ((ℕ → Bool) → Node → Bool) → List (List Node) → ℕ → List Choice → List (Vec ℕ Global) → ℕ → List Node → Type 0
AddsUp old new integers bits choices rows i s = (x : ℕ → Bool) → signed (new x) s ≡ wrap bits (total_of (leaves_at (old x) integers i choices rows))

-- at each of so many places stands the sum
abbrev pub AreSums : ((ℕ → Bool) → Node → Bool) → ((ℕ → Bool) → Node → Bool) → List (List Node) → List (List Node) → ℕ → List Choice → List (Vec ℕ Global) → ℕ → List ℕ → Type 0
AreSums old new before after bits choices rows many numbers =
    (i : ℕ) → i < many → (k : ℕ) × (slice_get numbers i ≡ Some k) × ((s : List Node) × (slice_get after k ≡ Some s) × (length s ≡ bits) × AddsUp old new before bits choices rows i s)

-- an integer of number b stands; where one of number a did, there is then one of number k: that and, where the node is true, the other
abbrev pub AddsTo : ((ℕ → Bool) → Node → Bool) → ((ℕ → Bool) → Node → Bool) → List (List Node) → List (List Node) → Node → ℕ → ℕ → ℕ → Type 0
AddsTo old new before after n a b k =
    (q : List Node) × (slice_get after b ≡ Some q)
    × ((p : List Node) → slice_get before a ≡ Some p
    → (s : List Node) × (slice_get after k ≡ Some s) × (length s ≡ length p) × ((x : ℕ → Bool) → signed (new x) s ≡ wrap (length p) (signed (old x) p +ℤ where_true (old x n) (signed (new x) q))))

-- the same of what stands at a place: the total and, where the row holds, what was made
abbrev pub SumsAt : ((ℕ → Bool) → Node → Bool) → ((ℕ → Bool) → Node → Bool) → List (List Node) → List (List Node) → List Node → List ℕ → List ℕ → ℕ → ℕ → Type 0
SumsAt old new before after row totals made i k =
    (o : ℕ) × (slice_get made i ≡ Some o) × (q : List Node) × (slice_get after o ≡ Some q)
    × ((m : ℕ) (p : List Node) → slice_get totals i ≡ Some m → slice_get before m ≡ Some p
    → (s : List Node) × (slice_get after k ≡ Some s) × (length s ≡ length p) × ((x : ℕ → Bool) → signed (new x) s ≡ wrap (length p) (signed (old x) p +ℤ where_true (row_value (old x) row i) (signed (new x) q))))

-- at each of so many places
abbrev pub AreAdded : ((ℕ → Bool) → Node → Bool) → ((ℕ → Bool) → Node → Bool) → List (List Node) → List (List Node) → List Node → List ℕ → List ℕ → ℕ → List ℕ → Type 0
AreAdded old new before after row totals made many numbers = (i : ℕ) → i < many → (k : ℕ) × (slice_get numbers i ≡ Some k) × SumsAt old new before after row totals made i k

-- an integer stands at each of so many places of each row of numbers
abbrev pub AllStand : List (List Node) → List (Vec ℕ Global) → ℕ → Type 0
AllStand integers rows many = (j : ℕ) (n : Vec ℕ Global) → slice_get rows j ≡ Some n → (i : ℕ) → i < many → (o : ℕ) × (slice_get n.items i ≡ Some o) × (q : List Node) × (slice_get integers o ≡ Some q)
