-- Counts of true nodes.
use Rattle.std.specs.Prelude.{◌≡◌, ℕ, ◌<◌, ◌&&◌, Bool, true, false, not, List, [], ◌∷◌, length, nat_lt, slice_index_or}
use Rattle.gate_trait.specs.declared.node.Node.{Node}
use Rattle.gate_trait.specs.Built.{xor}

-- each entry of the row says whether more nodes are true than its place's number, where c of them are
abbrev pub Tells : (Node → Bool) → List Node → ℕ → Type 0
Tells value row c = (j : ℕ) (d : Node) → j < length row → value (slice_index_or row j d) ≡ nat_lt j c

-- whether the truth values are the same, one by one
abbrev pub all_alike : List Bool → List Bool → Bool
all_alike [] [] = true
all_alike [] (c ∷ cs) = false
all_alike (b ∷ bs) [] = false
all_alike (b ∷ bs) (c ∷ cs) = not (xor b c) && all_alike bs cs
