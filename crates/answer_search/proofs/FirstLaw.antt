-- A node before others.
use Rattle.std.proofs.Common.{◌≡◌, ℕ, ◌+◌, List, [], ◌∷◌, ◌++◌, take, Some, slice_get, ap, ◌∙◌, sym}
use Rattle.std.proofs.lemmas.List.{take_more}
use Rattle.std.proofs.lemmas.Option.{get_or_from_slice_get, slice_get_within}
use Rattle.gate_trait.specs.declared.node.Node.{Node}

pub first_more : (first node : Node) (rest nodes new : List Node) (k : ℕ) → slice_get rest k ≡ Some node → nodes ≡ first ∷ take k rest → new ≡ nodes ++ node ∷ [] → new ≡ first ∷ take (k + 1) rest
first_more first node rest nodes new k at before longer =
    let more = take_more rest k node (slice_get_within rest k node at) ∙ ap (λ (n : Node). take k rest ++ n ∷ []) (get_or_from_slice_get rest k node node at) in
    longer ∙ ap (λ (ns : List Node). ns ++ node ∷ []) before ∙ ap (λ (ns : List Node). first ∷ ns) (sym more)
