use Rattle.std.proofs.Common.{arith, ◌≤◌, ℕ, List, [], ◌∷◌, length, get_or, ap, refl, ◌∙◌, take_all}
use Rattle.std.specs.List.{list_any}
use Rattle.core_tuples.specs.Sets.{IsTurned, is_same}
use Rattle.core_tuples.proofs.JoinLaw.{turned_means}
use Rattle.core_tuples.proofs.JustLaw.{gathered_made}
use Rattle.core_tuples.proofs.joins.transpose.Goals as goal

pub returns : goal.returns
returns c =
    let a = c.args.a.now in
    let pairs = c.keyed-pairs.result.now in
    let over : length pairs ≤ c.loop-tuple.tuple-index = omega arith in
    gathered_made c.set_of.result 2 2 c.loop-tuple.all.items (IsTurned a) (λ p. list_any (λ s. p (get_or s 1 0 ∷ get_or s 0 0 ∷ [])) a.tuples)
    refl c.set_of.ensures.arity c.set_of.ensures.truth
    (λ t. c.loop-tuple.invariant.tests (λ y. is_same y t) ∙ ap (λ (xs : List (List ℕ)). list_any (λ s. is_same (get_or s 1 0 ∷ get_or s 0 0 ∷ []) t) xs) (take_all c.loop-tuple.tuple-index pairs over ∙ c.keyed-pairs.ensures.all))
    (λ t. turned_means a t c.keyed-pairs.ensures.set c.requires)
