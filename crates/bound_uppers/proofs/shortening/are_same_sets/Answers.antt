use Rattle.std.proofs.Common.{◌≡◌, length, refl, arith}
use Rattle.bound_uppers.proofs.Lists.{same_by_get, same_set}
use Rattle.bound_uppers.proofs.shortening.are_same_sets.Goals as goal

pub returns : goal.returns
returns c =
    let columns : c.args.a.now.arity ≡ c.args.b.now.arity = grind (arith, c.arity.ensures.columns, c.arity-2.ensures.columns, c.if-arity.false) in
    let count : length c.args.a.now.tuples ≡ length c.args.b.now.tuples = grind (arith, c.len.ensures.count, c.len-else-arity.ensures.count, c.if-len.false) in
    let tuples = same_by_get c.args.a.now.tuples c.args.b.now.tuples count (λ k lt. c.loop-place.invariant k (omega (arith, c.loop-place-test.false, c.len-place-end.ensures.count))) in
    (λ _. same_set c.args.a.now c.args.b.now columns tuples, λ _. refl)
