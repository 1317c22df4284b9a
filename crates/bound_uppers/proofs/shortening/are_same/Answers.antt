use Rattle.std.proofs.Common.{◌≡◌, length, refl, arith}
use Rattle.bound_uppers.proofs.Lists.{same_by_get}
use Rattle.bound_uppers.proofs.shortening.are_same.Goals as goal

pub returns : goal.returns
returns c =
    let count : length c.args.a.now ≡ length c.args.b.now = grind (arith, c.len.ensures, c.len-2.ensures, c.if-len.false) in
    (λ _. same_by_get c.args.a.now c.args.b.now count (λ k lt. c.loop-relation.invariant k (omega (arith, c.loop-relation-test.false, c.len-relation-end.ensures))), λ _. refl)
