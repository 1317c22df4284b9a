use Rattle.std.proofs.Common.{arith, ◌≡◌, ◌+◌, ◌-◌, ◌/◌, ap, ◌∙◌, List, ℕ, get_or}
use Rattle.core_tuples.proofs.RangeLaw.{below_here, above_here}
use Rattle.core_tuples.proofs.joins.bound_of.Goals as goal

pub loop-low-preserved-then-from-limit : goal.loop-low-preserved-then-from-limit
loop-low-preserved-then-from-limit c =
    let e = c.index-tuples-middle.result in
    let begins : c.from.result ≡ get_or e 0 0 = c.from.ensures ∙ ap (λ (t : List ℕ). get_or t 0 0) c.numbers.ensures.same in
    record {
      order = omega arith;
      bound = c.loop-low.invariant.bound;
      below = below_here c.args.tuples.now (c.loop-low.low + (c.loop-low.high - c.loop-low.low) / 2) c.args.limit e c.requires.sorted c.requires.long (omega arith) c.index-tuples-middle.is (omega arith);
      above = c.loop-low.invariant.above;
    }

pub loop-low-preserved : goal.loop-low-preserved
loop-low-preserved c =
    let e = c.index-tuples-middle.result in
    let begins : c.from.result ≡ get_or e 0 0 = c.from.ensures ∙ ap (λ (t : List ℕ). get_or t 0 0) c.numbers.ensures.same in
    record {
      order = omega arith;
      bound = omega arith;
      below = c.loop-low.invariant.below;
      above = above_here c.args.tuples.now (c.loop-low.low + (c.loop-low.high - c.loop-low.low) / 2) c.args.limit e c.requires.sorted c.requires.long (omega arith) c.index-tuples-middle.is (omega arith);
    }
