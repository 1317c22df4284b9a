use Rattle.std.proofs.Common.{arith, ◌≡◌, ◌+◌, ◌-◌, ◌/◌, sym, ap, ◌∙◌, List, ℕ, get_or}
use Rattle.gate_matrix.specs.declared.entry.Entry.{Entry}
use Rattle.gate_matrix.specs.Joined.{first_of}
use Rattle.gate_matrix.proofs.RangeLaw.{below_here, above_here}
use Rattle.gate_matrix.proofs.joins.bound_of.Goals as goal

pub loop-low-preserved-then-from-limit : goal.loop-low-preserved-then-from-limit
loop-low-preserved-then-from-limit c =
    let e = c.index-entries-middle.result in
    let begins : c.from.result ≡ first_of e = c.from.ensures ∙ ap (λ (t : List ℕ). get_or t 0 0) (c.numbers.ensures.same ∙ ap (λ (x : Entry). x.tuple) (sym c.index-entries-middle.is)) in
    record {
      order = omega arith;
      bound = c.loop-low.invariant.bound;
      below = below_here c.args.entries.now (c.loop-low.low + (c.loop-low.high - c.loop-low.low) / 2) c.args.limit e c.requires.sorted c.requires.long (omega arith) c.index-entries-middle.is (omega arith);
      above = c.loop-low.invariant.above;
    }

pub loop-low-preserved : goal.loop-low-preserved
loop-low-preserved c =
    let e = c.index-entries-middle.result in
    let begins : c.from.result ≡ first_of e = c.from.ensures ∙ ap (λ (t : List ℕ). get_or t 0 0) (c.numbers.ensures.same ∙ ap (λ (x : Entry). x.tuple) (sym c.index-entries-middle.is)) in
    record {
      order = omega arith;
      bound = omega arith;
      below = c.loop-low.invariant.below;
      above = above_here c.args.entries.now (c.loop-low.low + (c.loop-low.high - c.loop-low.low) / 2) c.args.limit e c.requires.sorted c.requires.long (omega arith) c.index-entries-middle.is (omega arith);
    }
