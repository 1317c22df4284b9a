use Rattle.std.proofs.Common.{arith, ◌+◌, ◌-◌, ◌/◌, sym, ap, ◌∙◌}
use Rattle.core_tuples.specs.Index.{index_of}
use Rattle.gate_matrix.proofs.PlaceLaw.{less_here, greater_here, equal_here}
use Rattle.gate_matrix.proofs.place.place_of.Goals as goal

pub against-requires : goal.against-requires
against-requires c = record {
  columns = c.requires.columns (c.loop-low.low + (c.loop-low.high - c.loop-low.low) / 2) c.index-entries-middle.result (omega arith);
  fits = c.requires.fits;
  index = c.index_of_numbers-index.ensures ∙ ap index_of c.numbers.ensures;
}

pub loop-low-preserved-in-Less : goal.loop-low-preserved-in-Less
loop-low-preserved-in-Less c =
    record {
      order = omega arith;
      bound = c.loop-low.invariant.bound;
      before = less_here c.args.entries.now c.args.tuple.now (c.loop-low.low + (c.loop-low.high - c.loop-low.low) / 2) c.index-entries-middle.result c.requires.sorted (omega arith) c.index-entries-middle.is (sym c.in-Less.ensures);
      after = c.loop-low.invariant.after;
    }

pub loop-low-preserved : goal.loop-low-preserved
loop-low-preserved c =
    record {
      order = omega arith;
      bound = omega arith;
      before = c.loop-low.invariant.before;
      after = greater_here c.args.entries.now c.args.tuple.now (c.loop-low.low + (c.loop-low.high - c.loop-low.low) / 2) c.index-entries-middle.result c.requires.sorted (omega arith) c.index-entries-middle.is (sym c.in-Greater.ensures);
    }

pub returns-in-Equal-clause-found : goal.returns-in-Equal-clause-found
returns-in-Equal-clause-found c =
    equal_here c.args.entries.now c.args.tuple.now (c.loop-low.low + (c.loop-low.high - c.loop-low.low) / 2) c.index-entries-middle.result (omega arith) c.index-entries-middle.is (sym c.in-Equal.ensures)
