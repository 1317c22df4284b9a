use Rattle.std.proofs.Common.{arith, ◌≡◌, ◌<◌, ◌+◌, ◌-◌, ◌/◌, length, sym, ◌∙◌, ap}
use Rattle.std.specs.declared.cmp.Ordering.TheVariants.{Less, Equal, Greater}
use Rattle.std.proofs.lemmas.List.Elements.{at_read}
use Rattle.core_tuples.specs.Sets.{tuple_cmp}
use Rattle.core_tuples.specs.Index.{index_of}
use Rattle.core_tuples.proofs.JoinLaw.{all_here}
use Rattle.core_tuples.proofs.OrderLemmas.{all_below, all_above, same_tuple}
use Rattle.core_tuples.proofs.set.place_of.Goals as goal

pub against-requires : goal.against-requires
against-requires c = record {
  columns = all_here (λ t. length t ≡ length c.args.tuple.now) c.args.tuples.now (c.loop-low.low + (c.loop-low.high - c.loop-low.low) / 2) c.index-tuples-middle.result c.requires.columns (omega arith) c.index-tuples-middle.is;
  fits = c.requires.fits;
  index = c.index_of_numbers-index.ensures ∙ ap index_of c.numbers.ensures;
}

pub loop-low-preserved-in-Less : goal.loop-low-preserved-in-Less
loop-low-preserved-in-Less c =
    record {
      order = omega arith;
      bound = c.loop-low.invariant.bound;
      before = all_below c.args.tuples.now c.args.tuple.now (c.loop-low.low + (c.loop-low.high - c.loop-low.low) / 2) c.requires.sorted (omega arith) (at_read _ (λ y. tuple_cmp y c.args.tuple.now ≡ Less) (c.loop-low.low + (c.loop-low.high - c.loop-low.low) / 2) c.index-tuples-middle.result (omega arith) c.index-tuples-middle.is (sym c.in-Less.ensures));
      after = c.loop-low.invariant.after;
    }

pub loop-low-preserved : goal.loop-low-preserved
loop-low-preserved c =
    record {
      order = omega arith;
      bound = omega arith;
      before = c.loop-low.invariant.before;
      after = all_above c.args.tuples.now c.args.tuple.now (c.loop-low.low + (c.loop-low.high - c.loop-low.low) / 2) c.requires.sorted (omega arith) (at_read _ (λ y. tuple_cmp y c.args.tuple.now ≡ Greater) (c.loop-low.low + (c.loop-low.high - c.loop-low.low) / 2) c.index-tuples-middle.result (omega arith) c.index-tuples-middle.is (sym c.in-Greater.ensures));
    }

pub returns-in-Equal-clause-found : goal.returns-in-Equal-clause-found
returns-in-Equal-clause-found c =
    (_, (let lt : c.loop-low.low + (c.loop-low.high - c.loop-low.low) / 2 < length c.args.tuples.now = omega arith in lt), same_tuple _ _ (at_read _ (λ y. tuple_cmp y c.args.tuple.now ≡ Equal) (c.loop-low.low + (c.loop-low.high - c.loop-low.low) / 2) c.index-tuples-middle.result (omega arith) c.index-tuples-middle.is (sym c.in-Equal.ensures) c.args.tuple.now))
