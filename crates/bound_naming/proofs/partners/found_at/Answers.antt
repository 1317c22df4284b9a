use Rattle.std.proofs.Common.{arith, ◌≡◌, ◌+◌, ◌-◌, ◌/◌, ℕ, List, Some, sym, ◌∙◌, ap}
use Rattle.std.specs.declared.cmp.Ordering.TheVariants.{Less, Equal, Greater}
use Rattle.std.proofs.lemmas.List.Elements.{at_read}
use Rattle.core_tuples.specs.Sets.{tuple_cmp}
use Rattle.core_tuples.proofs.OrderLemmas.{all_below, all_above, same_tuple}
use Rattle.bound_naming.proofs.Finding.{there, searched}
use Rattle.bound_naming.proofs.partners.found_at.Goals as goal

pub loop-low-preserved-in-Less : goal.loop-low-preserved-in-Less
loop-low-preserved-in-Less c =
    let middle : ℕ = c.loop-low.low + (c.loop-low.high - c.loop-low.low) / 2 in
    let here : tuple_cmp c.index-tuples-middle.result c.args.tuple.now ≡ Less = ap (λ (y : List ℕ). tuple_cmp y c.args.tuple.now) (sym c.tuple.ensures.same) ∙ sym c.in-Less.ensures in
    record {
      order = omega arith;
      bound = c.loop-low.invariant.bound;
      before = all_below c.args.tuples.now c.args.tuple.now middle c.requires (omega arith) (at_read _ (λ y. tuple_cmp y c.args.tuple.now ≡ Less) middle c.index-tuples-middle.result (omega arith) c.index-tuples-middle.is here);
      after = c.loop-low.invariant.after;
    }

pub loop-low-preserved : goal.loop-low-preserved
loop-low-preserved c =
    let middle : ℕ = c.loop-low.low + (c.loop-low.high - c.loop-low.low) / 2 in
    let here : tuple_cmp c.index-tuples-middle.result c.args.tuple.now ≡ Greater = ap (λ (y : List ℕ). tuple_cmp y c.args.tuple.now) (sym c.tuple.ensures.same) ∙ sym c.in-Greater.ensures in
    record {
      order = omega arith;
      bound = omega arith;
      before = c.loop-low.invariant.before;
      after = all_above c.args.tuples.now c.args.tuple.now middle c.requires (omega arith) (at_read _ (λ y. tuple_cmp y c.args.tuple.now ≡ Greater) middle c.index-tuples-middle.result (omega arith) c.index-tuples-middle.is here);
    }

pub returns-in-Equal-clause-some : goal.returns-in-Equal-clause-some
returns-in-Equal-clause-some c =
    let middle : ℕ = c.loop-low.low + (c.loop-low.high - c.loop-low.low) / 2 in
    let here : tuple_cmp c.index-tuples-middle.result c.args.tuple.now ≡ Equal = ap (λ (y : List ℕ). tuple_cmp y c.args.tuple.now) (sym c.tuple.ensures.same) ∙ sym c.in-Equal.ensures in
    there c.args.tuples.now middle c.index-tuples-middle.result (omega arith) c.index-tuples-middle.is ∙ ap (λ (y : List ℕ). Some y) (same_tuple c.index-tuples-middle.result c.args.tuple.now here)

pub returns-clause-none : goal.returns-clause-none
returns-clause-none c = searched c.args.tuples.now c.args.tuple.now c.loop-low.low c.loop-low.high c.loop-low.invariant.order (omega arith) c.loop-low.invariant.bound c.loop-low.invariant.before c.loop-low.invariant.after
