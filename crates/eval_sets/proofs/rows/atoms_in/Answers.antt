use Rattle.std.proofs.Common.{arith, sym, ◌∙◌}
use Rattle.eval_sets.proofs.AtomLaw.{place_columns, firsts_more, firsts_listed}
use Rattle.eval_sets.proofs.rows.atoms_in.Goals as goal

pub first_of-requires : goal.first_of-requires
first_of-requires c =
    let e = place_columns c.args.set.now c.keyed-tuples.result.now c.loop-tuple.tuple-index c.tuple-item.result c.keyed-tuples.ensures.set c.keyed-tuples.ensures.all c.loop-tuple-test.true c.tuple-item.is in
    omega (arith, e, c.keyed-tuples.ensures.set.least)

pub loop-tuple-preserved : goal.loop-tuple-preserved
loop-tuple-preserved c =
    firsts_more c.keyed-tuples.result.now c.loop-tuple.tuple-index c.tuple-item.result c.first_of.result c.loop-tuple.all.items c.push.new.self.items c.loop-tuple-test.true c.tuple-item.is c.loop-tuple.invariant c.first_of.ensures c.in_ok-push.ensures.items

pub returns : goal.returns
returns c =
    firsts_listed c.args.set.now c.keyed-tuples.ensures.set (sym c.arity.ensures.columns ∙ c.if-arity-ne1.false) c.keyed-tuples.result.now c.loop-tuple.tuple-index c.loop-tuple.all.items c.loop-tuple-test.false c.keyed-tuples.ensures.all c.loop-tuple.invariant
