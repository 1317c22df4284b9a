use Rattle.std.proofs.Common.{◌+◌, get_or, refl, arith}
use Rattle.std.proofs.lemmas.List.{get_or_default}
use Rattle.form_measures.proofs.Counts.{own_none}
use Rattle.form_measures.proofs.Uses.{own_used, own_all}
use Rattle.form_measures.proofs.bodies.own_of.Goals as goal

pub loop-used-init : goal.loop-used-init
loop-used-init c = own_none c.args.weight.now.own

pub loop-used-preserved : goal.loop-used-preserved
loop-used-preserved c =
    let used = get_or c.as_slice-uses.result.now c.loop-used.used-index (record { parameter = 0; depth = 0 }) in
    own_used c.args.weight.now.own c.as_slice-uses.result.now c.loop-used.used-index (c.loop-used.used-index + 1) used c.loop-used.most c.raised.result c.max-most.result refl c.loop-used-test.true (get_or_default c.as_slice-uses.result.now c.loop-used.used-index (record { parameter = 0; depth = 0 }) used c.loop-used-test.true) c.loop-used.invariant
    c.raised.ensures c.max-most.ensures

pub returns : goal.returns
returns c = own_all c.args.weight.now c.as_slice-uses.result.now c.loop-used.used-index c.loop-used.most c.raised-2.result (omega arith) c.as_slice-uses.ensures.value c.loop-used.invariant c.raised-2.ensures
