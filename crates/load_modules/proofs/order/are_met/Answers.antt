use Rattle.std.proofs.Common.{length, refl, arith}
use Rattle.std.proofs.lemmas.Option.{slice_get_read}
use Rattle.load_modules.proofs.Numbering.{seen_next, lower_next, met_all}
use Rattle.load_modules.proofs.order.are_met.Goals as goal

pub loop-instance-preserved : goal.loop-instance-preserved
loop-instance-preserved c =
    let all = c.args.instances.now in
    let n = c.loop-instance.instance-index in
    let here = slice_get_read all (length all) n c.instance-item.result refl (omega arith) c.instance-item.is in record {
      seen = seen_next all n c.loop-instance.most c.in-Some.next c.instance-item.result here c.in-Some.ensures c.loop-instance.invariant.seen;
      lower = lower_next all n c.loop-instance.most c.in-Some.next c.instance-item.result here c.in-Some.ensures c.loop-instance.invariant.seen c.loop-instance.invariant.lower;
    }

pub returns : goal.returns
returns c = λ yes. met_all c.args.instances.now c.args.count c.loop-instance.most c.loop-instance.instance-index (omega arith) (omega arith) c.loop-instance.invariant.seen c.loop-instance.invariant.lower
