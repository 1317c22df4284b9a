use Rattle.std.proofs.Common.{◌+◌, ap, arith}
use Rattle.bound_owners.proofs.Owning.{lists_more}
use Rattle.bound_owners.proofs.own.constant_lists.Goals as goal

pub loop-sig-preserved : goal.loop-sig-preserved
loop-sig-preserved c =
    let same = c.loop-sig.invariant.number in
    record {
      number = ap (λ n. n + 1) same;
      lists = lists_more c.args.sigs.now c.args.ups.now c.loop-sig._sig-index c.loop-sig.number c.top_of-top.result c.args.marks.now c.loop-sig.lists.items c.add_constant.new.lists.items c.is_marked.result same (omega arith) c.requires.tops c.requires.marks c.top_of-top.ensures c.is_marked.ensures c.loop-sig.invariant.lists c.in_ok-add_constant.ensures;
    }
