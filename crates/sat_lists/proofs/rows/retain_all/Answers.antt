use Rattle.std.proofs.Common.{◌∙◌, arith, length-set}
use Rattle.sat_lists.specs.Nodes.{stays}
use Rattle.sat_lists.proofs.Holding.{rows_retain}
use Rattle.sat_lists.proofs.rows.retain_all.Goals as goal

pub loop-list-preserved : goal.loop-list-preserved
loop-list-preserved c =
    let i = c.loop-list.invariant in
    record {
      size = length-set c.loop-list.lists.items c.loop-list.list c.retain_in.new.row ∙ i.size;
      done = rows_retain (stays c.args.marks.now) c.args.lists.now.items c.loop-list.lists.items c.loop-list.list c.index_mut.result.now c.retain_in.new.row
          (omega (arith, c.loop-list-test.true, c.len-list-end.ensures, c.args.lists.now.ok.0)) i.size i.done c.index_mut.ensures.value c.retain_in.ensures;
    }
