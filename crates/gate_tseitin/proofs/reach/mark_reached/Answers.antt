use Rattle.std.proofs.Common.{arith, subst, sym, List, Bool}
use Rattle.gate_tseitin.specs.Reached.{HasMark}
use Rattle.gate_tseitin.proofs.Marks.{with_mark_here, all_kept, sure_least}
use Rattle.gate_tseitin.proofs.reach.mark_reached.Goals as goal

pub returns-clause-reached : goal.returns-clause-reached
returns-clause-reached c =
    let here : HasMark c.mark.new.marks c.args.sure = subst (λ (ms : List Bool). HasMark ms c.args.sure) (sym c.mark.ensures) (with_mark_here c.args.marks.now c.args.sure (omega (arith, c.requires.sure_there, c.requires.each))) in
    record {
      each = omega (arith, c.spread.auto.marks, c.mark_all.auto.marks, c.mark.auto.marks, c.requires.each);
      surely = c.spread.ensures.grows _ (c.mark_all.ensures.grows _ here);
      rooted = all_kept c.mark_all.new.marks c.spread.new.marks c.args.roots.now c.spread.ensures.grows c.mark_all.ensures.marked;
      closed = c.spread.ensures.closed;
    }

pub returns-clause-fewest : goal.returns-clause-fewest
returns-clause-fewest c = λ other all first.
    c.spread.ensures.fewest other all.closed (c.mark_all.ensures.fewest other all.rooted (sure_least c.args.marks.now c.mark.new.marks other c.args.sure c.mark.ensures all.surely first))
