use Rattle.std.proofs.Common.{length, refl, arith}
use Rattle.std.proofs.lemmas.Option.{slice_get_read}
use Rattle.load_modules.proofs.Numbering.{count_next, count_all}
use Rattle.load_modules.proofs.order.opening_count.Goals as goal

pub loop-paragraph-preserved : goal.loop-paragraph-preserved
loop-paragraph-preserved c =
    let items = c.as_slice-paragraph-items.result.now in
    count_next items c.loop-paragraph.paragraph-index _ c.paragraph-item.result (length c.args.tree.now.opens) c.loop-paragraph.count c.in_ok-count.count c.loop-paragraph-test.true
    (slice_get_read items (length items) c.loop-paragraph.paragraph-index c.paragraph-item.result refl (omega arith) c.paragraph-item.is) refl c.loop-paragraph.invariant c.in_ok-count.ensures

pub returns : goal.returns
returns c =
    count_all c.args.tree.now c.as_slice-paragraph-items.result.now c.loop-paragraph.paragraph-index c.loop-paragraph.count (length c.args.tree.now.opens) refl c.loop-paragraph.invariant (omega arith) c.as_slice-paragraph-items.ensures
