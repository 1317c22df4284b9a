use Rattle.std.proofs.Common.{sym, ap, ◌∙◌, Some}
use Rattle.gate_matrix.specs.declared.entry.Entry.{Entry}
use Rattle.gate_matrix.proofs.PlaceLaw.{found_node, gap_none}
use Rattle.gate_matrix.proofs.place.node_of.Goals as goal

pub returns-in-Ok : goal.returns-in-Ok
returns-in-Ok c =
    ap (λ (e : Entry). Some e.node) (sym c.index-entries-place.is)
    ∙ sym (found_node c.args.entries.now c.args.tuple.now c.in-Ok.place c.index-entries-place.result c.requires.sorted c.index-entries-place.is c.in-Ok.ensures.found)

pub returns-in-Err : goal.returns-in-Err
returns-in-Err c = sym (gap_none c.args.entries.now c.args.tuple.now c.in-Err.field-0 c.in-Err.ensures.gap)
