use Rattle.std.proofs.Common.{◌+◌, refl}
use Rattle.bound_naming.specs.declared.neighbours.TheConstants.{NAMED_PAIRS}
use Rattle.bound_naming.proofs.NeighbourLaws.{next_are}
use Rattle.bound_naming.proofs.neighbours.next_pairs.Goals as goal

pub returns : goal.returns
returns c =
    next_are c.args.bounds.now c.as_slice-relations.result.now c.args.table.now c.args.lists.now c.args.atom (c.args.atom + 1) NAMED_PAIRS c.in_ok-pairs.pairs
    (c.rows_rise.ensures c.args.bounds.now) c.as_slice-relations.ensures refl c.in_ok-pairs.ensures.within c.in_ok-pairs.ensures.pairs
