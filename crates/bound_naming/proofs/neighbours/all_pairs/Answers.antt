use Rattle.std.proofs.Common.{ℕ, length, sym, subst, arith}
use Rattle.bound_naming.specs.declared.neighbours.TheConstants.{NAMED_PAIRS}
use Rattle.bound_naming.specs.Naming.{AreAllPairs}
use Rattle.bound_naming.specs.Reckoned.{IsIndex, IsReady}
use Rattle.bound_naming.proofs.NeighbourLaws.{all_atoms}
use Rattle.bound_naming.proofs.neighbours.all_pairs.Goals as goal

pub returns : goal.returns
returns c =
    let bounds = c.args.bounds.now in
    let lists = c.in_ok-lists.lists.items in
    λ is laid.
    let index = c.in_ok-lists.ensures is in
    let count = index.count in
    let ready : IsReady bounds c.args.table.now lists = record {
      placed = is;
      laid = laid;
      index = subst (λ (n : ℕ). IsIndex bounds.relations n (length bounds.relations) lists) (sym count) index;
      sets = c.have_sets.ensures;
    } in
    subst (λ (n : ℕ). AreAllPairs bounds n NAMED_PAIRS c.loop-atom.all.items) count (all_atoms bounds (length lists) NAMED_PAIRS c.loop-atom.atom c.loop-atom.all.items (omega (arith, count)) (c.loop-atom.invariant ready))
