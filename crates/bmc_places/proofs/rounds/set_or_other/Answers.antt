use Rattle.bmc_places.proofs.LoopSetLaws.{here_law, other_law}
use Rattle.bmc_places.proofs.rounds.set_or_other.Goals as goal

pub returns-clause-here : goal.returns-clause-here
returns-clause-here g c = λ x p said stands.
    let value = g.G.Gates.node_value in
    here_law (value c.args.gates.now x) (value c.choose.new.gates x) c.args.store.now.matrices.items c.args.row.now c.args.place c.found_at-number.result c.args.node p c.index.result.now c.index.result.now c.args.other.now c.in_ok-made.made
    c.found_at-number.ensures c.index.ensures (c.in_ok-made.ensures.means x) said stands

pub returns-clause-other : goal.returns-clause-other
returns-clause-other g c = λ x denied.
    let value = g.G.Gates.node_value in
    other_law (value c.args.gates.now x) (value c.choose.new.gates x) c.args.node c.index.result.now c.args.other.now c.in_ok-made.made (c.in_ok-made.ensures.means x) denied
