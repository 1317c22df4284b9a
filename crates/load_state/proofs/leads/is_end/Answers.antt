use Rattle.std.proofs.Common.{arith}
use Rattle.load_state.proofs.Led.{ends_after}
use Rattle.load_state.proofs.leads.is_end.Goals as goal

pub returns : goal.returns
returns c = λ led.
    ends_after c.args.asked.now c.args.root.now c.args.instances.now c.args.count c.args.opens.now c.index-opens-count.result (omega arith) c.index-opens-count.is (c.in_ok-led.ensures led)
