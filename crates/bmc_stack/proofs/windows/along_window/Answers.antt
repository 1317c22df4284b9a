use Rattle.std.proofs.Common.{◌≡◌}
use Rattle.bmc_stack.proofs.WindowLaws.{moved_law}
use Rattle.bmc_stack.proofs.windows.along_window.Goals as goal

pub returns-clause-moved : goal.returns-clause-moved
returns-clause-moved g c =
    let value = g.G.Gates.node_value in
    moved_law c.args.op (value c.args.gates.now) (value c.in_window.new.gates) c.args.window c.args.f.now c.args.g.now c.in_ok-first.first c.in_ok-second.second c.in_ok-made.made
    c.in_ok-first.ensures.part c.in_ok-second.ensures.part c.in_ok-made.ensures.moving
