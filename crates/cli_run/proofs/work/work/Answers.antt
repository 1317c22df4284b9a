use Rattle.cli_run.proofs.Allowed.{ring_allows}
use Rattle.cli_run.proofs.work.work.Goals as goal

pub returns-in-Make-clause-allowed : goal.returns-in-Make-clause-allowed
returns-in-Make-clause-allowed g c answer is =
    ring_allows c.args.settings.now (g.L.Libraries.told c.args.libraries.now) (g.L.Libraries.counts c.args.libraries.now) (g.L.Libraries.counts c.make.new.libraries)
    c.in-Make.is c.make.result answer is c.make.ensures.on
