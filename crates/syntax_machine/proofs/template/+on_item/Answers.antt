use Rattle.syntax_machine.proofs.Shared.{on_more}
use Rattle.syntax_machine.proofs.template.+on_item.Goals as goal

pub returns-in_ok-found-in-len1-up : goal.returns-in_ok-found-in-len1-up
returns-in_ok-found-in-len1-up t c =
    on_more c.args.threads.now c.in_ok-found-in-len1-up.found c.in_ok-tail-in-len1-up.tail c.first-item.result c.in_ok-head-in-len1-up.head c.args.below c.in-len1-up.len_at_least c.first-item.is c.in_ok-head-in-len1-up.ensures c.in_ok-tail-in-len1-up.ensures c.in_ok-found-in-len1-up.ensures
