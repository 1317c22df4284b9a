use Rattle.syntax_machine.proofs.Shared.{put_more}
use Rattle.syntax_machine.proofs.stacks.+put.Goals as goal

pub returns-in_ok-top-in-len1-up : goal.returns-in_ok-top-in-len1-up
returns-in_ok-top-in-len1-up t c =
    put_more c.args.stacks.now c.put.new.stacks c.push.new.self c.args.items.now _ c.args.below c.in_ok-under-in-len1-up.under c.in_ok-top-in-len1-up.top c.in-len1-up.len_at_least c.in_ok-under-in-len1-up.ensures c.in_ok-top-in-len1-up.ensures.new c.in_ok-top-in-len1-up.ensures.top
