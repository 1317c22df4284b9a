use Rattle.syntax_machine.proofs.Shared.{each_more}
use Rattle.syntax_machine.proofs.stacks.+each_of.Goals as goal

pub returns-in_ok-each_of-in-len1-up : goal.returns-in_ok-each_of-in-len1-up
returns-in_ok-each_of-in-len1-up t c =
    each_more c.args.stacks.now c.add_over.new.stacks c.each_of.new.stacks c.args.tops.now c.add_over.new.tops c.each_of.new.tops c.args.threads.now c.first-item.result c.as_slice.result.now c.args.below c.in-len1-up.len_at_least c.first-item.is c.as_slice.ensures c.requires c.in_ok-add_over-in-len1-up.ensures c.in_ok-each_of-in-len1-up.ensures
