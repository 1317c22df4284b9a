use Rattle.syntax_parser.proofs.Reading.{module_read}
use Rattle.syntax_parser.proofs.front.reads_module.Goals as goal

pub returns-in-Ok : goal.returns-in-Ok
returns-in-Ok c = λ yes. module_read c.args.limit c.args.text.now c.args.least c.in-Ok.tree c.in-Ok.ensures.spells c.in-Ok.ensures.right
