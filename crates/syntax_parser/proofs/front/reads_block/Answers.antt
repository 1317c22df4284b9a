use Rattle.syntax_parser.proofs.Reading.{block_read}
use Rattle.syntax_parser.proofs.front.reads_block.Goals as goal

pub returns-in-Ok : goal.returns-in-Ok
returns-in-Ok c = λ yes. block_read c.args.limit c.args.text.now c.args.least c.in-Ok.parsed.next c.in-Ok.parsed.tree c.in-Ok.ensures.spells c.in-Ok.ensures.right yes
