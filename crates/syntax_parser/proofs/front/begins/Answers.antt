use Rattle.std.proofs.Common.{sym, subst}
use Rattle.syntax_tree.specs.Spelling.{EndsWell}
use Rattle.syntax_parser.proofs.Reading.{ends_some, begins_front}
use Rattle.syntax_parser.proofs.front.begins.Goals as goal

pub reads-requires-clause-ends : goal.reads-requires-clause-ends
reads-requires-clause-ends c = subst EndsWell (sym c.as_slice-2.ensures) c.in_ok-text.ensures.ends

pub reads-requires-clause-some : goal.reads-requires-clause-some
reads-requires-clause-some c = ends_some c.as_slice-2.result.now (subst EndsWell (sym c.as_slice-2.ensures) c.in_ok-text.ensures.ends)

pub returns : goal.returns
returns c = λ yes. begins_front c.args.kind c.args.limit c.args.tokens.now c.in_ok-text.text c.as_slice-2.result.now c.in_ok-text.ensures.longer c.as_slice-2.ensures (c.in_ok-found.ensures yes)
