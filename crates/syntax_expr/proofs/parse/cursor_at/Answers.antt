use Rattle.std.proofs.Common.{arith, subst, sym}
use Rattle.std.proofs.lemmas.Grind.{common_steps}
use Rattle.syntax_tree.specs.Spelling.{EndsWell}
use Rattle.syntax_expr.proofs.Places.{EndsWell-drop, take_rest}
use Rattle.syntax_expr.proofs.parse.cursor_at.Goals as goal

pub new-requires : goal.new-requires
new-requires c =
    subst EndsWell (sym (take_rest c.args.from c.args.tokens.now)) (EndsWell-drop c.args.from c.args.tokens.now c.requires.in_range c.requires.ends)

pub returns : goal.returns
returns c = grind (arith, common_steps, take_rest)
