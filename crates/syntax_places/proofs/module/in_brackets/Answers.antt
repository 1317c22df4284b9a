use Rattle.std.proofs.Common.{arith}
use Rattle.syntax_places.proofs.Parts.{brackets_whole}
use Rattle.syntax_places.proofs.module.in_brackets.Goals as goal

pub returns-in_default : goal.returns-in_default
returns-in_default g c =
    brackets_whole g.T.Part.kept c.args.parts.now c.args.walk.now c.past.new.self c.separated.new.walk c.past-in_default.new.self (omega (arith, c.in_default.len_at_least))
    c.past.ensures c.separated.ensures c.past-in_default.ensures
