use Rattle.std.proofs.Common.{◌≡◌, ◌∷◌, [], ◌++◌, rules}
use Rattle.core_tree.specs.Trees.{term_of}
use Rattle.bmc_walk.proofs.LevelLaws.{row_turn}
use Rattle.bmc_walk.proofs.levels.row_of.Goals as goal

pub loop-turn-preserved : goal.loop-turn-preserved
loop-turn-preserved c =
    let pair = c.in-Some.pair in
    let old = c.loop-turn.operands.items in
    let new = c.push.new.self.items in
    let pushed : new ≡ old ++ pair.operand ∷ [] = search rules in
    row_turn (term_of c.loop-turn.first.now) (term_of pair.left.now) (term_of c.args.expr.now) old new pair.operand pushed c.in-Some.ensures c.loop-turn.invariant
