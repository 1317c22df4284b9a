use Rattle.std.proofs.Common.{◌≡◌, true, subst, rules, arith, w64, SFits}
use Rattle.std.specs.List.{Contains}
use Rattle.std.proofs.lemmas.Int.{to_z-of_z}
use Rattle.sat_trail.specs.Assignment.{value_at}
use Rattle.sat_dropped.proofs.Placing.{part_more, part_all}
use Rattle.sat_dropped.proofs.part.are_among.Goals as goal

pub loop-literal-preserved : goal.loop-literal-preserved
loop-literal-preserved c =
    let literal_fits : SFits w64 c.wide.result = search rules in
    let yes : c.is_among.result ≡ true = search rules in
    let among : Contains c.args.literals.now (value_at c.args.clause.now c.loop-literal.literal-index) = subst (Contains c.args.literals.now) c.wide.ensures (simp to_z-of_z at (c.is_among.ensures.among yes)) in
    part_more c.args.clause.now c.args.literals.now c.loop-literal.literal-index among c.loop-literal.invariant

pub returns-clause-part : goal.returns-clause-part
returns-clause-part c = λ _. part_all c.args.clause.now c.args.literals.now c.loop-literal.literal-index (omega (arith, c.loop-literal-test.false)) c.loop-literal.invariant
