use Rattle.core_tree.specs.Trees.{claim_of, choose_claim}
use Rattle.bmc_walk.proofs.WalkLaws.{three_rows}
use Rattle.bmc_walk.proofs.RightLaws.{else_right}
use Rattle.bmc_walk.proofs.formulas.choice_row.Goals as goal

pub returns-clause-right : goal.returns-clause-right
returns-clause-right g c =
    let value = g.G.Gates.node_value in
    let belongs = g.G.Gates.belongs in
    let ground = c.args.walk.now.ground.now in
    let known = c.args.known.now in
    let f = claim_of c.args.f.now in
    let k = claim_of c.args.g.now in
    let l = claim_of c.args.h.now in
    three_rows belongs value ground known c.args.gates.now c.part_row.new.gates c.part_row-2.new.gates c.part_row-3.new.gates c.if_else.new.gates c.args.store.now c.part_row.new.store c.part_row-2.new.store f k l (choose_claim f k l) c.in_ok-first.first c.in_ok-second.second c.in_ok-third.third c.in_ok-row.row
    c.part_row.ensures.keeps c.part_row-2.ensures.keeps c.part_row-3.ensures.keeps c.requires.stored c.in_ok-first.ensures.stored c.in_ok-first.ensures.stays c.in_ok-second.ensures.stays c.in_ok-first.ensures.belongs c.in_ok-second.ensures.belongs
    (λ n le. le) c.in_ok-first.ensures.right c.in_ok-second.ensures.right c.in_ok-third.ensures.right
    (λ r a b d. else_right r (value c.part_row-3.new.gates) (value c.if_else.new.gates) f k l c.in_ok-first.first c.in_ok-second.second c.in_ok-third.third c.in_ok-row.row a b d c.in_ok-row.ensures.chooses)
