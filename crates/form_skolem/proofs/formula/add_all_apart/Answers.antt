use Rattle.std.proofs.Common.{◌<◌, length, map, arith}
use Rattle.core_tree.specs.Trees.{claim_of}
use Rattle.form_skolem.proofs.Made.{apart_more}
use Rattle.form_skolem.proofs.formula.add_all_apart.Goals as goal

pub loop-back-preserved : goal.loop-back-preserved
loop-back-preserved c =
    let low : c.loop-back.back < length c.args.before.now = omega arith in
    apart_more c.args.field c.loop-back.back c.args.before.now (map claim_of c.args.parts.now.items) (map claim_of c.loop-back.parts.items) (map claim_of c.add_apart.new.parts.items) low c.loop-back.invariant c.in_ok-add_apart.ensures
