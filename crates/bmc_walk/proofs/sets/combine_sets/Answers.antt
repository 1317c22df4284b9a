use Rattle.std.proofs.Common.{◌-◌, length, arith, refl}
use Rattle.std.proofs.lemmas.Option.{slice_get_read}
use Rattle.gate_trait.proofs.KeptLemmas.{keeps_trans}
use Rattle.core_tree.specs.Trees.{term_of}
use Rattle.bmc_places.proofs.StoreLaws.{extends_trans}
use Rattle.bmc_walk.proofs.LevelLaws.{row_none, row_more, row_all}
use Rattle.bmc_walk.proofs.sets.combine_sets.Goals as goal

pub loop-turn-init : goal.loop-turn-init
loop-turn-init g c =
    let value = g.G.Gates.node_value in
    record {
      keeps = c.part_sets.ensures.keeps;
      stored = c.in_ok-made.ensures.stored;
      extends = c.in_ok-made.ensures.extends;
      right = row_none c.args.walk.now.ground.now c.args.known.now (value c.args.gates.now) (value c.part_sets.new.gates) c.args.store.now.matrices.items c.part_sets.new.store.matrices.items (term_of c.in_ok-row.row.first.now) (term_of c.args.expr.now) c.as_slice-operands.result.now c.in_ok-row.row.operands.items c.in_ok-made.made.items c.as_slice-operands.ensures.value c.in_ok-row.ensures c.in_ok-made.ensures.right;
    }

pub loop-turn-preserved : goal.loop-turn-preserved
loop-turn-preserved g c =
    let value = g.G.Gates.node_value in
    let belongs = g.G.Gates.belongs in
    let ground = c.args.walk.now.ground.now in
    let known = c.args.known.now in
    let so = c.loop-turn.invariant in
    let first = c.args.gates.now in
    let now = c.loop-turn.gates in
    let later = c.combined.new.gates in
    let start = c.args.store.now in
    let before = c.loop-turn.store in
    let after = c.combined.new.store in
    let operands = c.as_slice-operands.result.now in
    record {
      keeps = keeps_trans belongs value first now later so.keeps c.combined.ensures.keeps;
      stored = c.in_ok-next.ensures.stored;
      extends = extends_trans start before after so.extends c.in_ok-next.ensures.extends;
      right = row_more belongs value ground known first now later start before after (term_of c.args.expr.now) operands c.loop-turn.turn c.loop-turn.made.items c.in_ok-next.next.items c.index-operands-place.result so.keeps c.requires.stored so.extends (omega (arith, c.loop-turn-test.true)) (slice_get_read operands (length operands) (length operands - 1 - c.loop-turn.turn) c.index-operands-place.result refl (omega (arith, c.loop-turn-test.true)) c.index-operands-place.is) so.right c.in_ok-next.ensures.right;
    }

pub returns-clause-right : goal.returns-clause-right
returns-clause-right g c = row_all c.args.walk.now.ground.now c.args.known.now _ _ _ _ (term_of c.args.expr.now) c.as_slice-operands.result.now c.loop-turn.turn c.loop-turn.made.items (omega (arith, c.loop-turn-test.false)) c.loop-turn.invariant.right
