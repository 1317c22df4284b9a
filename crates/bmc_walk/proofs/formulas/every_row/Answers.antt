use Rattle.std.proofs.Common.{◌-◌, length, arith, refl}
use Rattle.std.proofs.lemmas.Option.{slice_get_read}
use Rattle.gate_trait.proofs.KeptLemmas.{keeps_trans, keeps_refl}
use Rattle.bmc_places.proofs.StoreLaws.{stays_trans, stays_refl}
use Rattle.bmc_walk.proofs.EveryLaws.{every_none, every_more, every_all}
use Rattle.bmc_walk.proofs.formulas.every_row.Goals as goal

pub loop-turn-init : goal.loop-turn-init
loop-turn-init g c =
    let value = g.G.Gates.node_value in
    let belongs = g.G.Gates.belongs in
    let ground = c.args.walk.now.ground.now in
    let known = c.args.known.now in
    record {
      keeps = keeps_refl belongs value c.args.gates.now;
      stored = c.requires.stored;
      stays = stays_refl c.args.store.now;
      belong = c.in_ok-all.ensures.belongs;
      right = every_none ground known (value c.args.gates.now) c.args.store.now.matrices.items c.args.list.now c.in_ok-all.all c.len-count.result (omega (arith, c.len-count.ensures, ground.setting.frame.now.shown.ok.0)) c.in_ok-all.ensures.values;
    }

pub loop-turn-preserved : goal.loop-turn-preserved
loop-turn-preserved g c =
    let value = g.G.Gates.node_value in
    let belongs = g.G.Gates.belongs in
    let ground = c.args.walk.now.ground.now in
    let known = c.args.known.now in
    let before = c.loop-turn.invariant in
    let first = c.args.gates.now in
    let now = c.loop-turn.gates in
    let later = c.and_row.new.gates in
    record {
      keeps = keeps_trans belongs value first now later before.keeps c.and_row.ensures.keeps;
      stored = c.in_ok-more.ensures.stored;
      stays = stays_trans c.args.store.now c.loop-turn.store c.and_row.new.store before.stays c.in_ok-more.ensures.stays;
      belong = c.in_ok-more.ensures.belongs;
      right = every_more belongs value ground known first now later c.args.store.now c.loop-turn.store c.args.list.now c.loop-turn.turn c.loop-turn.all c.in_ok-more.more _ before.keeps c.requires.stored before.stays (omega (arith, c.loop-turn-test.true)) (slice_get_read c.args.list.now (length c.args.list.now) (length c.args.list.now - 1 - c.loop-turn.turn) c.index-list-place.result refl (omega (arith, c.loop-turn-test.true)) c.index-list-place.is) before.right c.in_ok-more.ensures.right;
    }

pub returns-clause-right : goal.returns-clause-right
returns-clause-right g c = every_all c.args.walk.now.ground.now c.args.known.now _ _ _ c.args.list.now c.loop-turn.turn c.loop-turn.all (omega (arith, c.loop-turn-test.false)) c.loop-turn.invariant.right
