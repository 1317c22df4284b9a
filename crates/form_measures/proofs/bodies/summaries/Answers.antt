use Rattle.std.proofs.Common.{◌+◌, set, Some, sym, refl, subst, arith}
use Rattle.form_measures.specs.Weights.{AreSummaries}
use Rattle.form_measures.proofs.Lists.{unknown_agree, known_turn, known_all}
use Rattle.form_measures.proofs.bodies.summaries.Goals as goal

pub loop-turn-init : goal.loop-turn-init
loop-turn-init c = unknown_agree c.args.measure c.args.bodies.now c.in_ok-known.known.items c.in_ok-known.ensures

pub loop-turn-preserved : goal.loop-turn-preserved
loop-turn-preserved c =
    known_turn c.args.measure c.args.bodies.now c.loop-turn.known.items c.as_slice.result.now (set c.loop-turn.known.items c.index-entry.result.now.body (Some c.in_ok-summary.summary)) c.loop-turn.turn (c.loop-turn.turn + 1) c.index-entry.result.now.body c.get-body.result.now
    c.in_ok-summary.summary refl (omega arith) c.get-body.ensures c.as_slice.ensures.value c.in_ok-summary.ensures refl c.loop-turn.invariant

pub returns : goal.returns
returns c = subst (AreSummaries c.args.measure c.args.bodies.now) (sym c.from_vec.ensures) (known_all c.args.measure c.args.bodies.now c.loop-turn.known.items c.loop-turn.turn (omega arith) c.loop-turn.invariant)
