use Rattle.std.proofs.Common.{arith}
use Rattle.resolve_told.specs.Commands.{IsCommand}
use Rattle.resolve_told.specs.CommandViews.{command_of}
use Rattle.resolve_told.proofs.Walk.{pair_more, pair_all}
use Rattle.resolve_told.proofs.commands.are_commands.Goals as goal

pub loop-place-preserved : goal.loop-place-preserved
loop-place-preserved c =
    let s = c.args.sources.now in
    pair_more (λ n w d. IsCommand s.loaded.now.texts s.loaded.now.instances s.names.now.scopes s.model.now s.readings.now w d) command_of c.args.written.now c.args.commands.now c.loop-place.place c.index-written-place.result c.index-commands-place.result
    (omega arith) (omega arith) c.index-written-place.is c.index-commands-place.is c.loop-place.invariant (c.in_ok-is_right.ensures c.if-not-is_right.false)

pub returns : goal.returns
returns c = λ yes.
    pair_all (λ n w d. IsCommand c.args.sources.now.loaded.now.texts c.args.sources.now.loaded.now.instances c.args.sources.now.names.now.scopes c.args.sources.now.model.now c.args.sources.now.readings.now w d) command_of c.args.written.now c.args.commands.now c.loop-place.place
    (omega arith) (omega arith) c.loop-place.invariant
