use Rattle.std.specs.Option.{option_copied}
use Rattle.resolve_read.proofs.Scopes.{names_next}
use Rattle.resolve_read.proofs.locals.with_names.Goals as goal

pub loop-one-preserved : goal.loop-one-preserved
loop-one-preserved c = λ outer was.
    names_next c.args.text.now outer (option_copied c.loop-one.all) (option_copied c.with_name-all.result) c.args.names.now c.args.columns.now c.loop-one.one-index c.one-item.result c.text.result.now c.loop-one-test.true c.one-item.is c.text.ensures (c.loop-one.invariant outer was) c.with_name-all.ensures
