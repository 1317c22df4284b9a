use Rattle.std.proofs.Common.{◌+◌, refl, arith}
use Rattle.form_measures.proofs.Names.{copied_turn, named_end}
use Rattle.form_measures.proofs.scope.copied.Goals as goal

pub loop-name-preserved : goal.loop-name-preserved
loop-name-preserved c = λ d.
    copied_turn d c.args.names.now c.loop-name.all.items c.push.new.self.items c.loop-name.name-index (c.loop-name.name-index + 1) c.name-item.result c.in_ok-copy_of.field-0 refl c.loop-name-test.true c.name-item.is (c.loop-name.invariant d)
    c.in_ok-copy_of.ensures.name (c.in_ok-copy_of.ensures.weight d) c.in_ok-push.ensures.items

pub returns : goal.returns
returns c = λ d. named_end d c.args.names.now c.loop-name.all.items c.loop-name.name-index (omega arith) (c.loop-name.invariant d)
