use Rattle.std.proofs.Common.{refl, arith}
use Rattle.load_modules.proofs.Walking.{walked_by_root}
use Rattle.load_modules.proofs.order.are_walked.Goals as goal

pub returns-then-walk-instances : goal.returns-then-walk-instances
returns-then-walk-instances c = λ yes.
    walked_by_root c.args.instances.now c.args.texts.now c.args.integers 0 c.begin.new.walk.met _ c.new.result.items c.begin.new.walk.passed.items (c.in_ok-begin.ensures c.if-not-branch.false) refl refl c.new.ensures.items
    (omega arith) (c.has_integers.ensures yes)
