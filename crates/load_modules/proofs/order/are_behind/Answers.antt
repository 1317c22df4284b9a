use Rattle.std.proofs.Common.{refl, arith}
use Rattle.load_modules.proofs.Walking.{walked_behind}
use Rattle.load_modules.proofs.order.are_behind.Goals as goal

pub returns : goal.returns
returns c = λ yes.
    walked_behind c.args.instances.now c.args.texts.now c.args.text c.args.walk.met c.begin.new.walk.met _ c.args.walk.passed.items c.push.new.self.items c.begin.new.walk.passed.items c.in-Some.instance.now c.requires
    c.in-Some.ensures (c.if-not-is_plain.ensures refl) c.in_ok-push.ensures.items refl (c.in_ok-begin.ensures c.if-not-branch.false) (omega arith)
