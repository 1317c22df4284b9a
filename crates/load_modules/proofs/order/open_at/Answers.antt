use Rattle.load_modules.proofs.Walking.{opens_here}
use Rattle.load_modules.proofs.order.open_at.Goals as goal

pub returns-in-Some : goal.returns-in-Some
returns-in-Some c =
    opens_here c.args.instances.now c.args.texts.now c.args.number c.args.place c.args.count c.in-Some.instance.now c.own_open.result c.requires.counted c.requires.within c.in-Some.ensures c.own_open.ensures
