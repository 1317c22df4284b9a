use Rattle.load_modules.specs.Numbered.{labels_before}
use Rattle.load_modules.proofs.Walking.{plain_label}
use Rattle.load_modules.proofs.order.has_label.Goals as goal

pub returns-in-None : goal.returns-in-None
returns-in-None c = λ same. plain_label (labels_before c.args.instances.now c.args.number) c.args.way.now c.args.label.now c.in-None.ensures.none (c.is_same.ensures.yes same)
