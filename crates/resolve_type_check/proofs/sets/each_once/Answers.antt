use Rattle.std.proofs.Common.{◌∙◌, ap}
use Rattle.resolve_type_check.specs.Same.{added}
use Rattle.resolve_type_check.proofs.Added.{each_once_is}
use Rattle.resolve_type_check.proofs.sets.each_once.Goals as goal

pub returns : goal.returns
returns c = each_once_is c.args.rows.now c.add_each.new.all (c.in_ok-add_each.ensures ∙ ap (λ a. added a c.args.rows.now) c.new-all.ensures)
