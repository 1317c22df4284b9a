use Rattle.form_target.proofs.Tails.{placed_top, placed_child, placed_subset}
use Rattle.form_target.proofs.sigs.placed.Goals as goal

pub returns-in-Top : goal.returns-in-Top
returns-in-Top c = placed_top c.args.model.now c.args.all.now.items c.args.number c.args.sig.now c.in-Top.is

pub returns-in_ok-push-in-Extends : goal.returns-in_ok-push-in-Extends
returns-in_ok-push-in-Extends c = placed_child c.args.model.now c.args.all.now.items c.push.new.self.items c.args.number c.args.sig.now c.requires c.in-Extends.parent _ c.in-Extends.is c.in_ok-push-in-Extends.ensures.items c.in_ok-inside-in-Extends.ensures

pub returns-in_ok-push-in-Subset : goal.returns-in_ok-push-in-Subset
returns-in_ok-push-in-Subset c = placed_subset c.args.model.now c.args.all.now.items c.push-in-Subset.new.self.items c.args.number c.args.sig.now c.requires c.in-Subset.parents _ _ c.in-Subset.is c.in_ok-push-in-Subset.ensures.items c.in_ok-inside-in-Subset.ensures (rw c.as_slice.ensures at c.in_ok-union-in-Subset.ensures)
