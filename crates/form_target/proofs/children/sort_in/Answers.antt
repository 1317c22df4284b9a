use Rattle.form_target.proofs.ChildLists.{top_step, subset_step, child_step}
use Rattle.form_target.proofs.children.sort_in.Goals as goal

pub returns-in-Top : goal.returns-in-Top
returns-in-Top c = λ sigs at h. top_step sigs c.args.number c.args.sig.now c.args.lists.now.items h at c.in-Top.is

pub returns-in-Subset : goal.returns-in-Subset
returns-in-Subset c = λ sigs at h. subset_step sigs c.args.number c.args.sig.now c.args.lists.now.items _ h at c.in-Subset.is

pub returns-in_ok-add_child-in-Extends : goal.returns-in_ok-add_child-in-Extends
returns-in_ok-add_child-in-Extends c = λ sigs at h. rw c.in_ok-add_child-in-Extends.ensures.added (child_step sigs c.args.number c.in-Extends.parent c.args.sig.now c.args.lists.now.items h at c.in-Extends.is c.in_ok-add_child-in-Extends.ensures.there)
