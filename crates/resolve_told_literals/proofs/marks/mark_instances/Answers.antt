use Rattle.std.proofs.Common.{List, subst}
use Rattle.syntax_tree.specs.declared.instance.Instance.{Instance}
use Rattle.indexmap.specs.IndexMap.{get_by_text}
use Rattle.resolve_told_literals.specs.Told.{IsWritten}
use Rattle.resolve_told_literals.specs.Marks.{AreMarked}
use Rattle.resolve_told_literals.proofs.Marking.{instances_none, instances_more, instances_all}
use Rattle.resolve_told_literals.proofs.marks.mark_instances.Goals as goal

pub loop-instance-init : goal.loop-instance-init
loop-instance-init c = instances_none (get_by_text c.args.numbers.now) c.args.loaded.now.texts c.as_slice-instance-items.result.now c.args.marks.now.items

pub loop-instance-preserved : goal.loop-instance-preserved
loop-instance-preserved c =
    instances_more (get_by_text c.args.numbers.now) c.args.loaded.now.texts c.as_slice-instance-items.result.now c.loop-instance.instance-index c.instance-item.result c.args.marks.now.items c.loop-instance.marks.items
    c.mark_instance.new.marks.items c.loop-instance-test.true c.instance-item.is c.loop-instance.invariant (c.in_ok-mark_instance.ensures c.if-not-branch.false)

pub returns : goal.returns
returns c = λ t.
    subst (λ (xs : List Instance). AreMarked (get_by_text c.args.numbers.now) (IsWritten c.args.loaded.now.texts xs) c.args.marks.now.items c.loop-instance.marks.items)
    c.as_slice-instance-items.ensures
    (instances_all (get_by_text c.args.numbers.now) c.args.loaded.now.texts c.as_slice-instance-items.result.now c.loop-instance.instance-index c.args.marks.now.items c.loop-instance.marks.items
    c.loop-instance-test.false c.loop-instance.invariant)
