use Rattle.std.proofs.Common.{Bool, List, length, subst}
use Rattle.resolve_names.specs.Marks.{AreFollowed}
use Rattle.resolve_names.proofs.Path.{behind_none, behind_more}
use Rattle.resolve_names.proofs.follow.follow.Goals as goal

pub loop-alias-init : goal.loop-alias-init
loop-alias-init c = behind_none c.args.scopes.now c.args.from c.in_ok-marks.marks.items c.in_ok-marks.ensures

pub loop-alias-preserved : goal.loop-alias-preserved
loop-alias-preserved c =
    behind_more c.args.scopes.now c.args.from c.args.path.now c.loop-alias.alias-index c.alias-item.result c.loop-alias.marks.items c.in_ok-marks-2.marks.items
    c.loop-alias-test.true c.alias-item.is c.loop-alias.invariant
    (subst (λ (ms : List Bool). AreFollowed c.args.scopes.now c.args.from c.alias-item.result ms (length c.args.scopes.now) c.in_ok-marks-2.marks.items) c.as_slice.ensures.value c.in_ok-marks-2.ensures)
