use Rattle.std.proofs.Common.{Bool, List, sym, subst, refl, length}
use Rattle.resolve_names.specs.Marks.{AreFollowed}
use Rattle.resolve_names.proofs.Path.{followed_none}
use Rattle.resolve_names.proofs.follow.follow_one.Goals as goal

pub loop-number-init : goal.loop-number-init
loop-number-init c =
    subst (λ (ms : List Bool). AreFollowed c.args.scopes.now c.args.from c.args.alias.now c.args.before.now 0 ms) (sym c.in_ok-marks.ensures)
    (followed_none c.args.scopes.now c.args.from c.args.alias.now c.args.before.now (length c.args.scopes.now) refl)
