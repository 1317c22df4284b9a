use Rattle.std.proofs.Common.{ℕ, List, All, subst}
use Rattle.resolve_told_sigs.specs.Own.{HasParentsIn}
use Rattle.resolve_told_sigs.proofs.Ancestors.{are_above}
use Rattle.resolve_told_sigs.proofs.above.above_of.Goals as goal

pub returns : goal.returns
returns c =
    are_above c.args.sigs.now c.in_ok-list.list.items
    (subst (λ (ts : List ℕ). All (HasParentsIn c.args.sigs.now ts) ts) c.as_slice.ensures.value (c.is_closed.ensures c.if-not-is_closed.false))
    c.args.sig c.in_ok-list.ensures.own c.in_ok-list.ensures.sound
