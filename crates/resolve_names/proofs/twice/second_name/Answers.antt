use Rattle.std.proofs.Common.{Option, subst, sym}
use Rattle.base_types.specs.declared.place.Position.{Position}
use Rattle.resolve_names.specs.Twice.{sig_names, assertion_names, IsSecondAt, IsTwiceAt}
use Rattle.resolve_names.specs.Noted.{IsLeastOf}
use Rattle.resolve_names.proofs.Second.{lesser_least}
use Rattle.resolve_names.proofs.twice.second_name.Goals as goal

pub returns : goal.returns
returns c =
    subst (λ (o : Option Position). IsLeastOf (IsTwiceAt c.args.tree.now) o) (sym c.lesser.ensures)
    (lesser_least (IsSecondAt (sig_names c.args.tree.now)) (IsSecondAt (assertion_names c.args.tree.now)) c.in_ok-sig.sig c.in_ok-claim.claim c.in_ok-sig.ensures c.in_ok-claim.ensures)
