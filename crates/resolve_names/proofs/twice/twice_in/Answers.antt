use Rattle.std.proofs.Common.{◌≡◌, length, Option, Some, slice_get, refl, subst}
use Rattle.std.proofs.lemmas.Option.{slice_get_read}
use Rattle.base_types.specs.declared.place.Position.{Position}
use Rattle.resolve_names.specs.Twice.{IsTwiceAt}
use Rattle.resolve_names.specs.Noted.{IsLeastOf}
use Rattle.resolve_names.proofs.Noting.{none_in, some_in}
use Rattle.resolve_names.proofs.twice.twice_in.Goals as goal

pub returns-in-None-second-clause-just : goal.returns-in-None-second-clause-just
returns-in-None-second-clause-just c =
    let at : slice_get c.args.texts.now c.args.instance.now.text ≡ Some c.in-Some.text.now =
    slice_get_read c.args.texts.now (length c.args.texts.now) c.args.instance.now.text c.in-Some.text.now refl c.in-Some.ensures.lookup.3.0 c.in-Some.ensures.lookup.1 in
    none_in c.args.texts.now c.args.instance.now c.in-Some.text.now at
    (subst (λ (o : Option Position). IsLeastOf (IsTwiceAt c.in-Some.text.now.tree) o) c.in-None-second.is c.in_ok-second.ensures)

pub returns-in-Some-second-clause-just : goal.returns-in-Some-second-clause-just
returns-in-Some-second-clause-just c =
    let at : slice_get c.args.texts.now c.args.instance.now.text ≡ Some c.in-Some.text.now =
    slice_get_read c.args.texts.now (length c.args.texts.now) c.args.instance.now.text c.in-Some.text.now refl c.in-Some.ensures.lookup.3.0 c.in-Some.ensures.lookup.1 in
    some_in c.args.texts.now c.args.instance.now c.in-Some.text.now c.in-Some-second.place at
    (subst (λ (o : Option Position). IsLeastOf (IsTwiceAt c.in-Some.text.now.tree) o) c.in-Some-second.is c.in_ok-second.ensures)
