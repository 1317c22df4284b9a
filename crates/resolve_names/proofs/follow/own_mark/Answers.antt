use Rattle.std.proofs.Common.{◌∙◌, Bool, List, [], true, sym, ap, subst, length, refl, slice_set}
use Rattle.resolve_names.specs.Marks.{AreLed}
use Rattle.resolve_names.proofs.Walk.{own_led}
use Rattle.resolve_names.proofs.follow.own_mark.Goals as goal

pub returns : goal.returns
returns c =
    subst (λ (ms : List Bool). AreLed c.args.scopes.now c.args.from true [] ms)
    (sym (c.mark.ensures ∙ ap (λ ms. slice_set ms c.args.from true) c.in_ok-marks.ensures))
    (own_led c.args.scopes.now (length c.args.scopes.now) c.args.from refl c.requires)
