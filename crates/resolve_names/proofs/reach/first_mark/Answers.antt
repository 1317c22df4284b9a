use Rattle.std.proofs.Common.{◌∙◌, Bool, List, [], true, sym, ap, subst, length, refl, slice_set}
use Rattle.resolve_names.specs.Marks.{IsBegun}
use Rattle.resolve_names.proofs.Walk.{begun_first}
use Rattle.resolve_names.proofs.reach.first_mark.Goals as goal

pub returns : goal.returns
returns c =
    subst (λ (ms : List Bool). IsBegun c.args.scopes.now c.args.from [] ms)
    (sym (c.mark.ensures ∙ ap (λ ms. slice_set ms c.args.from true) c.in_ok-marks.ensures))
    (begun_first c.args.scopes.now (length c.args.scopes.now) c.args.from refl c.requires.from)
