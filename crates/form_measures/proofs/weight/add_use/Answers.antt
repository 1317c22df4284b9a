use Rattle.std.proofs.Common.{◌≡◌, ◌<◌, List, length, get_or, ap, ◌∙◌, subst}
use Rattle.form_measures.specs.declared.weight.Use.{Use}
use Rattle.form_measures.specs.Weights.{most_used}
use Rattle.form_measures.proofs.Uses.{used_last, used_set}
use Rattle.form_measures.proofs.weight.add_use.Goals as goal

pub returns-in_ok-push-in-None : goal.returns-in_ok-push-in-None
returns-in_ok-push-in-None c = λ d. ap (most_used d) c.in_ok-push-in-None.ensures.items ∙ used_last d c.args.uses.now.items (record { parameter = c.args.parameter; depth = c.args.depth })

pub returns-in-Some : goal.returns-in-Some
returns-in-Some c = λ d.
    used_set d c.args.uses.now.items c.in-Some.place c.args.parameter c.args.depth c.index-known.result.now.depth c.max.result c.index-known.result.now
    (subst (λ (us : List Use). c.in-Some.place < length us) c.as_slice.ensures.value c.in-Some.ensures.within)
    (subst (λ (us : List Use). (get_or us c.in-Some.place c.index-known.result.now).parameter ≡ c.args.parameter) c.as_slice.ensures.value (c.in-Some.ensures.is c.index-known.result.now))
    (ap (λ (u : Use). u.depth) c.index-known.ensures) c.max.ensures
