use Rattle.std.proofs.Common.{inr, subst}
use Rattle.bound_uppers.specs.Counts.{IsOfLarge}
use Rattle.answer_analysis.specs.Found.{too_large}
use Rattle.answer_analysis.proofs.ready.bounds_of.Goals as goal

pub refused_in-requires : goal.refused_in-requires
refused_in-requires c =
    let large = subst (IsOfLarge c.args.model.now c.args.scopes.now c.args.chosen.now.keyword) c.in-Err-Refused.field-0-is c.in-Err-Refused.ensures.refused in
    inr (too_large c.args.model.now c.requires.model c.args.chosen.now c.requires.chosen c.args.scopes.now c.requires.by c.requires.unbroken large.1 large.0)
