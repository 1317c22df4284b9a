use Rattle.std.proofs.Common.{◌∙◌, sym, subst}
use Rattle.std.proofs.lemmas.Option.{same_Some}
use Rattle.answer_trace.proofs.Places.{shown_at}
use Rattle.answer_checks.specs.Parts.{IsStateOf}
use Rattle.answer_checks.proofs.lassos.is_state_at.Goals as goal

pub returns : goal.returns
returns c = λ t s at.
    let there = shown_at c.args.lasso.now c.args.place c.at-state.result.now c.requires c.at-state.ensures in
    subst (IsStateOf c.args.labels.now) (same_Some c.at-state.result.now s (sym there ∙ at)) (c.is_state.ensures t)
