use Rattle.std.proofs.Common.{ℕ, List, ◌++◌, ◌∙◌, ap}
use Rattle.answer_texts.specs.Ring.{made_unknown}
use Rattle.cli_model.proofs.ring.spent_whole.Goals as goal

pub returns : goal.returns
returns c conflicts is =
    c.in_ok-text.ensures ∙ ap (λ (r : List ℕ). made_unknown c.args.nodes ++ r) (c.deref.ensures.value ∙ c.in_ok-rest.ensures conflicts is)
