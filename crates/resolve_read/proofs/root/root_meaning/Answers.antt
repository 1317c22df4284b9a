use Rattle.std.proofs.Common.{◌∙◌, sym}
use Rattle.resolve_read.proofs.Settled.{means_read}
use Rattle.resolve_read.proofs.root.root_meaning.Goals as goal

pub returns-else-not-same_choice : goal.returns-else-not-same_choice
returns-else-not-same_choice c = means_read c.args.typing.now c.args.root.now _ _ _ c.in_ok-outcome.ensures.decided c.in_ok-outcome.ensures.meaning c.in-Read.is (sym c.as_slice.ensures ∙ c.same_choice.ensures c.if-not-same_choice.false)
