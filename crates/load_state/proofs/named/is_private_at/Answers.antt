use Rattle.std.proofs.Common.{List, ◌∙◌, ap, sym, slice_get}
use Rattle.syntax_tree.specs.declared.module.Open.{Open}
use Rattle.load_state.proofs.Replay.{private_written, private_implied}
use Rattle.load_state.proofs.named.is_private_at.Goals as goal

pub returns-in-Some : goal.returns-in-Some
returns-in-Some c = λ o at. private_written c.args.source.now.text.tree c.args.k c.in-Some.open.now o (ap (λ (os : List Open). slice_get os c.args.k) (sym c.as_slice.ensures) ∙ c.in-Some.ensures.some) at

pub returns-in-None : goal.returns-in-None
returns-in-None c = λ o at. private_implied c.args.source.now.text.tree c.args.k o (ap (λ (os : List Open). slice_get os c.args.k) (sym c.as_slice.ensures) ∙ c.in-None.ensures.none) at
