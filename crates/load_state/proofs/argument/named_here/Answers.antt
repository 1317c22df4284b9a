use Rattle.std.proofs.Common.{sym, ◌∙◌}
use Rattle.load_state.proofs.Told.{here_given, here_alone}
use Rattle.load_state.proofs.argument.named_here.Goals as goal

pub returns-in-Some : goal.returns-in-Some
returns-in-Some c = λ instances texts k stands.
    here_given instances texts k c.args.opener stands c.args.name.now c.known-found.result c.in-Some.given _ _ c.known-found.ensures (sym c.given_at.ensures ∙ c.in-Some.is) c.joined.ensures

pub returns-in-None : goal.returns-in-None
returns-in-None c = λ instances texts k stands. here_alone instances texts k c.args.opener stands c.args.name.now c.known-found.result c.known-found.ensures (sym c.given_at.ensures ∙ c.in-None.is)
