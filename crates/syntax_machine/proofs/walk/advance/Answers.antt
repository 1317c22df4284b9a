use Rattle.std.proofs.Common.{◌∙◌}
use Rattle.syntax_machine.proofs.walk.advance.Goals as goal

pub tidy-requires : goal.tidy-requires
tidy-requires c = c.in_ok-led.ensures.within

pub returns-clause-within : goal.returns-clause-within
returns-clause-within c = c.in_ok-next.ensures.within

pub returns-clause-leads : goal.returns-clause-leads
returns-clause-leads c = c.in_ok-next.ensures.same ∙ c.in_ok-led.ensures.leads
