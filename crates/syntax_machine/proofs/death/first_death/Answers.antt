use Rattle.std.proofs.Common.{subst, ◌∙◌}
use Rattle.syntax_tree.specs.Spelling.{kinds}
use Rattle.syntax_machine.specs.Machine.{Thread}
use Rattle.syntax_machine.specs.Threads.{IsFirstDeath}
use Rattle.syntax_machine.proofs.Deaths.{first_refuses}
use Rattle.syntax_machine.proofs.death.first_death.Goals as goal

pub returns-clause-first : goal.returns-clause-first
returns-clause-first c =
    subst (λ (t : Thread). IsFirstDeath (kinds c.args.tokens.now) t c.in_ok-death.death) (c.as_slice.ensures ∙ c.in_ok-start.ensures) c.in_ok-death.ensures.first

pub returns-clause-refuses : goal.returns-clause-refuses
returns-clause-refuses c =
    first_refuses c.args.root c.args.room (kinds c.args.tokens.now) c.in_ok-death.death (returns-clause-first c)
