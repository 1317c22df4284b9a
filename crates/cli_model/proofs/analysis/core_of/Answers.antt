use Rattle.std.proofs.Common.{sym, subst}
use Rattle.cli_words.specs.declared.named.Mode.TheVariants.{Core}
use Rattle.cli_model.specs.Model.{IsFoundIn}
use Rattle.cli_model.proofs.Certified.{core_found}
use Rattle.cli_model.proofs.analysis.core_of.Goals as goal

pub returns : goal.returns
returns g c =
    subst (λ a. IsFoundIn c.args.prepared.ready.loaded Core c.args.settings.now.command c.args.settings.now.part c.args.settings.now.conflicts a) (sym c.answer_of.ensures)
    (core_found c.args.settings.now.command c.args.settings.now.part c.args.settings.now.conflicts c.args.prepared c.requires c.in_ok-found.found c.in_ok-found.ensures)
