use Rattle.std.proofs.Common.{sym, subst}
use Rattle.cli_words.specs.declared.named.Mode.TheVariants.{Least}
use Rattle.cli_model.specs.Model.{IsFoundIn}
use Rattle.cli_model.proofs.Certified.{least_found}
use Rattle.cli_model.proofs.analysis.least_of.Goals as goal

pub returns : goal.returns
returns g c =
    subst (λ a. IsFoundIn c.args.prepared.ready.loaded Least c.args.settings.now.command c.args.settings.now.part c.args.settings.now.conflicts a) (sym c.answer_of.ensures)
    (least_found c.args.settings.now.command c.args.settings.now.part c.args.settings.now.conflicts c.args.prepared c.requires c.in_ok-found.found c.in_ok-found.ensures)
