use Rattle.std.proofs.Common.{◌∙◌, sym}
use Rattle.resolve_told_sigs.proofs.Lists.{any_there}
use Rattle.resolve_told_sigs.proofs.above.has.Goals as goal

pub returns-clause-there : goal.returns-clause-there
returns-clause-there c = λ t. any_there c.args.list.now c.args.number (sym c.in_list.ensures ∙ t)
