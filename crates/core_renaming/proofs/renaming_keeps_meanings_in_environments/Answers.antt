use Rattle.core_renaming.proofs.Alike.{formulas_kept_in, terms_kept_in}
use Rattle.core_renaming.proofs.renaming_keeps_meanings_in_environments.Goals as goal

pub returns-clause-formulas : goal.returns-clause-formulas
returns-clause-formulas c = formulas_kept_in

pub returns-clause-terms : goal.returns-clause-terms
returns-clause-terms c = terms_kept_in
