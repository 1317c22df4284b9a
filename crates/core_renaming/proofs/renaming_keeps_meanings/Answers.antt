use Rattle.core_renaming.proofs.Meanings.{formulas_kept, terms_kept}
use Rattle.core_renaming.proofs.renaming_keeps_meanings.Goals as goal

pub returns-clause-formulas : goal.returns-clause-formulas
returns-clause-formulas c = formulas_kept

pub returns-clause-terms : goal.returns-clause-terms
returns-clause-terms c = terms_kept
