use Rattle.syntax_laws.specs.Division.{start_of}
use Rattle.syntax_laws.proofs.Divided.{division_of, one, no_division}
use Rattle.syntax_laws.proofs.tokens_are_the_one_division.Goals as goal

pub returns-clause-is_divided : goal.returns-clause-is_divided
returns-clause-is_divided c text z tokens e = division_of text z tokens e

pub returns-clause-is_one : goal.returns-clause-is_one
returns-clause-is_one c text z ns ms tokens others d e = one (start_of text) z ns ms tokens others d e

pub returns-clause-refused : goal.returns-clause-refused
returns-clause-refused c text z refusal ns tokens e d = no_division text z refusal ns tokens e d
