use Rattle.answer_laws.proofs.no_line_of_a_lasso_is_named.Goals as goal
use Rattle.answer_laws.proofs.Named.{none_named}

pub returns : goal.returns
returns c = none_named
