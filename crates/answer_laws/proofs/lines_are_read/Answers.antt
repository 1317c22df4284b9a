use Rattle.answer_laws.proofs.lines_are_read.Goals as goal
use Rattle.answer_laws.proofs.Sound.{line_is, header_is, state_line_is}

pub returns-clause-relation : goal.returns-clause-relation
returns-clause-relation c = λ labels r line set e. (line_is labels.atoms r line set e).text

pub returns-clause-header : goal.returns-clause-header
returns-clause-header c = λ line count start e. (header_is line count start e).text

pub returns-clause-state : goal.returns-clause-state
returns-clause-state c = λ number line e. state_line_is number line e
