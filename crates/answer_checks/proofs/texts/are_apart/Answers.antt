use Rattle.answer_checks.proofs.Apart.{apart_by}
use Rattle.answer_checks.proofs.texts.are_apart.Goals as goal

pub returns : goal.returns
returns c = λ t. apart_by c.in_ok-index.index c.args.atoms.now (c.are_found-apart.ensures t)
