use Rattle.answer_certificates.proofs.KeptLaw.{kept_law}
use Rattle.answer_certificates.proofs.kept_facts_rule_out.Goals as goal

pub returns : goal.returns
returns c = kept_law c.satisfying_lassos_are_candidates.ensures
