use Rattle.bound_uppers.proofs.Decoded.{decodes_candidates, decodes_agreeing, decodes_once}
use Rattle.bound_uppers.proofs.laws.one_lasso_is_decoded.Goals as goal

pub returns-clause-candidate : goal.returns-clause-candidate
returns-clause-candidate c = decodes_candidates

pub returns-clause-agrees : goal.returns-clause-agrees
returns-clause-agrees c = decodes_agreeing

pub returns-clause-once : goal.returns-clause-once
returns-clause-once c = decodes_once
