use Rattle.sat_analysis.proofs.Taking.{cut_front, cut_within}
use Rattle.std.proofs.Common.{◌∙◌}
use Rattle.sat_analysis.proofs.minimise.is_forced.Goals as goal

pub cut-requires : goal.cut-requires
cut-requires c = cut_within c.args.noted.now.literals c.expand.new.noted.literals c.len-start.result c.len-start.ensures c.in_ok-expand.ensures.longer

pub returns-clause-same : goal.returns-clause-same
returns-clause-same c = λ e. c.cut.ensures.literals ∙ cut_front c.args.noted.now.literals c.expand.new.noted.literals c.len-start.result c.len-start.ensures c.in_ok-expand.ensures.longer
