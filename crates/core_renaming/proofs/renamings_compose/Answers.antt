use Rattle.core_renaming.proofs.Exchanging.{go_back, compose, exchanges_keep}
use Rattle.core_renaming.proofs.renamings_compose.Goals as goal

pub returns-clause-back : goal.returns-clause-back
returns-clause-back c = go_back

pub returns-clause-both : goal.returns-clause-both
returns-clause-both c = compose

pub returns-clause-exchanges : goal.returns-clause-exchanges
returns-clause-exchanges c = exchanges_keep
