use Rattle.core_renaming.proofs.Keeping.{declarations_kept, scopes_kept, satisfaction_kept}
use Rattle.core_renaming.proofs.Targets.{targets_kept}
use Rattle.core_renaming.proofs.renaming_keeps_models.Goals as goal

pub returns-clause-declarations : goal.returns-clause-declarations
returns-clause-declarations c = declarations_kept

pub returns-clause-scopes : goal.returns-clause-scopes
returns-clause-scopes c = scopes_kept

pub returns-clause-satisfied : goal.returns-clause-satisfied
returns-clause-satisfied c = satisfaction_kept

pub returns-clause-targets : goal.returns-clause-targets
returns-clause-targets c = targets_kept
