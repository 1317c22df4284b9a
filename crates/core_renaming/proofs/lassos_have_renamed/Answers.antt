use Rattle.core_renaming.proofs.Existing.{lassos_renamed}
use Rattle.core_renaming.proofs.lassos_have_renamed.Goals as goal

pub returns : goal.returns
returns c = lassos_renamed
