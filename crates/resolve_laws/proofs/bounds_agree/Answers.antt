use Rattle.resolve_laws.proofs.ReadCore.{bound_alike}
use Rattle.resolve_laws.proofs.bounds_agree.Goals as goal

pub returns : goal.returns
returns c at picks scope w e columns others first second = bound_alike at picks first others second
