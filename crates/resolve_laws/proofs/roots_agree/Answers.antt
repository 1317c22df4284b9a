use Rattle.resolve_laws.proofs.ReadCore.{root_alike}
use Rattle.resolve_laws.proofs.roots_agree.Goals as goal

pub returns : goal.returns
returns c at picks scope w e m n first second = root_alike at picks first n second
