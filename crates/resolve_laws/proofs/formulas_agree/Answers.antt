use Rattle.resolve_laws.proofs.ReadCore.{is_read_alike}
use Rattle.resolve_laws.proofs.formulas_agree.Goals as goal

pub returns : goal.returns
returns c at picks scope e first second = is_read_alike at picks first second
