use Rattle.std.proofs.Common.{refl}
use Rattle.cli_model.proofs.ready.made_ready.Goals as goal

pub returns-clause-made : goal.returns-clause-made
returns-clause-made c = record {
  loaded_is = refl;
  ready = c.in_ok-ready.ensures.ready;
}
