use Rattle.std.proofs.Common.{◌∙◌, ap, List, slice_get}
use Rattle.gate_matrix.specs.Matrices.{MatrixEntries}
use Rattle.bmc_windows.proofs.PushLemmas.{push_at}
use Rattle.bmc_places.proofs.StoreLaws.{grows_extends}
use Rattle.bmc_places.proofs.rests.add_rest_of.Goals as goal

pub returns-clause-extends : goal.returns-clause-extends
returns-clause-extends g c = grows_extends c.args.store.now c.add_matrix.new.store c.in_ok-made.ensures.grows

pub returns-clause-rests : goal.returns-clause-rests
returns-clause-rests g c = λ m at. (
  c.in_ok-new.new,
  ap (λ (ms : List MatrixEntries). slice_get ms c.in_ok-made.made) c.in_ok-made.ensures.added.matrices ∙ push_at c.args.store.now.matrices.items c.in_ok-new.new c.in_ok-made.made c.in_ok-made.ensures.number,
  (λ x u. c.in_ok-new.ensures.means m at x u),
)
