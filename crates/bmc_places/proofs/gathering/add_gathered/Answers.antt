use Rattle.std.proofs.Common.{◌∙◌, ap, List, slice_get}
use Rattle.gate_matrix.specs.Matrices.{MatrixEntries}
use Rattle.bmc_windows.proofs.PushLemmas.{push_at}
use Rattle.bmc_places.proofs.StoreLaws.{grows_extends}
use Rattle.bmc_places.proofs.gathering.add_gathered.Goals as goal

pub returns-clause-extends : goal.returns-clause-extends
returns-clause-extends g c = grows_extends c.args.store.now c.add_matrix.new.store c.in_ok-number.ensures.grows

pub returns-clause-gathers : goal.returns-clause-gathers
returns-clause-gathers g c = (
  c.in_ok-new.new,
  ap (λ (ms : List MatrixEntries). slice_get ms c.in_ok-number.number) c.in_ok-number.ensures.added.matrices ∙ push_at c.args.store.now.matrices.items c.in_ok-new.new c.in_ok-number.number c.in_ok-number.ensures.number,
  c.in_ok-new.ensures.means,
)
