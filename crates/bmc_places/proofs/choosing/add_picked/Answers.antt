use Rattle.std.proofs.Common.{◌∙◌, ap, List, slice_get}
use Rattle.gate_matrix.specs.Matrices.{MatrixEntries}
use Rattle.bmc_windows.proofs.PushLemmas.{push_at}
use Rattle.bmc_places.proofs.StoreLaws.{grows_extends}
use Rattle.bmc_places.proofs.choosing.add_picked.Goals as goal

pub returns-clause-extends : goal.returns-clause-extends
returns-clause-extends g c = grows_extends c.args.store.now c.add_matrix.new.store c.in_ok-number.ensures.grows

pub returns-clause-chooses : goal.returns-clause-chooses
returns-clause-chooses g c = λ p q at_p at_q. (
  c.in_ok-new.new,
  ap (λ (ms : List MatrixEntries). slice_get ms c.in_ok-number.number) c.in_ok-number.ensures.added.matrices ∙ push_at c.args.store.now.matrices.items c.in_ok-new.new c.in_ok-number.number c.in_ok-number.ensures.number,
  (λ x. c.in_ok-new.ensures.means p q at_p at_q x),
)
