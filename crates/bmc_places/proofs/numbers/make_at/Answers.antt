use Rattle.std.proofs.Common.{◌∙◌, ap, List, slice_get}
use Rattle.gate_trait.specs.declared.node.Node.{Node}
use Rattle.gate_matrix.specs.Matrices.{MatrixEntries}
use Rattle.bmc_windows.proofs.PushLemmas.{push_at}
use Rattle.bmc_places.proofs.StoreLaws.{grows_extends}
use Rattle.bmc_places.proofs.numbers.make_at.Goals as goal

pub returns-in_ok-number-in-Count-clause-makes : goal.returns-in_ok-number-in-Count-clause-makes
returns-in_ok-number-in-Count-clause-makes g c = rw c.in-Count.is (λ p at. (
  c.in_ok-new-in-Count.new,
  ap (λ (ns : List (List Node)). slice_get ns c.in_ok-number-in-Count.number) c.in_ok-number-in-Count.ensures.added ∙ push_at c.args.store.now.integers.items c.in_ok-new-in-Count.new c.in_ok-number-in-Count.number c.in_ok-number-in-Count.ensures.number,
  c.in_ok-new-in-Count.ensures.width,
  λ x w e. c.in_ok-new-in-Count.ensures.value p at x w e,
))

pub returns-in_ok-number-in-Of-clause-makes : goal.returns-in_ok-number-in-Of-clause-makes
returns-in_ok-number-in-Of-clause-makes g c = rw c.in-Of.is (λ p q at_p at_q. (let v = c.in_ok-new-in-Of.ensures.value p q at_p at_q in (
  c.in_ok-new-in-Of.new,
  ap (λ (ns : List (List Node)). slice_get ns c.in_ok-number-in-Of.number) c.in_ok-number-in-Of.ensures.added ∙ push_at c.args.store.now.integers.items c.in_ok-new-in-Of.new c.in_ok-number-in-Of.number c.in_ok-number-in-Of.ensures.number,
  v.0,
  v.1,
)))

pub returns-in_ok-number-in-Total-clause-makes : goal.returns-in_ok-number-in-Total-clause-makes
returns-in_ok-number-in-Total-clause-makes g c = rw c.in-Total.is (λ p at. (
  c.in_ok-new-in-Total.new,
  ap (λ (ns : List (List Node)). slice_get ns c.in_ok-number-in-Total.number) c.in_ok-number-in-Total.ensures.added ∙ push_at c.args.store.now.integers.items c.in_ok-new-in-Total.new c.in_ok-number-in-Total.number c.in_ok-number-in-Total.ensures.number,
  c.in_ok-new-in-Total.ensures.width,
  λ x w e f. c.in_ok-new-in-Total.ensures.value p at x w e f,
))

pub returns-in_ok-number-in-AsSet-clause-makes : goal.returns-in_ok-number-in-AsSet-clause-makes
returns-in_ok-number-in-AsSet-clause-makes g c = rw c.in-AsSet.is (λ s at. (
  c.in_ok-new-in-AsSet.new,
  ap (λ (ms : List MatrixEntries). slice_get ms c.in_ok-number-in-AsSet.number) c.in_ok-number-in-AsSet.ensures.added.matrices ∙ push_at c.args.store.now.matrices.items c.in_ok-new-in-AsSet.new c.in_ok-number-in-AsSet.number c.in_ok-number-in-AsSet.ensures.number,
  λ x. c.in_ok-new-in-AsSet.ensures.means s at x,
))

pub returns-in_ok-number-in-AsSet-clause-extends : goal.returns-in_ok-number-in-AsSet-clause-extends
returns-in_ok-number-in-AsSet-clause-extends g c = grows_extends c.args.store.now c.add_matrix.new.store c.in_ok-number-in-AsSet.ensures.grows
