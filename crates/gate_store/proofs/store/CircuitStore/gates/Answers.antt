use Rattle.gate_store.proofs.Indexed.{distinct}
use Rattle.gate_store.proofs.store.CircuitStore.gates.Goals as goal

pub returns-clause-distinct : goal.returns-clause-distinct
returns-clause-distinct c = distinct _ c.self.inside.rest.items c.args.self.now c.self.view_is c.self.invariant
