use Rattle.gate_trait.specs.declared.gate.Gate.TheVariants.{Input}
use Rattle.gate_store.proofs.Indexed.{input_found, input_absent}
use Rattle.gate_store.proofs.store.CircuitStore.input_number.Goals as goal

pub returns-in-Some-clause-found : goal.returns-in-Some-clause-found
returns-in-Some-clause-found c = input_found _ c.self.inside.rest.items c.args.self.now (Input c.args.variable) c.in-Some.number.now c.self.view_is c.self.invariant c.in-Some.ensures.value

pub returns-in-None-clause-absent : goal.returns-in-None-clause-absent
returns-in-None-clause-absent c = input_absent _ c.self.inside.rest.items c.args.self.now c.args.variable c.self.view_is c.self.invariant c.in-None.ensures.value
