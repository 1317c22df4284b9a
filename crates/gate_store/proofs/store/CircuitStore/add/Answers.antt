use Rattle.std.proofs.Common.{sym}
use Rattle.gate_trait.specs.declared.gate.Gate.TheVariants.{Constant}
use Rattle.std.specs.Prelude.{true}
use Rattle.gate_trait.proofs.Values.{keeps_tried, computes_tried}
use Rattle.gate_store.proofs.Indexed.{indexed_tried, computes_found, few_found}
use Rattle.gate_store.proofs.store.CircuitStore.add.Goals as goal

pub of_gate-requires : goal.of_gate-requires
of_gate-requires c = few_found _ c.self.inside.rest.items c.args.gate c.in-Some.number.now c.self.invariant c.in-Some.ensures.value

pub invariant_of-self : goal.invariant_of-self
invariant_of-self c =
    indexed_tried c.add_new.result _ _ c.self.inside.rest.items c.add_new.new.rest.items c.args.self.now c.args.gate c.self.view_is c.self.invariant c.requires.lower c.requires.no_constant (sym c.in-None.ensures.value)
    c.add_new.ensures.ok c.add_new.ensures.ok_found c.add_new.ensures.ok_few c.add_new.ensures.err c.add_new.ensures.err_found

pub returns-in-Some-clause-ok : goal.returns-in-Some-clause-ok
returns-in-Some-clause-ok c =
    computes_found _ c.self.inside.rest.items c.args.self.now c.args.gate c.in-Some.number.now c.of_gate.result c.self.view_is c.self.invariant c.in-Some.ensures.value c.of_gate.ensures.number c.of_gate.ensures.positive

pub returns-in-None-clause-keeps : goal.returns-in-None-clause-keeps
returns-in-None-clause-keeps c =
    keeps_tried c.add_new.result (Constant true) c.self.inside.rest.items c.add_new.new.rest.items c.args.self.now c.args.gate c.self.view_is c.add_new.ensures.ok c.add_new.ensures.err

pub returns-in-None-clause-ok : goal.returns-in-None-clause-ok
returns-in-None-clause-ok c =
    computes_tried c.add_new.result (Constant true) c.self.inside.rest.items c.add_new.new.rest.items c.args.self.now c.args.gate c.self.view_is c.add_new.ensures.ok c.add_new.ensures.node
