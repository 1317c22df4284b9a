use Rattle.std.proofs.lemmas.Grind.{common_steps}
use Rattle.std.proofs.Common.{rules, arith, to_z, of_z, w64, ◌≡◌, subst, sym, length, refl}
use Rattle.test_dpll.specs.declared.scan.Found.{Found}
use Rattle.test_dpll.specs.Path.{steps_of}
use Rattle.test_dpll.specs.Scan.{IsFound, IsUnitAt}
use Rattle.test_dpll.proofs.Standing.{false_stands}
use Rattle.test_dpll.proofs.search.take_turn.Goals as goal

pub returns-in-True : goal.returns-in-True
returns-in-True c =
    let found = subst (λ cs. IsFound c.args.path.now cs (length cs) c.find.result) c.clauses.ensures c.find.ensures in
    (c.requires.kept.ready, refl, subst (λ (f : Found). IsFound c.args.path.now c.args.cnf.now.clauses (length c.args.cnf.now.clauses) f) c.in-True.is found)

pub go_back-requires-clause-conflict : goal.go_back-requires-clause-conflict
go_back-requires-clause-conflict c =
    let found = subst (λ cs. IsFound c.args.path.now cs (length cs) c.find.result) c.clauses.ensures c.find.ensures in
    let says = subst (λ (f : Found). IsFound c.args.path.now c.args.cnf.now.clauses (length c.args.cnf.now.clauses) f) c.in-False.is found in
    false_stands c.args.cnf.now.clauses c.args.log.now.checker (steps_of c.args.path.now) c.in-False.number c.requires.kept.holds says.0 says.1

pub take_unit-requires-clause-unit : goal.take_unit-requires-clause-unit
take_unit-requires-clause-unit c =
    let found = subst (λ cs. IsFound c.args.path.now cs (length cs) c.find.result) c.clauses.ensures c.find.ensures in
    let unit : IsUnitAt c.args.path.now c.args.cnf.now.clauses c.in-Unit.number c.in-Unit.literal =
    subst (λ (f : Found). IsFound c.args.path.now c.args.cnf.now.clauses (length c.args.cnf.now.clauses) f) c.in-Unit.is found in
    let same : to_z w64 (of_z w64 c.in-Unit.literal) ≡ c.in-Unit.literal = first_of (search rules, grind (arith, common_steps)) in
    subst (λ l. IsUnitAt c.args.path.now c.args.cnf.now.clauses c.in-Unit.number l) (sym same) unit

pub take_least-requires-clause-free : goal.take_least-requires-clause-free
take_least-requires-clause-free c =
    let found = subst (λ cs. IsFound c.args.path.now cs (length cs) c.find.result) c.clauses.ensures c.find.ensures in
    (c.in-Open.field-0, subst (λ (f : Found). IsFound c.args.path.now c.args.cnf.now.clauses (length c.args.cnf.now.clauses) f) c.in-Open.is found)
