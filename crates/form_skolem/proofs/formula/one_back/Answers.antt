use Rattle.std.proofs.Common.{arith}
use Rattle.core_tree.specs.Trees.{claim_of}
use Rattle.form_skolem.proofs.Steps.{back_atom, back_field}
use Rattle.form_skolem.proofs.formula.one_back.Goals as goal

pub returns-in-None-clause-leads : goal.returns-in-None-clause-leads
returns-in-None-clause-leads c = λ body next.
    back_atom body c.args.parameters.now c.args.fields.now c.args.place c.args.back.end (claim_of c.args.back.formula) (omega arith) (omega arith) (omega arith) c.in-None.is next

pub returns-in_ok-formula-in-Some-clause-leads : goal.returns-in_ok-formula-in-Some-clause-leads
returns-in_ok-formula-in-Some-clause-leads c = λ body next.
    back_field body c.args.parameters.now c.args.fields.now c.args.place c.args.back.end c.in-Some.field (claim_of c.args.back.formula) (claim_of c.in_ok-after-in-Some.after) (claim_of c.in_ok-formula-in-Some.formula) c.index-parameters-place.result
    (omega arith) (omega arith) c.in-Some.is c.index-parameters-place.is next c.in_ok-after-in-Some.ensures c.in_ok-formula-in-Some.ensures
