use Rattle.std.proofs.Common.{◌∙◌}
use Rattle.std.proofs.lemmas.Result.{IfOk-weaker}
use Rattle.sat_dimacs.specs.Literal.{IsSolution}
use Rattle.test_dpll.proofs.Solving.{solution}
use Rattle.test_dpll.proofs.search.answer.Goals as goal

pub returns : goal.returns
returns c =
    IfOk-weaker c.new.result _ (IsSolution c.args.cnf.now.variables c.args.cnf.now.clauses)
    (λ values is. solution c.args.path.now c.args.cnf.now.variables c.args.cnf.now.clauses values c.requires.path c.requires.size c.args.cnf.now.within c.requires.found
    (is ∙ c.as_slice.ensures.value ∙ c.in_ok-values.ensures)) c.new.ensures
