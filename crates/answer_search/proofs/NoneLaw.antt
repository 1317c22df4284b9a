-- Clauses that lines refute leave no lasso that meets the target: a canonical one is enough.
use Rattle.std.proofs.Common.{ℤ, List}
use Rattle.core_meaning.specs.declared.target.Target.{Target}
use Rattle.core_meaning.specs.Satisfied.{SatisfiesTarget}
use Rattle.bound_uppers.specs.declared.table.Bounds.{Bounds}
use Rattle.bound_uppers.specs.Candidates.{HasSets}
use Rattle.bound_naming.specs.declared.neighbours.TheConstants.{NAMED_PAIRS}
use Rattle.bound_laws.specs.Canonical.{CandidatesHaveCanonical}
use Rattle.sat_dimacs.specs.declared.cnf.Cnf.{Cnf}
use Rattle.sat_lrat.specs.declared.line.Line.{Line}
use Rattle.sat_lrat.specs.Step.{Refutes, IsUnsatisfiable}
use Rattle.answer_search.specs.Clauses.{SayTarget, IsRuledOut}
use Rattle.answer_search.proofs.ClausesLaw.{complete}

pub ruled_out : (target : Target) (bounds : Bounds) (cnf : Cnf) (lines : List Line) → ((formula : List (List ℤ)) (refutation : List Line) → Refutes formula refutation → IsUnsatisfiable formula) → CandidatesHaveCanonical → HasSets bounds
    → SayTarget target bounds cnf → Refutes cnf.clauses lines → IsRuledOut target bounds
ruled_out target bounds cnf lines sound named sets say refutes is lasso candidate meets =
    let satisfied : SatisfiesTarget target lasso = record { numbers = meets.0; formulas = meets.1 } in
    let (other, is_candidate, canonical, satisfies) = named target bounds NAMED_PAIRS say.all lasso is sets (say.paired is).only candidate satisfied in
    let (v, true_in) = complete target bounds cnf say other is is_candidate (satisfies.numbers, satisfies.formulas) canonical in
    sound cnf.clauses lines refutes v true_in
