-- The lasso of a solution of a target's clauses meets the target.
use Rattle.std.proofs.Common.{Bool, List}
use Rattle.core_meaning.specs.declared.target.Target.{Target}
use Rattle.core_meaning.specs.Sequence.{LassoValue}
use Rattle.sat_dimacs.specs.declared.cnf.Cnf.{Cnf}
use Rattle.sat_dimacs.specs.Literal.{IsSolution, value_of}
use Rattle.bound_uppers.specs.declared.table.Bounds.{Bounds}
use Rattle.bound_uppers.specs.Table.{IsTable}
use Rattle.bound_uppers.specs.Candidates.{IsCandidate, Agrees, HasOneLoop}
use Rattle.bmc_laws.specs.TableTold.{StandingHaveOneLoop, AgreeingAreDecoded}
use Rattle.answer_search.specs.Clauses.{SayTarget, MeetsWithin}
use Rattle.answer_search.proofs.ClausesLaw.{stands, sound}

pub solution_meets : (target : Target) (bounds : Bounds) (cnf : Cnf) (values : List Bool) (lasso : LassoValue) → StandingHaveOneLoop → AgreeingAreDecoded
    → SayTarget target bounds cnf → IsSolution cnf.variables cnf.clauses values → IsTable bounds → IsCandidate bounds lasso → (HasOneLoop bounds values → Agrees bounds values lasso) → MeetsWithin target bounds lasso
solution_meets target bounds cnf values lasso chosen decoded say solution is candidate agrees =
    let (other, within, found) = stands target bounds cnf say (value_of values) is solution.satisfies in
    let one : HasOneLoop bounds values = chosen bounds say.table values other (say.laid is) found in
    let decodes = decoded bounds say.table values lasso is (say.laid is) candidate (agrees one) in
    (candidate, (sound target bounds cnf say (value_of values) lasso solution.satisfies decodes).0)
