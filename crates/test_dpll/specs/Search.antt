-- What a search keeps, and what a turn of it comes to.
use Rattle.std.specs.Prelude.{◌≡◌, ℕ, ◌+◌, ◌-◌, ◌*◌, ◌^◌, ◌<◌, ◌≤◌, ℤ, nat_abs, neg_ℤ, List, [], ◌∷◌, Option, Some, None, IsSomeAnd, length, slice_get}
use Rattle.sat_lrat.specs.declared.line.Rest.TheVariants.{Nothing, One}
use Rattle.sat_lrat.specs.Step.{State, start, clause_at, among, rest_of, Refutes}
use Rattle.sat_lemmas.specs.declared.log.LemmaLog.{LemmaLog}
use Rattle.sat_lemmas.specs.Outcome.{AreLemmas}
use Rattle.test_dpll.specs.declared.path.Path.{Path}
use Rattle.test_dpll.specs.declared.path.Step.{Step}
use Rattle.test_dpll.specs.declared.scan.Found.TheVariants as has
use Rattle.test_dpll.specs.declared.search.Back.{Back}
use Rattle.test_dpll.specs.declared.search.Back.TheVariants as backs
use Rattle.test_dpll.specs.declared.search.Turn.{Turn}
use Rattle.test_dpll.specs.declared.search.Turn.TheVariants.{On, Refuted, Full}
use Rattle.test_dpll.specs.Steps.{value_by, denial_of}
use Rattle.test_dpll.specs.Path.{steps_of, IsPath}
use Rattle.test_dpll.specs.Scan.{IsFound}
use Rattle.test_dpll.specs.Progress.{number_of, come_to, left}

-- the clauses of the formula stand under the numbers from 1 on
abbrev pub HoldsFormula : List (List ℤ) → State → Type 0
HoldsFormula formula state = (k : ℕ) → k < length formula → clause_at state (k + 1) ≡ slice_get formula k

-- the clause under a number has this literal alone beside those that the steps make false
pub record IsUnit (state : State) (steps : List Step) (number : ℕ) (literal : ℤ) : Type 0 where
  pub known : number ≤ state.top
  pub unit : IsSomeAnd (clause_at state number) (λ clause. rest_of (among (denial_of steps)) clause ≡ One literal)

-- a step that is forced has a reason
abbrev pub HasReason : State → List Step → ℤ → Option ℕ → Type 0
HasReason state below literal None = Unit {0}
HasReason state below literal (Some number) = IsUnit state below number literal

abbrev pub HaveReasons : State → List Step → Type 0
HaveReasons state [] = Unit {0}
HaveReasons state (step ∷ below) = HasReason state below step.literal step.reason × HaveReasons state below

-- the clause under a number is false by the steps
abbrev pub IsFalse : State → List Step → ℕ → Type 0
IsFalse state steps number = IsSomeAnd (clause_at state number) (λ clause. rest_of (among (denial_of steps)) clause ≡ Nothing)

-- A lemma "not all of these steps" follows from a false clause, or from a unit one and the lemma that denies the
-- steps with the literal that it has left.
abbrev pub CanDeny : State → List Step → ℕ → Option ℕ → Type 0
CanDeny state steps first None = IsFalse state steps first
CanDeny state steps first (Some second) =
    (literal : ℤ) × (0 < nat_abs literal) × (value_by steps (nat_abs literal) ≡ None) × IsUnit state steps first literal × (clause_at state second ≡ Some (neg_ℤ literal ∷ denial_of steps))

-- the hints of such a lemma
abbrev pub hints_by : ℕ → Option ℕ → List ℕ
hints_by first None = first ∷ []
hints_by first (Some second) = first ∷ second ∷ []

-- what a search keeps
pub record IsSearch (formula : List (List ℤ)) (log : LemmaLog) (path : Path) : Type 0 where
  pub lemmas : AreLemmas (start formula) log.lines log.checker
  pub top : log.checker.top ≡ length formula + length log.lines
  pub holds : HoldsFormula formula log.checker
  pub ready : IsPath path
  pub reasons : HaveReasons log.checker (steps_of path)

-- what became of a lemma: it stands under a number, or it is empty and refutes the formula
abbrev pub IsDenied : List (List ℤ) → LemmaLog → Path → Option ℕ → Type 0
IsDenied formula log path None = Refutes formula log.lines
IsDenied formula log path (Some number) =
    IsSearch formula log path × (number ≤ log.checker.top) × (clause_at log.checker number ≡ Some (denial_of (steps_of path))) × (0 < length (steps_of path))

-- where all that begins with the steps comes to an end
abbrev pub end_of : ℕ → List Step → ℕ
end_of most steps = (number_of steps + 1) * 3 ^ (most - length steps)

-- A step that was tried is turned round, right behind all that began with it. A step that was forced is gone, and what
-- began with it ends no later.
pub record IsTurned (formula : List (List ℤ)) (old : Path) (log : LemmaLog) (new : Path) : Type 0 where
  pub kept : IsSearch formula log new
  pub size : length new.values.items ≡ length old.values.items
  pub come : end_of (length old.values.items) (steps_of old) ≡ come_to (length old.values.items) (steps_of new)

pub record IsShorter (formula : List (List ℤ)) (old : Path) (log : LemmaLog) (new : Path) (reason last : ℕ) : Type 0 where
  pub kept : IsSearch formula log new
  pub size : length new.values.items ≡ length old.values.items
  pub follows : CanDeny log.checker (steps_of new) reason (Some last)
  pub ends : end_of (length old.values.items) (steps_of old) ≤ end_of (length old.values.items) (steps_of new)
  pub shorter : length (steps_of new) + 1 ≡ length (steps_of old)

abbrev pub IsBack : List (List ℤ) → Path → LemmaLog → Path → Back → Type 0
IsBack formula old log new backs.On = IsTurned formula old log new
IsBack formula old log new backs.Refuted = Refutes formula log.lines
IsBack formula old log new (backs.More reason last) = IsShorter formula old log new reason last

-- a turn goes on with less to do, refutes the formula, or finds each clause true
abbrev pub IsTurn : List (List ℤ) → ℕ → Path → LemmaLog → Path → Turn → Type 0
IsTurn formula most old log new On = IsSearch formula log new × (length new.values.items ≡ most) × (left most (steps_of new) < left most (steps_of old))
IsTurn formula most old log new Refuted = Refutes formula log.lines
IsTurn formula most old log new Full = IsPath new × (length new.values.items ≡ most) × IsFound new formula (length formula) has.True
