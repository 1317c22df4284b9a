-- What the reader of clauses answers: what the text spells, or that memory was wanting.
use Rattle.std.specs.Prelude.{◌≡◌, ℕ, Option, Some, None, Result, Ok, Err, All}
use Rattle.sat_dimacs.specs.Literal.{IsWithin}
use Rattle.sat_dimacs.specs.declared.cnf.Cnf.{Cnf}
use Rattle.sat_dimacs.specs.declared.read.Taken.{Taken}
use Rattle.sat_dimacs.specs.declared.read.WordFault.{WordFault}
use Rattle.sat_dimacs.specs.declared.read.WordFault.TheVariants as words
use Rattle.sat_dimacs.specs.declared.read.CnfFault.{CnfFault}
use Rattle.sat_dimacs.specs.declared.read.CnfFault.TheVariants as faults
use Rattle.sat_dimacs.specs.Text.{Formula, Break}

-- what is taken keeps to the variables
pub record IsTaken (most : ℕ) (taken : Taken) : Type 0 where
  pub closed : All (IsWithin most) taken.closed
  pub opened : IsWithin most taken.opened

abbrev pub Stops : WordFault → Option Taken → Type 0
Stops words.Stop answer = answer ≡ None
Stops words.Memory answer = Unit {0}

-- What a function took is what is to be taken, unless memory ran out.
abbrev pub Takes : {X : Type 0} → Result X WordFault → Taken → Option Taken → Type 0
Takes (Ok x) taken answer = answer ≡ Some taken
Takes (Err fault) taken answer = Stops fault answer

abbrev pub IsBreak : CnfFault → Result Formula Break → Type 0
IsBreak faults.Memory answer = Unit {0}
IsBreak (faults.Refused rule line) answer = answer ≡ Err (record { rule = rule; line = line })

-- What the reader returned is what the text spells, unless memory ran out.
abbrev pub Gives : Result Cnf CnfFault → Result Formula Break → Type 0
Gives (Ok cnf) answer = answer ≡ Ok (record { variables = cnf.variables; clauses = cnf.clauses })
Gives (Err fault) answer = IsBreak fault answer
