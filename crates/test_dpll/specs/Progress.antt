-- How far a search has come: the steps are a number in base 3, the first one its highest digit.
use Rattle.std.specs.Prelude.{ℕ, ◌+◌, ◌-◌, ◌*◌, ◌^◌, List, [], ◌∷◌, Option, Some, None, length}
use Rattle.test_dpll.specs.declared.path.Step.{Step}

-- a step that was tried comes before one that is forced
abbrev pub digit : Option ℕ → ℕ
digit None = 1
digit (Some number) = 2

abbrev pub number_of : List Step → ℕ
number_of [] = 0
number_of (step ∷ below) = 3 * number_of below + digit step.reason

-- the number of the steps with zeros behind, for so many variables
abbrev pub come_to : ℕ → List Step → ℕ
come_to most steps = number_of steps * 3 ^ (most - length steps)

-- what is left to do
abbrev pub left : ℕ → List Step → ℕ
left most steps = 3 ^ most - come_to most steps
