-- Going up from sigs to their parents, level by level.
use Rattle.std.specs.Prelude.{◌⊎◌, ◌↔◌, ℕ, suc, List, Contains}
use Rattle.core_tree.specs.declared.model.Sig.{Sig}
use Rattle.core_tree.specs.Types.{TypeRows}
use Rattle.bound_uppers.specs.Kinds.{sig_kinds_of, rows_kinds_of}

-- a row of kinds was found, or is one of a sig that waits, going up at most so far
abbrev pub InLevel : List Sig → List ℕ → ℕ → List (List ℕ) → List ℕ → List ℕ → Type 0
InLevel sigs ups m rows waiting t = Contains rows t ⊎ ((s : ℕ) × Contains waiting s × Contains (sig_kinds_of sigs ups m s) t)

-- some rows more, whatever there is left to go up
abbrev pub HasMore : List Sig → List ℕ → (ℕ → TypeRows) → List (List ℕ) → List ℕ → List (List ℕ) → List ℕ → Type 0
HasMore sigs ups added rows waiting new more = (m : ℕ) (t : List ℕ) → InLevel sigs ups m new more t ↔ (InLevel sigs ups m rows waiting t ⊎ Contains (rows_kinds_of ups (added m)) t)

-- one level up
abbrev pub IsUp : List Sig → List ℕ → List (List ℕ) → List ℕ → List (List ℕ) → List ℕ → Type 0
IsUp sigs ups rows waiting new more = (m : ℕ) (t : List ℕ) → InLevel sigs ups m new more t ↔ InLevel sigs ups (suc m) rows waiting t

-- what is found, or found from the sigs that wait by going up so far, is all that a sig has by going up n times
abbrev pub Rises : List Sig → List ℕ → ℕ → ℕ → ℕ → List (List ℕ) → List ℕ → Type 0
Rises sigs ups n s left rows waiting = (t : List ℕ) → InLevel sigs ups left rows waiting t ↔ Contains (sig_kinds_of sigs ups n s) t
