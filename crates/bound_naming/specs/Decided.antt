-- That values of the variables decide whether a lasso is canonical.
use Rattle.std.specs.Prelude.{◌≡◌, ◌↔◌, ℕ, Bool, true, List}
use Rattle.core_meaning.specs.Sequence.{LassoValue}
use Rattle.bound_uppers.specs.declared.table.Bounds.{Bounds}
use Rattle.bound_uppers.specs.Candidates.{InState}
use Rattle.bound_naming.specs.declared.pairs.Pair.{Pair}
use Rattle.bound_naming.specs.Naming.{IsCell, AreAllPairs, IsCanonical, favours_all}

-- the values of the variables tell of a lasso: which tuples its relations have at each state
abbrev pub Tells : Bounds → (ℕ → Bool) → LassoValue → Type 0
Tells bounds x lasso = (s r v : ℕ) (t : List ℕ) → IsCell bounds s r t v → (x v ≡ true) ↔ InState lasso s r t

-- they favour the earlier in the pairs of all neighbours just where the lasso is canonical
abbrev pub NamingIsDecided : Type 0
NamingIsDecided =
    (bounds : Bounds) (atoms most : ℕ) (all : List (List Pair)) (x : ℕ → Bool) (lasso : LassoValue) →
    AreAllPairs bounds atoms most all → Tells bounds x lasso → (favours_all x all ≡ true) ↔ IsCanonical bounds all lasso
