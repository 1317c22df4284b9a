-- Lemmas on what lies in a bound whose arrows ask nothing.
use Rattle.std.proofs.Common.{◌+◌, ◌++◌, ℕ}
use Rattle.core_tree.specs.declared.operators.Multiplicity.TheVariants.{Set}
use Rattle.core_tree.specs.Trees.{Term, product}
use Rattle.core_meaning.specs.World.{World}
use Rattle.core_meaning.specs.Operators.{Tuples}
use Rattle.core_meaning.specs.Meaning.{Names, Fits}
use Rattle.core_meaning.specs.Called.{no_bodies}
use Rattle.bmc_leaves.specs.Lying.{AsksNothing}

-- such arrows are kept by each set
pub fits_all : (w : World) (b : Term) → AsksNothing b → (names : Names) (i : ℕ) (E : Tuples) → Fits w no_bodies b names i E
fits_all w (product a Set Set b) free names i E = (
  (λ s there. (tt, fits_all w b free.3 names i (λ u. E (s ++ u)))),
  (λ u there. (tt, fits_all w a free.2 names i (λ s. E (s ++ u)))),
)
fits_all w (product a Set n b) free names i E = absurd free.1
fits_all w (product a m n b) free names i E = absurd free.0
fits_all w e free names i E = tt
