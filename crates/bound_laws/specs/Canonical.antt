-- That of the lassos within some bounds a canonical one is enough.
use Rattle.std.specs.Prelude.{ℕ, List, All}
use Rattle.core_meaning.specs.declared.target.Target.{Target}
use Rattle.core_meaning.specs.Sequence.{LassoValue}
use Rattle.core_meaning.specs.Kept.{atom_count}
use Rattle.core_meaning.specs.Satisfied.{SatisfiesTarget}
use Rattle.bound_uppers.specs.declared.table.Bounds.{Bounds}
use Rattle.bound_uppers.specs.Table.{IsTable}
use Rattle.bound_uppers.specs.Candidates.{HasSets, IsCandidate}
use Rattle.bound_naming.specs.declared.pairs.Pair.{Pair}
use Rattle.bound_naming.specs.Naming.{AreSomePairs, IsCanonical}

-- Where a lasso within the bounds satisfies a target, so does one within the bounds that is canonical by some lists of pairs,
-- each of them the pairs of two interchangeable atoms: those of all such atoms, or of a few.
abbrev pub CandidatesHaveCanonical : Type 0
CandidatesHaveCanonical =
    (target : Target) (bounds : Bounds) (most : ℕ) (all : List (List Pair)) (lasso : LassoValue) → IsTable bounds → HasSets bounds →
    All (AreSomePairs bounds (atom_count target.scopes.numbers) most) all → IsCandidate bounds lasso → SatisfiesTarget target lasso →
    (other : LassoValue) × IsCandidate bounds other × IsCanonical bounds all other × SatisfiesTarget target other
