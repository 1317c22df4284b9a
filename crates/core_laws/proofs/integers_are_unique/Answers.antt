use Rattle.core_meaning.specs.Called.{bodies_of}
use Rattle.core_meaning.specs.Meaning.{InTerm}
use Rattle.core_window.specs.Windows.{atom_names}
use Rattle.core_laws.proofs.UniqueLemmas.{count_once, number_once}
use Rattle.core_laws.proofs.integers_are_unique.Goals as goal

pub returns-clause-counts : goal.returns-clause-counts
returns-clause-counts c = λ w list e atoms i. count_once w (InTerm w (bodies_of w list) e (atom_names atoms) i)

pub returns-clause-numbers : goal.returns-clause-numbers
returns-clause-numbers c = λ w list e atoms i. number_once w (InTerm w (bodies_of w list) e (atom_names atoms) i)
