use Rattle.core_meaning.specs.Called.{bodies_of}
use Rattle.core_tree.specs.Past.{body_depths}
use Rattle.core_window.proofs.WindowLemmas.{term_again, holds_again, bodies_again}
use Rattle.core_window.proofs.FoldLemmas.{holds_folded}
use Rattle.core_window.specs.Windows.{atom_names, atom_depths}
use Rattle.core_window.proofs.WindowLemmas.{atoms_again}
use Rattle.core_window.proofs.window_law.Goals as goal

pub returns-clause-formulas : goal.returns-clause-formulas
returns-clause-formulas c = λ w list f atoms h i some past few far.
    holds_again w some (bodies_of w list) (body_depths list) (bodies_again w some list) f (atom_names atoms) (atom_depths atoms) (atoms_again w some atoms) h i past few far

pub returns-clause-terms : goal.returns-clause-terms
returns-clause-terms c = λ w list e atoms h i t some past few far.
    term_again w some (bodies_of w list) (body_depths list) (bodies_again w some list) e (atom_names atoms) (atom_depths atoms) (atoms_again w some atoms) h i past few far t

pub returns-clause-folded : goal.returns-clause-folded
returns-clause-folded c = λ w list f atoms h i some past few.
    holds_folded w some (bodies_of w list) (body_depths list) (bodies_again w some list) f (atom_names atoms) (atom_depths atoms) (atoms_again w some atoms) h past few i
