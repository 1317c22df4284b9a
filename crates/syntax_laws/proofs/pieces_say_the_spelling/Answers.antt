use Rattle.syntax_tree.specs.Words.{multiplicity_words}
use Rattle.syntax_tree.specs.Spelling.{spelling}
use Rattle.syntax_places.specs.Pieces.{pieces}
use Rattle.syntax_laws.proofs.Lists.{first_says}
use Rattle.syntax_laws.proofs.Trees.{tree_said}
use Rattle.syntax_laws.proofs.Modules.{module_said}
use Rattle.syntax_laws.proofs.pieces_say_the_spelling.Goals as goal

pub returns-clause-trees : goal.returns-clause-trees
returns-clause-trees c e = tree_said e

pub returns-clause-bounds : goal.returns-clause-bounds
returns-clause-bounds c m e = first_says (multiplicity_words m) (pieces e) (spelling e) (tree_said e)

pub returns-clause-modules : goal.returns-clause-modules
returns-clause-modules c m = module_said m
