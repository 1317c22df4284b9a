-- The trees that count, as the program lends them.
use Rattle.core_tree.specs.Trees.{term_of, claim_of}
use Rattle.bound_definitions.specs.Trees as trees
use Rattle.bound_scopes.specs.declared.counted.Tree.{Tree}
use Rattle.bound_scopes.specs.declared.counted.Tree.TheVariants.{Formula, Expr}
use Rattle.bound_scopes.specs.declared.counted.Root.{Root}

abbrev pub counted_tree : Tree → trees.Tree
counted_tree (Formula f) = trees.formula (claim_of f.now)
counted_tree (Expr e) = trees.expression (term_of e.now)

abbrev pub counted_root : Root → trees.Counted
counted_root root = record { at = root.at; tree = counted_tree root.tree }
