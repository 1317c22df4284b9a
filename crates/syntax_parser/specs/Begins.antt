-- How a right text begins.
use Rattle.std.specs.Prelude.{◌≡◌, ◌&&◌, ℕ, ◌++◌, Option, IsTrue, nat_le}
use Rattle.syntax_tree.specs.declared.expr.Expr.{Expr}
use Rattle.syntax_tree.specs.declared.module.Module.{Module}
use Rattle.syntax_tree.specs.declared.operator.Multiplicity.{Multiplicity}
use Rattle.syntax_tree.specs.Words.{Spelled, multiplicity_words}
use Rattle.syntax_tree.specs.Spelling.{spelling}
use Rattle.syntax_tree.specs.Levels.{is_bound}
use Rattle.syntax_tree.specs.Depth.{depth_of}
use Rattle.syntax_tree.specs.ModuleRules.{value_right, block_right, module_right}
use Rattle.syntax_tree.specs.ModuleWords.{module_words}
use Rattle.syntax_machine.specs.declared.thread.Root.{Root}
use Rattle.syntax_machine.specs.declared.thread.Root.TheVariants as root

-- some right text of this kind, whose trees have this depth at most, begins with these words
abbrev pub Begins : Root → ℕ → Spelled → Type 0
Begins root.Expr depth words = (tree : Expr) × (more : Spelled) × IsTrue (value_right depth tree) × (spelling tree ≡ words ++ more)
Begins root.Bound depth words = (word : Option Multiplicity) × (tree : Expr) × (more : Spelled) × IsTrue (is_bound tree && nat_le (depth_of tree) depth) × (multiplicity_words word ++ spelling tree ≡ words ++ more)
Begins root.Block depth words = (tree : Expr) × (more : Spelled) × IsTrue (block_right depth tree) × (spelling tree ≡ words ++ more)
Begins root.Module depth words = (m : Module) × (more : Spelled) × IsTrue (module_right depth m) × (module_words m ≡ words ++ more)
