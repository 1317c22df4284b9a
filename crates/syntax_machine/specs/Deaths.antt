-- What it shows that no thread is left: no right expression, bound, block or module begins with these tokens.
use Rattle.std.specs.Prelude.{◌≡◌, ℕ, [], ◌∷◌, ◌++◌, Option, IsTrue}
use Rattle.syntax_tree.specs.declared.expr.Expr.{Expr}
use Rattle.syntax_tree.specs.declared.module.Module.{Module}
use Rattle.syntax_tree.specs.declared.operator.Multiplicity.{Multiplicity}
use Rattle.syntax_tree.specs.Words.{Spelled, multiplicity_words}
use Rattle.syntax_tree.specs.Spelling.{spelling}
use Rattle.syntax_tree.specs.Levels.{is_level_right, is_bound, is_right_block}
use Rattle.syntax_tree.specs.Depth.{depth_of}
use Rattle.syntax_tree.specs.ModuleRules.{module_right}
use Rattle.syntax_tree.specs.ModuleWords.{module_words}
use Rattle.syntax_machine.specs.declared.thread.Root.{Root}
use Rattle.syntax_machine.specs.declared.thread.Root.TheVariants as root
use Rattle.syntax_machine.specs.declared.thread.Piece.TheVariants as piece
use Rattle.syntax_machine.specs.declared.thread.Item.TheVariants.{Need, Part}
use Rattle.syntax_machine.specs.Machine.{Thread, whole, a_block}
use Rattle.syntax_machine.specs.Modules.{a_module}
use Rattle.syntax_machine.specs.Threads.{threads}
use Rattle.syntax_machine.specs.Law.{is_within, Covers}

-- the thread of a whole text, before its first token; its trees have this room
abbrev pub start_of : Root → Option ℕ → Thread
start_of root.Expr room = Need (whole room) ∷ []
start_of root.Bound room = Part (piece.Bound room) ∷ []
start_of root.Block room = Need (a_block room) ∷ []
start_of root.Module room = a_module room

-- no right one with trees of this room begins with these tokens
abbrev pub NoneBegins : Root → Option ℕ → Spelled → Type 0
NoneBegins root.Expr room tokens = (tree : Expr) (more : Spelled) → IsTrue (is_level_right tree) → IsTrue (is_within room (depth_of tree)) → spelling tree ≡ tokens ++ more → ⊥
NoneBegins root.Bound room tokens = (word : Option Multiplicity) (tree : Expr) (more : Spelled) → IsTrue (is_bound tree) → IsTrue (is_within room (depth_of tree)) → multiplicity_words word ++ spelling tree ≡ tokens ++ more → ⊥
NoneBegins root.Block room tokens = (tree : Expr) (more : Spelled) → IsTrue (is_right_block tree) → IsTrue (is_within room (depth_of tree)) → spelling tree ≡ tokens ++ more → ⊥
NoneBegins root.Module room tokens = (depth : ℕ) (m : Module) (more : Spelled) → Covers room depth → IsTrue (module_right depth m) → module_words m ≡ tokens ++ more → ⊥

abbrev pub DeathsRefuse : Type 0
DeathsRefuse = (root : Root) (room : Option ℕ) (tokens : Spelled) → threads tokens (start_of root room ∷ []) ≡ [] → NoneBegins root room tokens
