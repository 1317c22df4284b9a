-- The one law of the machine: what spells a right tree leaves a thread.
use Rattle.std.specs.Prelude.{◌≡◌, ℕ, Bool, true, [], ◌∷◌, ◌++◌, Option, Some, None, IsTrue, nat_le}
use Rattle.syntax_tree.specs.declared.expr.Expr.{Expr}
use Rattle.syntax_tree.specs.declared.module.Module.{Module}
use Rattle.syntax_tree.specs.Words.{Spelled}
use Rattle.syntax_tree.specs.Spelling.{spelling}
use Rattle.syntax_tree.specs.Levels.{is_level_right}
use Rattle.syntax_tree.specs.Depth.{depth_of}
use Rattle.syntax_machine.specs.declared.thread.Item.TheVariants.{Need}
use Rattle.syntax_machine.specs.Machine.{whole}
use Rattle.syntax_tree.specs.ModuleRules.{module_right}
use Rattle.syntax_tree.specs.ModuleWords.{module_words}
use Rattle.syntax_machine.specs.Modules.{a_module}
use Rattle.syntax_machine.specs.Threads.{threads}

-- a tree of this depth is within the room, if there is a limit
abbrev pub is_within : Option ℕ → ℕ → Bool
is_within None depth = true
is_within (Some room) depth = nat_le depth room

abbrev pub ThreadsFollow : Type 0
ThreadsFollow = (room : Option ℕ) (tree : Expr) (tokens more : Spelled) → IsTrue (is_level_right tree) → IsTrue (is_within room (depth_of tree)) →
    spelling tree ≡ tokens ++ more → threads tokens ((Need (whole room) ∷ []) ∷ []) ≡ [] → ⊥

-- no limit, or this one
abbrev pub Covers : Option ℕ → ℕ → Type 0
Covers None depth = Unit {0}
Covers (Some room) depth = room ≡ depth

-- the same for modules with trees of at most this depth
abbrev pub ModulesFollow : Type 0
ModulesFollow = (room : Option ℕ) (depth : ℕ) (m : Module) (tokens more : Spelled) → Covers room depth → IsTrue (module_right depth m) →
    module_words m ≡ tokens ++ more → threads tokens (a_module room ∷ []) ≡ [] → ⊥
