use Rattle.std.proofs.Common.{◌≡◌, ◌++◌, map}
use Rattle.std.specs.Prelude.{IsTrue}
use Rattle.syntax_tree.specs.Levels.{every}
use Rattle.syntax_tree.specs.ModuleRules.{open_right}
use Rattle.syntax_tree.specs.Spelling.{kinds, joined}
use Rattle.syntax_tree.specs.ModuleWords.{open_words}
use Rattle.syntax_module.proofs.header.opens.Given as goal

abbrev pub invariant-loop-turn : goal.invariant-loop-turn
invariant-loop-turn l = (kinds l.fn.cursor ≡ joined (map open_words l.found) ++ kinds l.cursor) × IsTrue (every open_right l.found)
