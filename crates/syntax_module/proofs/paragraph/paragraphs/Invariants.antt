use Rattle.std.proofs.Common.{◌≡◌, ◌++◌, map}
use Rattle.std.specs.Prelude.{IsTrue}
use Rattle.syntax_tree.specs.Levels.{every}
use Rattle.syntax_tree.specs.ModuleRules.{paragraph_right}
use Rattle.syntax_tree.specs.Spelling.{kinds, joined}
use Rattle.syntax_tree.specs.ModuleWords.{paragraph_words}
use Rattle.syntax_module.proofs.paragraph.paragraphs.Given as goal

abbrev pub invariant-loop-turn : goal.invariant-loop-turn
invariant-loop-turn l = (kinds l.fn.cursor ≡ joined (map paragraph_words l.found) ++ kinds l.cursor) × IsTrue (every (paragraph_right l.limit) l.found)
