use Rattle.std.proofs.Common.{◌≡◌, ◌++◌, ◌<◌, map, length}
use Rattle.std.specs.Prelude.{IsTrue}
use Rattle.syntax_tree.specs.Levels.{every}
use Rattle.syntax_tree.specs.ModuleRules.{sig_name_right}
use Rattle.syntax_tree.specs.Spelling.{kinds, separated}
use Rattle.syntax_tree.specs.ModuleWords.{sig_name_words}
use Rattle.syntax_module.proofs.sig_name.sig_names.Given as goal

abbrev pub invariant-loop-turn : goal.invariant-loop-turn
invariant-loop-turn l = ((0 < length l.found) × (kinds l.fn.cursor ≡ separated l.mark (map sig_name_words l.found) ++ kinds l.cursor)) × IsTrue (every sig_name_right l.found)
