use Rattle.std.proofs.Common.{◌≡◌, ◌++◌, ◌<◌, map, length}
use Rattle.syntax_tree.specs.declared.token.Symbol.TheVariants as s
use Rattle.std.specs.Prelude.{IsTrue}
use Rattle.syntax_tree.specs.Levels.{every}
use Rattle.syntax_tree.specs.ModuleRules.{field_right}
use Rattle.syntax_tree.specs.Spelling.{kinds, separated}
use Rattle.syntax_tree.specs.ModuleWords.{field_words}
use Rattle.syntax_module.proofs.sig.field_list.Given as goal

abbrev pub invariant-loop-turn : goal.invariant-loop-turn
invariant-loop-turn l = ((0 < length l.found) × (kinds l.fn.cursor ≡ separated s.Comma (map field_words l.found) ++ kinds l.cursor)) × IsTrue (every (field_right l.limit) l.found)
