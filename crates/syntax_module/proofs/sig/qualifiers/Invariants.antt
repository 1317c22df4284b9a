use Rattle.std.proofs.Common.{◌≡◌, ◌++◌, map}
use Rattle.std.specs.Prelude.{IsTrue}
use Rattle.syntax_tree.specs.ModuleRules.{qualifiers_right}
use Rattle.syntax_tree.specs.Spelling.{kinds, joined}
use Rattle.syntax_tree.specs.ModuleWords.{qualifier_words}
use Rattle.syntax_module.proofs.sig.qualifiers.Given as goal

abbrev pub invariant-loop-turn : goal.invariant-loop-turn
invariant-loop-turn l = (kinds l.fn.cursor ≡ joined (map qualifier_words l.found) ++ kinds l.cursor) × IsTrue (qualifiers_right l.found)
