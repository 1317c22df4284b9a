use Rattle.std.proofs.Common.{◌≡◌, ◌++◌, map}
use Rattle.syntax_tree.specs.Spelling.{kinds, joined}
use Rattle.syntax_tree.specs.ModuleWords.{field_word_words}
use Rattle.syntax_module.proofs.sig.field_words_at.Given as goal

abbrev pub invariant-loop-turn : goal.invariant-loop-turn
invariant-loop-turn l = kinds l.fn.cursor ≡ joined (map field_word_words l.found) ++ kinds l.cursor
