use Rattle.std.proofs.Common.{◌≡◌, ◌++◌, ◌<◌, map, length}
use Rattle.syntax_tree.specs.declared.token.Symbol.TheVariants as s
use Rattle.syntax_tree.specs.Spelling.{kinds, separated}
use Rattle.syntax_tree.specs.Spelling.{declared_name}
use Rattle.syntax_module.proofs.sig.member_list.Given as goal

abbrev pub invariant-loop-turn : goal.invariant-loop-turn
invariant-loop-turn l = (0 < length l.found) × (kinds l.fn.cursor ≡ separated s.Comma (map declared_name l.found) ++ kinds l.cursor)
