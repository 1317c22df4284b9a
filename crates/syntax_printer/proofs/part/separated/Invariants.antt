use Rattle.std.proofs.Common.{◌≡◌, ◌++◌, map, drop}
use Rattle.syntax_tree.specs.Spelling as s
use Rattle.syntax_printer.specs.Separated.{going_on}
use Rattle.syntax_printer.proofs.part.separated.Given as goal

abbrev pub invariant-loop-part : goal.invariant-loop-part
invariant-loop-part g l =
    l.words.items ++ going_on l.is_first l.mark (map g.T.Part.spelled (drop l.part-index l.parts)) ≡ l.initial.words.items ++ s.separated l.mark (map g.T.Part.spelled l.parts)
