use Rattle.std.proofs.Common.{◌≡◌, ◌++◌, map, drop}
use Rattle.syntax_tree.specs.Spelling as s
use Rattle.syntax_printer.proofs.part.joined.Given as goal

abbrev pub invariant-loop-part : goal.invariant-loop-part
invariant-loop-part g l =
    l.words.items ++ s.joined (map g.T.Part.spelled (drop l.part-index l.parts)) ≡ l.initial.words.items ++ s.joined (map g.T.Part.spelled l.parts)
