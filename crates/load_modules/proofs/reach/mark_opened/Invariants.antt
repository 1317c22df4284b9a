use Rattle.load_modules.specs.Reached.{AreMarked}
use Rattle.load_modules.proofs.reach.mark_opened.Given as goal

abbrev pub invariant-loop-opened : goal.invariant-loop-opened
invariant-loop-opened l = AreMarked l.instances l.marks.items
