-- The levels of connectives and of temporal operators on two formulas.
use Rattle.std.specs.Prelude.{ℕ}
use Rattle.core_tree.specs.declared.operators.Connective.{Connective}
use Rattle.core_tree.specs.declared.operators.Connective.TheVariants.{Or, Implies, Iff}
use Rattle.core_tree.specs.declared.operators.TemporalBinary.{TemporalBinary}
use Rattle.core_tree.specs.declared.operators.TemporalBinary.TheVariants.{Until, Releases, Since, Triggered, Then}

abbrev pub connective_level : Connective → ℕ
connective_level Or = 2
connective_level Implies = 0
connective_level Iff = 3

abbrev pub binary_level : TemporalBinary → ℕ
binary_level Until = 6
binary_level Releases = 6
binary_level Since = 6
binary_level Triggered = 6
binary_level Then = 0
