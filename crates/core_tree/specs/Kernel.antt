-- The operators, multiplicities and variables that the kernel of the language keeps.
use Rattle.core_tree.specs.declared.operators.Multiplicity.TheVariants.{Set}
use Rattle.core_tree.specs.declared.operators.Comparison.{Comparison}
use Rattle.core_tree.specs.declared.operators.Comparison.TheVariants.{Equal, Less, AtMost, Greater, AtLeast}
use Rattle.core_tree.specs.declared.operators.UnaryRelation.{UnaryRelation}
use Rattle.core_tree.specs.declared.operators.UnaryRelation.TheVariants.{Transpose, Closure, ReflexiveClosure}
use Rattle.core_tree.specs.declared.operators.Multiplicity.{Multiplicity}
use Rattle.core_tree.specs.declared.operators.TemporalUnary.{TemporalUnary}
use Rattle.core_tree.specs.declared.operators.TemporalUnary.TheVariants.{After, Before}
use Rattle.core_tree.specs.declared.operators.TemporalBinary.{TemporalBinary}
use Rattle.core_tree.specs.declared.operators.TemporalBinary.TheVariants.{Until, Since}
use Rattle.core_tree.specs.Trees.{Variables, no_variables, more_variables}

-- The operators and forms of bounds that are left. Which formulas are left is `IsLeft` of
-- form_kernel.
abbrev pub IsKernelComparison : Comparison → Type 0
IsKernelComparison Equal = Unit {0}
IsKernelComparison Less = Unit {0}
IsKernelComparison AtMost = ⊥
IsKernelComparison Greater = ⊥
IsKernelComparison AtLeast = ⊥

abbrev pub IsKernelUnary : UnaryRelation → Type 0
IsKernelUnary Transpose = Unit {0}
IsKernelUnary Closure = Unit {0}
IsKernelUnary ReflexiveClosure = ⊥

abbrev pub IsSet : Multiplicity → Type 0
IsSet Set = Unit {0}
IsSet m = ⊥

abbrev pub IsKernelTemporal : TemporalUnary → Type 0
IsKernelTemporal After = Unit {0}
IsKernelTemporal Before = Unit {0}
IsKernelTemporal op = ⊥

abbrev pub IsKernelPair : TemporalBinary → Type 0
IsKernelPair Until = Unit {0}
IsKernelPair Since = Unit {0}
IsKernelPair op = ⊥

abbrev pub IsOneVariable : Variables → Type 0
IsOneVariable (more_variables x apart e no_variables) = Unit {0}
IsOneVariable vs = ⊥
