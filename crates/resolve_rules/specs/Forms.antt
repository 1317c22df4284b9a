-- How the operators of a text are read.
use Rattle.std.specs.Prelude.{◌||◌, Option, Some, None}
use Rattle.std.specs.Option.{is_some}
use Rattle.syntax_tree.specs.declared.operator.Infix.{Infix}
use Rattle.syntax_tree.specs.declared.operator.Infix.TheVariants as infixed
use Rattle.syntax_tree.specs.declared.operator.Prefix.{Prefix}
use Rattle.syntax_tree.specs.declared.operator.Prefix.TheVariants as prefix
use Rattle.syntax_tree.specs.declared.operator.Comparator.{Comparator}
use Rattle.syntax_tree.specs.declared.operator.Comparator.TheVariants as comparator
use Rattle.syntax_tree.specs.declared.operator.Quantifier.{Quantifier}
use Rattle.syntax_tree.specs.declared.operator.Quantifier.TheVariants as quantifier
use Rattle.syntax_tree.specs.declared.operator.Multiplicity.{Multiplicity as Word}
use Rattle.syntax_tree.specs.declared.operator.Multiplicity.TheVariants as word
use Rattle.resolve_readings.specs.declared.part.Multiplicity.{Multiplicity}
use Rattle.resolve_readings.specs.declared.part.Multiplicity.TheVariants as multiplicity
use Rattle.resolve_readings.specs.declared.part.Unary.{Unary}
use Rattle.resolve_readings.specs.declared.part.Unary.TheVariants as unary
use Rattle.resolve_readings.specs.declared.part.Binary.{Binary}
use Rattle.resolve_readings.specs.declared.part.Binary.TheVariants as binary

abbrev pub multiplicity_of : Word → Multiplicity
multiplicity_of word.Set = multiplicity.Set
multiplicity_of word.One = multiplicity.One
multiplicity_of word.Lone = multiplicity.Lone
multiplicity_of word.Some = multiplicity.Some

abbrev pub word_of : Option Word → Option Multiplicity
word_of None = None
word_of (Some w) = Some (multiplicity_of w)

-- an operator between sets or integers; None of one between formulas
abbrev pub between : Infix → Option Binary
between infixed.Plus = Some binary.Union
between infixed.Minus = Some binary.Difference
between infixed.Add = Some binary.Arithmetic
between infixed.Sub = Some binary.Arithmetic
between infixed.Mul = Some binary.Arithmetic
between infixed.Div = Some binary.Arithmetic
between infixed.Rem = Some binary.Arithmetic
between infixed.Override = Some binary.Override
between infixed.Intersection = Some binary.Intersection
between (infixed.Arrow before after) = Some (binary.Arrow (is_some before || is_some after))
between infixed.Domain = Some binary.LeftRestrict
between infixed.Range = Some binary.RightRestrict
between _ = None

-- an operator before a set; None of one before a formula, and of a test
abbrev pub before_set : Prefix → Option Unary
before_set prefix.Count = Some unary.Count
before_set prefix.Transpose = Some unary.Transpose
before_set prefix.Closure = Some unary.Closure
before_set prefix.ReflexiveClosure = Some unary.ReflexiveClosure
before_set _ = None

-- a multiplicity test of a set
abbrev pub IsTest : Prefix → Type 0
IsTest prefix.No = Unit {0}
IsTest prefix.Some = Unit {0}
IsTest prefix.Lone = Unit {0}
IsTest prefix.One = Unit {0}
IsTest _ = ⊥

-- an operator before a formula
abbrev pub IsLogical : Prefix → Type 0
IsLogical prefix.Bang = Unit {0}
IsLogical prefix.Not = Unit {0}
IsLogical prefix.Always = Unit {0}
IsLogical prefix.Eventually = Unit {0}
IsLogical prefix.After = Unit {0}
IsLogical prefix.Before = Unit {0}
IsLogical prefix.Historically = Unit {0}
IsLogical prefix.Once = Unit {0}
IsLogical _ = ⊥

abbrev pub IsSum : Quantifier → Type 0
IsSum quantifier.Sum = Unit {0}
IsSum _ = ⊥

-- what compares two sets or integers
abbrev pub compared_by : Comparator → Option Word → Binary
compared_by comparator.In w = binary.In (word_of w)
compared_by comparator.Equal w = binary.Equal
compared_by _ w = binary.Order
