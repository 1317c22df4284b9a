-- The numbers under which the static rules are printed.
use Rattle.std.specs.Prelude.{ℕ}
use Rattle.base_types.specs.declared.place.Rule.{Rule}
use Rattle.base_types.specs.declared.place.Rule.TheVariants.{BadByte, OpenComment, LongNumber, LargeFile, Syntax, TooDeep, NoModule, ModuleCycle, ModuleArguments, AliasTwice, TooManyModules, NameTwice, NoParent, ParentCycle, ExtendsSubset, FieldTwice, UnknownName, Ambiguous, NoReading, TooManyReadings, RecursiveCall, HigherOrder, Literal, ArityLimit, PastDepth, DeepCalls, NoCommand, BadScope, ExactVar, ScopeConflict, Bitwidth, Steps, Atoms, Cells}

-- The tens tell the layer: 0 bytes, 1 grammar, 2 loading, 3 declarations, 4 expressions, 6 commands.
abbrev pub number_of : Rule → ℕ
number_of BadByte = 1
number_of OpenComment = 2
number_of LongNumber = 3
number_of LargeFile = 4
number_of Syntax = 10
number_of TooDeep = 11
number_of NoModule = 20
number_of ModuleCycle = 21
number_of ModuleArguments = 22
number_of AliasTwice = 23
number_of TooManyModules = 24
number_of NameTwice = 30
number_of NoParent = 31
number_of ParentCycle = 32
number_of ExtendsSubset = 33
number_of FieldTwice = 34
number_of UnknownName = 40
number_of Ambiguous = 41
number_of NoReading = 42
number_of TooManyReadings = 43
number_of RecursiveCall = 44
number_of HigherOrder = 45
number_of Literal = 46
number_of ArityLimit = 47
number_of PastDepth = 48
number_of DeepCalls = 49
number_of NoCommand = 60
number_of BadScope = 61
number_of ExactVar = 62
number_of ScopeConflict = 63
number_of Bitwidth = 64
number_of Steps = 65
number_of Atoms = 66
number_of Cells = 67
