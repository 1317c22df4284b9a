-- The refusals of a model: by which rules, and that each has a place of a text; of names that are there twice the first one.
use Rattle.std.specs.Prelude.{◌≡◌, ◌<◌, Bool, true, false, List, length}
use Rattle.base_types.specs.declared.place.Refusal.{Refusal}
use Rattle.base_types.specs.declared.place.Rule.{Rule}
use Rattle.base_types.specs.declared.place.Rule.TheVariants as rule
use Rattle.base_types.specs.declared.fault.Fault.{Fault}
use Rattle.base_types.specs.declared.fault.Fault.TheVariants as fault
use Rattle.syntax_tree.specs.declared.instance.Text.{Text}
use Rattle.syntax_tree.specs.declared.instance.Instance.{Instance}
use Rattle.resolve_names.specs.Twice.{IsFirstTwice}

abbrev pub is_of_readings : Rule → Bool
is_of_readings rule.NameTwice = true
is_of_readings rule.NoParent = true
is_of_readings rule.ParentCycle = true
is_of_readings rule.ExtendsSubset = true
is_of_readings rule.FieldTwice = true
is_of_readings rule.UnknownName = true
is_of_readings rule.Ambiguous = true
is_of_readings rule.NoReading = true
is_of_readings rule.TooManyReadings = true
is_of_readings rule.RecursiveCall = true
is_of_readings rule.HigherOrder = true
is_of_readings rule.ArityLimit = true
is_of_readings _ = false

-- the rules on names in expressions and on readings
abbrev pub is_of_roots : Rule → Bool
is_of_roots rule.UnknownName = true
is_of_roots rule.Ambiguous = true
is_of_roots rule.NoReading = true
is_of_roots rule.TooManyReadings = true
is_of_roots rule.RecursiveCall = true
is_of_roots rule.HigherOrder = true
is_of_roots rule.ArityLimit = true
is_of_roots _ = false

-- a rule on names, sigs, fields and readings, at a place of one of the texts; where it is that of names that are there twice, then at the
-- least place of a second one, in the earliest instance that has one
pub record IsOfReadings (texts : List Text) (instances : List Instance) (r : Refusal) : Type 0 where
  pub number : is_of_readings r.rule ≡ true
  pub inside : r.place.module < length texts
  pub first : r.rule ≡ rule.NameTwice → IsFirstTwice texts instances r

abbrev pub IsFault : List Text → List Instance → Fault → Type 0
IsFault texts instances (fault.Refused r) = IsOfReadings texts instances r
IsFault texts instances fault.Memory = Unit {0}

-- a rule on names, sigs, fields and readings
abbrev pub IsValueFault : Fault → Type 0
IsValueFault (fault.Refused r) = is_of_readings r.rule ≡ true
IsValueFault fault.Memory = Unit {0}
