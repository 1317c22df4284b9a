-- The refusals of a hierarchy: by which rules, and that each has a place of a text.
use Rattle.std.specs.Prelude.{◌≡◌, ℕ, ◌<◌, Bool, true, false}
use Rattle.base_types.specs.declared.place.Refusal.{Refusal}
use Rattle.base_types.specs.declared.place.Rule.{Rule}
use Rattle.base_types.specs.declared.place.Rule.TheVariants as rule
use Rattle.base_types.specs.declared.fault.Fault.{Fault}
use Rattle.base_types.specs.declared.fault.Fault.TheVariants as fault

abbrev pub is_of_hierarchy : Rule → Bool
is_of_hierarchy rule.NoParent = true
is_of_hierarchy rule.ParentCycle = true
is_of_hierarchy rule.ExtendsSubset = true
is_of_hierarchy rule.FieldTwice = true
is_of_hierarchy _ = false

-- a rule on sigs and fields, at a place of one of so many texts
pub record IsOfHierarchy (texts : ℕ) (r : Refusal) : Type 0 where
  pub number : is_of_hierarchy r.rule ≡ true
  pub inside : r.place.module < texts

abbrev pub IsFault : ℕ → Fault → Type 0
IsFault texts (fault.Refused r) = IsOfHierarchy texts r
IsFault texts fault.Memory = Unit {0}
