-- The refusal of names: two are equal, at a place of a text.
use Rattle.std.specs.Prelude.{◌≡◌, ℕ, ◌<◌}
use Rattle.base_types.specs.declared.place.Refusal.{Refusal}
use Rattle.base_types.specs.declared.place.Rule.TheVariants as rule
use Rattle.base_types.specs.declared.fault.Fault.{Fault}
use Rattle.base_types.specs.declared.fault.Fault.TheVariants as fault

-- two names are equal, at a place of one of so many texts
pub record IsTwice (texts : ℕ) (r : Refusal) : Type 0 where
  pub number : r.rule ≡ rule.NameTwice
  pub inside : r.place.module < texts

abbrev pub IsFault : ℕ → Fault → Type 0
IsFault texts (fault.Refused r) = IsTwice texts r
IsFault texts fault.Memory = Unit {0}
