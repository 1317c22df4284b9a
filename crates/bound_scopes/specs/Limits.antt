-- What scopes keep, and which refusals there are.
use Rattle.std.specs.Prelude.{◌≡◌, ℕ, ◌≤◌, length, Bool, ◌||◌, ◌==◌, IsTrue, Option, Some, None, Result, Ok, Err}
use Rattle.base_types.specs.declared.place.Rule.{Rule}
use Rattle.base_types.specs.declared.place.Rule.TheVariants.{NoCommand}
use Rattle.base_types.specs.declared.place.Refusal.{Refusal}
use Rattle.base_types.specs.Place.{number_of}
use Rattle.core_tree.specs.declared.model.Model.{Model}
use Rattle.core_tree.specs.declared.model.Origin.{Origin}
use Rattle.core_meaning.specs.declared.scopes.Scopes.{Scopes}
use Rattle.core_meaning.specs.Kept.{universe_size}
use Rattle.bound_definitions.specs.Places.{IsFirst}
use Rattle.bound_scopes.specs.Numbers.{AreSigScopes}
use Rattle.base_types.specs.declared.fault.Fault.{Fault}
use Rattle.base_types.specs.declared.fault.Fault.TheVariants.{Refused, Memory}

-- one entry for each sig, as its declaration asks, and numbers within the limits
pub record AreScopes (model : Model) (s : Scopes) : Type 0 where
  pub numbers : length s.numbers ≡ length model.sigs
  pub sigs : AreSigScopes model.sigs s.numbers
  pub bits : (1 ≤ s.bits) × (s.bits ≤ 12)
  pub states : (1 ≤ s.states) × (s.states ≤ 32)
  pub atoms : universe_size s ≤ 16384

-- what a search for the places of a rule answers
abbrev pub asked : Rule → Option Origin → Result (Unit {0}) Fault
asked rule None = Ok tt
asked rule (Some at) = Err (Refused (record { rule = rule; place = at.place }))

-- the refusal by a rule at the first place at which it is broken
abbrev pub IsAt : Rule → (Origin → Type 0) → Refusal → Type 0
IsAt rule Broken refusal = (at : Origin) × IsFirst Broken at × (refusal ≡ record { rule = rule; place = at.place })

-- such a refusal, or want of memory
abbrev pub IsFaultOf : (Refusal → Type 0) → Fault → Type 0
IsFaultOf Is Memory = Unit {0}
IsFaultOf Is (Refused refusal) = Is refusal

-- the numbers of the rules that the scopes of a command may break
abbrev pub is_scope_number : ℕ → Bool
is_scope_number n = n == 46 || n == 48 || n == 49 || n == 61 || n == 62 || n == 63 || n == 64 || n == 65 || n == 66

abbrev pub IsScopeRule : Rule → Type 0
IsScopeRule rule = IsTrue (is_scope_number (number_of rule))

-- a refusal by one of these rules, or want of memory
abbrev pub IsScopeFault : Fault → Type 0
IsScopeFault Memory = Unit {0}
IsScopeFault (Refused r) = IsScopeRule r.rule

-- the numbers of the rules that a value may break
abbrev pub IsValueFault : Fault → Type 0
IsValueFault Memory = Unit {0}
IsValueFault (Refused r) = IsTrue (number_of r.rule == 46 || number_of r.rule == 48 || number_of r.rule == 49)

-- no command of the number that was asked for: at the beginning of the root
abbrev pub no_command : Refusal
no_command = record { rule = NoCommand; place = record { «module» = 0; line = 1; column = 1 } }
