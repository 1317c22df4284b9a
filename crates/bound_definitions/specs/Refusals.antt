-- The refusal of a command by the rules on scopes, and that of a value: the first rule that is broken, in the order of the
-- rules, at the first place at which it is.
use Rattle.std.specs.Prelude.{◌≡◌, ◌⊎◌, ℕ, List, [], ◌∷◌, Contains}
use Rattle.base_types.specs.declared.place.Position.{Position}
use Rattle.base_types.specs.declared.place.Rule.{Rule}
use Rattle.base_types.specs.declared.place.Rule.TheVariants as rules
use Rattle.base_types.specs.declared.place.Refusal.{Refusal}
use Rattle.core_tree.specs.declared.model.Model.{Model}
use Rattle.core_tree.specs.declared.model.Origin.{Origin}
use Rattle.core_tree.specs.declared.model.Body.{Body}
use Rattle.core_tree.specs.declared.model.Command.{Command}
use Rattle.core_tree.specs.Trees.{Term}
use Rattle.core_meaning.specs.declared.scopes.Scopes.{Scopes}
use Rattle.core_meaning.specs.Kept.{universe_size}
use Rattle.bound_definitions.specs.Numbers.{AreScopesBy}
use Rattle.bound_definitions.specs.Places.{IsFirst, IsKept}
use Rattle.bound_definitions.specs.Rules.{bad_scopes, exact_vars, conflicts, bad_bitwidth, bad_steps, too_many_atoms}
use Rattle.bound_definitions.specs.Trees.{Counted, counted, counted_value, IsWideAt, deep_past, deep_calls}

-- where trees that count break a rule, under a bitwidth
abbrev pub BreaksTrees : List Body → List Counted → ℕ → Rule → Origin → Type 0
BreaksTrees bodies trees bits rules.Literal at = IsWideAt bodies trees bits at
BreaksTrees bodies trees bits rules.PastDepth at = Contains (deep_past bodies trees) at
BreaksTrees bodies trees bits rules.DeepCalls at = Contains (deep_calls bodies trees) at
BreaksTrees bodies trees bits _ at = ⊥

-- where a command breaks a rule, with the scopes that the rules give it
abbrev pub Breaks : Model → Command → Scopes → Rule → Origin → Type 0
Breaks model command scopes rules.BadScope at = Contains (bad_scopes model.sigs command.scope) at
Breaks model command scopes rules.ExactVar at = Contains (exact_vars model.sigs command.scope) at
Breaks model command scopes rules.ScopeConflict at = Contains (conflicts model.sigs command.scope) at
Breaks model command scopes rules.Bitwidth at = Contains (bad_bitwidth command.scope) at
Breaks model command scopes rules.Steps at = Contains (bad_steps command.scope) at
Breaks model command scopes rules.Atoms at = Contains (too_many_atoms (universe_size scopes) command.keyword) at
Breaks model command scopes rule at = BreaksTrees model.bodies (counted model command) scopes.bits rule at

-- the rules in the order in which they are asked
abbrev pub tree_rules : List Rule
tree_rules = rules.Literal ∷ rules.PastDepth ∷ rules.DeepCalls ∷ []

abbrev pub command_rules : List Rule
command_rules = rules.BadScope ∷ rules.ExactVar ∷ rules.ScopeConflict ∷ rules.Bitwidth ∷ rules.Steps ∷ rules.Atoms ∷ tree_rules

module _ (Broken : Rule → Origin → Type 0) where
  -- the first of these rules that is broken, at the first place
  abbrev pub IsFirstBroken : List Rule → Refusal → Type 0
  IsFirstBroken [] refusal = ⊥
  IsFirstBroken (rule ∷ rest) refusal =
      ((at : Origin) × IsFirst (Broken rule) at × (refusal ≡ record { rule = rule; place = at.place })) ⊎
      (IsKept (Broken rule) × IsFirstBroken rest refusal)

  abbrev pub AreKept : List Rule → Type 0
  AreKept [] = Unit {0}
  AreKept (rule ∷ rest) = IsKept (Broken rule) × AreKept rest

-- the refusal of a command of the model
pub record IsRefusal (model : Model) (command : Command) (refusal : Refusal) : Type 0 where
  pub scopes : Scopes
  pub by : AreScopesBy model command scopes
  pub first : IsFirstBroken (Breaks model command scopes) command_rules refusal

-- the refusal of a value whose first token is there, under a bitwidth
abbrev pub IsValueRefusal : Model → ℕ → Term → Position → Refusal → Type 0
IsValueRefusal model bits value first refusal = IsFirstBroken (BreaksTrees model.bodies (counted_value value first) bits) tree_rules refusal

-- a value that keeps the rules
abbrev pub IsValueKept : Model → ℕ → Term → Position → Type 0
IsValueKept model bits value first = AreKept (BreaksTrees model.bodies (counted_value value first) bits) tree_rules
