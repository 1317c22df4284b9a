-- The first rule that is broken, from what each rule in turn is asked.
use Rattle.std.proofs.Common.{◌≡◌, inl, inr, ℕ, ◌+◌, ◌^◌, ◌==◌, ◌||◌, IsTrue, List, Contains, Result, Ok, Err, IfErr, refl, sym, subst}
use Rattle.base_types.specs.declared.fault.Fault.{Fault}
use Rattle.base_types.specs.declared.fault.Fault.TheVariants.{Refused, Memory}
use Rattle.base_types.specs.declared.place.Rule.{Rule}
use Rattle.base_types.specs.declared.place.Rule.TheVariants as rules
use Rattle.base_types.specs.declared.place.Refusal.{Refusal}
use Rattle.base_types.specs.Place.{number_of}
use Rattle.core_tree.specs.declared.model.Model.{Model}
use Rattle.core_tree.specs.declared.model.Origin.{Origin}
use Rattle.core_tree.specs.declared.model.Body.{Body}
use Rattle.core_tree.specs.declared.model.Command.{Command}
use Rattle.core_meaning.specs.declared.scopes.SigScope.{SigScope}
use Rattle.core_meaning.specs.declared.scopes.Scopes.{Scopes}
use Rattle.core_meaning.specs.Kept.{atom_count}
use Rattle.bound_definitions.specs.Numbers.{AreScopesBy, bits_in, states_in}
use Rattle.bound_definitions.specs.Places.{IsKept}
use Rattle.bound_definitions.specs.Rules.{bad_scopes, exact_vars, conflicts, bad_bitwidth, bad_steps, too_many_atoms}
use Rattle.bound_definitions.specs.Trees.{Counted, counted, IsWideAt, deep_past, deep_calls}
use Rattle.bound_definitions.specs.Refusals.{Breaks, BreaksTrees, IsFirstBroken, AreKept, command_rules, tree_rules, IsRefusal}
use Rattle.bound_numbers.specs.Tables.{AreNumbered}
use Rattle.bound_scopes.specs.Limits.{IsAt, IsFaultOf, IsScopeFault, IsScopeRule, IsValueFault}
use Rattle.bound_scopes.proofs.Answering.{goes_as}

-- the rules on trees, one after the other
module _ (bodies : List Body) (trees : List Counted) (bits : ℕ) where
  pub wide_first : (e : Fault) → IsFaultOf (IsAt rules.Literal (IsWideAt bodies trees bits)) e → IsFaultOf (IsFirstBroken (BreaksTrees bodies trees bits) tree_rules) e
  wide_first e is = goes_as (IsAt rules.Literal (IsWideAt bodies trees bits)) (IsFirstBroken (BreaksTrees bodies trees bits) tree_rules) e (λ r at. inl at) is

  pub past_first : IsKept (IsWideAt bodies trees bits) → (e : Fault) → IsFaultOf (IsAt rules.PastDepth (Contains (deep_past bodies trees))) e → IsFaultOf (IsFirstBroken (BreaksTrees bodies trees bits) tree_rules) e
  past_first wide e is = goes_as (IsAt rules.PastDepth (Contains (deep_past bodies trees))) (IsFirstBroken (BreaksTrees bodies trees bits) tree_rules) e (λ r at. inr (wide, inl at)) is

  pub deep_first : IsKept (IsWideAt bodies trees bits) → IsKept (Contains (deep_past bodies trees)) → (e : Fault) → IsFaultOf (IsAt rules.DeepCalls (Contains (deep_calls bodies trees))) e → IsFaultOf (IsFirstBroken (BreaksTrees bodies trees bits) tree_rules) e
  deep_first wide past e is = goes_as (IsAt rules.DeepCalls (Contains (deep_calls bodies trees))) (IsFirstBroken (BreaksTrees bodies trees bits) tree_rules) e (λ r at. inr (wide, inr (past, inl at))) is

  pub trees_kept : IsKept (IsWideAt bodies trees bits) → IsKept (Contains (deep_past bodies trees)) → IsKept (Contains (deep_calls bodies trees)) → AreKept (BreaksTrees bodies trees bits) tree_rules
  trees_kept wide past deep = (wide, (past, (deep, tt)))

-- the scopes that the rules give, from the numbers of the sigs
abbrev made : Model → Command → List SigScope → Scopes
made model command list = record { numbers = list; bits = bits_in command.scope; states = states_in model command.scope }

made_by : (model : Model) (command : Command) (list : List SigScope) → AreNumbered model.sigs command.scope list → AreScopesBy model command (made model command list)
made_by model command list is = record {
  sums = is.sums;
  numbers = is.numbers;
  are_sums = is.are_sums;
  are_numbers = is.are_numbers;
  each = is.each;
  bits = refl;
  states = refl;
}

module _ (model : Model) (command : Command) (list : List SigScope) (numbered : AreNumbered model.sigs command.scope list) where
  abbrev First : Refusal → Type 0
  First r = IsFirstBroken (Breaks model command (made model command list)) command_rules r

  as_refusal : (r : Refusal) → First r → IsRefusal model command r
  as_refusal r first = record { scopes = made model command list; by = made_by model command list numbered; first = first }

  pub bad_first : (e : Fault) → IsFaultOf (IsAt rules.BadScope (Contains (bad_scopes model.sigs command.scope))) e → IsFaultOf (IsRefusal model command) e
  bad_first e is = goes_as (IsAt rules.BadScope (Contains (bad_scopes model.sigs command.scope))) (IsRefusal model command) e (λ r at. as_refusal r (inl at)) is

  module _ (bad : IsKept (Contains (bad_scopes model.sigs command.scope))) where
    pub exact_first : (e : Fault) → IsFaultOf (IsAt rules.ExactVar (Contains (exact_vars model.sigs command.scope))) e → IsFaultOf (IsRefusal model command) e
    exact_first e is = goes_as (IsAt rules.ExactVar (Contains (exact_vars model.sigs command.scope))) (IsRefusal model command) e (λ r at. as_refusal r (inr (bad, inl at))) is

    module _ (exact : IsKept (Contains (exact_vars model.sigs command.scope))) where
      pub word_first : (e : Fault) → IsFaultOf (IsAt rules.ScopeConflict (Contains (conflicts model.sigs command.scope))) e → IsFaultOf (IsRefusal model command) e
      word_first e is = goes_as (IsAt rules.ScopeConflict (Contains (conflicts model.sigs command.scope))) (IsRefusal model command) e (λ r at. as_refusal r (inr (bad, inr (exact, inl at)))) is

      module _ (word : IsKept (Contains (conflicts model.sigs command.scope))) where
        pub bits_first : (e : Fault) → IsFaultOf (IsAt rules.Bitwidth (Contains (bad_bitwidth command.scope))) e → IsFaultOf (IsRefusal model command) e
        bits_first e is = goes_as (IsAt rules.Bitwidth (Contains (bad_bitwidth command.scope))) (IsRefusal model command) e (λ r at. as_refusal r (inr (bad, inr (exact, inr (word, inl at))))) is

        module _ (width : IsKept (Contains (bad_bitwidth command.scope))) where
          pub steps_first : (e : Fault) → IsFaultOf (IsAt rules.Steps (Contains (bad_steps command.scope))) e → IsFaultOf (IsRefusal model command) e
          steps_first e is = goes_as (IsAt rules.Steps (Contains (bad_steps command.scope))) (IsRefusal model command) e (λ r at. as_refusal r (inr (bad, inr (exact, inr (word, inr (width, inl at)))))) is

          module _ (steps : IsKept (Contains (bad_steps command.scope))) where
            pub atoms_first : (bits : ℕ) → bits ≡ bits_in command.scope → (e : Fault) → IsFaultOf (IsAt rules.Atoms (Contains (too_many_atoms (atom_count list + 2 ^ bits) command.keyword))) e → IsFaultOf (IsRefusal model command) e
            atoms_first bits same e is =
                goes_as (IsAt rules.Atoms (Contains (too_many_atoms (atom_count list + 2 ^ bits_in command.scope) command.keyword))) (IsRefusal model command) e (λ r at. as_refusal r (inr (bad, inr (exact, inr (word, inr (width, inr (steps, inl at)))))))
                (subst (λ (n : ℕ). IsFaultOf (IsAt rules.Atoms (Contains (too_many_atoms (atom_count list + 2 ^ n) command.keyword))) e) same is)

            pub trees_first : (bits : ℕ) → bits ≡ bits_in command.scope → IsKept (Contains (too_many_atoms (atom_count list + 2 ^ bits) command.keyword)) → (e : Fault) → IsFaultOf (IsFirstBroken (BreaksTrees model.bodies (counted model command) bits) tree_rules) e → IsFaultOf (IsRefusal model command) e
            trees_first bits same atoms e is =
                goes_as (IsFirstBroken (BreaksTrees model.bodies (counted model command) (bits_in command.scope)) tree_rules) (IsRefusal model command) e
                (λ r first. as_refusal r (inr (bad, inr (exact, inr (word, inr (width, inr (steps, inr (subst (λ (n : ℕ). IsKept (Contains (too_many_atoms (atom_count list + 2 ^ n) command.keyword))) same atoms, first))))))))
                (subst (λ (n : ℕ). IsFaultOf (IsFirstBroken (BreaksTrees model.bodies (counted model command) n) tree_rules) e) same is)

-- which rules these are
rule_is : (r : Refusal) (rule : Rule) (at : Origin) (P : Rule → Type 0) → r ≡ record { rule = rule; place = at.place } → P rule → P r.rule
rule_is r rule at P e is = subst (λ (x : Refusal). P x.rule) (sym e) is

tree_rule : (P : Rule → Type 0) (Broken : Rule → Origin → Type 0) (r : Refusal) → P rules.Literal → P rules.PastDepth → P rules.DeepCalls → IsFirstBroken Broken tree_rules r → P r.rule
tree_rule P Broken r a b c (inl (at, first, e)) = rule_is r rules.Literal at P e a
tree_rule P Broken r a b c (inr (kept, inl (at, first, e))) = rule_is r rules.PastDepth at P e b
tree_rule P Broken r a b c (inr (kept, inr (past, inl (at, first, e)))) = rule_is r rules.DeepCalls at P e c
tree_rule P Broken r a b c (inr (kept, inr (past, inr (deep, none)))) = absurd none

pub value_fault : (Broken : Rule → Origin → Type 0) (e : Fault) → IsFaultOf (IsFirstBroken Broken tree_rules) e → IsValueFault e
value_fault Broken Memory is = tt
value_fault Broken (Refused r) is = tree_rule (λ rule. IsTrue (number_of rule == 46 || number_of rule == 48 || number_of rule == 49)) Broken r refl refl refl is

scope_rule : (Broken : Rule → Origin → Type 0) (r : Refusal) → IsFirstBroken Broken command_rules r → IsScopeRule r.rule
scope_rule Broken r (inl (at, first, e)) = rule_is r rules.BadScope at IsScopeRule e refl
scope_rule Broken r (inr (k, inl (at, first, e))) = rule_is r rules.ExactVar at IsScopeRule e refl
scope_rule Broken r (inr (k, inr (l, inl (at, first, e)))) = rule_is r rules.ScopeConflict at IsScopeRule e refl
scope_rule Broken r (inr (k, inr (l, inr (m, inl (at, first, e))))) = rule_is r rules.Bitwidth at IsScopeRule e refl
scope_rule Broken r (inr (k, inr (l, inr (m, inr (n, inl (at, first, e)))))) = rule_is r rules.Steps at IsScopeRule e refl
scope_rule Broken r (inr (k, inr (l, inr (m, inr (n, inr (o, inl (at, first, e))))))) = rule_is r rules.Atoms at IsScopeRule e refl
scope_rule Broken r (inr (k, inr (l, inr (m, inr (n, inr (o, inr (p, rest))))))) = tree_rule IsScopeRule Broken r refl refl refl rest

pub scope_fault : (model : Model) (command : Command) (e : Fault) → IsFaultOf (IsRefusal model command) e → IsScopeFault e
scope_fault model command Memory is = tt
scope_fault model command (Refused r) is = scope_rule (Breaks model command is.scopes) r is.first

pub err_to : {X : Type 0} (P Q : Fault → Type 0) (r : Result X Fault) → ((e : Fault) → P e → Q e) → IfErr r P → IfErr r Q
err_to P Q (Ok x) to is = tt
err_to P Q (Err e) to is = to e is

pub memory_fault : (Is : Refusal → Type 0) (e : Fault) → e ≡ Memory → IsFaultOf Is e
memory_fault Is e none = subst (IsFaultOf Is) (sym none) tt
