-- A lasso satisfies a model where each part of that holds.
use Rattle.std.proofs.Common.{◌≡◌, ◌↔◌, ℕ, Bool, true, false, refl, All, IsTrue}
use Rattle.core_tree.specs.declared.model.Model.{Model}
use Rattle.core_tree.specs.declared.model.Fact.{Fact}
use Rattle.core_tree.specs.Trees.{Claim, claim_of}
use Rattle.core_meaning.specs.declared.scopes.Scopes.{Scopes}
use Rattle.core_meaning.specs.Sequence.{LassoValue}
use Rattle.core_meaning.specs.Meaning.{no_names}
use Rattle.core_meaning.specs.Kept.{Keeps}
use Rattle.core_meaning.specs.Satisfied.{HoldsAt, DeclaresAt, Satisfies}

-- nothing is denied by false
pub denied : {P : Type 0} → IsTrue false → P
denied t = let e : false ≡ true = t in absurd cc

module _ (model : Model) (scopes : Scopes) (lasso : LassoValue) (command : Claim) where
  abbrev Whole : Type 0
  Whole = Satisfies model scopes lasso command

  abbrev pub FactsHold : Type 0
  FactsHold = All (λ (f : Fact). HoldsAt model scopes lasso (claim_of f.formula) no_names 0) model.facts

  pub none_kept : (b : Bool) → b ≡ false → IsTrue b ↔ Keeps model scopes lasso → IsTrue false ↔ Whole
  none_kept false e k = (denied, (λ s. k.1 s.keeps))
  none_kept true e k = absurd cc

  pub none_declared : (b : Bool) → b ≡ false → IsTrue b ↔ ((i : ℕ) → DeclaresAt model scopes lasso i) → IsTrue false ↔ Whole
  none_declared false e k = (denied, (λ s. k.1 s.declared))
  none_declared true e k = absurd cc

  pub some_fails : (b : Bool) → b ≡ false → IsTrue b ↔ FactsHold → IsTrue false ↔ Whole
  some_fails false e k = (denied, (λ s. k.1 s.facts_hold))
  some_fails true e k = absurd cc

  pub all_hold : (kept declared facts last : Bool) → kept ≡ true → declared ≡ true → facts ≡ true → IsTrue kept ↔ Keeps model scopes lasso → IsTrue declared ↔ ((i : ℕ) → DeclaresAt model scopes lasso i) → IsTrue facts ↔ FactsHold → IsTrue last ↔ HoldsAt model scopes lasso command no_names 0 → IsTrue last ↔ Whole
  all_hold true true true last e f g k d h l = (
    (λ t. record { keeps = k.0 refl; declared = d.0 refl; facts_hold = h.0 refl; command_holds = l.0 t }),
    (λ s. l.1 s.command_holds),
  )
  all_hold false declared facts last e f g k d h l = absurd cc
  all_hold true false facts last e f g k d h l = absurd cc
  all_hold true true false last e f g k d h l = absurd cc

-- what an answer says, and what it denies
pub said : {P : Type 0} (b : Bool) → b ≡ true → IsTrue b ↔ P → P
said true e k = k.0 refl
said false e k = absurd cc

pub unsaid : {P : Type 0} (b : Bool) → b ≡ false → IsTrue b ↔ P → P → ⊥
unsaid false e k p = denied (k.1 p)
unsaid true e k p = absurd cc
