-- What the units of a target's clauses say of the model that it is made of.
use Rattle.std.specs.Prelude.{◌≡◌, ◌↔◌, ℕ, ℤ, Bool, List, [], ◌∷◌, ◌++◌, length, slice_get, Some, All}
use Rattle.core_tree.specs.declared.model.Fact.{Fact}
use Rattle.core_tree.specs.Trees.{Claim, claim_of}
use Rattle.core_meaning.specs.Kept.{KeepsNumbers}
use Rattle.core_meaning.specs.Meaning.{no_names}
use Rattle.core_meaning.specs.Satisfied.{HoldsAt, DeclaresAt}
use Rattle.core_meaning.specs.Sequence.{LassoValue}
use Rattle.sat_dimacs.specs.declared.cnf.Cnf.{Cnf}
use Rattle.sat_dimacs.specs.Literal.{Satisfies}
use Rattle.bound_uppers.specs.declared.places.Layout.{Layout}
use Rattle.bound_uppers.specs.declared.table.Bounds.{Bounds}
use Rattle.bmc_leaves.specs.Table.{Decodes}
use Rattle.answer_search.specs.Clauses.{IsTrueIn, SayTarget}
use Rattle.answer_certificates.specs.Core.{AreKept}
use Rattle.answer_certificates.specs.Kept.{facts_at}
use Rattle.answer_certificates.specs.Parts.{SayPart, RuleOut}
use Rattle.answer_analysis.specs.declared.ready.Prepared.{Prepared}
use Rattle.answer_analysis.specs.declared.ready.Ready.{Ready}
use Rattle.answer_analysis.specs.Found.{IsPrepared}

-- The units for the formulas of a target are some for the declarations, one for each of these facts, in order, and the last for
-- the command. In each assignment that stands for a lasso, that of the scopes' numbers and those of the declarations are true
-- just where the lasso keeps these numbers, and the declarations fail at no position; and each other one just where its fact,
-- or the command's formula, holds at position 0.
pub record SayModel (ready : Ready) (these : List Fact) (command : Claim) (stands : (ℕ → Bool) → LassoValue → Type 0) (numbers : ℤ) (each : List ℤ) : Type 0 where
  pub declared : List ℤ
  pub facts : List ℤ
  pub last : ℤ
  pub parted : each ≡ declared ++ (facts ++ last ∷ [])
  pub one_each : length facts ≡ length these
  pub keeps : (v : ℕ → Bool) (lasso : LassoValue) → stands v lasso → (IsTrueIn v numbers × All (IsTrueIn v) declared) ↔ (KeepsNumbers ready.scopes lasso × ((i : ℕ) → ¬ ¬ DeclaresAt ready.model ready.scopes lasso i))
  pub fact_holds :
      (v : ℕ → Bool) (lasso : LassoValue) → stands v lasso → (k : ℕ) (f : Fact) (literal : ℤ) → slice_get these k ≡ Some f → slice_get facts k ≡ Some literal →
      IsTrueIn v literal ↔ HoldsAt ready.model ready.scopes lasso (claim_of f.formula) no_names 0
  pub command_holds : (v : ℕ → Bool) (lasso : LassoValue) → stands v lasso → IsTrueIn v last ↔ HoldsAt ready.model ready.scopes lasso command no_names 0

-- an assignment of definitions that stands for a lasso
abbrev pub StandsBy : Bounds → Layout → List (List ℤ) → (ℕ → Bool) → LassoValue → Type 0
StandsBy bounds table defining v lasso = Satisfies v defining × Decodes bounds table v lasso

-- clauses that say what the target of a prepared model does say it of the model, with all of its facts
abbrev pub UnitsSayModel : Type 0
UnitsSayModel =
    (number : ℕ) (prepared : Prepared) (bounds : Bounds) (cnf : Cnf) (made : IsPrepared number prepared) → (say : SayTarget prepared.target bounds cnf) →
    SayModel prepared.ready prepared.ready.model.facts (claim_of made.ready.command.formula) (StandsBy bounds say.table say.defining) say.numbers say.each

-- those that say it without the formulas of some facts say it of the model with the other facts alone, each once and in order
abbrev pub UnitsSayPart : Type 0
UnitsSayPart =
    (number : ℕ) (prepared : Prepared) (bounds : Bounds) (cnf : Cnf) (made : IsPrepared number prepared) →
    (part : SayPart prepared.target prepared.first_fact (length prepared.ready.model.facts) bounds cnf) →
    (kept : List ℕ) × AreKept (length prepared.ready.model.facts) kept
    × SayModel prepared.ready (facts_at prepared.ready.model.facts kept) (claim_of made.ready.command.formula) (StandsBy bounds part.said.says.table part.said.says.defining) part.said.says.numbers part.said.says.each

-- and those that rule it out with the kept facts alone say it of the model with these
abbrev pub UnitsSayKept : Type 0
UnitsSayKept =
    (number : ℕ) (prepared : Prepared) (bounds : Bounds) (kept : List ℕ) (cnf : Cnf) (made : IsPrepared number prepared) → AreKept (length prepared.ready.model.facts) kept →
    (out : RuleOut prepared.target prepared.first_fact (length prepared.ready.model.facts) bounds kept cnf) →
    SayModel prepared.ready (facts_at prepared.ready.model.facts kept) (claim_of made.ready.command.formula) (StandsBy bounds out.refuted.says.table out.refuted.says.defining) out.refuted.says.numbers out.refuted.says.each
