-- What a model means with some of its facts alone.
use Rattle.std.specs.Prelude.{◌≡◌, ℕ, List, [], ◌∷◌, ◌≤◌, length, Option, Some, None, slice_get}
use Rattle.core_tree.specs.declared.model.Command.{Command}
use Rattle.core_tree.specs.declared.model.Fact.{Fact}
use Rattle.core_tree.specs.Trees.{claim_of}
use Rattle.core_meaning.specs.Satisfied.{SatisfiesWith}
use Rattle.core_meaning.specs.Sequence.{LassoValue}
use Rattle.bound_uppers.specs.Candidates.{IsCandidate}
use Rattle.bound_laws.specs.Satisfying.{IsLassoOver}
use Rattle.sat_dimacs.specs.declared.cnf.Cnf.{Cnf}
use Rattle.answer_certificates.specs.Parts.{RuleOut}
use Rattle.answer_analysis.specs.declared.ready.Prepared.{Prepared}
use Rattle.answer_analysis.specs.declared.ready.Ready.{Ready}
use Rattle.answer_analysis.specs.Found.{IsPrepared}

abbrev pub before : Option Fact → List Fact → List Fact
before None facts = facts
before (Some fact) facts = fact ∷ facts

-- the facts of these numbers
abbrev pub facts_at : List Fact → List ℕ → List Fact
facts_at facts [] = []
facts_at facts (number ∷ numbers) = before (slice_get facts number) (facts_at facts numbers)

-- a lasso satisfies the command of a model that was made ready, its declarations, and the facts of these numbers
pub record KeepsFacts (ready : Ready) (kept : List ℕ) (lasso : LassoValue) : Type 0 where
  pub command : Command
  pub chosen : slice_get ready.model.commands ready.command ≡ Some command
  pub satisfies : SatisfiesWith ready.model ready.scopes lasso (facts_at ready.model.facts kept) (claim_of command.formula)

-- what a refutation means with some facts alone
pub record NoneKeeps (prepared : Prepared) (kept : List ℕ) : Type 0 where
  -- no lasso within the bounds does, of as many states as they have
  pub candidates : (lasso : LassoValue) → IsCandidate prepared.ready.bounds lasso → KeepsFacts prepared.ready kept lasso → ⊥
  -- and none at all of at most as many states
  pub lassos :
      (lasso : LassoValue) → IsLassoOver prepared.ready.model prepared.ready.scopes lasso → length lasso.states ≤ prepared.ready.bounds.states →
      KeepsFacts prepared.ready kept lasso → ⊥

-- what clauses rule out with some facts alone
abbrev pub KeptFactsRuleOut : Type 0
KeptFactsRuleOut = (number : ℕ) (prepared : Prepared) (kept : List ℕ) (cnf : Cnf) → IsPrepared number prepared
    → RuleOut prepared.target prepared.first_fact (length prepared.ready.model.facts) prepared.ready.bounds kept cnf → NoneKeeps prepared kept
