use Rattle.std.proofs.Common.{All, take}
use Rattle.core_tree.specs.declared.model.Fact.{Fact as FactOf}
use Rattle.core_tree.specs.Trees.{claim_of}
use Rattle.core_meaning.specs.Meaning.{no_names}
use Rattle.core_meaning.specs.Satisfied.{HoldsAt}
use Rattle.eval_check.proofs.facts_hold.Given as goal

abbrev pub invariant-loop-fact : goal.invariant-loop-fact
invariant-loop-fact l = All (λ (f : FactOf). HoldsAt l.model l.scopes l.lasso (claim_of f.formula) no_names 0) (take l.fact-index l.facts)
