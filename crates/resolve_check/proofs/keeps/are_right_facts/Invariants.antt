use Rattle.std.proofs.Common.{All, take}
use Rattle.core_tree.specs.declared.model.Fact.{Fact}
use Rattle.core_tree.specs.Trees.{claim_of}
use Rattle.core_tree.specs.Columns.{no_columns}
use Rattle.core_tree.specs.Models.{IsRightFormula}
use Rattle.resolve_check.proofs.keeps.are_right_facts.Given as goal

abbrev pub invariant-loop-fact : goal.invariant-loop-fact
invariant-loop-fact l = All (λ (f : Fact). IsRightFormula l.model (claim_of f.formula) no_columns) (take l.fact-index l.facts)
