use Rattle.std.proofs.Common.{All, take}
use Rattle.core_tree.specs.declared.model.Assert.{Assert}
use Rattle.core_tree.specs.Trees.{claim_of}
use Rattle.core_tree.specs.Columns.{no_columns}
use Rattle.core_tree.specs.Models.{IsRightFormula}
use Rattle.resolve_check.proofs.keeps.are_right_asserts.Given as goal

abbrev pub invariant-loop-assertion : goal.invariant-loop-assertion
invariant-loop-assertion l = All (λ (a : Assert). IsRightFormula l.model (claim_of a.formula) no_columns) (take l.assertion-index l.asserts)
