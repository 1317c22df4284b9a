use Rattle.std.proofs.Common.{◌≡◌, map, take, length}
use Rattle.core_tree.specs.Trees.{claim_of, variable_of}
use Rattle.core_free.proofs.same.+same.Given as goal

abbrev pub invariant-same_formulas-loop-formula : goal.invariant-same_formulas-loop-formula
invariant-same_formulas-loop-formula l = record {
  place : l.place ≡ l.formula-index;
  long : length l.a ≡ length l.b;
  same : map claim_of (take l.formula-index l.a) ≡ map claim_of (take l.formula-index l.b);
}

abbrev pub invariant-same_variables-loop-variable : goal.invariant-same_variables-loop-variable
invariant-same_variables-loop-variable l = record {
  place : l.place ≡ l.variable-index;
  long : length l.a ≡ length l.b;
  same : map variable_of (take l.variable-index l.a) ≡ map variable_of (take l.variable-index l.b);
}
