-- Rows of operators, and negations of negations.
use Rattle.std.specs.Prelude.{ℕ, zero, suc, List, [], ◌∷◌}
use Rattle.core_tree.specs.Trees.{Term, Claim, term_of, combine, negation}
use Rattle.bmc_walk.specs.declared.levels.Operand.{Operand}

-- a row of operators on relations behind an expression; the last of them is given first
abbrev pub row_over : Term → List Operand → Term
row_over first [] = first
row_over first (operand ∷ earlier) = combine operand.op (row_over first earlier) (term_of operand.expr.now)

-- a formula with so many pairs of negations before it
abbrev pub doubly_negated : ℕ → Claim → Claim
doubly_negated zero f = f
doubly_negated (suc n) f = negation (negation (doubly_negated n f))
