use Rattle.std.proofs.Common.{◌∙◌, sym, subst}
use Rattle.core_tree.specs.declared.tree.Formula.{Formula}
use Rattle.core_tree.specs.Trees.{claim_of, term_of}
use Rattle.resolve_said.specs.Operators.{Compares, plainly, negated}
use Rattle.resolve_said.proofs.opened.negated_sides.Goals as goal

pub returns-then-is_plain : goal.returns-then-is_plain
returns-then-is_plain c = plainly (sym c.is_plain.ensures ∙ c.if-is_plain.true) c.in_ok-sides.ensures

pub returns-in_ok-sides-in-Not : goal.returns-in_ok-sides-in-Not
returns-in_ok-sides-in-Not c = rw c.in-Not.is (negated (sym c.is_plain.ensures ∙ c.if-is_plain.false) (subst (λ (x : Formula). Compares (term_of c.in_ok-sides-in-Not.sides.left.now) (term_of c.in_ok-sides-in-Not.sides.right.now) c.args.comparison.comparator c.args.comparison.word (claim_of x)) c.deref.ensures c.in_ok-sides-in-Not.ensures))
