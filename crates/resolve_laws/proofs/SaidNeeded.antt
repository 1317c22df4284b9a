-- A row with no operator over an empty block says two things.
use Rattle.std.proofs.Common.{◌≡◌, [], ◌∷◌, None, refl}
use Rattle.base_types.specs.declared.place.Position.{Position}
use Rattle.syntax_tree.specs.declared.expr.Expr.{Expr}
use Rattle.syntax_tree.specs.declared.expr.Expr.TheVariants as expr
use Rattle.core_tree.specs.Trees.{every, no_claims, more_claims}
use Rattle.resolve_said.specs.Operators.{a_formula}
use Rattle.resolve_said.specs.Said.{Standing, Says, a_row, a_conjunction, a_block, first_operand, first_conjunct, no_item}
use Rattle.resolve_told_literals.specs.Told.{LabelsDiffer}
use Rattle.resolve_laws.specs.Needed.{LinksAreNeeded}
use Rattle.resolve_laws.proofs.SaidListed.{no_option}

place : Position
place = record { «module» = 0; line = 1; column = 1 }

bare : Standing
bare = record { scopes = []; sigs = []; bodies = []; instance = 0; own = []; picks = λ p. None }

block : Expr
block = expr.Block place []

row : Expr
row = expr.Infix block []

block_says : Says bare [] block (a_formula (every no_claims))
unfolding block
block_says = a_block {cs = []} refl no_item

by_row : Says bare [] row (a_formula (every no_claims))
unfolding row
by_row = a_row {first = block} {links = []} refl (first_operand block_says)

by_conjuncts : Says bare [] row (a_formula (every (more_claims (every no_claims) no_claims)))
unfolding row
by_conjuncts = a_conjunction {first = block} {links = []} {cs = every no_claims ∷ []} refl (first_conjunct block_says)

apart : a_formula (every no_claims) ≡ a_formula (every (more_claims (every no_claims) no_claims)) → ⊥
apart h = cc

differ : LabelsDiffer bare.sigs
unfolding bare
differ m n label p q = absurd (no_option p.0 p.1)

pub needed : LinksAreNeeded
unfolding bare
needed law = apart (law bare (λ p. None) [] row (a_formula (every no_claims)) (a_formula (every (more_claims (every no_claims) no_claims))) differ by_row by_conjuncts (λ o i h. refl))
