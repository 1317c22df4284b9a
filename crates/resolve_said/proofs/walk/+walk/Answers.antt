use Rattle.std.proofs.Common.{◌≡◌, ◌∙◌, ◌+◌, ◌-◌, List, length, get_or, refl, sym, ap, subst, arith}
use Rattle.syntax_tree.specs.declared.expr.Named.{Named}
use Rattle.resolve_said.specs.Locals.{scope_of}
use Rattle.resolve_said.specs.Parts.{said_by}
use Rattle.resolve_said.specs.Said.{standing_of, in_parentheses, prefixed, a_comparison, first_conjunct, no_item, no_decl, no_variable}
use Rattle.resolve_said.proofs.Rows.{seen, row_start, row_back, steps_start, box_start, box_back, conjuncts_next, items_next, variables_next, variables_end, decls_next, let_next, let_end}
use Rattle.resolve_said.proofs.Forms.{prime_case, block_case, conjunction_case, row_case, join_case, let_case, implication_case, choice_case, sequence_case, comprehension_case, quantified_case, dot_case, box_case, steps_turn}
use Rattle.resolve_said.proofs.walk.+walk.Goals as goal

pub before_box-loop-step-preserved : goal.before_box-loop-step-preserved
before_box-loop-step-preserved t c = λ q row. c.loop-step.invariant q (box_back (standing_of c.args.site.now) (scope_of c.args.locals.now) q c.as_slice-arguments.result.now c.loop-step.step (length c.as_slice-arguments.result.now - 1 - c.loop-step.step) c.index-arguments-arguments.result _ _ _ c.loop-step-test.true refl c.index-arguments-arguments.is c.in-Some.ensures (c.in_ok-said-in-Bracket.ensures c.if-not-said.false) row)

pub before_box-returns-after-loop-step : goal.before_box-returns-after-loop-step
before_box-returns-after-loop-step t c = λ first row. box_case (standing_of c.args.site.now) (scope_of c.args.locals.now) first c.args.steps.now c.args.place c.index-steps-place.result c.in-Bracket.arguments c.as_slice-arguments.result.now _ _ c.if-place-steps.false c.index-steps-place.is c.in-Bracket.is c.as_slice-arguments.ensures (c.loop-step.invariant (said_by c.loop-step.rest) (box_start (standing_of c.args.site.now) (scope_of c.args.locals.now) c.as_slice-arguments.result.now c.loop-step.step (said_by c.loop-step.rest) c.loop-step-test.false)) row

pub before_row-loop-step-preserved : goal.before_row-loop-step-preserved
before_row-loop-step-preserved t c = λ first row. c.loop-step.invariant first (row_back (standing_of c.args.site.now) (scope_of c.args.locals.now) first c.args.links.now c.loop-step.step (length c.args.links.now - 1 - c.loop-step.step) c.index-links-place.result _ _ _ c.loop-step-test.true refl c.index-links-place.is c.in-Some.ensures (c.in_ok-said.ensures c.if-not-said.false) row)

pub before_row-returns : goal.before_row-returns
before_row-returns t c = λ first says. c.loop-step.invariant first (row_start (standing_of c.args.site.now) (scope_of c.args.locals.now) first c.args.links.now c.loop-step.step (said_by c.loop-step.rest) c.loop-step-test.false says)

pub before_step-returns-else-not-said : goal.before_step-returns-else-not-said
before_step-returns-else-not-said t c = λ first row. dot_case (standing_of c.args.site.now) (scope_of c.args.locals.now) first c.args.steps.now c.args.place c.index-steps-place.result c.in-Dot.operand _ _ _ c.if-place-steps.false c.index-steps-place.is c.in-Dot.is c.in-Some.ensures (c.in_ok-said-in-Dot.ensures c.if-not-said.false) row

pub before_steps-loop-step-preserved : goal.before_steps-loop-step-preserved
before_steps-loop-step-preserved t c = let f = rw c.in-Some.is at c.in_ok-found.ensures in λ first row. c.loop-step.invariant first (steps_turn (standing_of c.args.site.now) (scope_of c.args.locals.now) first c.args.steps.now c.loop-step.step _ _ c.loop-step-test.true f row)

pub before_steps-returns : goal.before_steps-returns
before_steps-returns t c = λ first says. c.loop-step.invariant first (steps_start (standing_of c.args.site.now) (scope_of c.args.locals.now) first c.args.steps.now c.loop-step.step (said_by c.loop-step.rest) c.loop-step-test.false says)

pub says-returns-in_ok-said-in-Parenthesis : goal.says-returns-in_ok-said-in-Parenthesis
says-returns-in_ok-said-in-Parenthesis t c = λ h. in_parentheses c.in-Parenthesis.is (c.is_whole.ensures c.if-not-is_whole.false) (seen (standing_of c.args.site.now) (scope_of c.args.locals.now) c.get.ensures (c.in_ok-said-in-Parenthesis.ensures h))

pub says_block-returns-in_ok-said-in-Some : goal.says_block-returns-in_ok-said-in-Some
says_block-returns-in_ok-said-in-Some t c = λ h. block_case (standing_of c.args.site.now) (scope_of c.args.locals.now) c.args.tree.now (said_by c.args.part.now) _ _ c.as_slice.result.now c.in-Some.formulas.now c.in-Block.is c.as_slice.ensures c.in-Some.ensures (c.in_ok-said-in-Some.ensures h)

pub says_choice-returns-in_ok-said-in-Some-other : goal.says_choice-returns-in_ok-said-in-Some-other
says_choice-returns-in_ok-said-in-Some-other t c = λ h. choice_case (standing_of c.args.site.now) (scope_of c.args.locals.now) c.args.tree.now (said_by c.args.part.now) _ _ _ _ c.get-first.result.now c.get-second.result.now c.get-third.result.now _ _ _ _ c.in-Implication.is c.in-Some-other.is c.get-first.ensures c.get-second.ensures c.get-third.ensures (c.in_ok-begun-in-Some-other.ensures c.if-not-begun.false) (c.in_ok-further-in-Some-other.ensures c.if-not-further.false) (c.in_ok-said-in-Some-other.ensures h) c.in-Some.ensures

pub says_implied-returns-in_ok-said-in-None-other : goal.says_implied-returns-in_ok-said-in-None-other
says_implied-returns-in_ok-said-in-None-other t c = λ h. implication_case (standing_of c.args.site.now) (scope_of c.args.locals.now) c.args.tree.now (said_by c.args.part.now) _ _ _ c.get-first.result.now c.get-second.result.now _ _ _ c.in-Implication.is c.in-None-other.is c.get-first.ensures c.get-second.ensures c.in-Some.ensures (c.in_ok-begun-in-None-other.ensures c.if-not-begun.false) (c.in_ok-said-in-None-other.ensures h)

pub says_comparison-returns-in_ok-said-in-Some : goal.says_comparison-returns-in_ok-said-in-Some
says_comparison-returns-in_ok-said-in-Some t c = λ h. a_comparison c.in-Compare.is (seen (standing_of c.args.site.now) (scope_of c.args.locals.now) c.get-first.ensures (c.in_ok-begun-in-Some.ensures c.if-not-begun.false)) (seen (standing_of c.args.site.now) (scope_of c.args.locals.now) c.get-second.ensures (c.in_ok-said-in-Some.ensures h)) c.in-Some.ensures

pub says_comprehension-returns-in_ok-said-in-Some : goal.says_comprehension-returns-in_ok-said-in-Some
says_comprehension-returns-in_ok-said-in-Some t c = λ h. comprehension_case (standing_of c.args.site.now) (scope_of c.args.locals.now) c.args.tree.now (said_by c.args.part.now) _ _ c.as_slice-decls.result.now _ _ c.get-body.result.now c.in-Some.ranged.variables.now _ c.in-Comprehension.is c.as_slice-decls.ensures c.get-body.ensures (c.in_ok-begun-in-Some.ensures c.if-not-begun.false) (c.in_ok-said-in-Some.ensures h) c.in-Some.ensures

pub says_quantified-returns-in_ok-said-in-Some : goal.says_quantified-returns-in_ok-said-in-Some
says_quantified-returns-in_ok-said-in-Some t c = λ h. quantified_case (standing_of c.args.site.now) (scope_of c.args.locals.now) c.args.tree.now (said_by c.args.part.now) _ _ _ c.as_slice-decls.result.now _ _ c.get-body.result.now c.in-Some.ranged.variables.now _ c.in-Quantified.is c.as_slice-decls.ensures c.get-body.ensures (c.in_ok-begun-in-Some.ensures c.if-not-begun.false) (c.in_ok-said-in-Some.ensures h) c.in-Some.ensures

pub says_conjuncts-loop-place-init : goal.says_conjuncts-loop-place-init
says_conjuncts-loop-place-init t c = λ first k says. first_conjunct says

pub says_conjuncts-loop-place-preserved : goal.says_conjuncts-loop-place-preserved
says_conjuncts-loop-place-preserved t c = λ first k says. conjuncts_next (standing_of c.args.site.now) (scope_of c.args.locals.now) first k c.args.links.now c.args.formulas.now c.loop-place.place c.index-links-place.result c.index-formulas-place.result c.loop-place-test.true c.index-links-place.is (omega arith) c.index-formulas-place.is (sym c.is_and.ensures ∙ c.if-not-is_and.false) (c.in_ok-said.ensures c.if-not-said.false) (c.loop-place.invariant first k says)

pub says_conjunction-returns-in_ok-said-in-Some : goal.says_conjunction-returns-in_ok-said-in-Some
says_conjunction-returns-in_ok-said-in-Some t c = λ h. conjunction_case (standing_of c.args.site.now) (scope_of c.args.locals.now) c.args.tree.now (said_by c.args.part.now) _ c.get-first.result.now _ c.as_slice-links.result.now _ c.in-Infix.is c.as_slice-links.ensures c.in-Some.ensures (c.in_ok-said-in-Some.ensures h c.get-first.result.now _ (c.in_ok-begun-in-Some.ensures c.if-not-begun.false)) c.get-first.ensures

pub says_decls-loop-place-init : goal.says_decls-loop-place-init
says_decls-loop-place-init t c = record { within = omega arith; said = no_decl }

pub says_decls-loop-place-preserved : goal.says_decls-loop-place-preserved
says_decls-loop-place-preserved t c = let v = c.in_ok-said.ensures c.if-not-said.false in record { within = c.in-Some.ensures.0; said = decls_next (standing_of c.args.site.now) (scope_of c.args.locals.now) c.args.decls.now c.args.variables.now c.in-Some.own.now c.loop-place.place c.loop-place.from v.0 c.loop-place-test.true v.1 c.in-Some.ensures.1 v.2 c.loop-place.invariant.said }

pub says_infix-returns-in_ok-said-in-Some : goal.says_infix-returns-in_ok-said-in-Some
says_infix-returns-in_ok-said-in-Some t c = let f = rw c.in-Some.is at c.in_ok-found-in-Infix.ensures in λ h. row_case (standing_of c.args.site.now) (scope_of c.args.locals.now) c.args.tree.now (said_by c.args.part.now) _ c.get-first.result.now _ c.as_slice-links.result.now c.in-Infix.is c.as_slice-links.ensures c.get-first.ensures (f c.get-first.result.now (c.in_ok-said-in-Some.ensures h))

pub says_join-returns-in_ok-said-in-Some : goal.says_join-returns-in_ok-said-in-Some
says_join-returns-in_ok-said-in-Some t c = let f = rw c.in-Some.is at c.in_ok-found-in-Join.ensures in λ h. join_case (standing_of c.args.site.now) (scope_of c.args.locals.now) c.args.tree.now (said_by c.args.part.now) _ c.get-first.result.now _ c.as_slice-steps.result.now c.in-Join.is c.as_slice-steps.ensures c.get-first.ensures (f c.get-first.result.now (c.in_ok-said-in-Some.ensures h))

pub says_let-returns-in_ok-said-in-Some : goal.says_let-returns-in_ok-said-in-Some
says_let-returns-in_ok-said-in-Some t c = let f = rw c.in-Some.is at c.in_ok-found-in-Let.ensures in λ h. let_case (standing_of c.args.site.now) (scope_of c.args.locals.now) c.args.tree.now (said_by c.args.part.now) _ _ c.as_slice-bindings.result.now _ _ c.get-body.result.now c.in-Let.is c.as_slice-bindings.ensures c.get-body.ensures (f c.get-body.result.now (c.in_ok-said-in-Some.ensures h))

pub says_items-loop-place-init : goal.says_items-loop-place-init
says_items-loop-place-init t c = no_item

pub says_items-loop-place-preserved : goal.says_items-loop-place-preserved
says_items-loop-place-preserved t c = items_next (standing_of c.args.site.now) (scope_of c.args.locals.now) c.args.items.now c.args.formulas.now c.loop-place.place c.index-items-place.result c.index-formulas-place.result c.loop-place-test.true c.index-items-place.is (omega arith) c.index-formulas-place.is (c.in_ok-said.ensures c.if-not-said.false) c.loop-place.invariant

pub says_prefix-returns-in_ok-said-in-Some : goal.says_prefix-returns-in_ok-said-in-Some
says_prefix-returns-in_ok-said-in-Some t c = λ h. prefixed c.in-Prefix.is (seen (standing_of c.args.site.now) (scope_of c.args.locals.now) c.get.ensures (c.in_ok-said-in-Some.ensures h)) c.in-Some.ensures

pub says_prime-returns-in_ok-said-in-Some : goal.says_prime-returns-in_ok-said-in-Some
says_prime-returns-in_ok-said-in-Some t c = λ h. prime_case (standing_of c.args.site.now) (scope_of c.args.locals.now) c.args.tree.now (said_by c.args.part.now) _ c.get.result.now _ c.in-Prime.is c.get.ensures c.in-Some.ensures (c.in_ok-said-in-Some.ensures h)

pub says_sequence-returns-in_ok-said-in-Some : goal.says_sequence-returns-in_ok-said-in-Some
says_sequence-returns-in_ok-said-in-Some t c = λ h. sequence_case (standing_of c.args.site.now) (scope_of c.args.locals.now) c.args.tree.now (said_by c.args.part.now) _ _ c.get-first.result.now c.get-second.result.now _ _ c.in-Sequence.is c.get-first.ensures c.get-second.ensures c.in-Some.ensures (c.in_ok-begun-in-Some.ensures c.if-not-begun.false) (c.in_ok-said-in-Some.ensures h)

pub says_variables-loop-place-init : goal.says_variables-loop-place-init
says_variables-loop-place-init t c = no_variable

pub says_variables-loop-place-preserved : goal.says_variables-loop-place-preserved
says_variables-loop-place-preserved t c = let v = c.is_variable.ensures c.if-not-is_variable.false in let same = ap (λ (l : List Named). length l) c.as_slice-names.ensures in variables_next (standing_of c.args.site.now) (scope_of c.args.locals.now) c.index-decls-at.result c.args.variables.now c.loop-place.place c.index-names-place.result c.index-variables-place.result (omega (arith, c.loop-place-test.true, c.if-variables-names.false, same)) (subst (λ (l : List Named). c.index-names-place.result ≡ get_or l c.loop-place.place c.index-names-place.result) c.as_slice-names.ensures c.index-names-place.is) c.loop-place-test.true c.index-variables-place.is (c.in_ok-said.ensures c.if-not-said.false) (v.0 ∙ ap (λ n. n + c.loop-place.place) c.in_ok-names_outside.ensures.count) v.1 c.loop-place.invariant

pub under_values-loop-place-preserved : goal.under_values-loop-place-preserved
under_values-loop-place-preserved t c = λ body row. c.loop-place.invariant body (let_next (standing_of c.args.site.now) (scope_of c.args.locals.now) body c.args.bindings.now c.loop-place.place c.in-Some.under.number c.index-bindings-place.result _ _ _ c.loop-place-test.true c.index-bindings-place.is (c.is_number.ensures c.if-not-is_number.false ∙ ap (λ n. n + c.loop-place.place) c.in_ok-names_outside.ensures.count) c.in-Some.ensures (c.in_ok-said.ensures c.if-not-said.false) row)

pub under_values-returns : goal.under_values-returns
under_values-returns t c = λ body says. c.loop-place.invariant body (let_end (standing_of c.args.site.now) (scope_of c.args.locals.now) body c.args.bindings.now c.loop-place.place (said_by c.loop-place.rest) c.loop-place-test.false says)

pub says_variables-returns : goal.says_variables-returns
says_variables-returns t c = λ _. (c.index-decls-at.result, c.index-decls-at.is, variables_end (standing_of c.args.site.now) (scope_of c.args.locals.now) c.index-decls-at.result c.args.variables.now c.loop-place.place c.loop-place-test.false (c.if-variables-names.false ∙ ap (λ (l : List Named). length l) c.as_slice-names.ensures) c.loop-place.invariant)
