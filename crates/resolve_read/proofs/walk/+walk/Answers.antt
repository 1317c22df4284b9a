use Rattle.std.proofs.Common.{◌∙◌, sym}
use Rattle.resolve_readings.specs.declared.part.Unary.TheVariants as unary
use Rattle.resolve_read.specs.At.{at_of, scope_of}
use Rattle.resolve_read.specs.Reads.{in_parentheses, primed, prefixed, first_operand, no_step, no_argument, no_decl, no_value, no_item, no_link, a_parenthesis, a_call, by_name, by_join}
use Rattle.resolve_read.proofs.Forms.{seen, seen_read, single_case, row_case, join_case, choice_case, let_case, comprehension_case, sum_case, block_case, sequence_case, implication_case, branching_case, comparison_case, test_case, prefix_case, logical_row_case, formula_let_case, quantified_case, root_case, bound_case}
use Rattle.resolve_read.proofs.Rows.{row_next, dot_case, box_case, arguments_next, arguments_all, decls_next, values_next, items_next, links_next}
use Rattle.resolve_read.proofs.walk.+walk.Goals as goal

pub reads_single-returns-in_ok-draft-in-Parenthesis : goal.reads_single-returns-in_ok-draft-in-Parenthesis
reads_single-returns-in_ok-draft-in-Parenthesis t c = single_case (at_of c.args.spot.now) (scope_of c.args.locals.now) c.args.tree.now c.get.result.now unary.Whole _ _ (λ u g r. in_parentheses c.in-Parenthesis.is (seen (at_of c.args.spot.now) (scope_of c.args.locals.now) c.get.ensures r)) c.in_ok-found-in-Parenthesis.ensures c.in_ok-draft-in-Parenthesis.ensures

pub reads_single-returns-in_ok-draft-in-Prime : goal.reads_single-returns-in_ok-draft-in-Prime
reads_single-returns-in_ok-draft-in-Prime t c = single_case (at_of c.args.spot.now) (scope_of c.args.locals.now) c.args.tree.now c.get-in-Prime.result.now unary.Prime _ _ (λ u g r. primed c.in-Prime.is (seen (at_of c.args.spot.now) (scope_of c.args.locals.now) c.get-in-Prime.ensures r)) c.in_ok-found-in-Prime.ensures c.in_ok-draft-in-Prime.ensures

pub reads_single-returns-in_ok-draft-in-Prefix : goal.reads_single-returns-in_ok-draft-in-Prefix
reads_single-returns-in_ok-draft-in-Prefix t c = single_case (at_of c.args.spot.now) (scope_of c.args.locals.now) c.args.tree.now c.get-in-Prefix.result.now c.in-Some.unary _ _ (λ u g r. prefixed c.in-Prefix.is (sym c.before_set.ensures ∙ c.in-Some.is) (seen (at_of c.args.spot.now) (scope_of c.args.locals.now) c.get-in-Prefix.ensures r)) c.in_ok-found-in-Prefix.ensures c.in_ok-draft-in-Prefix.ensures

pub reads_row-returns-in-Some-2 : goal.reads_row-returns-in-Some-2
reads_row-returns-in-Some-2 t c = let b = rw c.in-Some.is at c.in_ok-begun-in-Infix.ensures in let r = rw c.in-Some-2.is at c.in_ok-draft-in-Infix.ensures in row_case (at_of c.args.spot.now) (scope_of c.args.locals.now) c.args.tree.now _ _ _ c.get-first.result.now _ c.as_slice-links.result.now c.in-Infix.is c.get-first.ensures c.as_slice-links.ensures (r c.get-first.result.now b)

pub reads_links-loop-place-init : goal.reads_links-loop-place-init
reads_links-loop-place-init t c = λ first reads. first_operand reads

pub reads_links-loop-place-preserved : goal.reads_links-loop-place-preserved
reads_links-loop-place-preserved t c = let n = rw c.in-Some-2.is at c.in_ok-next.ensures in λ first reads. row_next (at_of c.args.spot.now) (scope_of c.args.locals.now) first c.args.links.now c.loop-place.place c.index-links-place.result c.in-Some.op _ _ _ _ _ _ c.loop-place-test.true c.index-links-place.is (sym c.in-Some.is ∙ c.between.ensures) n c.in_ok-so_far.ensures.tree c.in_ok-so_far.ensures.choice (c.loop-place.invariant first reads)

pub reads_join-returns-in-Some-2 : goal.reads_join-returns-in-Some-2
reads_join-returns-in-Some-2 t c = let b = rw c.in-Some.is at c.in_ok-begun-in-Join.ensures in let r = rw c.in-Some-2.is at c.in_ok-draft-in-Join.ensures in join_case (at_of c.args.spot.now) (scope_of c.args.locals.now) c.args.tree.now _ _ _ c.get-first.result.now _ c.as_slice-steps.result.now c.in-Join.is c.get-first.ensures c.as_slice-steps.ensures (r c.get-first.result.now b)

pub reads_steps-loop-place-init : goal.reads_steps-loop-place-init
reads_steps-loop-place-init t c = λ first reads. no_step reads

pub reads_step-returns-in_ok-draft-in-Dot : goal.reads_step-returns-in_ok-draft-in-Dot
reads_step-returns-in_ok-draft-in-Dot t c = let n = rw c.in-Some.is at c.in_ok-next-in-Dot.ensures in λ first row. dot_case (at_of c.args.spot.now) (scope_of c.args.locals.now) first c.args.steps.now c.args.place c.index-steps-place.result c.in-Dot.operand _ _ _ _ _ _ c.if-place-steps.false c.index-steps-place.is c.in-Dot.is n c.in_ok-draft-in-Dot.ensures.tree c.in_ok-draft-in-Dot.ensures.choice row

pub reads_step-loop-number-init : goal.reads_step-loop-number-init
reads_step-loop-number-init t c = no_argument

pub reads_step-loop-number-preserved : goal.reads_step-loop-number-preserved
reads_step-loop-number-preserved t c = let n = rw c.in-Some-2.is at c.in_ok-next-in-Bracket.ensures in arguments_next (at_of c.args.spot.now) (scope_of c.args.locals.now) _ _ c.as_slice-arguments.result.now c.loop-number.number c.index-arguments-number.result _ _ _ _ _ _ c.loop-number-test.true c.index-arguments-number.is n c.in_ok-so_far-in-Bracket.ensures.tree c.in_ok-so_far-in-Bracket.ensures.choice c.loop-number.invariant

pub reads_step-returns-after-loop-number : goal.reads_step-returns-after-loop-number
reads_step-returns-after-loop-number t c = λ first row. box_case (at_of c.args.spot.now) (scope_of c.args.locals.now) first c.args.steps.now c.args.place c.index-steps-place.result c.in-Bracket.arguments c.as_slice-arguments.result.now _ _ _ _ c.if-place-steps.false c.index-steps-place.is c.in-Bracket.is c.as_slice-arguments.ensures (arguments_all (at_of c.args.spot.now) (scope_of c.args.locals.now) _ _ c.as_slice-arguments.result.now c.loop-number.number _ _ c.loop-number-test.false c.loop-number.invariant) row

pub reads_choice-returns-in_ok-draft-in-Implication : goal.reads_choice-returns-in_ok-draft-in-Implication
reads_choice-returns-in_ok-draft-in-Implication t c = let f = rw c.in-Some-2.is at c.in_ok-first-in-Implication.ensures in let s = rw c.in-Some-3.is at c.in_ok-second-in-Implication.ensures in choice_case (at_of c.args.spot.now) (scope_of c.args.locals.now) c.args.tree.now _ _ _ _ _ _ c.get-condition.result.now c.get-consequence.result.now c.get-other.result.now _ _ _ _ _ c.in-Implication.is c.in-Some.is c.get-condition.ensures c.get-consequence.ensures c.get-other.ensures (c.in_ok-is-in-Implication.ensures c.if-not-is.false) f s c.in_ok-draft-in-Implication.ensures.tree c.in_ok-draft-in-Implication.ensures.choice

pub reads_let-returns-in_ok-draft-in-Let : goal.reads_let-returns-in_ok-draft-in-Let
reads_let-returns-in_ok-draft-in-Let t c = let v = rw c.in-Some.is at c.in_ok-types-in-Let.ensures in let r = rw c.in-Some-2.is at c.in_ok-inside-in-Let.ensures in let_case (at_of c.args.spot.now) (scope_of c.args.locals.now) c.args.tree.now _ _ _ _ c.as_slice-bindings.result.now _ _ c.get-body.result.now c.in-Some.types c.as_slice.result.now _ _ c.in-Let.is c.as_slice-bindings.ensures c.get-body.ensures c.as_slice.ensures v r c.in_ok-draft-in-Let.ensures.tree c.in_ok-draft-in-Let.ensures.choice

pub reads_comprehension-returns-in_ok-columns-in-Comprehension : goal.reads_comprehension-returns-in_ok-columns-in-Comprehension
reads_comprehension-returns-in_ok-columns-in-Comprehension t c = let d = rw c.in-Some.is at c.in_ok-types-in-Comprehension.ensures in comprehension_case (at_of c.args.spot.now) (scope_of c.args.locals.now) c.args.tree.now _ _ _ _ c.as_slice-decls.result.now _ _ c.get-body.result.now c.in-Some.types c.as_slice.result.now c.as_slice-in-Comprehension.result.now _ c.in-Comprehension.is c.as_slice-decls.ensures c.get-body.ensures c.as_slice.ensures c.as_slice-in-Comprehension.ensures d (c.in_ok-is-in-Comprehension.ensures c.if-not-is.false) c.in_ok-columns-in-Comprehension.ensures c.known_draft.ensures.tree c.known_draft.ensures.choice

pub reads_sum-returns-in_ok-columns-in-Quantified : goal.reads_sum-returns-in_ok-columns-in-Quantified
reads_sum-returns-in_ok-columns-in-Quantified t c = let d = rw c.in-Some.is at c.in_ok-types-in-Quantified.ensures in let r = rw c.in-Some-2.is at c.in_ok-root_meaning-in-Quantified.ensures in sum_case (at_of c.args.spot.now) (scope_of c.args.locals.now) c.args.tree.now _ _ _ _ _ c.as_slice-decls.result.now _ _ c.get-body.result.now c.in-Some.types c.as_slice.result.now _ _ c.in-Quantified.is c.as_slice-decls.ensures c.get-body.ensures c.as_slice.ensures (c.is_sum.ensures.yes c.if-not-is_sum.false) d r c.in_ok-columns-in-Quantified.ensures c.known_draft.ensures.tree c.known_draft.ensures.choice

pub root_meaning-returns : goal.root_meaning-returns
root_meaning-returns t c = let r = rw c.in-Some.is at c.in_ok-draft.ensures in let m = rw c.in-Some-2.is at c.in_ok-meaning.ensures in root_case (at_of c.args.spot.now) (scope_of c.args.locals.now) c.args.tree.now c.args.place _ _ _ r m

pub bound_type-returns : goal.bound_type-returns
bound_type-returns t c = let r = rw c.in-Some.is at c.in_ok-columns.ensures in bound_case (at_of c.args.spot.now) (scope_of c.args.locals.now) c.args.tree.now c.args.word _ _ c.word_of.ensures r

pub decl_types-loop-place-init : goal.decl_types-loop-place-init
decl_types-loop-place-init t c = rw c.new-types.ensures no_decl

pub decl_types-loop-place-preserved : goal.decl_types-loop-place-preserved
decl_types-loop-place-preserved t c = let r = rw c.in-Some.is at c.in_ok-columns.ensures in decls_next (at_of c.args.spot.now) (scope_of c.args.locals.now) c.args.decls.now c.loop-place.place c.index-decls-place.result c.loop-place.types c.as_slice.result.now c.push.new.self _ c.loop-place-test.true c.index-decls-place.is c.as_slice.ensures c.in_ok-push.ensures.ok r c.loop-place.invariant

pub values_read-loop-place-init : goal.values_read-loop-place-init
values_read-loop-place-init t c = rw c.new-types.ensures no_value

pub values_read-loop-place-preserved : goal.values_read-loop-place-preserved
values_read-loop-place-preserved t c = let r = rw c.in-Some.is at c.in_ok-columns.ensures in values_next (at_of c.args.spot.now) (scope_of c.args.locals.now) c.args.bindings.now c.loop-place.place c.index-bindings-place.result c.loop-place.types c.as_slice.result.now c.push.new.self _ c.loop-place-test.true c.index-bindings-place.is c.as_slice.ensures c.in_ok-push.ensures.ok r c.loop-place.invariant

pub is_read-returns-in_ok-is-in-Parenthesis : goal.is_read-returns-in_ok-is-in-Parenthesis
is_read-returns-in_ok-is-in-Parenthesis t c = λ h. a_parenthesis c.in-Parenthesis.is (seen_read (at_of c.args.spot.now) (scope_of c.args.locals.now) c.get.ensures (c.in_ok-is-in-Parenthesis.ensures h))

pub is_read-returns-in_ok-is-in-Block : goal.is_read-returns-in_ok-is-in-Block
is_read-returns-in_ok-is-in-Block t c = λ h. block_case (at_of c.args.spot.now) (scope_of c.args.locals.now) c.args.tree.now _ _ c.as_slice.result.now c.in-Block.is c.as_slice.ensures (c.in_ok-is-in-Block.ensures h)

pub is_read-returns-in_ok-is-in-Name : goal.is_read-returns-in_ok-is-in-Name
is_read-returns-in_ok-is-in-Name t c = λ h. c.in_ok-is-in-Name.ensures (by_name c.in-Name.is) h

pub is_read-returns-in_ok-is-in-Join : goal.is_read-returns-in_ok-is-in-Join
is_read-returns-in_ok-is-in-Join t c = λ h. c.in_ok-is-in-Join.ensures (by_join _ _ c.in-Join.is) h

pub are_read-loop-place-init : goal.are_read-loop-place-init
are_read-loop-place-init t c = no_item

pub are_read-loop-place-preserved : goal.are_read-loop-place-preserved
are_read-loop-place-preserved t c = items_next (at_of c.args.spot.now) (scope_of c.args.locals.now) c.args.items.now c.loop-place.place c.index-items-place.result c.loop-place-test.true c.index-items-place.is (c.in_ok-is.ensures c.if-not-is.false) c.loop-place.invariant

pub sequence_is_read-returns-in_ok-is-in-Sequence : goal.sequence_is_read-returns-in_ok-is-in-Sequence
sequence_is_read-returns-in_ok-is-in-Sequence t c = λ h. sequence_case (at_of c.args.spot.now) (scope_of c.args.locals.now) c.args.tree.now _ _ c.get-first.result.now c.get-second.result.now c.in-Sequence.is c.get-first.ensures c.get-second.ensures (c.in_ok-begun-in-Sequence.ensures c.if-not-begun.false) (c.in_ok-is-in-Sequence.ensures h)

pub implication_is_read-returns-in-None : goal.implication_is_read-returns-in-None
implication_is_read-returns-in-None t c = λ _. implication_case (at_of c.args.spot.now) (scope_of c.args.locals.now) c.args.tree.now _ _ _ c.get-first.result.now c.get-second.result.now _ c.in-Implication.is c.in-None.is c.get-first.ensures c.get-second.ensures (c.in_ok-begun-in-Implication.ensures c.if-not-begun.false) (c.in_ok-further-in-Implication.ensures c.if-not-further.false)

pub implication_is_read-returns-in_ok-is-in-Some : goal.implication_is_read-returns-in_ok-is-in-Some
implication_is_read-returns-in_ok-is-in-Some t c = λ h. branching_case (at_of c.args.spot.now) (scope_of c.args.locals.now) c.args.tree.now _ _ _ _ c.get-first.result.now c.get-second.result.now c.get-third.result.now _ c.in-Implication.is c.in-Some.is c.get-first.ensures c.get-second.ensures c.get-third.ensures (c.in_ok-begun-in-Implication.ensures c.if-not-begun.false) (c.in_ok-further-in-Implication.ensures c.if-not-further.false) (c.in_ok-is-in-Some.ensures h)

pub comparison_is_read-returns-in-Some-3 : goal.comparison_is_read-returns-in-Some-3
comparison_is_read-returns-in-Some-3 t c = let f = rw c.in-Some.is at c.in_ok-first-in-Compare.ensures in let s = rw c.in-Some-2.is at c.in_ok-second-in-Compare.ensures in let m = rw c.in-Some-3.is at c.in_ok-reading-in-Compare.ensures in λ _. comparison_case (at_of c.args.spot.now) (scope_of c.args.locals.now) c.args.tree.now c.in-Compare.comparison _ _ c.get-left.result.now c.get-right.result.now _ _ _ _ _ _ c.compared_by.result _ c.in-Compare.is c.get-left.ensures c.get-right.ensures f s c.compared_by.ensures c.in_ok-draft-in-Compare.ensures.tree c.in_ok-draft-in-Compare.ensures.choice m

pub prefix_is_read-returns-then-is_test : goal.prefix_is_read-returns-then-is_test
prefix_is_read-returns-then-is_test t c = let m = rw c.in-Some.is at c.in_ok-root_meaning-in-Prefix.ensures in λ _. test_case (at_of c.args.spot.now) (scope_of c.args.locals.now) c.args.tree.now _ _ _ c.get-inner.result.now _ c.in-Prefix.is c.get-inner.ensures (c.is_test.ensures c.if-is_test.true) m

pub prefix_is_read-returns-in_ok-is-in-Prefix : goal.prefix_is_read-returns-in_ok-is-in-Prefix
prefix_is_read-returns-in_ok-is-in-Prefix t c = λ h. prefix_case (at_of c.args.spot.now) (scope_of c.args.locals.now) c.args.tree.now _ _ _ c.get-inner.result.now c.in-Prefix.is c.get-inner.ensures (c.is_logical.ensures c.if-not-is_logical.false) (c.in_ok-is-in-Prefix.ensures h)

pub row_is_read-returns-in_ok-is-in-Infix : goal.row_is_read-returns-in_ok-is-in-Infix
row_is_read-returns-in_ok-is-in-Infix t c = λ h. logical_row_case (at_of c.args.spot.now) (scope_of c.args.locals.now) c.args.tree.now _ c.get-first.result.now _ c.as_slice-links.result.now c.in-Infix.is c.get-first.ensures c.as_slice-links.ensures (c.is_logical_row.ensures c.if-not-is_logical_row.false) (c.in_ok-begun-in-Infix.ensures c.if-not-begun.false) (c.in_ok-is-in-Infix.ensures h)

pub links_are_read-loop-place-init : goal.links_are_read-loop-place-init
links_are_read-loop-place-init t c = no_link

pub links_are_read-loop-place-preserved : goal.links_are_read-loop-place-preserved
links_are_read-loop-place-preserved t c = links_next (at_of c.args.spot.now) (scope_of c.args.locals.now) c.args.links.now c.loop-place.place c.index-links-place.result c.loop-place-test.true c.index-links-place.is (c.in_ok-is.ensures c.if-not-is.false) c.loop-place.invariant

pub let_is_read-returns-in_ok-is-in-Let : goal.let_is_read-returns-in_ok-is-in-Let
let_is_read-returns-in_ok-is-in-Let t c = let v = rw c.in-Some.is at c.in_ok-types-in-Let.ensures in λ h. formula_let_case (at_of c.args.spot.now) (scope_of c.args.locals.now) c.args.tree.now _ _ c.as_slice-bindings.result.now _ _ c.get-body.result.now c.in-Some.types c.as_slice.result.now c.in-Let.is c.as_slice-bindings.ensures c.get-body.ensures c.as_slice.ensures v (c.in_ok-is-in-Let.ensures h)

pub quantified_is_read-returns-in_ok-is-in-Quantified : goal.quantified_is_read-returns-in_ok-is-in-Quantified
quantified_is_read-returns-in_ok-is-in-Quantified t c = let d = rw c.in-Some.is at c.in_ok-types-in-Quantified.ensures in λ h. quantified_case (at_of c.args.spot.now) (scope_of c.args.locals.now) c.args.tree.now _ _ _ c.as_slice-decls.result.now _ _ c.get-body.result.now c.in-Some.types c.as_slice.result.now c.in-Quantified.is c.as_slice-decls.ensures c.get-body.ensures c.as_slice.ensures (c.is_sum.ensures.no c.if-is_sum.false) d (c.in_ok-is-in-Quantified.ensures h)

pub call_is_read-returns : goal.call_is_read-returns
call_is_read-returns t c = let m = rw c.in-Some.is at c.in_ok-root_meaning.ensures in λ may _. a_call may m
