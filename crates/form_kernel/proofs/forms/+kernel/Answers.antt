use Rattle.std.proofs.Common.{refl, ◌∙◌, ap, map, false}
use Rattle.core_tree.specs.Trees.{term_of, claim_of, variable_of, unary, test, compare, connect, temporal, temporal_pair}
use Rattle.form_kernel.specs.Operators.{tested, compared, connected, happening, happening_both, related}
use Rattle.form_kernel.specs.Written.{kernel_term, kernel_claim}
use Rattle.form_kernel.proofs.Lists.{every_kernel, for_all_tail, counted_tail, comprehension_kernel, sum_kernel, from_one, from_two}
use Rattle.form_kernel.proofs.forms.+kernel.Goals as goal

pub kernel_of-returns-in_ok-formulas-in-Every : goal.kernel_of-returns-in_ok-formulas-in-Every
kernel_of-returns-in_ok-formulas-in-Every t c = rw c.in-Every.is (every_kernel c.in_ok-formulas-in-Every.field-0 c.in-Every.list c.deref-in-Every.result.now c.deref-in-Every.ensures.value c.in_ok-formulas-in-Every.ensures)

pub kernel_of-returns-in_ok-bounds-in-ForAll : goal.kernel_of-returns-in_ok-bounds-in-ForAll
kernel_of-returns-in_ok-bounds-in-ForAll t c = rw c.in-ForAll.is (for_all_tail c.in-ForAll.list c.in-ForAll.f (map variable_of c.in_ok-bounds-in-ForAll.bounds.items) (claim_of c.in_ok-inner-in-ForAll.inner) c.under.result c.deref-in-ForAll-2.result.now c.deref-in-ForAll-2.ensures.value c.in_ok-bounds-in-ForAll.ensures (c.in_ok-inner-in-ForAll.ensures ∙ ap (λ z. kernel_claim (claim_of z)) c.deref-in-ForAll.ensures) c.under.ensures)

pub kernel_of-returns-in_ok-bounds-in-Counted : goal.kernel_of-returns-in_ok-bounds-in-Counted
kernel_of-returns-in_ok-bounds-in-Counted t c = rw c.in-Counted.is (counted_tail c.in-Counted.quantity c.in-Counted.list c.in-Counted.f (map variable_of c.in_ok-bounds-in-Counted.bounds.items) (claim_of c.in_ok-inner-in-Counted.inner) c.counted.result c.deref-in-Counted-2.result.now c.deref-in-Counted-2.ensures.value c.in_ok-bounds-in-Counted.ensures (c.in_ok-inner-in-Counted.ensures ∙ ap (λ z. kernel_claim (claim_of z)) c.deref-in-Counted.ensures) c.counted.ensures)

pub kernel_of-returns-in_ok-first-in-Test : goal.kernel_of-returns-in_ok-first-in-Test
kernel_of-returns-in_ok-first-in-Test t c = rw c.in-Test.is (from_one claim_of (tested c.in-Test.quantity) (term_of c.in_ok-first-in-Test.first) (kernel_term false (term_of c.in-Test.a.value)) (kernel_claim (test c.in-Test.quantity (term_of c.in-Test.a.value))) c.test.result (c.in_ok-first-in-Test.ensures ∙ ap (λ z. kernel_term false (term_of z)) c.deref-in-Test.ensures) refl c.test.ensures)

pub kernel_of-returns-in_ok-second-in-Compare : goal.kernel_of-returns-in_ok-second-in-Compare
kernel_of-returns-in_ok-second-in-Compare t c = rw c.in-Compare.is (from_two claim_of (compared c.in-Compare.op) (term_of c.in_ok-first-in-Compare.first) (kernel_term false (term_of c.in-Compare.a.value)) (term_of c.in_ok-second-in-Compare.second) (kernel_term false (term_of c.in-Compare.b.value)) (kernel_claim (compare c.in-Compare.op (term_of c.in-Compare.a.value) (term_of c.in-Compare.b.value))) c.compare.result (c.in_ok-first-in-Compare.ensures ∙ ap (λ z. kernel_term false (term_of z)) c.deref-in-Compare.ensures) (c.in_ok-second-in-Compare.ensures ∙ ap (λ z. kernel_term false (term_of z)) c.deref-in-Compare-2.ensures) refl c.compare.ensures)

pub kernel_of-returns-in_ok-second-in-Connect : goal.kernel_of-returns-in_ok-second-in-Connect
kernel_of-returns-in_ok-second-in-Connect t c = rw c.in-Connect.is (from_two claim_of (connected c.in-Connect.op) (claim_of c.in_ok-first-in-Connect.first) (kernel_claim (claim_of c.in-Connect.f.value)) (claim_of c.in_ok-second-in-Connect.second) (kernel_claim (claim_of c.in-Connect.g.value)) (kernel_claim (connect c.in-Connect.op (claim_of c.in-Connect.f.value) (claim_of c.in-Connect.g.value))) c.connect.result (c.in_ok-first-in-Connect.ensures ∙ ap (λ z. kernel_claim (claim_of z)) c.deref-in-Connect.ensures) (c.in_ok-second-in-Connect.ensures ∙ ap (λ z. kernel_claim (claim_of z)) c.deref-in-Connect-2.ensures) refl c.connect.ensures)

pub kernel_of-returns-in_ok-first-in-Temporal : goal.kernel_of-returns-in_ok-first-in-Temporal
kernel_of-returns-in_ok-first-in-Temporal t c = rw c.in-Temporal.is (from_one claim_of (happening c.in-Temporal.op) (claim_of c.in_ok-first-in-Temporal.first) (kernel_claim (claim_of c.in-Temporal.f.value)) (kernel_claim (temporal c.in-Temporal.op (claim_of c.in-Temporal.f.value))) c.happens.result (c.in_ok-first-in-Temporal.ensures ∙ ap (λ z. kernel_claim (claim_of z)) c.deref-in-Temporal.ensures) refl c.happens.ensures)

pub kernel_of-returns-in_ok-second-in-TemporalPair : goal.kernel_of-returns-in_ok-second-in-TemporalPair
kernel_of-returns-in_ok-second-in-TemporalPair t c = rw c.in-TemporalPair.is (from_two claim_of (happening_both c.in-TemporalPair.op) (claim_of c.in_ok-first-in-TemporalPair.first) (kernel_claim (claim_of c.in-TemporalPair.f.value)) (claim_of c.in_ok-second-in-TemporalPair.second) (kernel_claim (claim_of c.in-TemporalPair.g.value)) (kernel_claim (temporal_pair c.in-TemporalPair.op (claim_of c.in-TemporalPair.f.value) (claim_of c.in-TemporalPair.g.value))) c.happen_both.result (c.in_ok-first-in-TemporalPair.ensures ∙ ap (λ z. kernel_claim (claim_of z)) c.deref-in-TemporalPair.ensures) (c.in_ok-second-in-TemporalPair.ensures ∙ ap (λ z. kernel_claim (claim_of z)) c.deref-in-TemporalPair-2.ensures) refl c.happen_both.ensures)

pub expr_of-returns-in_ok-first-in-Unary : goal.expr_of-returns-in_ok-first-in-Unary
expr_of-returns-in_ok-first-in-Unary t c = rw c.in-Unary.is (from_one term_of (related c.in-Unary.op) (term_of c.in_ok-first-in-Unary.first) (kernel_term false (term_of c.in-Unary.a.value)) (kernel_term c.args.in_bound (unary c.in-Unary.op (term_of c.in-Unary.a.value))) c.combined.result (c.in_ok-first-in-Unary.ensures ∙ ap (λ z. kernel_term false (term_of z)) c.deref-in-Unary.ensures) refl c.combined.ensures)

pub expr_of-returns-in_ok-boxed-in-Comprehension : goal.expr_of-returns-in_ok-boxed-in-Comprehension
expr_of-returns-in_ok-boxed-in-Comprehension t c = rw c.in-Comprehension.is (comprehension_kernel c.args.in_bound c.in_ok-variables-in-Comprehension.field-0 c.in-Comprehension.list c.in-Comprehension.f c.in_ok-boxed-in-Comprehension.field-0 c.deref-in-Comprehension.result.now c.deref-in-Comprehension.ensures.value c.in_ok-variables-in-Comprehension.ensures (c.in_ok-boxed-in-Comprehension.ensures ∙ ap (λ z. kernel_claim (claim_of z)) c.deref-in-Comprehension-2.ensures))

pub expr_of-returns-in_ok-boxed_expr-in-Sum : goal.expr_of-returns-in_ok-boxed_expr-in-Sum
expr_of-returns-in_ok-boxed_expr-in-Sum t c = rw c.in-Sum.is (sum_kernel c.args.in_bound c.in_ok-variables-in-Sum.field-0 c.in-Sum.list c.in-Sum.a c.in_ok-boxed_expr-in-Sum.field-0 c.deref-in-Sum.result.now c.deref-in-Sum.ensures.value c.in_ok-variables-in-Sum.ensures (c.in_ok-boxed_expr-in-Sum.ensures ∙ ap (λ z. kernel_term false (term_of z)) c.deref-in-Sum-2.ensures))
