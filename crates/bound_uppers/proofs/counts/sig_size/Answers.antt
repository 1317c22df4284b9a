use Rattle.std.proofs.Common.{◌≡◌, ◌∙◌, ℕ, List, length, ap}
use Rattle.core_tree.specs.Types.{sig_rows}
use Rattle.bound_uppers.specs.Counts.{capped, type_count, rows_count, span_count}
use Rattle.bound_uppers.proofs.Counting.{type_is, literal_is, typed_is, one_capped}
use Rattle.bound_uppers.proofs.counts.sig_size.Goals as goal

pub returns-then-is_of_literal : goal.returns-then-is_of_literal
returns-then-is_of_literal c = literal_is c.args.sigs.now c.args.scopes.now c.args.number c.args.sig.now c.in_states-one.result c.is_of_literal.result c.is_of_literal.ensures c.if-is_of_literal.true (c.in_states-one.ensures 1 one_capped)

pub returns : goal.returns
returns c =
    let sigs = c.args.sigs.now in
    let scopes = c.args.scopes.now in
    let spans = c.args.spans.now in
    let types = sig_rows sigs (length sigs) c.args.number in
    let rows = c.in_ok-rows.rows.items in
    let same = type_is sigs scopes spans c.args.ups.now rows types c.requires.tops c.requires.spans c.in_ok-rows.ensures.sorted c.in_ok-rows.ensures.rows in
    let e : c.rows_size-tuples.result ≡ capped (type_count sigs scopes types) = c.rows_size-tuples.ensures ∙ ap (λ (rs : List (List ℕ)). capped (rows_count (span_count spans) rs)) c.deref.ensures.value ∙ ap capped same in
    typed_is sigs scopes c.args.number c.args.sig.now c.in_states-size.result c.is_of_literal.result c.is_of_literal.ensures c.if-is_of_literal.false (c.in_states-size.ensures (type_count sigs scopes types) e)
