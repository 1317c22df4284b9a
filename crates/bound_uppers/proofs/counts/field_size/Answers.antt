use Rattle.std.proofs.Common.{◌≡◌, ◌∙◌, ℕ, List, ap, subst}
use Rattle.core_tree.specs.Types.{TypeRows}
use Rattle.bound_uppers.specs.Kinds.{HasRows, rows_kinds_of}
use Rattle.bound_uppers.specs.Counts.{capped, type_count, rows_count, span_count}
use Rattle.bound_uppers.proofs.Counting.{type_is}
use Rattle.bound_uppers.proofs.counts.field_size.Goals as goal

pub returns : goal.returns
returns c =
    let sigs = c.args.sigs.now in
    let scopes = c.args.scopes.now in
    let spans = c.args.spans.now in
    let types = c.args.field.now.rows in
    let rows = c.in_ok-rows.rows.items in
    let has = subst (λ (ts : TypeRows). HasRows rows (rows_kinds_of c.args.ups.now ts)) c.as_slice-listed.ensures c.in_ok-rows.ensures.rows in
    let same = type_is sigs scopes spans c.args.ups.now rows types c.requires.tops c.requires.spans c.in_ok-rows.ensures.sorted has in
    let e : c.rows_size-tuples.result ≡ capped (type_count sigs scopes types) = c.rows_size-tuples.ensures ∙ ap (λ (rs : List (List ℕ)). capped (rows_count (span_count spans) rs)) c.deref.ensures.value ∙ ap capped same in
    c.in_states-size.ensures (type_count sigs scopes types) e
