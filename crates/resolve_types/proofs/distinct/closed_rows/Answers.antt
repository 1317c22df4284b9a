use Rattle.std.proofs.Common.{◌≡◌, suc, ◌+◌, ◌-◌, ◌∙◌, ap, sym, arith, length}
use Rattle.resolve_types.specs.Types.{row_of, pairs}
use Rattle.resolve_types.specs.Rows.{once_more, rounds}
use Rattle.resolve_types.specs.declared.rows.Way.TheVariants as way
use Rattle.resolve_types.proofs.Addition.{added_same, rounds_same}
use Rattle.resolve_types.proofs.distinct.closed_rows.Goals as goal

pub loop-round-preserved : goal.loop-round-preserved
loop-round-preserved c =
    let lines = c.args.lines.now in
    let count = length c.args.rows.now in
    let turn = c.loop-round._round in
    let left : suc (count - (turn + 1)) ≡ count - turn = omega (arith, c.loop-round-test.true) in
    ap (rounds lines (count - (turn + 1))) c.in_ok-join_once.ensures
    ∙ ap (λ n. rounds lines n c.loop-round.all) left
    ∙ c.loop-round.invariant

pub returns-then-len-before : goal.returns-then-len-before
returns-then-len-before c =
    let lines = c.args.lines.now in
    let all = c.loop-round.all in
    let made = c.in_ok-join_once.ensures in
    let number : length (once_more lines all) ≡ length all = ap (λ rows. length rows) (sym made) ∙ sym c.len.ensures ∙ c.if-len-before.true ∙ c.len-before.ensures in
    let same : once_more lines all ≡ all = added_same all (pairs (row_of lines way.Join) all all) number in
    made ∙ same ∙ sym (rounds_same lines (length c.args.rows.now - c.loop-round._round) all same) ∙ c.loop-round.invariant
