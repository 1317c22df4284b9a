use Rattle.std.proofs.Common.{◌≡◌, ◌-◌, ◌++◌, ◌∙◌, List, length, reverse, sym, subst, arith}
use Rattle.std.proofs.lemmas.List.{append-nil}
use Rattle.sat_lrat.specs.declared.line.Line.{Line}
use Rattle.sat_lemmas.specs.Kept.{is_marked, kept}
use Rattle.sat_lemmas.proofs.Moving.{all_over}
use Rattle.sat_lemmas.proofs.moved.move_marked.Goals as goal

pub loop-done-init : goal.loop-done-init
loop-done-init c =
    let all = kept (is_marked c.args.marks.now) 0 c.args.lines in
    (omega arith, subst (λ (m : List Line). all ++ reverse m ≡ all) (sym c.new-moved.ensures) (append-nil all))

pub take_last-requires : goal.take_last-requires
take_last-requires c =
    let few : length c.loop-done.left ≡ length c.args.lines - c.loop-done._done = c.loop-done.invariant.0 in
    omega (arith, few, c.requires)

pub loop-done-preserved : goal.loop-done-preserved
loop-done-preserved c =
    let few : length c.loop-done.left ≡ length c.args.lines - c.loop-done._done = c.loop-done.invariant.0 in
    (omega (arith, few, c.in_ok-take_last.ensures.fewer), c.in_ok-take_last.ensures.kept ∙ c.loop-done.invariant.1)

pub returns : goal.returns
returns c =
    let few : length c.loop-done.left ≡ length c.args.lines - c.loop-done._done = c.loop-done.invariant.0 in
    c.reverse.ensures
    ∙ all_over (is_marked c.args.marks.now) c.loop-done.left c.loop-done.moved c.args.lines
    (omega (arith, few, c.loop-done-test.false, c.len-count.ensures)) c.loop-done.invariant.1
