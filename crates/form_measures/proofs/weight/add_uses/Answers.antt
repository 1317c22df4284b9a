use Rattle.std.proofs.Common.{◌+◌, get_or, refl, arith}
use Rattle.std.proofs.lemmas.List.{get_or_default}
use Rattle.form_measures.specs.Measured.{raised}
use Rattle.form_measures.specs.Weights.{most_used}
use Rattle.form_measures.proofs.Counts.{max_flip}
use Rattle.form_measures.proofs.Uses.{taken_turn, taken_end}
use Rattle.form_measures.proofs.weight.add_uses.Goals as goal

pub loop-used-init : goal.loop-used-init
loop-used-init c = λ d. max_flip (raised c.args.by 0) (most_used d c.args.uses.now.items)

pub loop-used-preserved : goal.loop-used-preserved
loop-used-preserved c = λ d.
    let used = get_or c.args.more.now c.loop-used.used-index (record { parameter = 0; depth = 0 }) in
    taken_turn d c.args.by c.args.more.now c.loop-used.used-index (c.loop-used.used-index + 1) used (most_used d c.args.uses.now.items) (most_used d c.loop-used.uses.items) (most_used d c.add_use.new.uses.items) c.raised.result refl c.loop-used-test.true
    (get_or_default c.args.more.now c.loop-used.used-index (record { parameter = 0; depth = 0 }) used c.loop-used-test.true) (c.loop-used.invariant d) c.raised.ensures (c.in_ok-add_use.ensures d)

pub returns : goal.returns
returns c = λ d. taken_end d c.args.by c.args.more.now c.loop-used.used-index (most_used d c.args.uses.now.items) (most_used d c.loop-used.uses.items) (omega arith) (c.loop-used.invariant d)
