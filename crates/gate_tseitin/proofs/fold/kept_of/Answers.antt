use Rattle.std.proofs.Common.{◌≡◌, ◌∙◌, ap, List, ℕ, length, get_or, arith}
use Rattle.gate_tseitin.proofs.Asked.{stay_step, kept_are, kept_fewest}
use Rattle.gate_tseitin.proofs.fold.kept_of.Goals as goal

pub loop-number-preserved : goal.loop-number-preserved
loop-number-preserved c =
    let before = c.loop-number.invariant in
    record {
      each = omega (arith, c.in_ok-push.ensures.len, before.each);
      stay = stay_step c.args.store.now c.in_ok-asked.asked.items c.args.marks.now c.loop-number.kept.items _ c.loop-number.number c.gate-gate.result c.asked_at.result c.is_marked-has_mark.result c.stays.result before.each c.gate-gate.ensures
          (c.asked_at.ensures ∙ ap (λ (xs : List ℕ). get_or xs c.loop-number.number 0) c.deref.ensures.value)
          c.is_marked-has_mark.ensures c.stays.ensures c.in_ok-push.ensures.items before.stay;
    }

pub returns-clause-kept : goal.returns-clause-kept
returns-clause-kept c =
    let each : length c.loop-number.kept.items ≡ length c.args.store.now = omega (arith, c.loop-number.invariant.each, c.gates-number-end.ensures.count, c.loop-number-test.false) in
    kept_are c.args.store.now c.args.sure c.args.roots.now c.args.marks.now c.loop-number.kept.items c.in_ok-asked.asked.items c.requires.marks_each each c.in_ok-asked.ensures.asked c.loop-number.invariant.stay

pub returns-clause-fewest : goal.returns-clause-fewest
returns-clause-fewest c =
    let each : length c.loop-number.kept.items ≡ length c.args.store.now = omega (arith, c.loop-number.invariant.each, c.gates-number-end.ensures.count, c.loop-number-test.false) in
    kept_fewest c.args.store.now c.args.sure c.args.roots.now c.args.marks.now c.loop-number.kept.items c.in_ok-asked.asked.items c.requires.marks_each each c.in_ok-asked.ensures.asked c.loop-number.invariant.stay
