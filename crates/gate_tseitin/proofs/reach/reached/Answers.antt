use Rattle.std.proofs.Common.{◌≡◌, List, Bool, false, replicate, subst, sym, ◌∙◌, arith}
use Rattle.std.proofs.lemmas.List.{take_at}
use Rattle.gate_tseitin.specs.Reached.{AreReached, Grows}
use Rattle.gate_tseitin.proofs.Marks.{none_marked}
use Rattle.gate_tseitin.proofs.reach.reached.Goals as goal

pub returns-clause-reached : goal.returns-clause-reached
returns-clause-reached c =
    subst (λ (ms : List Bool). AreReached c.args.store.now c.args.sure c.args.roots.now ms) (sym (take_at c.mark_reached.new.marks _ c.in_ok-marks.marks.len (omega (arith, c.mark_reached.auto.marks, c.deref_mut.ensures.len)))) c.mark_reached.ensures.reached

pub returns-clause-fewest : goal.returns-clause-fewest
returns-clause-fewest c = λ other all.
    let start : c.deref_mut.result.now ≡ replicate c.gates.result false = c.deref_mut.ensures.value ∙ c.in_ok-marks.ensures.items_if_clones_equal (λ y e. e) in
    let first : Grows c.deref_mut.result.now other = subst (λ (ms : List Bool). Grows ms other) (sym start) (none_marked c.gates.result other) in
    subst (λ (ms : List Bool). Grows ms other) (sym (take_at c.mark_reached.new.marks _ c.in_ok-marks.marks.len (omega (arith, c.mark_reached.auto.marks, c.deref_mut.ensures.len)))) (c.mark_reached.ensures.fewest other all first)
