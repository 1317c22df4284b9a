use Rattle.gate_store.proofs.Laws.{never_true, always_true}
use Rattle.gate_store.proofs.facts.implies.Goals as goal

pub returns-then-a-eq1 : goal.returns-then-a-eq1
returns-then-a-eq1 c = λ t x h.
    never_true c.args.store.now c.gates-count.ensures.layered c.gates-count.ensures.first c.args.a c.if-a-eq1.true x h

pub returns-then-b-eq0 : goal.returns-then-b-eq0
returns-then-b-eq0 c = λ t x h.
    always_true c.args.store.now c.gates-count.ensures.layered c.gates-count.ensures.first c.args.b c.if-b-eq0.true x
