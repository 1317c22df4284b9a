use Rattle.std.proofs.Common.{refl, sym}
use Rattle.gate_store.proofs.Laws.{computes_first}
use Rattle.gate_store.proofs.build.constant_node.Goals as goal

pub returns-then-value : goal.returns-then-value
returns-then-value c =
    computes_first c.args.store.now c.gates-count.ensures.layered c.gates-count.ensures.first (record { code = 0 }) c.args.value refl (sym c.if-value.true)

pub returns-else-value : goal.returns-else-value
returns-else-value c =
    computes_first c.args.store.now c.gates-count.ensures.layered c.gates-count.ensures.first (record { code = 1 }) c.args.value refl (sym c.if-value.false)
