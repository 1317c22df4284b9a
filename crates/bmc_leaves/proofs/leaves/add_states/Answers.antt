use Rattle.std.proofs.Common.{◌+◌, ◌∷◌, [], ℕ, List, length, ap, ◌∙◌, length-append}
use Rattle.gate_trait.proofs.KeptLemmas.{keeps_trans}
use Rattle.bmc_leaves.proofs.KeptLaws.{grows_trans}
use Rattle.bmc_leaves.proofs.RelationLaws.{states_more}
use Rattle.bmc_leaves.proofs.leaves.add_states.Goals as goal

pub loop-state-preserved : goal.loop-state-preserved
loop-state-preserved g c =
    let value = g.G.Gates.node_value in
    let belongs = g.G.Gates.belongs in
    let before = c.loop-state.invariant in
    let first = c.args.gates.now in
    let now = c.loop-state.gates in
    let later = c.add_state.new.gates in
    let more = c.add_state.ensures.keeps in
    record {
      keeps = keeps_trans belongs value first now later before.keeps more;
      stored = c.in_ok-number.ensures.stored;
      grows = grows_trans c.args.store.now c.loop-state.store c.add_state.new.store before.grows c.in_ok-number.ensures.grows;
      long = ap (λ (s : List ℕ). length s) c.in_ok-push.ensures.items ∙ length-append c.loop-state.numbers.items (c.in_ok-number.number ∷ []) ∙ ap (λ (k : ℕ). k + 1) before.long;
      sets = states_more belongs value now later more c.loop-state.store.matrices.items c.add_state.new.store.matrices.items c.args.bound.now c.args.cells c.loop-state.state c.loop-state.numbers.items c.push.new.self.items c.in_ok-number.number
          before.stored.matrices c.in_ok-number.ensures.grows.matrices before.long c.in_ok-push.ensures.items before.sets c.in_ok-number.ensures.adds;
    }
