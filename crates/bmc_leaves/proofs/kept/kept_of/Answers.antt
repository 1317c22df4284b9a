use Rattle.std.proofs.Common.{◌∙◌, ◌+◌, ◌∷◌, [], ℕ, List, length, ap, length-append, Vec, Global}
use Rattle.gate_trait.proofs.KeptLemmas.{keeps_trans}
use Rattle.bmc_leaves.specs.Relations.{reading_of}
use Rattle.bmc_leaves.proofs.KeptLaws.{kept_more}
use Rattle.bmc_leaves.proofs.kept.kept_of.Goals as goal

pub loop-number-preserved : goal.loop-number-preserved
loop-number-preserved g c =
    let value = g.G.Gates.node_value in
    let belongs = g.G.Gates.belongs in
    let before = c.loop-number.invariant in
    let first = c.args.gates.now in
    let now = c.loop-number.gates in
    let later = c.marked_sets.new.gates in
    let more = c.marked_sets.ensures.keeps in
    let step = c.in_ok-value.ensures in
    record {
      keeps = keeps_trans belongs value first now later before.keeps more;
      stored = step.stored;
      rows = step.grows.rows ∙ before.rows;
      long = ap (λ (s : List (Vec ℕ Global)). length s) c.in_ok-push.ensures.items ∙ length-append c.loop-number.kept.items (c.in_ok-value.value ∷ []) ∙ ap (λ (k : ℕ). k + 1) before.long;
      kept = λ depth ok. kept_more belongs value (reading_of c.args.setting.now depth) now later more c.loop-number.store.matrices.items c.marked_sets.new.store.matrices.items c.loop-number.kept.items c.push.new.self.items c.in_ok-value.value c.loop-number.number
          before.stored.matrices step.grows.matrices before.long c.in_ok-push.ensures.items (before.kept depth ok) (λ leaf at. step.kept depth leaf ok at);
    }
