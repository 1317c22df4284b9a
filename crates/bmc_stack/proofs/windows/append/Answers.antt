use Rattle.std.proofs.Common.{◌≡◌, ◌∙◌, ◌++◌, ◌∷◌, [], List, ap, append_assoc, take, sym}
use Rattle.gate_trait.specs.declared.node.Node.{Node}
use Rattle.gate_trait.proofs.KeptLemmas.{keeps_refl, all_more, all_get}
use Rattle.bmc_stack.proofs.RowLaws.{take_push}
use Rattle.bmc_stack.proofs.windows.append.Goals as goal

pub loop-place-preserved : goal.loop-place-preserved
loop-place-preserved g c =
    let value = g.G.Gates.node_value in
    let belongs = g.G.Gates.belongs in
    let gates = c.args.gates.now in
    let before = c.loop-place.invariant in
    let n = c.node.result in
    let is = c.in_ok-push.ensures.ok in
    let first = c.args.row.now in
    let more = c.args.more.now in
    record {
      belongs = all_more belongs value gates gates (keeps_refl belongs value gates) c.loop-place.row c.push.new.self n is before.belongs (all_get (belongs gates) more c.loop-place.place n c.requires.more c.node.ensures);
      nodes = is ∙ ap (λ (r : List Node). r ++ n ∷ []) before.nodes ∙ append_assoc first (take c.loop-place.place more) (n ∷ []) ∙ ap (λ (r : List Node). first ++ r) (sym (take_push more c.loop-place.place n c.node.ensures));
    }
