use Rattle.std.proofs.Common.{◌+◌, ◌∷◌, [], ℕ, List, length, ap, ◌∙◌, length-append, arith}
use Rattle.gate_trait.proofs.KeptLemmas.{keeps_trans}
use Rattle.bmc_places.proofs.StoreLaws.{extends_trans}
use Rattle.bmc_places.proofs.ChosenLaws.{chosen_more, chosen_all}
use Rattle.bmc_places.proofs.choosing.chosen_sets.Goals as goal

pub loop-place-preserved : goal.loop-place-preserved
loop-place-preserved g c =
    let value = g.G.Gates.node_value in
    let belongs = g.G.Gates.belongs in
    let before = c.loop-place.invariant in
    let first = c.args.gates.now in
    let now = c.loop-place.gates in
    let later = c.add_chosen.new.gates in
    let adds = c.in_ok-add_chosen.ensures.adds in
    record {
      keeps = keeps_trans belongs value first now later before.keeps c.add_chosen.ensures.keeps;
      stored = c.in_ok-add_chosen.ensures.stored;
      extends = extends_trans c.args.store.now c.loop-place.store c.add_chosen.new.store before.extends c.in_ok-add_chosen.ensures.extends;
      long = ap (λ (s : List ℕ). length s) adds.1 ∙ length-append c.loop-place.numbers.items (adds.0 ∷ []) ∙ ap (λ (k : ℕ). k + 1) before.long;
      chosen = chosen_more belongs value first now later before.keeps c.add_chosen.ensures.keeps c.args.store.now.matrices.items c.loop-place.store.matrices.items c.add_chosen.new.store.matrices.items c.requires.stored.matrices before.stored.matrices c.args.row.now c.requires.row c.args.a.now c.args.b.now
          before.extends.matrices c.in_ok-add_chosen.ensures.extends.matrices c.loop-place.numbers.items c.add_chosen.new.numbers.items c.loop-place.place before.long before.chosen adds;
    }

pub returns-clause-chosen : goal.returns-clause-chosen
returns-clause-chosen g c = chosen_all _ _ _ _ c.args.row.now c.args.a.now c.args.b.now c.loop-place.numbers.items c.loop-place.place (omega (arith, c.loop-place-test.false, c.len-place-end.ensures)) c.loop-place.invariant.chosen
