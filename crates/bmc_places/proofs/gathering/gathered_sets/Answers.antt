use Rattle.std.proofs.Common.{◌+◌, ◌∷◌, [], ℕ, List, length, ap, ◌∙◌, length-append, arith}
use Rattle.gate_trait.proofs.KeptLemmas.{keeps_trans}
use Rattle.bmc_places.proofs.StoreLaws.{extends_trans}
use Rattle.bmc_places.proofs.GatherLaws.{gathered_more, rows_kept}
use Rattle.bmc_places.proofs.gathering.gathered_sets.Goals as goal

pub add_place-requires-clause-rows : goal.add_place-requires-clause-rows
add_place-requires-clause-rows g c = rows_kept g.G.Gates.belongs g.G.Gates.node_value c.args.gates.now c.loop-place.gates c.loop-place.invariant.keeps c.args.choices.now c.requires.rows

pub loop-place-preserved : goal.loop-place-preserved
loop-place-preserved g c =
    let value = g.G.Gates.node_value in
    let belongs = g.G.Gates.belongs in
    let before = c.loop-place.invariant in
    let first = c.args.gates.now in
    let now = c.loop-place.gates in
    let later = c.add_place.new.gates in
    let adds = c.in_ok-add_place.ensures.adds in
    record {
      keeps = keeps_trans belongs value first now later before.keeps c.add_place.ensures.keeps;
      stored = c.in_ok-add_place.ensures.stored;
      extends = extends_trans c.args.store.now c.loop-place.store c.add_place.new.store before.extends c.in_ok-add_place.ensures.extends;
      long = ap (λ (s : List ℕ). length s) adds.1 ∙ length-append c.loop-place.numbers.items (adds.0 ∷ []) ∙ ap (λ (k : ℕ). k + 1) before.long;
      gathered = gathered_more belongs value first now later c.loop-place.store.matrices.items c.add_place.new.store.matrices.items c.args.choices.now c.loop-place.numbers.items c.add_place.new.numbers.items c.loop-place.place before.keeps c.add_place.ensures.keeps c.requires.rows before.stored.matrices c.in_ok-add_place.ensures.extends.matrices before.long before.gathered adds;
    }

pub returns-clause-gathered : goal.returns-clause-gathered
returns-clause-gathered g c = λ i lt. c.loop-place.invariant.gathered i (omega (arith, lt, c.loop-place-test.false))
