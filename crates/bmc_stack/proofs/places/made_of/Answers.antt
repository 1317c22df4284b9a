use Rattle.std.proofs.Common.{◌≡◌, ◌+◌, ◌++◌, ◌∷◌, [], ℕ, List, length, ap, ◌∙◌, length-append, arith}
use Rattle.gate_trait.proofs.KeptLemmas.{keeps_trans}
use Rattle.bmc_stack.proofs.PlaceLaws.{made_more, made_all, pair_found}
use Rattle.bmc_stack.proofs.RowLaws.{grows_trans}
use Rattle.bmc_stack.proofs.places.made_of.Goals as goal

pub loop-place-preserved : goal.loop-place-preserved
loop-place-preserved g c =
    let value = g.G.Gates.node_value in
    let belongs = g.G.Gates.belongs in
    let before = c.loop-place.invariant in
    let first = c.args.gates.now in
    let now = c.loop-place.gates in
    let later = c.apply_at.new.gates in
    let more = c.apply_at.ensures.keeps in
    let pair = c.pair_at-pair.result in
    let here = pair_found c.args.pairs.now c.loop-place.place pair c.loop-place-test.true c.pair_at-pair.ensures in
    record {
      keeps = keeps_trans belongs value first now later before.keeps more;
      stored = c.in_ok-number.ensures.stored;
      grows = grows_trans c.args.store.now c.loop-place.store c.apply_at.new.store before.grows c.in_ok-number.ensures.grows;
      long = ap (λ (s : List ℕ). length s) c.in_ok-push.ensures.items ∙ length-append c.loop-place.numbers.items (c.in_ok-number.number ∷ []) ∙ ap (λ (k : ℕ). k + 1) before.long;
      made = made_more belongs value c.args.op first now later c.args.store.now.matrices.items c.loop-place.store.matrices.items c.apply_at.new.store.matrices.items c.args.pairs.now c.loop-place.numbers.items c.push.new.self.items c.loop-place.place c.in_ok-number.number pair
          before.keeps more c.requires.matrices before.stored.matrices before.grows.matrices c.in_ok-number.ensures.grows.matrices before.long here before.made c.in_ok-number.ensures.sets c.in_ok-push.ensures.items;
    }

pub returns-clause-made : goal.returns-clause-made
returns-clause-made g c = made_all _ _ _ _ _ _ _ c.loop-place.place (omega (arith, c.loop-place-test.false)) c.loop-place.invariant.made
