use Rattle.std.proofs.Common.{◌+◌, ◌∷◌, [], ℕ, List, length, ap, sym, ◌∙◌, length-append, Some, arith}
use Rattle.std.proofs.lemmas.Option.{slice_get-get_or}
use Rattle.gate_trait.proofs.KeptLemmas.{keeps_trans, keeps_refl}
use Rattle.bmc_stack.proofs.PlaceLaws.{pair_found}
use Rattle.bmc_places.proofs.StoreLaws.{extends_trans, extends_refl}
use Rattle.bmc_places.proofs.NumberLaws.{made_more, made_all}
use Rattle.bmc_places.proofs.numbers.made_of.Goals as goal

pub loop-place-init : goal.loop-place-init
loop-place-init g c =
    let value = g.G.Gates.node_value in
    let belongs = g.G.Gates.belongs in
    record {
      keeps = keeps_refl belongs value c.args.gates.now;
      stored = c.requires;
      extends = extends_refl c.args.store.now;
      long = ap (λ (s : List ℕ). length s) c.new-numbers.ensures.items;
      made = λ j pair lt at. absurd (omega (arith, lt));
    }

pub loop-place-preserved : goal.loop-place-preserved
loop-place-preserved g c =
    let value = g.G.Gates.node_value in
    let belongs = g.G.Gates.belongs in
    let before = c.loop-place.invariant in
    let first = c.args.gates.now in
    let now = c.loop-place.gates in
    let later = c.make_at.new.gates in
    let pair = c.pair_at-pair.result in
    let pairs = c.args.pairs.now in
    let here = slice_get-get_or pairs c.loop-place.place pair c.loop-place-test.true ∙ ap Some (sym (pair_found pairs c.loop-place.place pair c.loop-place-test.true c.pair_at-pair.ensures)) in
    record {
      keeps = keeps_trans belongs value first now later before.keeps c.make_at.ensures.keeps;
      stored = c.in_ok-number.ensures.stored;
      extends = extends_trans c.args.store.now c.loop-place.store c.make_at.new.store before.extends c.in_ok-number.ensures.extends;
      long = ap (λ (s : List ℕ). length s) c.in_ok-push.ensures.items ∙ length-append c.loop-place.numbers.items (c.in_ok-number.number ∷ []) ∙ ap (λ (k : ℕ). k + 1) before.long;
      made = made_more belongs value c.args.op c.args.universe first now later c.args.store.now c.loop-place.store c.make_at.new.store pairs c.loop-place.numbers.items c.push.new.self.items c.loop-place.place c.in_ok-number.number pair before.keeps c.make_at.ensures.keeps c.requires before.stored before.extends c.in_ok-number.ensures.extends before.long here before.made c.in_ok-number.ensures.makes c.in_ok-push.ensures.items;
    }

pub returns-clause-made : goal.returns-clause-made
returns-clause-made g c = made_all c.args.op c.args.universe _ _ _ _ c.args.pairs.now c.loop-place.numbers.items c.loop-place.place (omega (arith, c.loop-place-test.false)) c.loop-place.invariant.made
