use Rattle.std.proofs.Common.{◌≡◌, ◌∙◌, ◌+◌, ◌∷◌, [], ℕ, List, length, length-append, ap, subst, arith}
use Rattle.gate_trait.proofs.KeptLemmas.{keeps_trans, keeps_refl}
use Rattle.bmc_places.specs.Sums.{AreAdded}
use Rattle.bmc_places.proofs.StoreLaws.{extends_trans, extends_refl}
use Rattle.bmc_places.proofs.SumLaws.{added_more}
use Rattle.bmc_places.proofs.sums.sum_places.Goals as goal

pub loop-place-init : goal.loop-place-init
loop-place-init g c = record {
  keeps = keeps_refl g.G.Gates.belongs g.G.Gates.node_value c.args.gates.now;
  stored = c.requires.stored;
  extends = extends_refl c.args.store.now;
  long = ap (λ (s : List ℕ). length s) c.new-numbers.ensures.items;
  sums = λ i lt. absurd (omega (arith, lt));
}

pub loop-place-preserved : goal.loop-place-preserved
loop-place-preserved g c =
    let value = g.G.Gates.node_value in
    let belongs = g.G.Gates.belongs in
    let before = c.loop-place.invariant in
    let first = c.args.gates.now in
    let now = c.loop-place.gates in
    let later = c.add_sum_at.new.gates in
    let (k, is, adds) = c.in_ok-add_sum_at.ensures.adds in
    record {
      keeps = keeps_trans belongs value first now later before.keeps c.add_sum_at.ensures.keeps;
      stored = c.in_ok-add_sum_at.ensures.stored;
      extends = extends_trans c.args.store.now c.loop-place.store c.add_sum_at.new.store before.extends c.in_ok-add_sum_at.ensures.extends;
      long = ap (λ (s : List ℕ). length s) is ∙ length-append c.loop-place.numbers.items (k ∷ []) ∙ ap (λ (n : ℕ). n + 1) before.long;
      sums = added_more belongs value first now later c.args.store.now c.loop-place.store c.add_sum_at.new.store c.args.row.now c.args.totals.now c.args.made.now c.loop-place.place k c.loop-place.numbers.items c.add_sum_at.new.numbers.items before.keeps c.add_sum_at.ensures.keeps c.requires.stored before.stored before.extends c.in_ok-add_sum_at.ensures.extends c.requires.row before.long is adds before.sums;
    }

pub returns-clause-sums : goal.returns-clause-sums
returns-clause-sums g c =
    let value = g.G.Gates.node_value in
    let e : c.loop-place.place ≡ c.args.count = omega (arith, c.loop-place-test.false, c.loop-place.auto.place-end) in
    subst (λ (n : ℕ). AreAdded (value c.args.gates.now) (value c.loop-place.gates) c.args.store.now.integers.items c.loop-place.store.integers.items c.args.row.now c.args.totals.now c.args.made.now n c.loop-place.numbers.items) e c.loop-place.invariant.sums
