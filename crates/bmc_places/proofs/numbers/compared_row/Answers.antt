use Rattle.std.proofs.Common.{ℕ, ◌≡◌, subst, arith}
use Rattle.gate_trait.proofs.KeptLemmas.{keeps_trans}
use Rattle.bmc_places.proofs.NumberLaws.{ComparedTo, compared_more, compared_all}
use Rattle.bmc_places.proofs.numbers.compared_row.Goals as goal

pub loop-place-preserved : goal.loop-place-preserved
loop-place-preserved g c =
    let value = g.G.Gates.node_value in
    let belongs = g.G.Gates.belongs in
    let before = c.loop-place.invariant in
    let first = c.args.gates.now in
    let now = c.loop-place.gates in
    let later = c.add_compared.new.gates in
    let (n, is, in_n, compares) = c.in_ok-add_compared.ensures.says in
    record {
      keeps = keeps_trans belongs value first now later before.keeps c.add_compared.ensures.keeps;
      belong = c.add_compared.ensures.belongs;
      compared = compared_more belongs value c.args.op first now later c.args.store.now.integers.items c.args.a.now c.args.b.now c.loop-place.place c.loop-place.row c.add_compared.new.row n before.keeps c.add_compared.ensures.keeps c.requires.integers before.belong is compares before.compared;
    }

pub returns-clause-compared : goal.returns-clause-compared
returns-clause-compared g c =
    let value = g.G.Gates.node_value in
    let old = value c.args.gates.now in
    let new = value c.loop-place.gates in
    let integers = c.args.store.now.integers.items in
    let e : c.loop-place.place ≡ c.args.count = omega (arith, c.loop-place-test.false, c.loop-place.auto.place-end) in
    compared_all c.args.op old new integers c.args.a.now c.args.b.now c.args.count c.loop-place.row (subst (λ (k : ℕ). ComparedTo c.args.op old new integers c.args.a.now c.args.b.now k c.loop-place.row) e c.loop-place.invariant.compared)
