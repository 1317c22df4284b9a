use Rattle.std.proofs.Common.{◌≡◌, length, arith}
use Rattle.gate_trait.proofs.KeptLemmas.{keeps_refl, all_more}
use Rattle.bmc_leaves.proofs.RowLaws.{long_more}
use Rattle.bmc_places.specs.RoundRows.{TellsNext}
use Rattle.bmc_places.proofs.RoundLaws.{tells_push}
use Rattle.bmc_places.proofs.round_rows.row_after.Goals as goal

pub loop-place-preserved : goal.loop-place-preserved
loop-place-preserved g c =
    let value = g.G.Gates.node_value in
    let belongs = g.G.Gates.belongs in
    let gates = c.args.gates.now in
    let before = c.loop-place.invariant in
    let place = c.loop-place.place in
    let n = c.node_after-node.result in
    let new = c.push.new.self in
    let is = c.in_ok-push.ensures.ok in
    record {
      belong = all_more belongs value gates gates (keeps_refl belongs value gates) c.loop-place.new new n is before.belong c.node_after-node.ensures.belongs;
      long = long_more c.loop-place.new new n place is before.long;
      tells = λ x. tells_push (value gates x) c.loop-place.new new n place (λ i b. TellsNext (value gates x) c.args.places.now c.args.row.now c.args.back i b) is before.long (before.tells x) (c.node_after-node.ensures.tells x);
    }

pub returns-clause-after : goal.returns-clause-after
returns-clause-after g c =
    let before = c.loop-place.invariant in
    let end : c.loop-place.place ≡ length c.args.places.now = omega (arith, c.loop-place-test.false, c.loop-place.auto.place-end) in
    let long = before.long in
    record {
      long = omega (arith, long, end);
      tells = λ x i lt. before.tells x i (omega (arith, lt, end));
    }
