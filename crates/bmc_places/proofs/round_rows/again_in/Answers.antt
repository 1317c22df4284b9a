use Rattle.std.proofs.Common.{◌≡◌, ◌-◌, ◌+◌, Bool, length, sym, ◌∙◌, subst, arith}
use Rattle.gate_temporal.specs.Rows.{row_value}
use Rattle.gate_temporal.specs.Rounds.{TellsUntil}
use Rattle.bmc_places.proofs.RoundLaws.{tells_in, tells_out}
use Rattle.bmc_places.proofs.round_rows.again_in.Goals as goal

pub until_again-requires-clause-lengths : goal.until_again-requires-clause-lengths
until_again-requires-clause-lengths g c = c.in_ok-first.ensures.part.long ∙ sym c.in_ok-second.ensures.part.long

pub until_again-requires-clause-once_long : goal.until_again-requires-clause-once_long
until_again-requires-clause-once_long g c = c.in_ok-once.ensures.part.long ∙ sym c.in_ok-first.ensures.part.long

pub returns-clause-again : goal.returns-clause-again
returns-clause-again g c =
    let value = g.G.Gates.node_value c.args.gates.now in
    let s = c.args.window in
    let f = c.args.f.now in
    let h = c.args.g.now in
    let p = c.in_ok-first.first in
    let q = c.in_ok-second.second in
    let left = c.in_ok-first.ensures.part in
    let right = c.in_ok-second.ensures.part in
    let passed = c.in_ok-once.ensures.part in
    let wide : length p ≡ s.end - s.start = left.long in
    let first = s.back - s.start in
    record {
      long = c.in_ok-again.ensures.length ∙ wide;
      values = λ x k lt inside round_tells once_tells.
          let start : row_value (value x) c.args.onces.now (s.start + 0) ≡ row_value (value x) c.in_ok-once.once 0 = sym (passed.values x 0 (omega (arith, inside))) in
          let once = tells_out value s f h p q x 0 (row_value (value x) c.args.onces.now (s.start + 0)) left right inside once_tells in
          let known = tells_out value s f h p q x first (value x c.args.round) left right inside round_tells in
          tells_in value s f h p q x k _ left right inside
          (c.in_ok-again.ensures.truth x first k (omega (arith, inside, wide)) (omega (arith, lt, wide)) known (subst (λ (b : Bool). TellsUntil (value x) p q first 0 b) start once));
    }
