use Rattle.std.proofs.Common.{◌≡◌, ◌-◌, length, sym, ◌∙◌, arith}
use Rattle.bmc_places.proofs.RoundLaws.{tells_in}
use Rattle.bmc_places.proofs.round_rows.once_in.Goals as goal

pub until_once-requires-clause-lengths : goal.until_once-requires-clause-lengths
until_once-requires-clause-lengths g c = c.in_ok-first.ensures.part.long ∙ sym c.in_ok-second.ensures.part.long

pub returns-clause-once : goal.returns-clause-once
returns-clause-once g c =
    let value = g.G.Gates.node_value in
    let s = c.args.window in
    let p = c.in_ok-first.first in
    let q = c.in_ok-second.second in
    let left = c.in_ok-first.ensures.part in
    let wide : length p ≡ s.end - s.start = left.long in
    record {
      long = c.in_ok-once.ensures.length ∙ wide;
      values = λ x k inside low. tells_in (value c.args.gates.now) s c.args.f.now c.args.g.now p q x k _ left c.in_ok-second.ensures.part inside (c.in_ok-once.ensures.truth x (s.back - s.start) k (omega (arith, inside, wide)) low);
    }
