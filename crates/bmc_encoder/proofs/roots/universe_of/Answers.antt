use Rattle.std.proofs.Common.{refl, ap, arith}
use Rattle.bound_uppers.specs.declared.numbers.AtomRange.{AtomRange}
use Rattle.bmc_encoder.proofs.roots.universe_of.Goals as goal

pub returns : goal.returns
returns c =
    let has = c.in_ok-spans.ensures in
    let same = ap (λ (s : AtomRange). s.first) has.integers in
    let most = has.most in
    record {
      atoms = same;
      bits = refl;
      valid = record { least = omega arith; most = omega arith; numbers = omega (arith, same, most) };
    }
