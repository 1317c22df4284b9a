use Rattle.std.proofs.Common.{◌≡◌, ◌+◌, ℕ, ap, subst, arith}
use Rattle.bound_uppers.specs.Counts.{capped, sig_count, sigs_count}
use Rattle.bound_uppers.proofs.Counting.{sigs_step, sigs_end}
use Rattle.bound_uppers.proofs.counts.sigs_size.Goals as goal

pub loop-sig-preserved : goal.loop-sig-preserved
loop-sig-preserved c =
    let sigs = c.args.sigs.now in
    let scopes = c.args.scopes.now in
    let was = c.loop-sig.invariant in
    let n = c.loop-sig.sig-index in
    let d = c.sig-item.result in
    let lt = c.loop-sig-test.true in
    let more = subst (λ (m : ℕ). c.in_ok-more.more ≡ capped (sig_count sigs scopes m d)) was.number c.in_ok-more.ensures in
    record {
      size = sigs_step sigs scopes n d c.sum_of-size.result lt c.sig-item.is (c.sum_of-size.ensures (sigs_count sigs scopes n) (sig_count sigs scopes n d) was.size more);
      within = omega (arith, lt);
      number = ap (λ (m : ℕ). m + 1) was.number;
    }

pub returns : goal.returns
returns c = sigs_end c.args.sigs.now c.args.scopes.now c.loop-sig.sig-index c.loop-sig.size c.loop-sig.invariant.within c.loop-sig-test.false c.loop-sig.invariant.size
