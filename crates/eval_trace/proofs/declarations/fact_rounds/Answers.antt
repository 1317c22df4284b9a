use Rattle.std.proofs.Common.{ap, length, arith, rules}
use Rattle.eval_trace.specs.Asked.{SigRepeats}
use Rattle.eval_trace.proofs.RoundLaw.{none_repeats, more_repeats, sig_keeps, sig_here, sigs_repeat}
use Rattle.eval_trace.proofs.declarations.fact_rounds.Goals as goal

pub loop-place-init : goal.loop-place-init
loop-place-init c =
    none_repeats (SigRepeats c.args.judge.now) (sig_keeps c.args.judge.now) 0

pub loop-place-preserved : goal.loop-place-preserved
loop-place-preserved c =
    more_repeats (SigRepeats c.args.judge.now) (sig_keeps c.args.judge.now) c.loop-place.place c.loop-place.most c.rounds_of_fact-rounds.result c.max-more.result c.loop-place.invariant (λ few. sig_here c.args.judge.now c.loop-place.place c.get-sig.result.now (rw c.sig_list-sigs.ensures at c.get-sig.ensures) c.rounds_of_fact-rounds.result (c.rounds_of_fact-rounds.ensures few)) (search rules)

pub returns : goal.returns
returns c =
    sigs_repeat c.args.judge.now c.loop-place.place c.loop-place.most (omega (arith, ap length c.sig_list-sigs.ensures)) c.loop-place.invariant
