use Rattle.std.proofs.Common.{◌≡◌, subst, arith}
use Rattle.answer_certificates.proofs.Keeping.{IsKeptTo, kept_more, none_kept, left_out}
use Rattle.answer_certificates.proofs.part.kept_facts.Goals as goal

pub loop-fact-init : goal.loop-fact-init
loop-fact-init c = none_kept c.args.dropped.now c.new-kept.result c.new-kept.ensures

pub loop-fact-preserved : goal.loop-fact-preserved
loop-fact-preserved c = kept_more c.args.dropped.now c.loop-fact.fact c.loop-fact.kept c.push_kept.new.kept c.is_dropped.result c.is_dropped.ensures c.in_ok-push_kept.ensures c.loop-fact.invariant

pub returns-clause-kept : goal.returns-clause-kept
returns-clause-kept c =
    let at : c.loop-fact.fact ≡ c.args.facts = omega (arith, c.loop-fact.auto.fact-end, c.loop-fact-test.false) in
    let all = subst (λ n. IsKeptTo c.args.dropped.now n c.loop-fact.kept) at c.loop-fact.invariant in (all.rises, all.below)

pub returns-clause-left_out : goal.returns-clause-left_out
returns-clause-left_out c =
    let at : c.loop-fact.fact ≡ c.args.facts = omega (arith, c.loop-fact.auto.fact-end, c.loop-fact-test.false) in
    left_out c.args.dropped.now c.args.facts c.loop-fact.kept c.requires (subst (λ n. IsKeptTo c.args.dropped.now n c.loop-fact.kept) at c.loop-fact.invariant)
