use Rattle.std.proofs.Common.{sym, ◌∙◌}
use Rattle.eval_sets.proofs.WalkLaw.{partly_start, partly_more, partly_done, no_walk}
use Rattle.eval_sets.proofs.walks.closure.Goals as goal

pub returns-then-arity-ne2 : goal.returns-then-arity-ne2
returns-then-arity-ne2 c = no_walk c.args.a.now c.empty_of.result c.arity.ensures.set (λ e. c.if-arity-ne2.true (c.arity.ensures.columns ∙ e)) c.empty_of.ensures

pub loop-round-init : goal.loop-round-init
loop-round-init c = partly_start c.args.a.now c.in_ok-all.all c.in_ok-found.found (sym c.arity.ensures.columns ∙ c.if-arity-ne2.false) c.arity.ensures.set c.in_ok-all.ensures c.in_ok-found.ensures

pub returns-then-len-eq0 : goal.returns-then-len-eq0
returns-then-len-eq0 c = partly_done c.args.a.now c.loop-round.all c.loop-round.found c.loop-round.invariant (sym c.len.ensures.count ∙ c.if-len-eq0.true)

pub loop-round-preserved : goal.loop-round-preserved
loop-round-preserved c =
    partly_more c.args.a.now c.loop-round.all c.loop-round.found c.in_ok-longer.longer c.in_ok-found-2.found c.in_ok-all-2.all
    (sym c.arity.ensures.columns ∙ c.if-arity-ne2.false) c.arity.ensures.set c.loop-round.invariant c.in_ok-longer.ensures c.in_ok-found-2.ensures c.in_ok-all-2.ensures
