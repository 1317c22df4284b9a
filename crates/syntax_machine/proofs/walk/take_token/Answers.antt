use Rattle.std.proofs.Common.{ℕ, List, [], sym, subst, arith}
use Rattle.syntax_machine.specs.Stacks.{Adds}
use Rattle.syntax_machine.proofs.Shared.{adds_none}
use Rattle.syntax_machine.proofs.Walked.{adds_more, top_within, all_within, all_lead}
use Rattle.syntax_machine.proofs.walk.take_token.Goals as goal

pub loop-place-init : goal.loop-place-init
loop-place-init c = subst (λ (ns : List ℕ). Adds c.args.stacks.now [] c.args.stacks.now ns []) (sym c.new-next.ensures) (adds_none c.args.stacks.now [])

pub take_thread-requires : goal.take_thread-requires
take_thread-requires c = top_within c.args.stacks.now c.loop-place.stacks c.args.tops.now c.loop-place.place c.get.result.now c.get.ensures c.requires c.loop-place.invariant.keeps

pub loop-place-preserved : goal.loop-place-preserved
loop-place-preserved c =
    adds_more c.args.token.now c.args.stacks.now c.loop-place.stacks c.take_thread.new.stacks c.args.tops.now c.loop-place.next c.take_thread.new.tops c.loop-place.place c.get.result.now c.get.ensures c.requires c.loop-place.invariant c.in_ok-take_thread.ensures

pub returns-clause-within : goal.returns-clause-within
returns-clause-within c = all_within c.args.token.now c.args.stacks.now c.loop-place.stacks c.args.tops.now c.loop-place.next c.loop-place.place c.loop-place.invariant

pub returns-clause-leads : goal.returns-clause-leads
returns-clause-leads c = all_lead c.args.token.now c.args.stacks.now c.loop-place.stacks c.args.tops.now c.loop-place.next c.loop-place.place (omega (arith, c.len-place-end.ensures, c.loop-place-test.false)) c.loop-place.invariant
