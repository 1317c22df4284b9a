use Rattle.std.proofs.Common.{◌≡◌, length, ap, arith}
use Rattle.syntax_machine.proofs.Walked.{begins, leads_on, not_empty, dies, lives}
use Rattle.syntax_machine.proofs.walk.death_from.Goals as goal

pub add_over-requires : goal.add_over-requires
add_over-requires c = let long : length c.new-stacks.result ≡ 1 = ap length c.new-stacks.ensures in omega (arith, long)

pub loop-place-init : goal.loop-place-init
loop-place-init c = begins c.args.start.now c.new-stacks.result c.add_over.new.stacks c.new-tops.result c.add_over.new.tops c.new-stacks.ensures c.new-tops.ensures c.in_ok-add_over.ensures

pub advance-requires : goal.advance-requires
advance-requires c = c.loop-place.invariant.within

pub loop-place-preserved : goal.loop-place-preserved
loop-place-preserved c =
    leads_on c.args.tokens.now c.args.start.now c.loop-place.stacks c.advance.new.stacks c.loop-place.tops c.in_ok-next.next c.loop-place.place c.index-tokens-place.result c.loop-place-test.true c.index-tokens-place.is c.loop-place.invariant
    c.in_ok-next.ensures.within c.in_ok-next.ensures.leads (not_empty c.is_empty.result c.in_ok-next.next c.if-is_empty.false c.is_empty.ensures)

pub returns-then-is_empty-clause-within : goal.returns-then-is_empty-clause-within
returns-then-is_empty-clause-within c = c.loop-place-test.true

pub returns-then-is_empty-clause-first : goal.returns-then-is_empty-clause-first
returns-then-is_empty-clause-first c =
    dies c.args.tokens.now c.args.start.now c.loop-place.stacks c.advance.new.stacks c.loop-place.tops c.in_ok-next.next c.loop-place.place c.index-tokens-place.result c.loop-place-test.true c.index-tokens-place.is c.loop-place.invariant
    c.in_ok-next.ensures.leads (c.is_empty.ensures.0 c.if-is_empty.true)

pub returns-clause-first : goal.returns-clause-first
returns-clause-first c = lives c.args.tokens.now c.args.start.now c.loop-place.stacks c.loop-place.tops c.loop-place.place (omega (arith, c.loop-place-test.false)) c.loop-place.invariant
