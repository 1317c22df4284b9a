use Rattle.core_meaning.specs.Kept.{InSigBound}
use Rattle.eval_scopes.proofs.KeepLaw.{each_more, bound_no, bound_yes}
use Rattle.eval_scopes.proofs.keep.are_bounded.Goals as goal

pub returns-then-not-bounded : goal.returns-then-not-bounded
returns-then-not-bounded c =
    bound_no c.args.setting.now c.args.place c.args.sig.now c.args.members.now c.loop-member.member-index c.in_ok-bounded.bounded c.loop-member-test.true c.if-not-bounded.true c.in_ok-bounded.ensures

pub loop-member-preserved : goal.loop-member-preserved
loop-member-preserved c =
    each_more (λ a. InSigBound c.args.setting.now.model c.args.setting.now.scopes c.args.place c.args.sig.now a) c.args.members.now c.loop-member.member-index c.loop-member-test.true (c.in_ok-bounded.ensures.0 c.if-not-bounded.false) c.loop-member.invariant

pub returns : goal.returns
returns c = bound_yes c.args.setting.now c.args.place c.args.sig.now c.args.members.now c.loop-member.member-index c.loop-member-test.false c.loop-member.invariant
