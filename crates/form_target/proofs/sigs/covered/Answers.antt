use Rattle.std.proofs.Common.{arith}
use Rattle.form_target.proofs.Lists.{some_in}
use Rattle.form_target.proofs.Tails.{not_covered, childless, covered_union}
use Rattle.form_target.proofs.sigs.covered.Goals as goal

pub returns-then-count-eq0 : goal.returns-then-count-eq0
returns-then-count-eq0 c = childless c.args.model.now c.args.all.now.items c.args.number c.args.sig.now c.args.children.now c.requires.children (omega (arith, c.if-count-eq0.true))

pub returns : goal.returns
returns c =
    let (x, there) = some_in c.args.children.now (λ e. omega (arith, e, c.if-count-eq0.false)) in
    covered_union c.args.model.now c.args.all.now.items c.push.new.self.items c.args.number c.args.sig.now c.requires.there c.args.children.now c.requires.children x _ _ c.if-not-sig.false there c.in_ok-push.ensures.items c.in_ok-inside.ensures c.in_ok-union.ensures
