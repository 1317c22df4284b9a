use Rattle.std.proofs.Common.{◌≡◌, length, arith}
use Rattle.eval_scopes.proofs.KeepLaw.{sig_many, sig_is}
use Rattle.eval_scopes.proofs.keep.sig_keeps.Goals as goal

pub returns-then-not-allows : goal.returns-then-not-allows
returns-then-not-allows c =
    let count : c.len-count.result ≡ length c.in_ok-members.members.items = omega arith in
    sig_many c.args.setting.now c.args.place c.args.sig.now c.args.scope.now c.in_ok-all.all c.in_ok-members.members.items c.in_ok-all.ensures c.in_ok-members.ensures c.allows.result c.len-count.result count c.if-not-allows.true c.allows.ensures

pub returns : goal.returns
returns c =
    let count : c.len-count.result ≡ length c.in_ok-members.members.items = omega arith in
    sig_is c.args.setting.now c.args.place c.args.sig.now c.args.scope.now c.in_ok-all.all c.in_ok-members.members.items c.in_ok-all.ensures c.in_ok-members.ensures c.are_bounded.result c.stays.result c.allows.result c.len-count.result c.deref.result.now count c.deref.ensures.value c.if-not-stays.false c.if-not-allows.false c.stays.ensures c.allows.ensures c.are_bounded.ensures
