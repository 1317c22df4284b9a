use Rattle.std.proofs.Common.{true, set, refl, arith}
use Rattle.bound_scopes.proofs.Following.{read_mark, number_followed, far_followed, marked_followed, new_followed}
use Rattle.bound_scopes.proofs.wide.follow.Goals as goal

pub returns-in-Number : goal.returns-in-Number
returns-in-Number c = number_followed c.args.bodies.now c.args.mention c.args.all.now.items c.args.seen.now.items c.in-Number.field-0 c.in-Number.field-1 c.in-Number.is

pub returns-then-place-len : goal.returns-then-place-len
returns-then-place-len c = far_followed c.args.bodies.now c.args.mention c.args.all.now.items c.args.seen.now.items c.in-Call.called c.in-Call.is (omega arith)

pub returns-then-index : goal.returns-then-index
returns-then-index c =
    marked_followed c.args.bodies.now c.args.mention c.args.all.now.items c.args.seen.now.items c.in-Call.called c.in-Call.is (read_mark c.args.seen.now.items c.in-Call.called c.index.result.now (omega arith) c.index.ensures c.if-index.true)

pub returns-in_ok-add_body-in-Call : goal.returns-in_ok-add_body-in-Call
returns-in_ok-add_body-in-Call c =
    new_followed c.args.bodies.now c.args.mention c.args.all.now.items c.args.seen.now.items c.in-Call.called c.get-body.result.now c.add_body.new.all.items (set c.args.seen.now.items c.in-Call.called true) c.in-Call.is (omega arith)
    c.get-body.ensures c.in_ok-add_body-in-Call.ensures refl
