use Rattle.std.proofs.Common.{rules, tests}
use Rattle.eval_tree.proofs.FoundLemmas.{said_true, said_false}
use Rattle.eval_trace.proofs.FieldLaw.{other_owner, no_list, no_other_list, one_list}
use Rattle.eval_trace.proofs.fields.are_listed.Goals as goal

pub returns-then-not-same : goal.returns-then-not-same
returns-then-not-same c =
    other_owner c.args.a.now c.args.b.now (said_false c.is_same-same.result c.is_same-same.ensures c.if-not-same.true)

pub returns-in-None : goal.returns-in-None
returns-in-None c =
    no_list c.args.a.now c.args.b.now c.in-None.ensures

pub returns-in-None-list_of : goal.returns-in-None-list_of
returns-in-None-list_of c =
    no_other_list c.args.a.now c.args.b.now c.in-None-list_of.ensures

pub returns-in-Some-list_of : goal.returns-in-Some-list_of
returns-in-Some-list_of c =
    one_list c.args.a.now c.args.b.now (said_true c.is_same-same.result c.is_same-same.ensures c.if-not-same.false) c.in-Some.list c.in-Some-list_of.other c.in-Some.ensures c.in-Some-list_of.ensures _ (search (rules, tests))
