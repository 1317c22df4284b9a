use Rattle.eval_trace.proofs.FieldLaw.{no_owner, no_text, field_is}
use Rattle.eval_trace.proofs.fields.field_holds.Goals as goal

pub returns-in-None : goal.returns-in-None
returns-in-None c =
    no_owner c.args.judge.now c.args.position c.args.place c.args.field.now c.in-None.is

pub returns-in-None-declared : goal.returns-in-None-declared
returns-in-None-declared c =
    no_text c.args.judge.now c.args.position c.args.place c.args.field.now c.in-None-declared.is

pub returns-in-Some-declared : goal.returns-in-Some-declared
returns-in-Some-declared c =
    field_is c.args.judge.now c.args.position c.args.place c.args.field.now c.in-Some.owner c.in-Some-declared.declared c.in-Some.is c.in-Some-declared.is _ c.declared_holds.result c.declared_holds.ensures
