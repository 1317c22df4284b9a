use Rattle.resolve_check.proofs.Owners.{owner_none, owner_some}
use Rattle.resolve_check.proofs.fields.has_owner.Goals as goal

pub returns-in-None : goal.returns-in-None
returns-in-None c = λ t. owner_none c.args.sigs c.args.field.now c.is_some-declared.result c.is_some-declared.ensures c.in-None.is t

pub returns-in-Some : goal.returns-in-Some
returns-in-Some c = λ t. owner_some c.args.sigs c.args.field.now c.is_some-declared.result c.in-Some.owner c.both.result c.is_some-declared.ensures c.in-Some.is c.both.ensures t
