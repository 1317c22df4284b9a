use Rattle.std.proofs.Common.{arith}
use Rattle.form_target.proofs.Tails.{apart_pushed}
use Rattle.form_target.proofs.fields.apart_from.Goals as goal

pub returns : goal.returns
returns c = apart_pushed c.args.model.now c.args.all.now.items c.push.new.self.items c.args.number c.args.other_number c.args.field.now c.args.other.now _ c.requires.field c.requires.other (omega (arith, c.if-other_number-number.false)) (c.share_list.ensures.0 c.if-not-share_list.false) (omega (arith, c.if-field-other.false)) c.in_ok-push.ensures.items c.in_ok-disjoint.ensures
