use Rattle.std.proofs.Common.{sym, subst}
use Rattle.answer_trace.specs.declared.label.Shown.{Shown}
use Rattle.answer_laws.specs.Form.{HoldsHidden}
use Rattle.answer_checks.proofs.Whole.{nothing_by, just_by}
use Rattle.answer_checks.proofs.lassos.holds_hidden.Goals as goal

pub returns-in-Line : goal.returns-in-Line
returns-in-Line c = λ t. subst (λ (s : Shown). HoldsHidden s c.args.set.now) (sym c.in-Line.is) tt

pub returns-in-Nothing : goal.returns-in-Nothing
returns-in-Nothing c = λ t. nothing_by c.args.shown c.args.set.now c.keyed-tuples.result.now c.in-Nothing.is c.keyed-tuples.ensures.all (c.are_none.ensures t)

pub returns-in-Just : goal.returns-in-Just
returns-in-Just c = λ t. just_by c.args.shown c.args.set.now c.keyed-tuples.result.now c.in-Just.atom c.is_just.result c.in-Just.is c.keyed-tuples.ensures.all c.is_just.ensures t
