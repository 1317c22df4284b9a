use Rattle.std.proofs.Common.{sym, ap}
use Rattle.core_tree.proofs.RowLemmas.{comprehension_is, sum_over_is, call_term_is}
use Rattle.bound_definitions.specs.Depth.{level_in}
use Rattle.form_measures.proofs.levels.expr_level.Goals as goal

pub returns-in-Comprehension : goal.returns-in-Comprehension
returns-in-Comprehension c = rw c.in-Comprehension.is (sym (ap level_in (comprehension_is c.in-Comprehension.field-0 c.in-Comprehension.field-1)))

pub returns-in-Sum : goal.returns-in-Sum
returns-in-Sum c = rw c.in-Sum.is (sym (ap level_in (sum_over_is c.in-Sum.field-0 c.in-Sum.field-1)))

pub returns-in-Call : goal.returns-in-Call
returns-in-Call c = rw c.in-Call.is (sym (ap level_in (call_term_is c.in-Call.field-0 c.in-Call.field-1)))
