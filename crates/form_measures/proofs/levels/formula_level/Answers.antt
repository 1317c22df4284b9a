use Rattle.std.proofs.Common.{sym, ap, ◌∙◌}
use Rattle.core_tree.specs.Trees.{claim_of}
use Rattle.core_tree.proofs.RowLemmas.{every_is, for_all_is, counted_is, call_claim_is}
use Rattle.bound_definitions.specs.Depth.{level_of}
use Rattle.form_measures.proofs.TreeForms.{level_connect, level_pair}
use Rattle.form_measures.proofs.levels.formula_level.Goals as goal

pub returns-in-Every : goal.returns-in-Every
returns-in-Every c = rw c.in-Every.is (sym (ap level_of (every_is c.in-Every.field-0)))

pub returns-in-Connect : goal.returns-in-Connect
returns-in-Connect c = rw c.in-Connect.is (c.connective_level.ensures ∙ sym (level_connect c.in-Connect.op (claim_of c.in-Connect.field-1.value) (claim_of c.in-Connect.field-2.value)))

pub returns-in-ForAll : goal.returns-in-ForAll
returns-in-ForAll c = rw c.in-ForAll.is (sym (ap level_of (for_all_is c.in-ForAll.field-0 c.in-ForAll.field-1)))

pub returns-in-Counted : goal.returns-in-Counted
returns-in-Counted c = rw c.in-Counted.is (sym (ap level_of (counted_is c.in-Counted.field-0 c.in-Counted.field-1 c.in-Counted.field-2)))

pub returns-in-TemporalPair : goal.returns-in-TemporalPair
returns-in-TemporalPair c = rw c.in-TemporalPair.is (c.binary_level.ensures ∙ sym (level_pair c.in-TemporalPair.op (claim_of c.in-TemporalPair.field-1.value) (claim_of c.in-TemporalPair.field-2.value)))

pub returns-in-Call : goal.returns-in-Call
returns-in-Call c = rw c.in-Call.is (sym (ap level_of (call_claim_is c.in-Call.field-0 c.in-Call.field-1)))
