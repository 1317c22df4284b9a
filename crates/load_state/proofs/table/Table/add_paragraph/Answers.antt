use Rattle.std.proofs.Common.{arith}
use Rattle.std.proofs.lemmas.Grind.{common_steps}
use Rattle.load_state.proofs.Counts.{stays_itself, stays_on}
use Rattle.load_state.proofs.table.Table.add_paragraph.Goals as goal

pub returns-in_default : goal.returns-in_default
returns-in_default c = record { enums = grind (arith, common_steps); declared = grind (arith, common_steps); sigs = grind (arith, common_steps); tells = stays_itself _ _ _ }

pub returns-in_ok-add_sigs-in-Enum-clause-tells : goal.returns-in_ok-add_sigs-in-Enum-clause-tells
returns-in_ok-add_sigs-in-Enum-clause-tells c = stays_on _ _ _ _ _ _ _ _ _ c.in_ok-add_sig-in-Enum.ensures.tells c.in_ok-add_sigs-in-Enum.ensures.tells
