use Rattle.std.proofs.Common.{refl}
use Rattle.sat_lrat.specs.Text.{lines_text}
use Rattle.sat_laws.proofs.Lines.{printed_again}
use Rattle.sat_laws.proofs.printed_lines_are_read_again.Goals as goal

pub returns : goal.returns
returns c = λ lines each. printed_again lines (lines_text 1 lines) refl each
