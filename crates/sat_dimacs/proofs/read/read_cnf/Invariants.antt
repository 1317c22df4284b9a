use Rattle.std.proofs.Common.{◌≡◌, ◌+◌, ◌≤◌, length, max}
use Rattle.base_words.specs.Words.{parts}
use Rattle.sat_dimacs.specs.Text.{formula_behind, formula_of, last_line}
use Rattle.sat_dimacs.proofs.read.read_cnf.Given as goal

abbrev pub invariant-lines : goal.invariant-lines
invariant-lines l =
    record {
      formula : formula_behind (max 1 (last_line l.number (parts l.text))) l.number (parts l.text) ≡ formula_of l.bytes;
      few : l.number + length l.text ≤ length l.bytes;
    }

abbrev pub decreases-lines : goal.decreases-lines
decreases-lines l = length l.text
