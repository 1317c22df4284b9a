use Rattle.std.proofs.Common.{◌≡◌, ◌+◌, ◌<◌, ◌^◌, length}
use Rattle.base_words.specs.Words.{parts}
use Rattle.sat_dimacs.specs.Text.{clauses_behind, last_line, nothing_taken}
use Rattle.sat_dimacs.specs.Read.{IsTaken}
use Rattle.sat_dimacs.proofs.read.read_clauses.Given as goal

abbrev pub invariant-lines : goal.invariant-lines
invariant-lines l =
    record {
      clauses : clauses_behind l.variables l.count (last_line l.number (parts l.text)) l.taken l.number (parts l.text)
          ≡ clauses_behind l.variables l.count (last_line l.header (parts l.initial.text)) nothing_taken l.header (parts l.initial.text);
      last : last_line l.number (parts l.text) ≡ last_line l.header (parts l.initial.text);
      within : IsTaken l.variables l.taken;
      few : l.number + length l.text + 2 < 2 ^ 32;
    }

abbrev pub decreases-lines : goal.decreases-lines
decreases-lines l = length l.text
