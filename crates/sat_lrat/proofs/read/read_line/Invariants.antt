use Rattle.std.proofs.Common.{◌≡◌, ◌+◌, ◌≤◌, length}
use Rattle.base_words.specs.Words.{parts}
use Rattle.sat_lrat.specs.Text.{reading_of, read_from}
use Rattle.sat_lrat.proofs.read.read_line.Given as goal

abbrev pub invariant-lines : goal.invariant-lines
invariant-lines l =
    record {
      reading : reading_of l.start (parts l.text) ≡ read_from l.bytes l.from;
      from : l.from ≤ l.start;
      place : l.start + length l.text ≡ length l.bytes;
    }

abbrev pub decreases-lines : goal.decreases-lines
decreases-lines l = length l.text
