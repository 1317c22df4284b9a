use Rattle.std.proofs.Common.{◌≡◌, length, map, IsTrue}
use Rattle.syntax_lexer.specs.Piece.{first_symbol, have_bytes}
use Rattle.syntax_lexer.proofs.piece.symbol.Given as goal

abbrev pub invariant-loop-table : goal.invariant-loop-table
invariant-loop-table l = (first_symbol (map (λ k. (k.0.now, k.1)) l.table) l.z ≡ first_symbol (map (λ k. (k.0.now, k.1)) l.initial.table) l.z)
    × IsTrue (have_bytes (map (λ k. (k.0.now, k.1)) l.table))

abbrev pub decreases-loop-table : goal.decreases-loop-table
decreases-loop-table l = length l.table
