use Rattle.std.proofs.Common.{◌≡◌, ◌++◌, flat_map, take}
use Rattle.std.specs.Fmt.{signed_decimal}
use Rattle.base_words.specs.Words.{spaced}
use Rattle.sat_dimacs.proofs.print.push_clause.Given as goal

abbrev pub invariant-loop-literal : goal.invariant-loop-literal
invariant-loop-literal l = l.out.items ≡ l.initial.out.items ++ flat_map (λ literal. spaced (signed_decimal literal)) (take l.literal-index l.literal-items)
