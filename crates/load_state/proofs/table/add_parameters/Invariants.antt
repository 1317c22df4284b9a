use Rattle.std.proofs.Common.{[], map, take}
use Rattle.std.specs.HashMap.{get_by_text}
use Rattle.load_state.specs.Counts.{TellsAll}
use Rattle.load_state.proofs.table.add_parameters.Given as goal

abbrev pub invariant-loop-number : goal.invariant-loop-number
invariant-loop-number l = TellsAll [] [] (get_by_text l.fn.known) → TellsAll (map (λ p. p.name.name) (take l.number l.parameters)) [] (get_by_text l.known)
