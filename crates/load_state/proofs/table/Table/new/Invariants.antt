use Rattle.std.proofs.Common.{◌≡◌, ◌++◌, drop, flat_map, length}
use Rattle.std.specs.HashMap.{get_by_text}
use Rattle.load_state.specs.Counts.{TellsAll}
use Rattle.load_state.specs.Opens.{enums_from, enums_of}
use Rattle.load_state.specs.Sigs.{declared_in, sigs_of, parameters_of}
use Rattle.load_state.proofs.table.Table.new.Given as goal

abbrev pub invariant-loop-paragraph : goal.invariant-loop-paragraph
invariant-loop-paragraph l =
    (enums_of l.tree ≡ l.table.enums.items ++ enums_from l.table.sigs (drop l.paragraph-index l.paragraph-items))
    × (sigs_of l.tree ≡ l.table.declared.items ++ flat_map declared_in (drop l.paragraph-index l.paragraph-items))
    × (TellsAll (parameters_of l.tree) l.table.declared.items (get_by_text l.table.known) × (l.table.sigs ≡ length l.table.declared.items))
