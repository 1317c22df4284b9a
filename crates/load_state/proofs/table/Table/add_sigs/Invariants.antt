use Rattle.std.proofs.Common.{◌≡◌, ◌+◌, ◌++◌, map, take}
use Rattle.std.specs.HashMap.{get_by_text}
use Rattle.load_state.specs.Counts.{Stays}
use Rattle.load_state.specs.Sigs.{declared_as}
use Rattle.load_state.proofs.table.Table.add_sigs.Given as goal

abbrev pub invariant-loop-named : goal.invariant-loop-named
invariant-loop-named l =
    (l.self.enums.items ≡ l.fn.self.enums.items) × (l.self.declared.items ≡ l.fn.self.declared.items ++ map (declared_as l.is_private) (take l.named-index l.names))
    × (l.self.sigs ≡ l.fn.self.sigs + l.named-index) × Stays (get_by_text l.fn.self.known) l.fn.self.declared.items l.fn.self.sigs (get_by_text l.self.known) l.self.declared.items l.self.sigs
