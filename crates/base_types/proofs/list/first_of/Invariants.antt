use Rattle.std.proofs.Common.{◌≡◌, List, map, take, length, Some, None}
use Rattle.base_types.specs.Texts.{Texts, text_of}
use Rattle.base_types.proofs.list.first_of.Given as goal

abbrev pub invariant-loop-i : goal.invariant-loop-i
invariant-loop-i g l =
    let holds = g.L.Library.holds in
    let faults = g.L.Library.faults in
    record {
      size : length l.libraries.items ≡ length l.initial.libraries.items;
      keeps : map holds l.libraries.items ≡ map holds l.initial.libraries.items;
      counts : map faults l.libraries.items ≡ map faults l.initial.libraries.items;
      absent : (told : List Texts) → map holds l.initial.libraries.items ≡ map Some told → text_of (take l.i told) l.name ≡ None;
    }
