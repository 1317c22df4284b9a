use Rattle.std.proofs.Common.{◌-◌, length}
use Rattle.indexmap.specs.IndexMap.{get_by_text}
use Rattle.resolve_names.specs.Indexed.{IsIndexed}
use Rattle.resolve_names.proofs.index.places_of.Given as goal

abbrev pub invariant-loop-back : goal.invariant-loop-back
invariant-loop-back l = IsIndexed l.list (length l.list - l.back) (get_by_text l.first) l.next.items
