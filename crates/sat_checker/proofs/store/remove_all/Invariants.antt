use Rattle.std.proofs.Common.{◌≡◌, ℕ, drop, IsSome}
use Rattle.std.specs.Ordering.{nat_cmp}
use Rattle.std.specs.FinMap as map
use Rattle.sat_lrat.specs.Step.{without}
use Rattle.sat_checker.specs.Table.{found}
use Rattle.sat_checker.proofs.store.remove_all.Given as goal

abbrev pub invariant-loop-id : goal.invariant-loop-id
invariant-loop-id l =
    record {
      without : without (map.from_entries {R = nat_cmp} l.clauses) (drop l.id-index l.ids) ≡ without (map.from_entries l.initial.clauses) l.ids;
      fewer : (other : ℕ) → IsSome (found l.clauses other) → found l.clauses other ≡ found l.initial.clauses other;
    }
