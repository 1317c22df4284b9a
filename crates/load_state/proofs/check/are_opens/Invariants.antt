use Rattle.std.proofs.Common.{◌≡◌, take}
use Rattle.std.specs.Prelude.{nat_lt}
use Rattle.std.specs.List.{list_all}
use Rattle.load_state.proofs.check.are_opens.Given as goal

abbrev pub invariant-loop-opened : goal.invariant-loop-opened
invariant-loop-opened l = l.all ≡ list_all (λ o. nat_lt o.instance l.count) (take l.opened-index l.opens)
