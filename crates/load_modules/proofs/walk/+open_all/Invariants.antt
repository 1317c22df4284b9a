use Rattle.std.proofs.Common.{◌≡◌, ◌≤◌, ◌-◌, length}
use Rattle.load_modules.specs.Told.{Keeps, StaysDistinct}
use Rattle.load_modules.proofs.walk.+open_all.Given as goal

abbrev pub decreases-open_all : goal.decreases-open_all
decreases-open_all g l = l.limit - length l.loading.now.keys.items

-- the libraries hold what they held and none has failed, and no instance is lost; what is known stays known, and no two instances
-- are equal
abbrev pub invariant-loop-number : goal.invariant-loop-number
invariant-loop-number g l = record {
  told : g.L.Libraries.told l.libraries ≡ g.L.Libraries.told l.fn.libraries;
  counts : g.L.Libraries.counts l.libraries ≡ g.L.Libraries.counts l.fn.libraries;
  grows : length l.fn.loading.keys.items ≤ length l.loading.keys.items;
  texts : Keeps (g.L.Libraries.told l.fn.libraries) l.root l.fn.loading l.loading;
  distinct : StaysDistinct l.fn.loading.keys.items l.loading.keys.items;
}
