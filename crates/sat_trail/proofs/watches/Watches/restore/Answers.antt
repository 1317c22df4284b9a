use Rattle.std.proofs.Common.{◌≡◌, [], ap, length, arith, rules}
use Rattle.sat_lists.specs.Nodes.{Lists}
use Rattle.sat_trail.proofs.Weaving.{IsWoven-keep, IsWoven-finish}
use Rattle.sat_trail.proofs.watches.Watches.restore.Goals as goal

pub keep-requires : goal.keep-requires
keep-requires c = omega (arith, ap length c.in-Some.ensures)

pub nodes-preserved : goal.nodes-preserved
nodes-preserved c =
    let i = c.nodes.invariant in
    record {
      woven = IsWoven-keep _ _ _ c.nodes.self.lists c.keep.new.self _ _ c.args.arena.now.in_order i.woven c.in-Some.ensures c.keep.ensures;
      at = i.at;
      copies = i.copies;
    }

pub nodes-smaller : goal.nodes-smaller
nodes-smaller c = omega (arith, ap (λ (x : Lists). length x.loose) c.keep.ensures, ap length c.in-Some.ensures)

pub returns-clause-woven : goal.returns-clause-woven
returns-clause-woven c =
    let none : c.nodes.self.lists.loose ≡ [] = search rules in
    IsWoven-finish _ _ _ c.nodes.self.lists c.finish.new.self _ c.nodes.invariant.woven none c.finish.ensures
