use Rattle.std.proofs.Common.{◌+◌, map, refl, arith}
use Rattle.bound_definitions.specs.Trees.{counted_sig}
use Rattle.bound_definitions.proofs.Firsts.{each_turn, each_end}
use Rattle.bound_scopes.specs.Roots.{counted_root}
use Rattle.bound_scopes.proofs.counted.add_sigs.Goals as goal

pub loop-sig-preserved : goal.loop-sig-preserved
loop-sig-preserved c =
    each_turn counted_sig c.args.sigs.now c.loop-sig.sig-index (c.loop-sig.sig-index + 1) c.sig-item.result (map counted_root c.args.all.now.items) (map counted_root c.loop-sig.all.items) (map counted_root c.add_appended.new.all.items) refl
    c.loop-sig-test.true c.sig-item.is c.loop-sig.invariant c.in_ok-add_appended.ensures

pub returns : goal.returns
returns c = each_end counted_sig c.args.sigs.now c.loop-sig.sig-index (map counted_root c.args.all.now.items) (map counted_root c.loop-sig.all.items) (omega arith) c.loop-sig.invariant
