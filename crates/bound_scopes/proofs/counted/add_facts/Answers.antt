use Rattle.std.proofs.Common.{◌+◌, map, refl, arith}
use Rattle.bound_definitions.specs.Trees.{counted_fact}
use Rattle.bound_definitions.proofs.Firsts.{each_turn, each_end}
use Rattle.bound_scopes.specs.Roots.{counted_root}
use Rattle.bound_scopes.proofs.counted.add_facts.Goals as goal

pub loop-fact-preserved : goal.loop-fact-preserved
loop-fact-preserved c =
    each_turn counted_fact c.args.facts.now c.loop-fact.fact-index (c.loop-fact.fact-index + 1) c.fact-item.result (map counted_root c.args.all.now.items) (map counted_root c.loop-fact.all.items) (map counted_root c.add_fact.new.all.items) refl
    c.loop-fact-test.true c.fact-item.is c.loop-fact.invariant c.in_ok-add_fact.ensures

pub returns : goal.returns
returns c = each_end counted_fact c.args.facts.now c.loop-fact.fact-index (map counted_root c.args.all.now.items) (map counted_root c.loop-fact.all.items) (omega arith) c.loop-fact.invariant
