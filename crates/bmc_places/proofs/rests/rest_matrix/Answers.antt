use Rattle.std.proofs.Common.{◌≤◌, length, refl, arith}
use Rattle.std.proofs.lemmas.Option.{slice_get_read}
use Rattle.gate_matrix.specs.declared.entry.Entry.{Entry}
use Rattle.gate_matrix.proofs.BasicLemmas.{all_as}
use Rattle.bmc_places.proofs.RestLaws.{rest_none, rest_more, rest_all}
use Rattle.bmc_places.proofs.rests.rest_matrix.Goals as goal

pub loop-entry-init : goal.loop-entry-init
loop-entry-init g c = rest_none (g.G.Gates.belongs c.args.gates.now) (g.G.Gates.node_value c.args.gates.now) c.entries-all.result.now c.args.numbers.now c.args.at_start _ _ c.new-entries.ensures.items

pub loop-entry-preserved : goal.loop-entry-preserved
loop-entry-preserved g c =
    let all = c.entries-all.result.now in
    let e = c.entry-item.result in
    let belongs = g.G.Gates.belongs c.args.gates.now in
    let at = slice_get_read all (length all) c.loop-entry.entry-index e refl c.loop-entry-test.true c.entry-item.is in
    let in_all = all_as (λ (d : Entry). belongs d.node) all c.args.matrix.now.entries c.entries-all.ensures.all c.requires in
    rest_more belongs (g.G.Gates.node_value c.args.gates.now) all c.args.numbers.now c.args.at_start _ c.loop-entry.entry-index c.loop-entry.entries.items c.add_rest.new.entries.items e in_all at c.in_ok-add_rest.ensures c.loop-entry.invariant

pub gathered-requires-clause-columns : goal.gathered-requires-clause-columns
gathered-requires-clause-columns g c = c.loop-entry.invariant.columns_are

pub gathered-requires-clause-numbers : goal.gathered-requires-clause-numbers
gathered-requires-clause-numbers g c = c.loop-entry.invariant.numbers

pub gathered-requires-clause-belongs : goal.gathered-requires-clause-belongs
gathered-requires-clause-belongs g c = c.loop-entry.invariant.belong

pub returns-clause-means : goal.returns-clause-means
returns-clause-means g c =
    let value = g.G.Gates.node_value in
    let all = c.entries-all.result.now in
    let high : length all ≤ c.loop-entry.entry-index = omega (arith, c.loop-entry-test.false) in
    rest_all (value c.args.gates.now) (value c.gathered.new.gates) c.args.matrix.now c.in_ok-made.made c.args.numbers.now c.args.at_start all c.loop-entry.entry-index c.loop-entry.entries.items c.entries-all.ensures.all high c.in_ok-made.ensures.truth c.loop-entry.invariant.means c.entries-all.ensures.matrix
