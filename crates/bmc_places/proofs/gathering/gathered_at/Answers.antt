use Rattle.std.proofs.Common.{length, refl, arith}
use Rattle.std.proofs.lemmas.Option.{slice_get_read}
use Rattle.bmc_places.proofs.GatherLaws.{entries_none, entries_more, gathers}
use Rattle.bmc_places.proofs.gathering.gathered_at.Goals as goal

pub loop-number-init : goal.loop-number-init
loop-number-init g c = entries_none (g.G.Gates.belongs c.args.gates.now) (g.G.Gates.node_value c.args.gates.now) c.args.choices.now c.args.place c.args.columns _ c.new-entries.ensures.items

pub loop-number-preserved : goal.loop-number-preserved
loop-number-preserved g c =
    let choices = c.args.choices.now in
    let at = slice_get_read choices (length choices) c.loop-number.number c.index-choices-number.result refl c.loop-number-test.true c.index-choices-number.is in
    let e = c.in_ok-entry.ensures in
    entries_more (g.G.Gates.belongs c.args.gates.now) (g.G.Gates.node_value c.args.gates.now) choices c.args.place c.args.columns c.loop-number.number c.loop-number.entries.items c.push.new.self.items c.in_ok-entry.entry c.index-choices-number.result at e.belongs e.columns e.numbers e.tuple e.value c.in_ok-push.ensures.items c.loop-number.invariant

pub gathered-requires-clause-columns : goal.gathered-requires-clause-columns
gathered-requires-clause-columns g c = c.loop-number.invariant.columns_are

pub gathered-requires-clause-numbers : goal.gathered-requires-clause-numbers
gathered-requires-clause-numbers g c = c.loop-number.invariant.numbers

pub gathered-requires-clause-belongs : goal.gathered-requires-clause-belongs
gathered-requires-clause-belongs g c = c.loop-number.invariant.belong

pub returns-clause-means : goal.returns-clause-means
returns-clause-means g c =
    let value = g.G.Gates.node_value in
    gathers (value c.args.gates.now) (value c.gathered.new.gates) c.args.choices.now c.args.place c.loop-number.entries.items c.loop-number.number c.in_ok-made.made (omega (arith, c.loop-number-test.false)) c.in_ok-made.ensures.truth c.loop-number.invariant.means
