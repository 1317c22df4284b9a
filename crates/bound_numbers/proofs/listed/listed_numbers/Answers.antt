use Rattle.std.proofs.Common.{◌-◌, ap, length, ◌∙◌, arith}
use Rattle.bound_definitions.specs.Numbers.{known_as}
use Rattle.bound_numbers.proofs.Listing.{listed_none, listed_more, listed_all, noted_length}
use Rattle.bound_numbers.proofs.listed.listed_numbers.Goals as goal

pub loop-turn-init : goal.loop-turn-init
loop-turn-init c = (c.in_ok-listed.ensures.count, listed_none c.args.entries.now c.in_ok-listed.listed.items c.in_ok-listed.ensures.none)

pub loop-turn-preserved : goal.loop-turn-preserved
loop-turn-preserved c =
    let e = c.get-entry.result.now in (
      ap length c.take.ensures ∙ noted_length c.loop-turn.listed.items e.subject (known_as e.number e.exactly) ∙ c.loop-turn.invariant.0,
      listed_more c.args.entries.now c.loop-turn.turn (c.len-all.result - 1 - c.loop-turn.turn) e c.loop-turn.listed.items c.take.new.listed.items (omega arith) c.get-entry.ensures c.loop-turn.invariant.1 c.take.ensures,
    )

pub returns-clause-length : goal.returns-clause-length
returns-clause-length c = ap length c.from_vec.ensures ∙ c.loop-turn.invariant.0

pub returns-clause-listed : goal.returns-clause-listed
returns-clause-listed c = rw c.from_vec.ensures (listed_all c.args.entries.now c.loop-turn.turn c.loop-turn.listed.items (omega arith) c.loop-turn.invariant.1)
