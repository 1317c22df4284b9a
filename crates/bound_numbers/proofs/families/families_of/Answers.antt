use Rattle.std.proofs.Common.{◌-◌, ap, length, ◌∙◌, arith}
use Rattle.bound_numbers.specs.Tables.{table_of}
use Rattle.bound_numbers.proofs.Adding.{families_none, families_more, families_all}
use Rattle.bound_numbers.proofs.families.families_of.Goals as goal

pub loop-turn-init : goal.loop-turn-init
loop-turn-init c = (c.in_ok-families.ensures.count ∙ c.len-all.ensures, families_none c.args.sigs.now (table_of c.args.sums.now) c.in_ok-families.families.items c.in_ok-families.ensures.none)

pub loop-turn-preserved : goal.loop-turn-preserved
loop-turn-preserved c = (
  c.add_child.ensures.length ∙ c.loop-turn.invariant.0,
  families_more c.args.sigs.now (table_of c.args.sums.now) c.loop-turn.turn (c.len-all.result - 1 - c.loop-turn.turn) c.get-sig.result.now c.known_at-child.result c.loop-turn.families.items c.add_child.new.families.items (omega arith) c.get-sig.ensures c.known_at-child.ensures c.loop-turn.invariant.1 c.in_ok-add_child.ensures.added,
)

pub returns-clause-length : goal.returns-clause-length
returns-clause-length c = ap length c.from_vec.ensures ∙ c.loop-turn.invariant.0

pub returns-clause-families : goal.returns-clause-families
returns-clause-families c = rw c.from_vec.ensures (families_all c.args.sigs.now (table_of c.args.sums.now) c.loop-turn.turn c.loop-turn.families.items (omega arith) c.loop-turn.invariant.1)
