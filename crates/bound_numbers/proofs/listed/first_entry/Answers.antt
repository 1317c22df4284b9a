use Rattle.std.proofs.Common.{sym, ap, ◌∙◌, true, false, arith}
use Rattle.bound_numbers.specs.Listed.{asks, numbered_of}
use Rattle.bound_numbers.proofs.Listing.{first_next, first_end, entry_next, entry_end}
use Rattle.bound_numbers.proofs.listed.first_entry.Goals as goal

pub loop-place-preserved : goal.loop-place-preserved
loop-place-preserved c = record {
  number = λ n. sym (first_next (asks c.args.asked) n c.args.entries.now c.get-entry.result.now c.loop-place.place false c.get-entry.ensures (sym c.is_for.ensures ∙ c.if-is_for.false)) ∙ c.loop-place.invariant.number n;
  entry = sym (entry_next (asks c.args.asked) c.args.entries.now c.get-entry.result.now c.loop-place.place false c.get-entry.ensures (sym c.is_for.ensures ∙ c.if-is_for.false)) ∙ c.loop-place.invariant.entry;
}

pub returns-then-is_for-clause-number : goal.returns-then-is_for-clause-number
returns-then-is_for-clause-number c = λ n.
    sym (first_next (asks c.args.asked) n c.args.entries.now c.get-entry.result.now c.loop-place.place true c.get-entry.ensures (sym c.is_for.ensures ∙ c.if-is_for.true)) ∙ c.loop-place.invariant.number n

pub returns-then-is_for-clause-entry : goal.returns-then-is_for-clause-entry
returns-then-is_for-clause-entry c =
    ap numbered_of (sym (entry_next (asks c.args.asked) c.args.entries.now c.get-entry.result.now c.loop-place.place true c.get-entry.ensures (sym c.is_for.ensures ∙ c.if-is_for.true)) ∙ c.loop-place.invariant.entry)

pub returns-clause-number : goal.returns-clause-number
returns-clause-number c = λ n. sym (first_end (asks c.args.asked) n c.args.entries.now c.loop-place.place (omega arith)) ∙ c.loop-place.invariant.number n

pub returns-clause-entry : goal.returns-clause-entry
returns-clause-entry c = ap numbered_of (sym (entry_end (asks c.args.asked) c.args.entries.now c.loop-place.place (omega arith)) ∙ c.loop-place.invariant.entry)
