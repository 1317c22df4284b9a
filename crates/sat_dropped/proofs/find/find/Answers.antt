use Rattle.std.proofs.Common.{◌≡◌, ◌-◌, ◌<◌, ℕ, pos, length, get_or, rules, arith, below_more, w64, SFits}
use Rattle.std.proofs.lemmas.Int.{to_z-of_z}
use Rattle.sat_trail.specs.State.{clause_at}
use Rattle.sat_dropped.specs.Part.{IsPart, slot_of}
use Rattle.sat_dropped.specs.Entries.{list_at}
use Rattle.sat_dropped.proofs.Filing.{none_in, none_part}
use Rattle.sat_dropped.proofs.find.find.Goals as goal

pub loop-literal-preserved : goal.loop-literal-preserved
loop-literal-preserved c =
    let literals = c.args.literals.now in
    let numbers = c.args.numbers.now in
    let j = c.loop-literal.literal-index in
    let literal_fits : SFits w64 (get_or literals j (pos 0)) = search rules in
    let at : c.slot-list.result ≡ slot_of (get_or literals j (pos 0)) = simp to_z-of_z at c.slot-list.ensures in
    below_more (λ (i : ℕ). (k : ℕ) → k < length (list_at numbers (slot_of (get_or literals i (pos 0)))) → IsPart (clause_at c.args.trail.now (get_or (list_at numbers (slot_of (get_or literals i (pos 0)))) k 0 - 1)) literals → ⊥) j c.loop-literal.invariant
    (none_in c.args.trail.now literals numbers c.numbers_at-its_numbers.result.now c.slot-list.result (slot_of (get_or literals j (pos 0))) c.numbers_at-its_numbers.ensures at c.in-None.ensures.none)

pub returns-clause-none : goal.returns-clause-none
returns-clause-none c = none_part c.args.trail.now c.args.literals.now c.args.signatures.now c.args.numbers.now c.requires.filed (λ j b. c.loop-literal.invariant j (omega (arith, b, c.loop-literal-test.false)))
