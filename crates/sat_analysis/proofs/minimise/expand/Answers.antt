use Rattle.std.proofs.Common.{◌≡◌, ◌∙◌, true, sym, subst, rules, arith, w64, SFits}
use Rattle.std.proofs.lemmas.Int.{to_z-of_z}
use Rattle.sat_trail.specs.Assignment.{value_at}
use Rattle.sat_analysis.specs.Resolved.{IsSpreadTo}
use Rattle.sat_analysis.proofs.Stepping.{SaysTaken, spread_start, spread_more, spread_all}
use Rattle.sat_analysis.proofs.minimise.expand.Goals as goal

pub loop-place-init : goal.loop-place-init
loop-place-init c =
    let literal_fits : SFits w64 c.args.literal = c.ranges.literal in
    let done : c.in_ok-expand_one.field-0 ≡ true = search rules in
    let taken = simp to_z-of_z at c.in_ok-expand_one.ensures.taken in
    simp to_z-of_z (record {
      variables = c.in_ok-expand_one.ensures.variables ∙ c.requires.variables;
      from = omega (arith, c.len-start.ensures);
      spread =
          subst (IsSpreadTo c.args.trail.now c.args.noted.now.literals c.expand_one.new.noted.literals c.args.literal) (sym c.len-start.ensures)
          (spread_start c.args.trail.now c.args.noted.now.literals c.expand_one.new.noted.literals c.args.literal c.requires.trail c.requires.low c.requires.has c.requires.fails (taken done));
    })

pub returns-then-place-len-clause-spread : goal.returns-then-place-len-clause-spread
returns-then-place-len-clause-spread c = λ e.
    let literal_fits : SFits w64 c.args.literal = c.ranges.literal in
    let spread = simp to_z-of_z at c.loop-place.invariant.spread in
    spread_all c.args.trail.now c.args.noted.now.literals c.loop-place.noted.literals c.args.literal c.loop-place.place (omega (arith, c.if-place-len.true, c.len.ensures)) spread

pub loop-place-preserved : goal.loop-place-preserved
loop-place-preserved c =
    let literal_fits : SFits w64 c.args.literal = c.ranges.literal in
    let next_fits : SFits w64 c.literal-next.result = search rules in
    let done : c.in_ok-expand_one-2.field-0 ≡ true = search rules in
    let spread = simp to_z-of_z at c.loop-place.invariant.spread in
    let taken = simp to_z-of_z at c.in_ok-expand_one-2.ensures.taken in
    let says : SaysTaken c.args.trail.now c.loop-place.noted.literals c.expand_one-in-loop-place.new.noted.literals (value_at c.loop-place.noted.literals c.loop-place.place) =
    subst (SaysTaken c.args.trail.now c.loop-place.noted.literals c.expand_one-in-loop-place.new.noted.literals) c.literal-next.ensures.value (taken done) in
    simp to_z-of_z (record {
      variables = c.in_ok-expand_one-2.ensures.variables ∙ c.loop-place.invariant.variables;
      from = omega (arith, c.loop-place.invariant.from);
      spread =
          spread_more c.args.trail.now c.args.noted.now.literals c.loop-place.noted.literals c.expand_one-in-loop-place.new.noted.literals c.args.literal c.loop-place.place c.requires.trail c.loop-place.invariant.from
          (omega (arith, c.if-place-len.false, c.len.ensures)) says spread;
    })
