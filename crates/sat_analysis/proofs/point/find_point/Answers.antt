use Rattle.std.proofs.Common.{◌≡◌, ◌-◌, ◌∙◌, ap, length, true, false, rules, arith}
use Rattle.sat_trail.specs.State.{clause_at}
use Rattle.sat_analysis.proofs.Stepping.{back_start, found_none}
use Rattle.sat_analysis.proofs.Taking.{found_step, back_step}
use Rattle.sat_analysis.proofs.point.find_point.Goals as goal

pub back-init : goal.back-init
back-init c = record {
  variables = c.in_ok-note_clause.ensures.variables ∙ c.requires.variables;
  within = omega (arith, ap length c.trail-literals.ensures.trail);
  back =
      back_start c.args.trail.now (c.args.conflict - 1) (length c.trail-literals.result.now) c.args.noted.now.literals c.note_clause.new.noted.literals c.args.places.now.items c.requires.trail (omega (arith, c.requires.conflict.0, c.requires.conflict.1))
      c.requires.attached c.requires.conflict.2 c.requires.none.0 c.requires.none.1 (ap length c.trail-literals.ensures.trail) c.in_ok-note_clause.ensures.taken;
}

pub take_place-requires-clause-trail : goal.take_place-requires-clause-trail
take_place-requires-clause-trail c = (c.requires.trail, c.trail-literals.ensures.trail)

pub take_place-requires-clause-within : goal.take_place-requires-clause-within
take_place-requires-clause-within c = (omega (arith, c.back-test.true, c.base-base.ensures), omega (arith, c.back-test.true, c.back.invariant.within))

pub returns-then-branch-clause-found : goal.returns-then-branch-clause-found
returns-then-branch-clause-found c =
    let yes : c.in_ok-take_place.field-0 ≡ true = search rules in
    found_step c.args.trail.now (clause_at c.args.trail.now (c.args.conflict - 1)) c.back.noted.literals c.take_place.new.noted.literals c.back.places.items c.take_place.new.places.items c.back.place (omega (arith, c.back-test.true, c.base-base.ensures))
    c.back.invariant.within (c.in_ok-take_place.ensures.point yes) (c.in_ok-take_place.ensures.same yes) c.back.invariant.back

pub back-preserved : goal.back-preserved
back-preserved c =
    let no : c.in_ok-take_place.field-0 ≡ false = search rules in
    record {
      variables = c.in_ok-take_place.ensures.variables ∙ c.back.invariant.variables;
      within = omega (arith, c.back.invariant.within);
      back =
          c.in_ok-take_place.ensures.back (clause_at c.args.trail.now (c.args.conflict - 1))
          (back_step c.args.trail.now (clause_at c.args.trail.now (c.args.conflict - 1)) c.back.noted.literals c.back.places.items c.back.place (omega (arith, c.back-test.true)) c.back.invariant.back) no;
    }

pub returns-clause-found : goal.returns-clause-found
returns-clause-found c =
    found_none c.args.trail.now (clause_at c.args.trail.now (c.args.conflict - 1)) c.back.noted.literals c.back.places.items c.back.place (omega (arith, c.back-test.false, c.base-base.ensures)) c.back.invariant.back
