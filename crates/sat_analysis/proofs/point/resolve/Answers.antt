use Rattle.std.proofs.Common.{ℤ, List, ap, rules, w64, SFits}
use Rattle.std.proofs.lemmas.Int.{to_z-of_z}
use Rattle.sat_trail.specs.Assignment.{value_at}
use Rattle.sat_analysis.proofs.Taking.{resolve_step, resolve_chosen}
use Rattle.sat_analysis.proofs.point.resolve.Goals as goal

pub returns-in_ok-push-in-Some-clause-back : goal.returns-in_ok-push-in-Some-clause-back
returns-in_ok-push-in-Some-clause-back c = λ clause h.
    let literal_fits : SFits w64 (value_at c.args.literals.now c.args.place) = search rules in
    let says = simp to_z-of_z at c.in-Some.ensures.forced in
    resolve_step c.args.trail.now clause c.args.noted.now.literals c.note_clause.new.noted.literals c.args.places.now.items c.push.new.self.items c.args.place c.in-Some.reason (value_at c.args.literals.now c.args.place) c.requires.trail.0
    c.requires.within.0 c.requires.within.1 c.requires.met c.requires.below (ap (λ (xs : List ℤ). value_at xs c.args.place) c.requires.trail.1) says c.in_ok-note_clause-in-Some.ensures.taken c.in_ok-push-in-Some.ensures.items h

pub returns-in-None-clause-back : goal.returns-in-None-clause-back
returns-in-None-clause-back c = λ clause h.
    let literal_fits : SFits w64 (value_at c.args.literals.now c.args.place) = search rules in
    let chosen = simp to_z-of_z at c.in-None.ensures.chosen in
    absurd (resolve_chosen c.args.trail.now c.args.noted.now.literals c.args.place (value_at c.args.literals.now c.args.place) c.requires.trail.0 c.requires.within.0 c.requires.within.1 c.requires.below
    (ap (λ (xs : List ℤ). value_at xs c.args.place) c.requires.trail.1) chosen)
