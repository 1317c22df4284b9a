use Rattle.std.proofs.Common.{◌≡◌, ℤ, List, ◌++◌, ◌∷◌, [], ap, length, subst, ◌∙◌, length-append, rules, w64, SFits}
use Rattle.std.proofs.lemmas.Int.{to_z-of_z}
use Rattle.std.specs.List.{All}
use Rattle.sat_trail.specs.Literal.{IsLiteral}
use Rattle.sat_solver.proofs.Searching.{search_opened, full_true}
use Rattle.sat_solver.proofs.round.decide.Goals as goal

pub returns-in-Some-clause-turn : goal.returns-in-Some-clause-turn
returns-in-Some-clause-turn g c = λ formula budget lines state count d h.
    let literal_fits : SFits w64 c.in-Some.literal = search rules in
    let trail : c.assign.new.self.assignment.trail ≡ c.args.trail.now.assignment.trail ++ c.in-Some.literal ∷ [] = simp to_z-of_z at c.assign.ensures.trail in
    search_opened c.args.trail.now c.assign.new.self c.in-Some.literal formula lines state count d c.trail-literals.ensures.reasoned c.trail-literals.ensures.arena c.assign.ensures.clauses.0 c.assign.ensures.clauses.1 c.assign.ensures.clauses.3 c.assign.ensures.clauses.2 c.assign.ensures.limits trail
    c.requires.settled h

pub returns-in-Some-clause-longer : goal.returns-in-Some-clause-longer
returns-in-Some-clause-longer g c = λ on. ap length c.assign.ensures.trail ∙ length-append c.args.trail.now.assignment.trail _

pub returns-in-None-clause-turn : goal.returns-in-None-clause-turn
returns-in-None-clause-turn g c = λ formula budget lines state count d h.
    full_true c.args.trail.now formula c.trail-literals.ensures.arena (subst (λ (xs : List ℤ). All (IsLiteral c.args.trail.now.variables) xs) c.trail-literals.ensures.trail c.trail-literals.ensures.literals) h.held (rw c.in-None.is at c.free_literal.ensures.full) c.requires.settled
