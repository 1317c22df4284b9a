use Rattle.std.proofs.Common.{◌≡◌, ◌-◌, ◌<◌, ◌∙◌, ap, sym, length, get_or, arith}
use Rattle.std.proofs.lemmas.List.{get_or_default}
use Rattle.sat_trail.specs.State.{Search}
use Rattle.sat_trail.proofs.Adding.{clause_literals}
use Rattle.sat_trail.proofs.trail.Trail.clause.Goals as goal

pub returns-clause-literals : goal.returns-clause-literals
returns-clause-literals c =
    let arena = c.self.inside.arena in
    let ends = arena.ends.items in
    let i = c.args.number - 1 in
    let inside : i < length ends = omega (arith, c.requires.number.0, c.requires.number.1, ap (λ (x : Search). length x.ends) c.self.view_is) in
    let last : c.index.result.now ≡ get_or ends i 0 = c.index.ensures ∙ get_or_default ends i c.index.result.now 0 inside in
    let variables : arena.variables ≡ c.args.self.now.variables = ap (λ (x : Search). x.variables) c.self.view_is in
    rw (c.deref.ensures.value, last, c.start.ensures, sym variables) (clause_literals arena.literals.items ends arena.variables i arena.in_order inside)
