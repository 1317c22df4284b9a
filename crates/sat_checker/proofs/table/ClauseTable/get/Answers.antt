use Rattle.std.proofs.Common.{ℕ, ℤ, List, Some, ap, ◌∙◌}
use Rattle.sat_checker.specs.Table.{found, literals_at}
use Rattle.sat_checker.proofs.Tabling.{found_none, found_some}
use Rattle.sat_checker.proofs.table.ClauseTable.get.Goals as goal

pub returns-in-Some : goal.returns-in-Some
returns-in-Some c =
    ap Some (c.literals_of.ensures ∙ ap (λ (xs : List ℤ). literals_at xs c.in-Some.span.now) c.deref.ensures.value)
    ∙ (found_some c.self.inside.literals.items c.self.inside.spans.entries c.args.id c.in-Some.span.now c.in-Some.ensures.value
    ∙ ap (λ (es : List (ℕ × List ℤ)). found es c.args.id) c.self.view_is)

pub returns-in-None : goal.returns-in-None
returns-in-None c =
    found_none c.self.inside.literals.items c.self.inside.spans.entries c.args.id c.in-None.ensures.value
    ∙ ap (λ (es : List (ℕ × List ℤ)). found es c.args.id) c.self.view_is
