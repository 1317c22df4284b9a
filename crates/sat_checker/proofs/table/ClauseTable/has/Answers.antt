use Rattle.std.proofs.Common.{ℕ, ℤ, List, is_some, ap, ◌∙◌}
use Rattle.sat_checker.specs.Table.{found}
use Rattle.sat_checker.proofs.Tabling.{has_found}
use Rattle.sat_checker.proofs.table.ClauseTable.has.Goals as goal

pub returns : goal.returns
returns c =
    c.contains_key.ensures ∙ (has_found c.self.inside.literals.items c.self.inside.spans.entries c.args.id
    ∙ ap (λ (es : List (ℕ × List ℤ)). is_some (found es c.args.id)) c.self.view_is)
