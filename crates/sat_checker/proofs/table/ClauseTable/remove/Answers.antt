use Rattle.std.proofs.Common.{ℕ, ℤ, List, None, cond, nat_eq, ap, ◌∙◌}
use Rattle.sat_checker.specs.Table.{found}
use Rattle.sat_checker.proofs.Tabling.{removed_found}
use Rattle.sat_checker.proofs.table.ClauseTable.remove.Goals as goal

pub returns : goal.returns
returns c = λ q.
    ap (λ (es : List (ℕ × List ℤ)). found es q) c.compact-self-inside.ensures.same
    ∙ (removed_found c.self.inside.literals.items c.self.inside.spans.entries c.remove.new.self.entries c.args.id c.remove.ensures.updates.0 q
    ∙ ap (λ (es : List (ℕ × List ℤ)). cond (nat_eq c.args.id q) None (found es q)) c.self.view_is)

pub returns-in_default : goal.returns-in_default
returns-in_default c = λ q.
    removed_found c.self.inside.literals.items c.self.inside.spans.entries c.remove.new.self.entries c.args.id c.remove.ensures.updates.0 q
    ∙ ap (λ (es : List (ℕ × List ℤ)). cond (nat_eq c.args.id q) None (found es q)) c.self.view_is
