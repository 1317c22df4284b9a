use Rattle.std.proofs.Common.{ℕ, ℤ, List, ◌++◌, Some, cond, nat_eq, ap, ◌∙◌, arith}
use Rattle.sat_checker.specs.Table.{found, entries_of}
use Rattle.sat_checker.proofs.Tabling.{put_found}
use Rattle.sat_checker.proofs.table.ClauseTable.insert.Goals as goal

pub returns-clause-put : goal.returns-clause-put
returns-clause-put c = λ q.
    let ys = c.args.literals.now in
    let literals = c.self.inside.literals in
    ap (λ (zs : List ℤ). found (entries_of zs c.insert.new.self.entries) q) (c.extend_in_room.ensures ∙ ap (λ (zs : List ℤ). zs ++ ys) c.in_ok-reserve.ensures.items)
    ∙ (put_found literals.items ys c.self.inside.spans.entries c.insert.new.self.entries c.args.id _ c.in_ok-insert.ensures.updates.0
    (omega (arith, c.len-first.ensures, literals.ok.0)) (omega (arith, c.len-first.ensures, literals.ok.0)) c.self.invariant q
    ∙ ap (λ (es : List (ℕ × List ℤ)). cond (nat_eq c.args.id q) (Some ys) (found es q)) c.self.view_is)
