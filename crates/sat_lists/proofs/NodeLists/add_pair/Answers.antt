use Rattle.std.proofs.Common.{◌≡◌, ◌∙◌, List, ℕ, ap, sym, set, take}
use Rattle.sat_lists.specs.Nodes.{rows, row_at, put_on}
use Rattle.sat_lists.proofs.Holding.{cut_back, from_err}
use Rattle.sat_lists.proofs.Walking.{same_seen}
use Rattle.sat_lists.proofs.NodeLists.add_pair.Goals as goal

pub returns-then-is_err-clause-err : goal.returns-then-is_err-clause-err
returns-then-is_err-clause-err c =
    let old = rows c.self.inside.lists.items in
    let one = c.args.one in
    let same = from_err c.push_at-2.result (sym c.if-is_err.true ∙ c.is_err.ensures.value) c.push_at-2.ensures.err in
    let back : rows c.cut_at.new.lists.items ≡ old =
    c.cut_at.ensures ∙ (ap (λ (ls : List (List ℕ)). set ls one (take c.len_at-len.result (row_at ls one))) (same ∙ c.in_ok-push_at.ensures.ok)
    ∙ (ap (λ (n : ℕ). set (put_on old one c.args.node) one (take n (row_at (put_on old one c.args.node) one))) c.len_at-len.ensures ∙ cut_back old one c.args.node)) in
    (same_seen _ _ _ _ _ _ c.args.self.now (c.self.invariant, c.self.view_is) back).1
