use Rattle.std.proofs.Common.{ℕ, List, ◌≡◌, ◌<◌, ◌≤◌, ◌-◌, ◌*◌, ◌∙◌, IfOk, IfSome, length, ap, sym, subst, neg_ℤ, pos, arith, rules, w64, SFits}
use Rattle.std.proofs.lemmas.Int.{to_z-of_z}
use Rattle.std.specs.List.{Contains}
use Rattle.std.proofs.lemmas.List.Elements.{Contains-get_or}
use Rattle.sat_trail.specs.Literal.{list_of, IsLiteral}
use Rattle.sat_lists.specs.Nodes.{Lists, list_at}
use Rattle.sat_trail.specs.Assignment.{value_at}
use Rattle.sat_trail.specs.Watched.{IsPair, IsFalseIn}
use Rattle.sat_trail.proofs.Assigning.{neg-neg}
use Rattle.sat_trail.proofs.Weaving.{IsWoven-begin, IsVisited-begin, IsWatched-next, list_of-lt}
use Rattle.sat_trail.proofs.Sounding.{IfOk-both}
use Rattle.sat_trail.proofs.propagate.turn.Goals as goal

pub visit-found-requires-clause-woven : goal.visit-found-requires-clause-woven
visit-found-requires-clause-woven c =
    let literal_fits : SFits w64 c.falsified.result = search rules in
    let list = simp to_z-of_z at c.list_of-list.ensures in
    let literal : IsLiteral c.args.arena.now.variables c.falsified.result = subst (λ (n : ℕ). IsLiteral n c.falsified.result) c.requires.variables c.falsified.ensures.literal in
    let l : c.list_of-list.result < 2 * c.args.arena.now.variables = omega (arith, list, list_of-lt c.args.arena.now.variables c.falsified.result literal) in
    IsWoven-begin _ _ _ c.args.watches.now.lists _ _ _ c.requires.woven c.requires.at_rest.0 l c.begin.ensures

pub returns-clause-watched : goal.returns-clause-watched
returns-clause-watched c =
    let literal_fits : SFits w64 c.falsified.result = search rules in
    let e = c.visit-found.ensures in
    let v = c.args.watches.now.lists in
    let trail = c.args.assigned.now.trail in
    let w = neg_ℤ (value_at trail c.args.place) in
    let list : c.list_of-list.result ≡ list_of w = (simp to_z-of_z at c.list_of-list.ensures) ∙ ap list_of c.falsified.ensures.value in
    let before = IsVisited-begin _ _ _ v _ trail w c.requires.woven c.requires.at_rest.0 in
    let loose : c.begin.new.self.loose ≡ list_at v (list_of w) = ap (λ (x : Lists). x.loose) c.begin.ensures ∙ ap (list_at v) list in
    let false_now : Contains trail (neg_ℤ w) = rw (neg-neg (value_at trail c.args.place)) (Contains-get_or trail c.args.place (pos 0) c.requires.in_range) in
    rw c.restore.ensures.at (IfOk-both c.visit-found.result
    (λ none visited. let after = visited w false_now (rw loose before) in
    IsWatched-next _ _ _ _ _ _ c.args.place c.requires.in_range e.kept c.requires.watched (rw none at after))
    e.none_loose e.visited)

pub returns-clause-false_clause : goal.returns-clause-false_clause
returns-clause-false_clause c =
    let literals = c.args.arena.now.literals.items in
    let ends = c.args.arena.now.ends.items in
    let trail = c.visit-found.new.assigned.trail in
    subst (λ (at : List ℕ). IfOk c.visit-found.result (λ o. IfSome o (λ n. (0 < n) × (n ≤ length ends) × IsPair literals ends at (n - 1) × IsFalseIn literals ends trail (n - 1))))
    (sym c.restore.ensures.at) c.visit-found.ensures.false_clause

pub returns-clause-copied : goal.returns-clause-copied
returns-clause-copied c = rw (c.restore.ensures.at, c.restore.ensures.copies) c.visit-found.ensures.copied

pub returns-clause-kept : goal.returns-clause-kept
returns-clause-kept c = rw c.restore.ensures.at c.visit-found.ensures.kept

pub begin-requires-clause-in_range : goal.begin-requires-clause-in_range
begin-requires-clause-in_range c =
    let literal_fits : SFits w64 c.falsified.result = search rules in
    let list = simp to_z-of_z at c.list_of-list.ensures in
    let literal : IsLiteral c.args.arena.now.variables c.falsified.result = subst (λ (n : ℕ). IsLiteral n c.falsified.result) c.requires.variables c.falsified.ensures.literal in
    omega (arith, list, list_of-lt c.args.arena.now.variables c.falsified.result literal, c.requires.woven.count)
