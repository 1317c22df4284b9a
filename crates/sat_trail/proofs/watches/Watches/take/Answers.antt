use Rattle.std.proofs.Common.{◌≡◌, ◌+◌, ◌-◌, set, ap, sym, refl, ◌<◌, ◌/◌, ◌∙◌, length, rules, arith, w64, SFits}
use Rattle.std.proofs.lemmas.Int.{to_z-of_z}
use Rattle.sat_lists.specs.Nodes.{Lists}
use Rattle.sat_trail.specs.Literal.{IsLiteral, list_of}
use Rattle.sat_trail.specs.Assignment.{value_at}
use Rattle.sat_trail.proofs.Weaving.{loose_node, loose_has, list_of-lt, sibling_literal, sibling_in_clause, IsWoven-keep, IsWoven-moved, IsTaken-true, IsTaken-moved, IsTaken-forced}
use Rattle.sat_trail.proofs.Reasoning.{forces_none, forces_one}
use Rattle.sat_trail.proofs.Copying.{IsCopied-move}
use Rattle.sat_trail.proofs.watches.Watches.take.Goals as goal

pub inspect-requires-clause-in_range : goal.inspect-requires-clause-in_range
inspect-requires-clause-in_range c =
    let n = loose_node _ _ _ _ _ c.args.node c.args.arena.now.in_order c.requires.woven c.requires.first in
    omega (arith, n.0)

pub put-requires-clause-literal : goal.put-requires-clause-literal
put-requires-clause-literal c =
    let literal_fits : SFits w64 c.in-Forced.literal = search rules in
    let has = loose_has c.args.self.now.lists c.args.node c.requires.first in
    let its = c.requires.woven.loose c.args.node has in
    let found = c.in-Forced.ensures in
    let literal = sibling_literal _ _ _ _ c.args.node c.args.arena.now.in_order (omega (arith, its.0, c.requires.woven.two_each)) its.1 in
    simp to_z-of_z (rw (found.0, c.requires.variables) literal.1)

pub returns-in-False-clause-false_clause : goal.returns-in-False-clause-false_clause
returns-in-False-clause-false_clause c =
    let n = loose_node _ _ _ _ _ c.args.node c.args.arena.now.in_order c.requires.woven c.requires.first in
    λ _. (n.0, (c.requires.woven.loose c.args.node (loose_has c.args.self.now.lists c.args.node c.requires.first)).1, c.in-False.ensures)

pub put-requires-clause-not_true : goal.put-requires-clause-not_true
put-requires-clause-not_true c =
    let literal_fits : SFits w64 c.in-Forced.literal = search rules in
    simp to_z-of_z c.in-Forced.ensures.1

pub inspect-requires-clause-pair : goal.inspect-requires-clause-pair
inspect-requires-clause-pair c = (c.requires.woven.loose c.args.node (loose_has c.args.self.now.lists c.args.node c.requires.first)).1

pub literal_at-literal-requires : goal.literal_at-literal-requires
literal_at-literal-requires c =
    let its = c.requires.woven.loose c.args.node (loose_has c.args.self.now.lists c.args.node c.requires.first) in
    let in_ends : c.args.node / 2 < length c.args.arena.now.ends.items = omega (arith, its.0, c.requires.woven.two_each) in
    omega (arith, c.in-Open.ensures.0.1, (c.args.arena.now.in_order.ordered (c.args.node / 2) in_ends).1, c.args.arena.now.literals.ok.0)

pub put-requires-clause-not_false : goal.put-requires-clause-not_false
put-requires-clause-not_false c =
    let literal_fits : SFits w64 c.in-Forced.literal = search rules in
    simp to_z-of_z c.in-Forced.ensures.2

pub returns-in-True-clause-forced : goal.returns-in-True-clause-forced
returns-in-True-clause-forced c = forces_none _ _ _ _

pub returns-in-False-clause-forced : goal.returns-in-False-clause-forced
returns-in-False-clause-forced c = forces_none _ _ _ _

pub returns-in-Forced-clause-forced : goal.returns-in-Forced-clause-forced
returns-in-Forced-clause-forced c =
    let literal_fits : SFits w64 c.in-Forced.literal = search rules in
    let its = c.requires.woven.loose c.args.node (loose_has c.args.self.now.lists c.args.node c.requires.first) in
    let found = c.in-Forced.ensures in
    let put = simp to_z-of_z at c.put.ensures.put in
    let here : c.args.node / 2 + 1 - 1 ≡ c.args.node / 2 = omega arith in
    let other = sibling_in_clause _ _ _ c.args.node its.1 in
    let in_ends : c.args.node / 2 < length c.args.arena.now.ends.items = omega (arith, its.0, c.requires.woven.two_each) in
    forces_one _ _ _ _ _ _ c.in-Forced.literal put (found.1, found.2) (omega arith, omega arith) (_, rw here other, sym found.0) (λ p i. found.3 p (rw here at i))

pub keep-requires : goal.keep-requires
keep-requires c = omega (arith, ap length c.requires.first)

pub keep-requires-in-Forced : goal.keep-requires-in-Forced
keep-requires-in-Forced c = omega (arith, ap length c.requires.first)

pub list_of-requires : goal.list_of-requires
list_of-requires c =
    let literal_fits : SFits w64 c.literal_at-literal.result = search rules in
    let arena = c.args.arena.now in
    let its = c.requires.woven.loose c.args.node (loose_has c.args.self.now.lists c.args.node c.requires.first) in
    let in_ends : c.args.node / 2 < length arena.ends.items = omega (arith, its.0, c.requires.woven.two_each) in
    let inside : c.in-Open.place < length arena.literals.items = omega (arith, c.in-Open.ensures.0.1, (arena.in_order.ordered (c.args.node / 2) in_ends).1) in
    let is : c.literal_at-literal.result ≡ value_at arena.literals.items c.in-Open.place = c.literal_at-literal.ensures in
    simp to_z-of_z (rw is (arena.in_order.literal c.in-Open.place inside).0)

pub settle-requires-clause-in_range : goal.settle-requires-clause-in_range
settle-requires-clause-in_range c =
    let literal_fits : SFits w64 c.literal_at-literal.result = search rules in
    let arena = c.args.arena.now in
    let its = c.requires.woven.loose c.args.node (loose_has c.args.self.now.lists c.args.node c.requires.first) in
    let in_ends : c.args.node / 2 < length arena.ends.items = omega (arith, its.0, c.requires.woven.two_each) in
    let inside : c.in-Open.place < length arena.literals.items = omega (arith, c.in-Open.ensures.0.1, (arena.in_order.ordered (c.args.node / 2) in_ends).1) in
    let is : c.literal_at-literal.result ≡ value_at arena.literals.items c.in-Open.place = c.literal_at-literal.ensures in
    let literal : IsLiteral arena.variables c.literal_at-literal.result = rw is (arena.in_order.literal c.in-Open.place inside) in
    let list = simp to_z-of_z at c.list_of.ensures in
    omega (arith, list, list_of-lt arena.variables c.literal_at-literal.result literal, c.requires.woven.count)

pub settle-requires-clause-some_loose : goal.settle-requires-clause-some_loose
settle-requires-clause-some_loose c = omega (arith, ap length c.requires.first)

pub returns-in-True-clause-taken : goal.returns-in-True-clause-taken
returns-in-True-clause-taken c =
    let old = c.args.self.now.lists in
    λ _. IsTaken-true _ _ _ _ _ old c.keep.new.self _ c.args.node c.requires.first c.in-True.ensures refl
    (IsWoven-keep _ _ _ old c.keep.new.self _ c.args.node c.args.arena.now.in_order c.requires.woven c.requires.first c.keep.ensures) (ap (λ (x : Lists). x.loose) c.keep.ensures)

pub returns-in_ok-settle-in-Open-clause-taken : goal.returns-in_ok-settle-in-Open-clause-taken
returns-in_ok-settle-in-Open-clause-taken c =
    let literal_fits : SFits w64 c.literal_at-literal.result = search rules in
    let arena = c.args.arena.now in
    let old = c.args.self.now.lists in
    let has = loose_has old c.args.node c.requires.first in
    let its = c.requires.woven.loose c.args.node has in
    let found = c.in-Open.ensures in
    let in_ends : c.args.node / 2 < length arena.ends.items = omega (arith, its.0, c.requires.woven.two_each) in
    let inside : c.in-Open.place < length arena.literals.items = omega (arith, found.0.1, (arena.in_order.ordered (c.args.node / 2) in_ends).1) in
    let is : c.literal_at-literal.result ≡ value_at arena.literals.items c.in-Open.place = c.literal_at-literal.ensures in
    let list = (simp to_z-of_z at c.list_of.ensures) ∙ ap list_of is in
    let settled = c.in_ok-settle-in-Open.ensures.ok in
    λ _. IsTaken-moved _ _ _ _ _ old c.settle.new.self _ c.args.node c.in-Open.place c.requires.first (record { in_range = its.0; pair = its.1; in_clause = found.0; different = found.1 }) found.2 refl
    (IsWoven-moved _ _ _ _ old c.settle.new.self _ c.args.node c.in-Open.place _ arena.in_order c.requires.woven c.requires.first (record { in_range = its.0; pair = its.1; in_clause = found.0; different = found.1 }) list refl settled)
    (ap (λ (x : Lists). x.loose) settled)

pub returns-in-Forced-clause-taken : goal.returns-in-Forced-clause-taken
returns-in-Forced-clause-taken c =
    let literal_fits : SFits w64 c.in-Forced.literal = search rules in
    let old = c.args.self.now.lists in
    let has = loose_has old c.args.node c.requires.first in
    let its = c.requires.woven.loose c.args.node has in
    let found = c.in-Forced.ensures in
    let longer = simp to_z-of_z at c.put.ensures.trail in
    let kept = c.keep-in-Forced.ensures in
    λ _. IsTaken-forced _ _ _ _ _ _ c.in-Forced.literal old c.keep-in-Forced.new.self _ c.args.node c.requires.first its.1 found.0 longer refl
    (IsWoven-keep _ _ _ old c.keep-in-Forced.new.self _ c.args.node c.args.arena.now.in_order c.requires.woven c.requires.first kept) (ap (λ (x : Lists). x.loose) kept)

pub returns-in_ok-settle-in-Open-clause-copied : goal.returns-in_ok-settle-in-Open-clause-copied
returns-in_ok-settle-in-Open-clause-copied c =
    let literal_fits : SFits w64 c.literal_at-literal.result = search rules in
    let its = c.requires.woven.loose c.args.node (loose_has c.args.self.now.lists c.args.node c.requires.first) in
    let found = c.in-Open.ensures in
    let in_ends : c.args.node / 2 < length c.args.arena.now.ends.items = omega (arith, its.0, c.requires.woven.two_each) in
    let inside : c.in-Open.place < length c.args.arena.now.literals.items = omega (arith, found.0.1, (c.args.arena.now.in_order.ordered (c.args.node / 2) in_ends).1) in
    let written : c.write_literal.new.literals.items ≡ set c.args.self.now.copies.items c.args.node c.literal_at-literal.result = simp to_z-of_z at c.write_literal.ensures in
    rw written (IsCopied-move _ _ _ _ _ c.in-Open.place c.literal_at-literal.result c.requires.copied (record { in_range = its.0; pair = its.1; in_clause = found.0; different = found.1 }) (c.literal_at-literal.ensures))

pub returns-in_ok-settle-in-Open-clause-forced : goal.returns-in_ok-settle-in-Open-clause-forced
returns-in_ok-settle-in-Open-clause-forced c = forces_none _ _ _ _

pub returns-in_err-settle-in-Open-clause-forced : goal.returns-in_err-settle-in-Open-clause-forced
returns-in_err-settle-in-Open-clause-forced c = forces_none _ _ _ _
