use Rattle.std.proofs.Common.{◌≡◌, ◌+◌, ◌-◌, inl, true, false, ◌<◌, ◌∙◌, sym, refl, length, arith, rules, w64, SFits}
use Rattle.std.proofs.lemmas.Int.{to_z-of_z}
use Rattle.std.proofs.lemmas.List.{get_or_default}
use Rattle.std.proofs.lemmas.List.Elements.{Contains-push}
use Rattle.sat_trail.specs.Assignment.{value_at}
use Rattle.sat_trail.specs.Watched.{InClause}
use Rattle.sat_trail.proofs.Reasoning.{forces_none, forces_one}
use Rattle.sat_trail.proofs.propagate.satisfy.Goals as goal

pub returns-then-is_true-clause-holds : goal.returns-then-is_true-clause-holds
returns-then-is_true-clause-holds c =
    let literal_fits : SFits w64 c.literal_at-literal.result = search rules in
    let last = c.index.ensures ∙ get_or_default c.args.arena.now.ends.items c.args.clause c.index.result.now 0 c.requires.in_range in
    let order = c.args.arena.now.in_order.ordered c.args.clause c.requires.in_range in
    let inside : c.start-first.result < length c.args.arena.now.literals.items = omega (arith, last, order, c.start-first.ensures, c.if-first-index.false) in
    let is : c.literal_at-literal.result ≡ value_at c.args.arena.now.literals.items c.start-first.result = c.literal_at-literal.ensures in
    let true_now = simp to_z-of_z at (c.if-is_true.ensures.0 refl) in
    λ _. (c.start-first.result, (omega (arith, c.start-first.ensures), omega (arith, last, order, c.start-first.ensures, c.if-first-index.false)), rw is at true_now)

pub returns-then-is_false-clause-false_clause : goal.returns-then-is_false-clause-false_clause
returns-then-is_false-clause-false_clause c =
    let literal_fits : SFits w64 c.literal_at-literal.result = search rules in
    let last = c.index.ensures ∙ get_or_default c.args.arena.now.ends.items c.args.clause c.index.result.now 0 c.requires.in_range in
    let order = c.args.arena.now.in_order.ordered c.args.clause c.requires.in_range in
    let inside : c.start-first.result < length c.args.arena.now.literals.items = omega (arith, last, order, c.start-first.ensures, c.if-first-index.false) in
    let is : c.literal_at-literal.result ≡ value_at c.args.arena.now.literals.items c.start-first.result = c.literal_at-literal.ensures in
    let in_clause : InClause c.args.arena.now.ends.items c.args.clause c.start-first.result = (omega (arith, c.start-first.ensures), omega (arith, last, order, c.start-first.ensures, c.if-first-index.false)) in
    let false_now = simp to_z-of_z at (c.if-is_false.ensures.0 refl) in
    λ _. λ p h. rw (c.requires.alike p c.start-first.result h in_clause ∙ sym is) false_now

pub returns-clause-holds : goal.returns-clause-holds
returns-clause-holds c =
    let literal_fits : SFits w64 c.literal_at-literal.result = search rules in
    let last = c.index.ensures ∙ get_or_default c.args.arena.now.ends.items c.args.clause c.index.result.now 0 c.requires.in_range in
    let order = c.args.arena.now.in_order.ordered c.args.clause c.requires.in_range in
    let inside : c.start-first.result < length c.args.arena.now.literals.items = omega (arith, last, order, c.start-first.ensures, c.if-first-index.false) in
    let is : c.literal_at-literal.result ≡ value_at c.args.arena.now.literals.items c.start-first.result = c.literal_at-literal.ensures in
    let in_clause : InClause c.args.arena.now.ends.items c.args.clause c.start-first.result = (omega (arith, c.start-first.ensures), omega (arith, last, order, c.start-first.ensures, c.if-first-index.false)) in
    let longer = simp to_z-of_z at c.put.ensures.trail in
    λ _. (c.start-first.result, in_clause, rw (longer, ← is) (Contains-push c.args.assigned.now.trail c.literal_at-literal.result))

pub returns-then-is_true-clause-forced : goal.returns-then-is_true-clause-forced
returns-then-is_true-clause-forced c = forces_none _ _ _ _

pub returns-then-is_false-clause-forced : goal.returns-then-is_false-clause-forced
returns-then-is_false-clause-forced c = forces_none _ _ _ _

pub returns-then-first-index-clause-forced : goal.returns-then-first-index-clause-forced
returns-then-first-index-clause-forced c = forces_none _ _ _ _

pub returns-clause-forced : goal.returns-clause-forced
returns-clause-forced c =
    let literal_fits : SFits w64 c.literal_at-literal.result = search rules in
    let last = c.index.ensures ∙ get_or_default c.args.arena.now.ends.items c.args.clause c.index.result.now 0 c.requires.in_range in
    let order = c.args.arena.now.in_order.ordered c.args.clause c.requires.in_range in
    let inside : c.start-first.result < length c.args.arena.now.literals.items = omega (arith, last, order, c.start-first.ensures, c.if-first-index.false) in
    let is : c.literal_at-literal.result ≡ value_at c.args.arena.now.literals.items c.start-first.result = c.literal_at-literal.ensures in
    let in_clause : InClause c.args.arena.now.ends.items c.args.clause c.start-first.result = (omega (arith, c.start-first.ensures), omega (arith, last, order, c.start-first.ensures, c.if-first-index.false)) in
    let put = simp to_z-of_z at c.put.ensures.put in
    let here : c.args.clause + 1 - 1 ≡ c.args.clause = omega arith in
    let true_now = simp to_z-of_z at c.if-is_true.ensures in
    let false_now = simp to_z-of_z at c.if-is_false.ensures in
    forces_one _ _ _ _ _ _ c.literal_at-literal.result put ((λ h. let bad : false ≡ true = true_now.1 h in cc), (λ h. let bad : false ≡ true = false_now.1 h in cc)) (omega arith, omega arith)
    (c.start-first.result, rw here in_clause, sym is) (λ p i. inl (c.requires.alike p c.start-first.result (rw here at i) in_clause ∙ sym is))
