use Rattle.std.proofs.Common.{◌≡◌, ◌+◌, ◌-◌, ◌/◌, ◌∙◌, ap, neg_ℤ, length, arith}
use Rattle.sat_trail.specs.Assignment.{Assignment}
use Rattle.sat_trail.specs.declared.watches.Watches.{Watches}
use Rattle.sat_trail.proofs.Weaving.{IsKept-trans, kept_true}
use Rattle.sat_trail.proofs.Reasoning.{forces_trans}
use Rattle.sat_trail.proofs.watches.Watches.visit.Goals as goal

pub returns-then-not-is_settled-clause-false_clause : goal.returns-then-not-is_settled-clause-false_clause
returns-then-not-is_settled-clause-false_clause c =
    let f = c.in_ok-is_settled.ensures.false_clause c.if-not-is_settled.true in
    let u = c.in_ok-is_settled.ensures.unchanged c.if-not-is_settled.true in
    let here : c.in-Some.node / 2 + 1 - 1 ≡ c.in-Some.node / 2 = omega arith in
    let there = ap (λ (a : Assignment). a.trail) u.1 in
    let watches = ap (λ (w : Watches). w.at.items) u.0 in
    (omega arith, omega (arith, f.0, c.nodes.invariant.woven.two_each), rw (here, watches) f.1, rw (here, there) f.2)

pub nodes-preserved : goal.nodes-preserved
nodes-preserved c =
    let t = c.in_ok-is_settled.ensures.taken c.if-not-is_settled.false in
    let i = c.nodes.invariant in
    record {
      variables = c.take.ensures.variables ∙ i.variables;
      woven = t.woven;
      copied = c.take.ensures.copied;
      kept = IsKept-trans _ _ _ _ _ _ _ _ i.kept t.kept;
      forced = forces_trans _ _ _ _ _ _ i.forced c.take.ensures.forced;
      visited = λ w is_false v. t.visited w (kept_true _ _ _ _ _ _ (neg_ℤ w) i.kept is_false) (i.visited w is_false v);
    }

pub returns-then-not-is_settled-clause-forced : goal.returns-then-not-is_settled-clause-forced
returns-then-not-is_settled-clause-forced c = forces_trans _ _ _ _ _ _ c.nodes.invariant.forced c.take.ensures.forced

pub nodes-smaller : goal.nodes-smaller
nodes-smaller c =
    let t = c.in_ok-is_settled.ensures.taken c.if-not-is_settled.false in
    omega (arith, ap length t.rest, ap length c.in-Some.ensures)

pub returns-in_err-is_settled-clause-forced : goal.returns-in_err-is_settled-clause-forced
returns-in_err-is_settled-clause-forced c = forces_trans _ _ _ _ _ _ c.nodes.invariant.forced c.take.ensures.forced
