use Rattle.std.proofs.Common.{◌∙◌, arith}
use Rattle.sat_trail.proofs.Weaving.{IsKept-trans, kept_watched, longer-length}
use Rattle.sat_trail.proofs.Reasoning.{forces_trans}
use Rattle.sat_trail.proofs.Sounding.{IfOk-none}
use Rattle.sat_trail.proofs.propagate.advance.Goals as goal

pub returns-then-not-is_clear-clause-kept : goal.returns-then-not-is_clear-clause-kept
returns-then-not-is_clear-clause-kept c = IsKept-trans _ _ _ _ _ _ _ _ c.trail.invariant.kept c.turn-found.ensures.kept

pub returns-then-not-is_clear-clause-watched : goal.returns-then-not-is_clear-clause-watched
returns-then-not-is_clear-clause-watched c = kept_watched _ _ _ _ _ _ _ c.trail.invariant.reached c.turn-found.ensures.kept c.trail.invariant.watched

pub trail-preserved : goal.trail-preserved
trail-preserved c =
    let t = c.turn-found.ensures in
    let i = c.trail.invariant in
    let clear = c.is_clear.ensures.clear c.if-not-is_clear.false in
    record {
      variables = t.variables ∙ i.variables;
      woven = t.woven;
      copied = t.copied;
      at_rest = t.at_rest;
      kept = IsKept-trans _ _ _ _ _ _ _ _ i.kept t.kept;
      forced = forces_trans _ _ _ _ _ _ i.forced t.forced;
      reached = omega (arith, c.trail-test.true, c.len.ensures.count, longer-length _ _ t.kept.longer);
      watched = rw clear at t.watched;
    }

pub returns-then-not-is_clear-clause-forced : goal.returns-then-not-is_clear-clause-forced
returns-then-not-is_clear-clause-forced c = forces_trans _ _ _ _ _ _ c.trail.invariant.forced c.turn-found.ensures.forced

pub returns-then-not-is_clear-clause-all : goal.returns-then-not-is_clear-clause-all
returns-then-not-is_clear-clause-all c = IfOk-none _ (λ (bad : ⊥). absurd bad) (c.is_clear.ensures.unclear c.if-not-is_clear.true)
