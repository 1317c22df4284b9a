use Rattle.std.proofs.Common.{◌∙◌, arith, length, refl}
use Rattle.test_dpll.specs.Path.{steps_of}
use Rattle.test_dpll.specs.Progress.{come_to}
use Rattle.test_dpll.specs.Search.{IsTurned, IsShorter}
use Rattle.test_dpll.proofs.Progressing.{come_to_end}
use Rattle.test_dpll.proofs.Turning.{turn_is_on, less_to_end}
use Rattle.test_dpll.proofs.search.go_back.Goals as goal

pub steps-init : goal.steps-init
steps-init c = record {
  kept = c.requires.kept;
  follows = c.requires.conflict;
  size = refl;
  before = come_to_end (length c.args.path.now.values.items) (steps_of c.args.path.now);
}

pub returns-in-On : goal.returns-in-On
returns-in-On c =
    let back : IsTurned c.args.cnf.now.clauses c.steps.path c.deny_step.new.log c.deny_step.new.path = rw c.in-On.is at c.in_ok-back.ensures in
    turn_is_on c.args.cnf.now.clauses c.args.path.now c.steps.path c.deny_step.new.log c.deny_step.new.path back c.steps.invariant.size c.steps.invariant.before

pub returns-in-Refuted : goal.returns-in-Refuted
returns-in-Refuted c = rw c.in-Refuted.is at c.in_ok-back.ensures

pub steps-preserved : goal.steps-preserved
steps-preserved c =
    let back : IsShorter c.args.cnf.now.clauses c.steps.path c.deny_step.new.log c.deny_step.new.path c.in-More.reason c.in-More.last = rw c.in-More.is at c.in_ok-back.ensures in
    record {
      kept = back.kept;
      follows = back.follows;
      size = back.size ∙ c.steps.invariant.size;
      before = less_to_end (length c.args.path.now.values.items) (come_to (length c.args.path.now.values.items) (steps_of c.args.path.now)) c.steps.path c.deny_step.new.path c.steps.invariant.size c.steps.invariant.before back.ends;
    }

pub steps-smaller : goal.steps-smaller
steps-smaller c =
    let back : IsShorter c.args.cnf.now.clauses c.steps.path c.deny_step.new.log c.deny_step.new.path c.in-More.reason c.in-More.last = rw c.in-More.is at c.in_ok-back.ensures in
    omega (arith, back.shorter)
