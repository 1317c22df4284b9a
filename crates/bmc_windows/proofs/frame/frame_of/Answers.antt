use Rattle.std.proofs.Common.{◌≡◌, ◌∙◌, ℕ, suc, ◌+◌, ◌∷◌, [], List, length, length-append, ap, sym, subst, arith}
use Rattle.bmc_windows.specs.declared.frame.Stretch.{Stretch}
use Rattle.bmc_windows.specs.Frames.{IsFrame, window_length, start_of}
use Rattle.bmc_windows.proofs.Adding.{frame_more}
use Rattle.bmc_windows.proofs.frame.frame_of.Goals as goal

pub loop-loop_start-preserved : goal.loop-loop_start-preserved
loop-loop_start-preserved c =
    let before = c.loop-loop_start.invariant in
    let more = c.in_ok-add_window.ensures in
    let states = c.args.states in
    let rounds = c.rounds_for-rounds.result in
    let loop = c.loop-loop_start.loop_start in
    let old = c.loop-loop_start.frame in
    let next : suc loop ≡ loop + 1 = omega arith in
    record {
      states_are = more.states_are ∙ before.states_are;
      count = ap (λ (ss : List Stretch). length ss) more.window.1 ∙ length-append old.windows.items (more.window.0 ∷ []) ∙ ap (λ (k : ℕ). k + 1) before.count;
      each = frame_more states rounds loop old c.add_window.new.frame (sym before.count) before.states_are before.each more;
      long = more.long ∙ ap (λ (k : ℕ). k + window_length old.states rounds loop) before.long
          ∙ ap (λ (n : ℕ). start_of states rounds loop + window_length n rounds loop) before.states_are
          ∙ ap (λ (k : ℕ). start_of states rounds k) next;
      together = more.together;
    }

pub returns : goal.returns
returns c =
    let before = c.loop-loop_start.invariant in
    let rounds = c.rounds_for-rounds.result in
    let over = c.loop-loop_start-test.false in
    let within = c.loop-loop_start.auto.loop_start-end in
    let e : c.loop-loop_start.loop_start ≡ c.args.states = omega (arith, over, within) in
    subst (λ (r : ℕ). IsFrame c.args.states r c.loop-loop_start.frame) c.rounds_for-rounds.ensures (record {
      states_are = before.states_are;
      count = before.count ∙ e;
      each = before.each;
      long = before.long ∙ ap (λ (k : ℕ). start_of c.args.states rounds k) e;
      together = before.together;
    })
