use Rattle.std.proofs.Common.{ℕ, List, ◌≡◌, ◌-◌, ◌++◌, ◌∷◌, [], length, arith, ap, sym, ◌∙◌, subst, ◌≤◌}
use Rattle.bound_uppers.specs.Levels.{IsUp, Rises}
use Rattle.bound_uppers.proofs.Rising.{begins, goes_on, empty_kept, all_kept}
use Rattle.bound_uppers.proofs.kinds.sig_kinds.Goals as goal

pub loop-step-init : goal.loop-step-init
loop-step-init c =
    let n = length c.args.sigs.now in
    let waits = c.in_ok-push.ensures.items ∙ ap (λ (ws : List ℕ). ws ++ c.args.sig ∷ []) c.new-waiting.ensures.items in
    subst (λ (rows : List (List ℕ)). Rises c.args.sigs.now c.args.ups.now n c.args.sig (n - 0) rows c.push.new.self.items) (sym c.new-rows.ensures.items) (begins c.args.sigs.now c.args.ups.now n c.args.sig c.push.new.self.items waits)

pub loop-step-preserved : goal.loop-step-preserved
loop-step-preserved c =
    let up = subst (λ (ws : List ℕ). IsUp c.args.sigs.now c.args.ups.now c.loop-step.rows.items ws c.level.new.rows.items c.in_ok-next.next.items) c.deref-in-loop-step.ensures.value c.in_ok-next.ensures in
    goes_on c.args.sigs.now c.args.ups.now (length c.args.sigs.now) c.args.sig c.loop-step._step c.loop-step.rows.items c.level.new.rows.items c.loop-step.waiting.items c.in_ok-next.next.items c.in_ok-each.each.items (omega arith) c.loop-step.invariant up c.in_ok-each.ensures

pub returns-then-is_over-clause-rows : goal.returns-then-is_over-clause-rows
returns-then-is_over-clause-rows c =
    let n = length c.args.sigs.now in
    let none : length c.loop-step.waiting.items ≡ 0 = ap (λ (ws : List ℕ). length ws) (sym c.deref.ensures.value) ∙ c.is_over.ensures.0 c.if-is_over.true in
    empty_kept c.args.sigs.now c.args.ups.now n c.args.sig (n - c.loop-step._step) c.loop-step.rows.items c.in_ok-early.early.items c.loop-step.waiting.items none c.loop-step.invariant c.in_ok-early.ensures.rows

pub returns-clause-rows : goal.returns-clause-rows
returns-clause-rows c =
    let over : length c.args.sigs.now ≤ c.loop-step._step = omega arith in
    all_kept c.args.sigs.now c.args.ups.now (length c.args.sigs.now) c.args.sig c.loop-step._step c.loop-step.rows.items c.in_ok-kept.kept.items c.loop-step.waiting.items over c.loop-step.invariant c.in_ok-kept.ensures.rows
