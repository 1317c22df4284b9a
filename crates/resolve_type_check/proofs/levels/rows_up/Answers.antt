use Rattle.std.proofs.Common.{◌≡◌, ◌-◌, ◌+◌, ◌++◌, ℕ, List, [], ◌∷◌, length, flat_map, sym, ap, ◌∙◌, subst, arith}
use Rattle.core_tree.specs.Types.{sig_rows}
use Rattle.resolve_type_check.specs.Levels.{rows_here, sigs_above}
use Rattle.resolve_type_check.specs.Same.{SameRows}
use Rattle.resolve_type_check.proofs.Rising.{with_waiting, first_level, next_level, last_level, none_wait}
use Rattle.resolve_type_check.proofs.levels.rows_up.Goals as goal

pub loop-step-init : goal.loop-step-init
loop-step-init c =
    let sigs = c.args.sigs.now in
    let waits = c.in_ok-push.ensures.items ∙ ap (λ (ws : List ℕ). ws ++ c.args.sig ∷ []) c.new-waiting.ensures.items in
    let whole : length sigs - 0 ≡ length sigs = omega arith in
    subst (λ (n : ℕ). SameRows (with_waiting sigs n c.new-all.result c.push.new.self.items) (sig_rows sigs (length sigs) c.args.sig)) (sym whole) (first_level sigs c.new-all.result c.push.new.self.items c.args.sig (length sigs) c.new-all.ensures waits)

pub loop-step-preserved : goal.loop-step-preserved
loop-step-preserved c =
    let sigs = c.args.sigs.now in
    let n = length sigs - c.loop-step._step in
    let m = length sigs - (c.loop-step._step + 1) in
    let made = subst (λ (ws : List ℕ). c.add_level.new.all ≡ c.loop-step.all ++ flat_map (rows_here sigs) ws) c.deref-in-loop-step.ensures.value c.in_ok-add_level.ensures.rows in
    let ups = subst (λ (ws : List ℕ). c.add_level.new.next.items ≡ c.new-next.result.items ++ flat_map (sigs_above sigs) ws) c.deref-in-loop-step.ensures.value c.in_ok-add_level.ensures.next in
    next_level sigs n m c.loop-step.all c.add_level.new.all (sig_rows sigs (length sigs) c.args.sig) c.loop-step.waiting.items c.add_level.new.next.items c.in_ok-each.each.items (omega arith) made (ups ∙ ap (λ (l : List ℕ). l ++ flat_map (sigs_above sigs) c.loop-step.waiting.items) c.new-next.ensures.items) c.in_ok-each.ensures c.loop-step.invariant

pub returns-then-is_over : goal.returns-then-is_over
returns-then-is_over c =
    let sigs = c.args.sigs.now in
    let none : length c.loop-step.waiting.items ≡ 0 = ap (λ (ws : List ℕ). length ws) (sym c.deref.ensures.value) ∙ c.is_over.ensures c.if-is_over.true in
    none_wait sigs (length sigs - c.loop-step._step) c.loop-step.all (sig_rows sigs (length sigs) c.args.sig) c.loop-step.waiting.items none c.loop-step.invariant

pub returns : goal.returns
returns c =
    let sigs = c.args.sigs.now in
    let over : length sigs - c.loop-step._step ≡ 0 = omega arith in
    last_level sigs (length sigs - c.loop-step._step) c.loop-step.all (sig_rows sigs (length sigs) c.args.sig) c.loop-step.waiting.items over c.loop-step.invariant
