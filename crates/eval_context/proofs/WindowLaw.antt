-- The window of a setting's lasso.
use Rattle.std.proofs.Common.{◌≡◌, ℕ, ◌+◌, ◌-◌, ◌*◌, ◌^◌, ◌<◌, ◌≤◌, length, sym, ap, ◌∙◌, subst, arith, mul-le-mul_right}
use Rattle.core_meaning.specs.Sequence.{LassoValue}
use Rattle.core_window.specs.declared.Window.{Window}
use Rattle.core_window.proofs.FoldLemmas.{fold_below}
use Rattle.core_window.specs.Windows.{IsOf}
use Rattle.core_window.specs.Repeats.{HasLoop, fold_of, window_end}

module _ (w : Window) (lasso : LassoValue) (states : w.states ≡ length lasso.states) (start : w.loop_start ≡ lasso.loop_start) where
  its : IsOf w lasso
  its = record { states = states; loop_start = start }

  pub place_law : (depth position result : ℕ) → w.depth ≡ depth → ((l : LassoValue) → IsOf w l → result ≡ fold_of l w.depth position) → result ≡ fold_of lasso depth position
  place_law depth position result same h = h lasso its ∙ ap (λ (d : ℕ). fold_of lasso d position) same

  pub end_law : (depth result : ℕ) → w.depth ≡ depth → ((l : LassoValue) → IsOf w l → result ≡ window_end l w.depth) → result ≡ window_end lasso depth
  end_law depth result same h = h lasso its ∙ ap (λ (d : ℕ). window_end lasso d) same

  pub loop_law : w.loop_start < w.states → HasLoop lasso
  loop_law lt = omega arith

pub inside_law : (lasso : LassoValue) (depth position result : ℕ) → HasLoop lasso → result ≡ fold_of lasso depth position → result < window_end lasso depth
inside_law lasso depth position result loops e = subst (λ (n : ℕ). n < window_end lasso depth) (sym e) (fold_below lasso depth position loops)

pub small_law : (s l d n : ℕ) → n ≡ l + (d + 1) * (s - l) → d ≤ 8 → s < 2 ^ 32 → l < s → n < 2 ^ 40
small_law s l d n e few below lt =
    let most : (d + 1) * (s - l) ≤ 9 * (s - l) = mul-le-mul_right (s - l) (omega arith) in
    omega arith
