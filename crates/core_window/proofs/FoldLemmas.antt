-- The window: finitely many positions that show the truth at every position.
use Rattle.std.specs.Prelude.{◌≡◌, ◌↔◌, ℕ, zero, suc, ◌+◌, ◌-◌, ◌*◌, ◌/◌, ◌%◌, ◌<◌, ◌≤◌}
use Rattle.std.proofs.Common.{inl, inr, refl, sym, subst, arith}
use Rattle.std.proofs.lemmas.Bool.{cases_lt, cond_below, cond_above}
use Rattle.std.proofs.Math.Nat.{suc-mul, mod-lt, mod-add-div'}
use Rattle.core_tree.specs.Trees.{Term, Claim}
use Rattle.core_tree.specs.Past.{Depths, BodyDepths, past_in, past_of}
use Rattle.core_meaning.specs.Sequence.{LassoValue, period}
use Rattle.core_meaning.specs.World.{World}
use Rattle.core_meaning.specs.Meaning.{Names, Bodies, InTerm, Holds}
use Rattle.core_window.proofs.WindowLemmas.{term_again, holds_again}
use Rattle.core_window.specs.Repeats.{SameTuples, uncounted, IsFar, HasLoop, RepeatNames, RepeatBodies, repeats_from, window_end, fold_of}

-- what repeats after each round from m on
rounds : (P : ℕ → Type 0) (p m : ℕ) → ((i : ℕ) → m ≤ i → P i ↔ P (i + p)) → (n i : ℕ) → m ≤ i → P i ↔ P (i + n * p)
rounds P p m again zero i far = let e : i ≡ i + 0 * p = omega arith in (subst P e, subst P (sym e))
rounds P p m again (suc n) i far =
    let more = rounds P p m again n i far in
    let once = again (i + n * p) (omega arith) in
    let e : i + n * p + p ≡ i + suc n * p = rw suc-mul (omega arith) in
    ((λ x. subst P e (once.0 (more.0 x))), (λ x. more.1 (once.1 (subst P (sym e) x))))

rounded : (m p i : ℕ) → m ≤ i → m + (i - m) % p + (i - m) / p * p ≡ i
rounded m p i h = omega (arith, mod-add-div' (i - m) p)

-- the truth at a position and at its place in the window
pub folded : (P : ℕ → Type 0) (lasso : LassoValue) (h : ℕ) → HasLoop lasso → ((i : ℕ) → IsFar lasso h i → P i ↔ P (i + period lasso)) → (i : ℕ) → P (fold_of lasso h i) ↔ P i
folded P lasso h some again i =
    elim (cases_lt i (window_end lasso h)) [
      | inl inside ↦ let e = cond_below i (window_end lasso h) i (repeats_from lasso h + (i - repeats_from lasso h) % period lasso) inside in (subst P (sym e), subst P e)
      | inr past ↦
          let e = cond_above i (window_end lasso h) i (repeats_from lasso h + (i - repeats_from lasso h) % period lasso) _ past refl in
          let n : ℕ = (i - repeats_from lasso h) / period lasso in
          let same = rounds P (period lasso) (repeats_from lasso h) again n (repeats_from lasso h + (i - repeats_from lasso h) % period lasso) (omega arith) in
          let whole : repeats_from lasso h + (i - repeats_from lasso h) % period lasso + n * period lasso ≡ i = rounded (repeats_from lasso h) (period lasso) i (omega arith) in
          ((λ x. subst P whole (same.0 (subst P (sym e) x))), (λ x. subst P e (same.1 (subst P (sym whole) x))))
    ]

pub fold_below : (lasso : LassoValue) (h i : ℕ) → HasLoop lasso → fold_of lasso h i < window_end lasso h
fold_below lasso h i some =
    elim (cases_lt i (window_end lasso h)) [
      | inl inside ↦ subst (λ k. k < window_end lasso h) (cond_below i (window_end lasso h) i _ inside) inside
      | inr past ↦
          let low : (i - repeats_from lasso h) % period lasso < period lasso = mod-lt (i - repeats_from lasso h) (omega arith) in
          let below : repeats_from lasso h + (i - repeats_from lasso h) % period lasso < window_end lasso h = omega arith in
          subst (λ k. k < window_end lasso h) (cond_above i (window_end lasso h) i _ _ past refl) below
    ]

module _ (w : World) (some : HasLoop w.lasso) (bodies : Bodies) (depths : BodyDepths) (bodies_repeat : RepeatBodies w some bodies depths) where
  pub holds_folded : (f : Claim) (names : Names) (d : Depths) → RepeatNames w some names d → (h : ℕ) → past_of depths f d ≤ h → h < uncounted → (i : ℕ) → Holds w bodies f names (fold_of w.lasso h i) ↔ Holds w bodies f names i
  holds_folded f names d again h le few i = folded (λ j. Holds w bodies f names j) w.lasso h some (λ j far. holds_again w some bodies depths bodies_repeat f names d again h j le few far) i

  pub term_folded : (e : Term) (names : Names) (d : Depths) → RepeatNames w some names d → (h : ℕ) → past_in depths e d ≤ h → h < uncounted → (i : ℕ) → SameTuples (InTerm w bodies e names (fold_of w.lasso h i)) (InTerm w bodies e names i)
  term_folded e names d again h le few i t = folded (λ j. InTerm w bodies e names j t) w.lasso h some (λ j far. term_again w some bodies depths bodies_repeat e names d again h j le few far t) i
