-- Where a fact is decided at each position and repeats, what temporal operators say of it is decided: later positions are those
-- up to the end of a window, and earlier ones are few.
use Rattle.std.specs.Prelude.{◌≡◌, ◌↔◌, ℕ, ◌+◌, ◌-◌, ◌%◌, ◌<◌, ◌≤◌, max}
use Rattle.std.proofs.Common.{inl, inr, refl, subst, arith}
use Rattle.std.proofs.lemmas.Bool.{cases_lt, cond_below, cond_above}
use Rattle.std.proofs.Math.Nat.{mod-le}
use Rattle.core_tree.specs.declared.operators.TemporalUnary.{TemporalUnary}
use Rattle.core_tree.specs.declared.operators.TemporalUnary.TheVariants.{After, Always, Eventually, Before, Historically, Once}
use Rattle.core_tree.specs.declared.operators.TemporalBinary.{TemporalBinary}
use Rattle.core_tree.specs.declared.operators.TemporalBinary.TheVariants.{Until, Releases, Since, Triggered, Then}
use Rattle.core_tree.specs.Past.{one_more, under_unary, under_binary}
use Rattle.core_meaning.specs.Sequence.{LassoValue, period}
use Rattle.core_meaning.specs.Operators.{Times, SomeLater, SomeEarlier, UntilAt, SinceAt, Happens, HappenBoth}
use Rattle.core_window.specs.Repeats.{uncounted, IsFar, HasLoop, repeats_from, window_end, fold_of}
use Rattle.core_window.proofs.FoldLemmas.{folded, fold_below}
use Rattle.core_window.proofs.SameLemmas.{not_same}
use Rattle.core_window.proofs.ShiftLemmas.{one_more-le, max-le_left, max-le_right}
use Rattle.core_decided.specs.Decided.{IsDecided, IsListed}
use Rattle.core_decided.proofs.Listing.{decided_by, decided_not, decided_both, decided_if, decided_lt, listed_by, listed_below, decided_any, decided_each}

-- the past operators of parts are counted where those of the whole are
pub left_few : (a b : ℕ) → max a b < uncounted → a < uncounted
left_few a b few = let le : a ≤ max a b = max-le_left a b (max a b) (omega arith) in omega arith

pub right_few : (a b : ℕ) → max a b < uncounted → b < uncounted
right_few a b few = let le : b ≤ max a b = max-le_right a b (max a b) (omega arith) in omega arith

more_few : (n : ℕ) → one_more n < uncounted → n < uncounted
more_few n few = let le : n + 1 ≤ one_more n = one_more-le n (one_more n) (omega arith) few in omega arith

pub unary_few : (op : TemporalUnary) (n : ℕ) → under_unary op n < uncounted → n < uncounted
unary_few After n few = few
unary_few Always n few = few
unary_few Eventually n few = few
unary_few Before n few = more_few n few
unary_few Historically n few = more_few n few
unary_few Once n few = more_few n few

pub binary_few : (op : TemporalBinary) (n : ℕ) → under_binary op n < uncounted → n < uncounted
binary_few Until n few = few
binary_few Releases n few = few
binary_few Since n few = more_few n few
binary_few Triggered n few = more_few n few
binary_few Then n few = few

-- Earlier positions.

listed_upto : (i : ℕ) → IsListed (λ (j : ℕ). j ≤ i)
listed_upto i = listed_by (λ j. j < i + 1) (λ j. j ≤ i) (λ j lt. omega arith) (λ j le. omega arith) (listed_below (i + 1))

module _ (F : Times) (d : (i : ℕ) → IsDecided (F i)) where
  decided_earlier : (i : ℕ) → IsDecided (SomeEarlier F i)
  decided_earlier i = decided_any (λ j. j ≤ i) F (listed_upto i) (λ j le. d j)

  decided_since : (G : Times) → ((i : ℕ) → IsDecided (G i)) → (i : ℕ) → IsDecided (SinceAt F G i)
  decided_since G e i =
      decided_by (λ (j, le, b). (j, le, b.0, λ k low high. b.1 k high low)) (λ (j, le, g, fs). (j, le, (g, λ k high low. fs k low high)))
      (decided_any (λ j. j ≤ i) (λ j. G j × ((k : ℕ) → k ≤ i → j < k → F k)) (listed_upto i)
      (λ j le. decided_both (e j) (decided_each (λ k. k ≤ i) (λ k. j < k → F k) (listed_upto i) (λ k high. decided_if (decided_lt j k) (d k)))))

-- Later positions.

module _ (lasso : LassoValue) (some : HasLoop lasso) (h : ℕ) where
  -- the place in the window is no later
  fold_le : (k : ℕ) → fold_of lasso h k ≤ k
  fold_le k = elim (cases_lt k (window_end lasso h)) [
    | inl inside ↦ subst (λ n. n ≤ k) (cond_below k (window_end lasso h) k (repeats_from lasso h + (k - repeats_from lasso h) % period lasso) inside) (omega arith)
    | inr past ↦
        let low : (k - repeats_from lasso h) % period lasso ≤ k - repeats_from lasso h = mod-le (k - repeats_from lasso h) (period lasso) in
        let below : repeats_from lasso h + (k - repeats_from lasso h) % period lasso ≤ k = omega arith in
        subst (λ n. n ≤ k) (cond_above k (window_end lasso h) k _ _ past refl) below
  ]

  abbrev RepeatsThen : Times → Type 0
  RepeatsThen F = (j : ℕ) → IsFar lasso h j → F j ↔ F (j + period lasso)

  folds : (F : Times) → RepeatsThen F → (i k : ℕ) → F (i + fold_of lasso h k) ↔ F (i + k)
  folds F again i k = folded (λ n. F (i + n)) lasso h some (λ n far.
      let e : i + n + period lasso ≡ i + (n + period lasso) = omega arith in
      subst (λ m. F (i + n) ↔ F m) e (again (i + n) (omega arith))) k

  not_then : (F : Times) → RepeatsThen F → RepeatsThen (λ j. ¬ F j)
  not_then F again j far = not_same (again j far)

  -- a later position where it is so has one before the window's end, and so has one up to which another is so
  decided_later : (F : Times) → RepeatsThen F → ((i : ℕ) → IsDecided (F i)) → (i : ℕ) → IsDecided (SomeLater F i)
  decided_later F again d i =
      decided_by
      (λ (k, lt, f). (i + k, omega arith, f))
      (λ (j, le, f).
      let e : j ≡ i + (j - i) = omega arith in
      (fold_of lasso h (j - i), fold_below lasso h (j - i) some, (folds F again i (j - i)).1 (subst F e f)))
      (decided_any (λ k. k < window_end lasso h) (λ k. F (i + k)) (listed_below (window_end lasso h)) (λ k lt. d (i + k)))

  decided_until : (F G : Times) → RepeatsThen G → ((i : ℕ) → IsDecided (F i)) → ((i : ℕ) → IsDecided (G i)) → (i : ℕ) → IsDecided (UntilAt F G i)
  decided_until F G again d e i =
      decided_by
      (λ (k, lt, b). (
        i + k,
        omega arith,
        b.0,
        λ m low high.
            let same : i + (m - i) ≡ m = omega arith in
            subst F same (b.1 (m - i) (omega arith)),
      ))
      (λ (j, le, g, fs).
      let same : j ≡ i + (j - i) = omega arith in
      let short = fold_le (j - i) in
      (fold_of lasso h (j - i), fold_below lasso h (j - i) some, ((folds G again i (j - i)).1 (subst G same g), λ l lt. fs (i + l) (omega arith) (omega arith))))
      (decided_any (λ k. k < window_end lasso h) (λ k. G (i + k) × ((l : ℕ) → l < k → F (i + l))) (listed_below (window_end lasso h))
      (λ k lt. decided_both (e (i + k)) (decided_each (λ l. l < k) (λ l. F (i + l)) (listed_below k) (λ l low. d (i + l)))))

  pub decided_happens : (op : TemporalUnary) (F : Times) → RepeatsThen F → ((i : ℕ) → IsDecided (F i)) → (i : ℕ) → IsDecided (Happens op F i)
  decided_happens After F again d i = d (i + 1)
  decided_happens Always F again d i = decided_not (decided_later (λ j. ¬ F j) (not_then F again) (λ j. decided_not (d j)) i)
  decided_happens Eventually F again d i = decided_later F again d i
  decided_happens Before F again d i = decided_both (decided_lt 0 i) (d (i - 1))
  decided_happens Historically F again d i = decided_not (decided_earlier (λ j. ¬ F j) (λ j. decided_not (d j)) i)
  decided_happens Once F again d i = decided_earlier F d i

  pub decided_happen_both : (op : TemporalBinary) (F G : Times) → RepeatsThen G → ((i : ℕ) → IsDecided (F i)) → ((i : ℕ) → IsDecided (G i)) → (i : ℕ) → IsDecided (HappenBoth op F G i)
  decided_happen_both Until F G again d e i = decided_until F G again d e i
  decided_happen_both Releases F G again d e i = decided_not (decided_until (λ j. ¬ F j) (λ j. ¬ G j) (not_then G again) (λ j. decided_not (d j)) (λ j. decided_not (e j)) i)
  decided_happen_both Since F G again d e i = decided_since F d G e i
  decided_happen_both Triggered F G again d e i = decided_not (decided_since (λ j. ¬ F j) (λ j. decided_not (d j)) (λ j. ¬ G j) (λ j. decided_not (e j)) i)
  decided_happen_both Then F G again d e i = decided_both (d i) (e (i + 1))
