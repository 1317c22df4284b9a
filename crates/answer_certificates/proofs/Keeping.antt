-- The numbers of the facts that are kept.
use Rattle.std.proofs.Common.{◌≡◌, ⊎_elim, ℕ, zero, suc, ◌+◌, ◌<◌, ◌≤◌, Bool, true, false, cond, List, [], ◌∷◌, ◌++◌, length, All, refl, sym, ◌∙◌, subst, append-nil, arith}
use Rattle.std.specs.List.{Contains}
use Rattle.std.specs.List.Sorted.{IsStrictlyIncreasing}
use Rattle.std.proofs.lemmas.Bool.{cases_lt}
use Rattle.std.proofs.lemmas.List.Elements.{Contains-append_left, Contains-push, Contains-push_cases}
use Rattle.answer_certificates.specs.Parts.{is_out, AreLeftOut}
use Rattle.answer_certificates.proofs.Rising.{rises_push, below_push, below_more}

-- of the first so many facts those are kept that aren't left out
pub record IsKeptTo (dropped : List Bool) (n : ℕ) (kept : List ℕ) : Type 0 where
  pub rises : IsStrictlyIncreasing kept
  pub below : All (λ fact. fact < n) kept
  pub each : (fact : ℕ) → fact < n → (Contains kept fact → is_out dropped fact ≡ false) × (is_out dropped fact ≡ false → Contains kept fact)

not_there : (n : ℕ) (kept : List ℕ) → All (λ fact. fact < n) kept → Contains kept n → ⊥
not_there n kept below c = let less = below c.0 n c.1 in let at = c.2 in omega (arith, less, at)

out_more : (dropped : List Bool) (n : ℕ) (kept : List ℕ) → is_out dropped n ≡ true → IsKeptTo dropped n kept → IsKeptTo dropped (n + 1) kept
out_more dropped n kept is h = record {
  rises = h.rises;
  below = below_more kept n h.below;
  each = λ fact b. ⊎_elim
      (λ (low : fact < n). h.each fact low)
      (λ (up : n ≤ fact).
      let same : n ≡ fact = omega (arith, up, b) in
      subst (λ (k : ℕ). (Contains kept k → is_out dropped k ≡ false) × (is_out dropped k ≡ false → Contains kept k)) same
      (λ c. absurd (not_there n kept h.below c), λ e. (let both : true ≡ false = sym is ∙ e in absurd (cc))))
      (cases_lt fact n);
}

in_more : (dropped : List Bool) (n : ℕ) (kept : List ℕ) → is_out dropped n ≡ false → IsKeptTo dropped n kept → IsKeptTo dropped (n + 1) (kept ++ n ∷ [])
in_more dropped n kept is h = record {
  rises = rises_push kept n h.rises h.below;
  below = below_push kept n h.below;
  each = λ fact b. ⊎_elim
      (λ (low : fact < n). (
        λ c. ⊎_elim (λ (old : Contains kept fact). (h.each fact low).0 old) (λ (at : n ≡ fact). absurd (omega (arith, at, low))) (Contains-push_cases kept n fact c),
        λ e. Contains-append_left kept (n ∷ []) fact ((h.each fact low).1 e),
      ))
      (λ (up : n ≤ fact).
      let same : n ≡ fact = omega (arith, up, b) in
      subst (λ (k : ℕ). (Contains (kept ++ n ∷ []) k → is_out dropped k ≡ false) × (is_out dropped k ≡ false → Contains (kept ++ n ∷ []) k)) same (λ c. is, λ e. Contains-push kept n))
      (cases_lt fact n);
}

by_flag : (dropped : List Bool) (n : ℕ) (kept new : List ℕ) (b : Bool) → is_out dropped n ≡ b → new ≡ kept ++ cond b [] (n ∷ []) → IsKeptTo dropped n kept → IsKeptTo dropped (n + 1) new
by_flag dropped n kept new true is e h = subst (IsKeptTo dropped (n + 1)) (sym (e ∙ append-nil kept)) (out_more dropped n kept is h)
by_flag dropped n kept new false is e h = subst (IsKeptTo dropped (n + 1)) (sym e) (in_more dropped n kept is h)

pub kept_more : (dropped : List Bool) (n : ℕ) (kept new : List ℕ) (b : Bool) → b ≡ is_out dropped n → new ≡ kept ++ cond b [] (n ∷ []) → IsKeptTo dropped n kept → IsKeptTo dropped (n + 1) new
kept_more dropped n kept new b is e h = by_flag dropped n kept new b (sym is) e h

pub none_kept : (dropped : List Bool) (kept : List ℕ) → kept ≡ [] → IsKeptTo dropped 0 kept
none_kept dropped kept is = subst (IsKeptTo dropped 0) (sym is) (record {
  rises = λ k lt. absurd (omega (arith, lt));
  below = λ k d lt. absurd (omega (arith, lt));
  each = λ fact b. absurd (omega (arith, b));
})

pub left_out : (dropped : List Bool) (n : ℕ) (kept : List ℕ) → length dropped ≡ n → IsKeptTo dropped n kept → AreLeftOut n kept dropped
left_out dropped n kept count h = record { count = count; each = h.each }

-- some are kept, whichever are left out
pub some_kept : (dropped : List Bool) (n : ℕ) → (kept : List ℕ) × IsKeptTo dropped n kept
some_kept dropped zero = ([], none_kept dropped [] refl)
some_kept dropped (suc n) =
    let (kept, h) = some_kept dropped n in
    let more = kept ++ cond (is_out dropped n) [] (n ∷ []) in
    let next : n + 1 ≡ suc n = omega arith in
    (more, subst (λ (m : ℕ). IsKeptTo dropped m more) next (kept_more dropped n kept more (is_out dropped n) refl refl h))
