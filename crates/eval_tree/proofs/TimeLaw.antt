-- What walks over positions have seen, and when they may stop.
use Rattle.std.proofs.Common.{◌≡◌, ◌⊎◌, ◌↔◌, ℕ, zero, suc, ◌+◌, ◌-◌, ◌<◌, ◌≤◌, sym, subst, inl, inr, arith, Bool, true, false, IsTrue}
use Rattle.std.proofs.lemmas.Bool.{cases_lt}
use Rattle.core_meaning.specs.Operators.{Times, UntilAt, SinceAt}
use Rattle.core_window.proofs.SameLemmas.{not_same}
use Rattle.eval_steps.specs.Judged.{Says, IsLimit}
use Rattle.eval_tree.proofs.FoundLemmas.{true_holds, false_fails}

-- at the positions from i to before j the first holds and the second doesn't
abbrev pub Passed : Times → Times → ℕ → ℕ → Type 0
Passed F G i j = (k : ℕ) → i ≤ k → k < j → F k × (G k → ⊥)

pub says_limit : (sense : Bool) (G : Times) (i end : ℕ) → IsLimit G i end → IsLimit (λ j. Says sense (G j)) i end
says_limit true G i end h = h
says_limit false G i end (m, p, some, late, far, again) = (m, p, some, late, far, λ k le. not_same (again k le))

module _ (F G : Times) (i : ℕ) where
  pub none_passed : Passed F G i i
  none_passed k low high = absurd (omega arith)

  pub until_more : (j : ℕ) → Passed F G i j → F j → (G j → ⊥) → Passed F G i (j + 1)
  until_more j passed f g k low high = elim (cases_lt k j) [
    | inl before ↦ passed k low before
    | inr at ↦ let e : j ≡ k = omega arith in (subst F e f, (λ x. g (subst G (sym e) x)))
  ]

  pub until_here : (j : ℕ) → i ≤ j → Passed F G i j → G j → IsTrue true ↔ UntilAt F G i
  until_here j le passed g = true_holds (j, le, g, λ k low high. (passed k low high).0)

  pub until_stops : (j : ℕ) → i ≤ j → Passed F G i j → (F j → ⊥) → (G j → ⊥) → IsTrue false ↔ UntilAt F G i
  until_stops j le passed f g = false_fails (λ (n, low, at, before). elim (cases_lt n j) [
    | inl sooner ↦ (passed n low sooner).1 at
    | inr later ↦ elim (cases_lt j n) [
      | inl strictly ↦ f (before j le strictly)
      | inr here ↦ let e : n ≡ j = omega arith in g (subst G e at)
    ]
  ])

  -- a witness is found within one round of where the truth repeats
  near : (p m end : ℕ) → 0 < p → i + p ≤ end → m + p ≤ end → ((k : ℕ) → m ≤ k → G k ↔ G (k + p)) → (fuel n : ℕ) → n ≤ fuel → i ≤ n → G n → ((k : ℕ) → i ≤ k → k < n → F k) → (j : ℕ) × (i ≤ j) × (j < end) × G j × ((k : ℕ) → i ≤ k → k < j → F k)
  near p m end some late far again zero n le low at before = (n, low, omega arith, at, before)
  near p m end some late far again (suc fuel) n le low at before = elim (cases_lt n end) [
    | inl close ↦ (n, low, close, at, before)
    | inr beyond ↦
        let back : n ≡ n - p + p = omega arith in
        near p m end some late far again fuel (n - p) (omega arith) (omega arith) ((again (n - p) (omega arith)).1 (subst G back at)) (λ k low high. before k low (omega arith))
  ]

  pub until_ends : (end j : ℕ) → IsLimit G i end → end ≤ j → Passed F G i j → IsTrue false ↔ UntilAt F G i
  until_ends end j (m, p, some, late, far, again) over passed = false_fails (λ (n, low, at, before).
      let (j', low', high', at', before') = near p m end some late far again n n (omega arith) low at before in
      (passed j' low' (omega arith)).1 at')

  pub since_here : G i → IsTrue true ↔ SinceAt F G i
  since_here g = true_holds (i, omega arith, g, λ k low high. absurd (omega arith))

  -- where the second doesn't hold here, it holds earlier and the first here
  pub since_stops : (G i → ⊥) → (i ≡ 0) ⊎ (F i → ⊥) → IsTrue false ↔ SinceAt F G i
  since_stops g stop = false_fails (λ (n, high, at, after). elim (cases_lt n i) [
    | inl sooner ↦ elim stop [ inl first ↦ omega arith | inr f ↦ f (after i sooner (omega arith)) ]
    | inr here ↦ let e : n ≡ i = omega arith in g (subst G e at)
  ])

  pub since_back : 0 < i → F i → (G i → ⊥) → SinceAt F G (i - 1) ↔ SinceAt F G i
  since_back some f g = (
    (λ (n, high, at, after). (n, omega arith, at, λ k low up. elim (cases_lt k i) [ inl below ↦ after k low (omega arith) | inr here ↦ let e : i ≡ k = omega arith in subst F e f ])),
    (λ (n, high, at, after). elim (cases_lt n i) [
      | inl sooner ↦ (n, omega arith, at, λ k low up. after k low (omega arith))
      | inr here ↦ let e : n ≡ i = omega arith in absurd (g (subst G e at))
    ]),
  )
