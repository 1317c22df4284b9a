-- One of several choices.
use Rattle.std.proofs.Common.{◌≡◌, ◌↔◌, ℕ, ◌+◌, ◌<◌, Bool, true, false, not, ◌&&◌, if◌then◌else◌, IsTrue, refl, sym, ◌∙◌, ap, inl, inr, arith}
use Rattle.std.proofs.lemmas.Bool.{cases_lt}
use Rattle.gate_temporal.specs.Rows.{IsOnlyOf, IsNoneOf}

-- the value so far, where the choice so far is the one
pub choose_more : (is : ℕ → Bool) (len n k : ℕ) (c a b v : Bool) (m : ℕ → Bool) → IsOnlyOf is len k → n < len → k < n + 1 → c ≡ is n → a ≡ m n → (k < n → b ≡ m k) → v ≡ (if c then a else b) → v ≡ m k
choose_more is len n k true a b v m only inside lt ec ea eb ev =
    let e : n ≡ k = only.others n inside (sym ec) in
    ev ∙ ea ∙ ap m e
choose_more is len n k false a b v m only inside lt ec ea eb ev =
    elim (cases_lt k n) [
      | inl less ↦ ev ∙ eb less
      | inr more ↦
          let e : k ≡ n = omega arith in
          let clash : true ≡ false = sym only.here ∙ ap is e ∙ sym ec in
          absurd cc
    ]

both_true : (a b : Bool) → IsTrue (a && b) ↔ (IsTrue a × IsTrue b)
both_true true b = ((λ e. (refl, e)), (λ p. p.1))
both_true false b = ((λ e. absurd cc), (λ p. let e = p.0 in absurd cc))

pub none_more : (is : ℕ → Bool) (n : ℕ) (c none v : Bool) → c ≡ is n → IsTrue none ↔ IsNoneOf is n → v ≡ (none && not c) → IsTrue v ↔ IsNoneOf is (n + 1)
none_more is n true none v ec h ev = (
  (λ t. let p = (both_true none false).0 (sym ev ∙ t) in let clash = p.1 in absurd cc),
  (λ all. let clash : true ≡ false = ec ∙ all n (omega arith) in absurd cc),
)
none_more is n false none v ec h ev = (
  (λ t j lt.
      let p = (both_true none true).0 (sym ev ∙ t) in
      elim (cases_lt j n) [
        | inl less ↦ h.0 p.0 j less
        | inr more ↦ let e : j ≡ n = omega arith in ap is e ∙ sym ec
      ]),
  (λ all. ev ∙ (both_true none true).1 (h.1 (λ j lt. all j (omega arith)), refl)),
)

not_true : (b : Bool) → (b ≡ true → ⊥) → b ≡ false
not_true true never = absurd (never refl)
not_true false never = refl

pub one_more : (is : ℕ → Bool) (n : ℕ) (c none one v : Bool) → c ≡ is n → IsTrue none ↔ IsNoneOf is n → IsTrue one ↔ ((k : ℕ) × IsOnlyOf is n k) → v ≡ (if c then none else one) → IsTrue v ↔ ((k : ℕ) × IsOnlyOf is (n + 1) k)
one_more is n true none one v ec hn ho ev = (
  (λ t.
      let all = hn.0 (sym ev ∙ t) in (
        n,
        record {
          inside = omega arith;
          here = sym ec;
          others = λ j lt is_true. elim (cases_lt j n) [
            | inl less ↦ let clash : true ≡ false = sym is_true ∙ all j less in absurd cc
            | inr more ↦ omega arith
          ];
        },
      )),
  (λ (k, only).
      let e : n ≡ k = only.others n (omega arith) (sym ec) in
      ev ∙ hn.1 (λ j lt. not_true (is j) (λ t. let same = only.others j (omega arith) t in omega arith))),
)
one_more is n false none one v ec hn ho ev = (
  (λ t.
      let (k, only) = ho.0 (sym ev ∙ t) in (
        k,
        record {
          inside = let l = only.inside in omega arith;
          here = only.here;
          others = λ j lt is_true. elim (cases_lt j n) [
            | inl less ↦ only.others j less is_true
            | inr more ↦
                let e : j ≡ n = omega arith in
                let clash : true ≡ false = sym is_true ∙ ap is e ∙ sym ec in
                absurd cc
          ];
        },
      )),
  (λ (k, only).
      ev ∙ ho.1 (
        k,
        record {
          inside = elim (cases_lt k n) [
            | inl less ↦ less
            | inr more ↦
                let l = only.inside in
                let e : k ≡ n = omega arith in
                let clash : true ≡ false = sym only.here ∙ ap is e ∙ sym ec in
                absurd cc
          ];
          here = only.here;
          others = λ j lt is_true. only.others j (omega arith) is_true;
        },
      )),
)
