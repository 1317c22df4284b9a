-- The numbers of sigs are noted by their labels, one by one.
use Rattle.std.proofs.Common.{◌≡◌, ◌⊎◌, inl, inr, ◌∙◌, ℕ, ◌+◌, ◌<◌, ◌≤◌, Bool, true, false, if◌then◌else◌, List, Option, Some, None, slice_get, refl, sym, ap, subst, arith}
use Rattle.std.specs.Str.{bytes_eq}
use Rattle.std.proofs.lemmas.Bool.{cases_lt}
use Rattle.std.proofs.lemmas.Option.{none-some, same_Some}
use Rattle.std.proofs.lemmas.Slice.Eq.{bytes_eq-Decides}
use Rattle.core_tree.specs.declared.model.Sig.{Sig}
use Rattle.resolve_told_literals.specs.Told.{HasLabel}
use Rattle.resolve_told_literals.specs.Marks.{Finds}

-- at first none is noted
pub finds_none : (sigs : List Sig) (first : ℕ) (find : List ℕ → Option ℕ) → ((q : List ℕ) → find q ≡ None) → Finds sigs first first find
finds_none sigs first find none = record {
  each = λ q n is. absurd (none-some n (sym (none q) ∙ is));
  every = λ n d low high at. absurd (omega (arith, low, high));
}

-- and then one more, whose label wasn't noted before
module _ (sigs : List Sig) (first n : ℕ) (d : Sig) (label : List ℕ) (old new : List ℕ → Option ℕ) where
  pub finds_more : first ≤ n → slice_get sigs n ≡ Some d → label ≡ d.label → old label ≡ None → ((q : List ℕ) → new q ≡ (if bytes_eq label q then Some n else old q)) →
      Finds sigs first n old → Finds sigs first (n + 1) new
  finds_more low at label_is absent put before = record {
    each = λ q m is. found q m is (bytes_eq label q) refl;
    every = λ m c above below there. noted m c above below there (cases_lt m n);
  }
    where
      by_test : (q : List ℕ) (b : Bool) → bytes_eq label q ≡ b → new q ≡ (if b then Some n else old q)
      by_test q b e = put q ∙ ap (λ (x : Bool). if x then Some n else old q) e

      found : (q : List ℕ) (m : ℕ) → new q ≡ Some m → (b : Bool) → bytes_eq label q ≡ b → (first ≤ m) × HasLabel sigs m q
      found q m is true e =
          let same : label ≡ q = (bytes_eq-Decides label q).0 e in
          let here : n ≡ m = same_Some n m (sym (by_test q true e) ∙ is) in
          subst (λ k. (first ≤ k) × HasLabel sigs k q) here (low, (d, at, sym label_is ∙ same))
      found q m is false e = before.each q m (sym (by_test q false e) ∙ is)

      other : (m : ℕ) (c : Sig) → old c.label ≡ Some m → (b : Bool) → bytes_eq label c.label ≡ b → new c.label ≡ Some m
      other m c is true e = absurd (none-some m (sym absent ∙ ap old ((bytes_eq-Decides label c.label).0 e) ∙ is))
      other m c is false e = by_test c.label false e ∙ is

      noted : (m : ℕ) (c : Sig) → first ≤ m → m < n + 1 → slice_get sigs m ≡ Some c → (m < n) ⊎ (n ≤ m) → new c.label ≡ Some m
      noted m c above below there (inl sooner) = other m c (before.every m c above sooner there) (bytes_eq label c.label) refl
      noted m c above below there (inr last) =
          let same : n ≡ m = omega (arith, below, last) in
          let here : d ≡ c = same_Some d c (sym at ∙ ap (slice_get sigs) same ∙ there) in
          let text : label ≡ c.label = label_is ∙ ap (λ (x : Sig). x.label) here in
          by_test c.label true ((bytes_eq-Decides label c.label).1 text) ∙ ap Some same

-- at last all are
pub finds_all : (sigs : List Sig) (first n end : ℕ) (find : List ℕ → Option ℕ) → end ≤ n → Finds sigs first n find → Finds sigs first end find
finds_all sigs first n end find past noted = record {
  each = noted.each;
  every = λ m c above below there. noted.every m c above (omega (arith, below, past)) there;
}
