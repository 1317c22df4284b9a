-- The sigs of literals are marked, one by one.
use Rattle.std.proofs.Common.{◌≡◌, ◌⊎◌, inl, inr, ◌∙◌, ℕ, ◌+◌, ◌<◌, ◌≤◌, Bool, true, false, List, [], ◌∷◌, ◌++◌, length, take, set, get_or, replicate, Contains, Option, Some, slice_get, refl, sym, ap, subst, arith}
use Rattle.std.proofs.lemmas.Bool.{cases_eq, false≢true}
use Rattle.std.proofs.lemmas.List.{length-set, length-replicate, get_or-set_other, get_or-replicate, take_more, take_all}
use Rattle.std.proofs.lemmas.List.Elements.{Contains-append_left, Contains-push, Contains-push_cases}
use Rattle.std.proofs.lemmas.Option.{get_or_from_slice_get, slice_get-get_or, slice_get_within}
use Rattle.syntax_tree.specs.declared.token.TokenKind.{TokenKind}
use Rattle.syntax_tree.specs.declared.token.TokenKind.TheVariants as kind
use Rattle.syntax_tree.specs.declared.instance.Instance.{Instance}
use Rattle.syntax_tree.specs.declared.instance.Text.{Text}
use Rattle.resolve_names.specs.Gathered.{module_of}
use Rattle.resolve_told_literals.specs.Told.{IsWritten, Writes, quoted}
use Rattle.resolve_told_literals.specs.Marks.{AreFound, AreMarked}

-- what is marked after another mark, and isn't it, was marked before
kept : (marks : List Bool) (n m : ℕ) → slice_get (set marks n true) m ≡ Some true → (m ≡ n → ⊥) → slice_get marks m ≡ Some true
kept marks n m at other =
    let inside : m < length marks = omega (arith, slice_get_within (set marks n true) m true at, length-set marks n true) in
    slice_get-get_or marks m true inside ∙ ap Some (sym (get_or-set_other marks n m true true other) ∙ get_or_from_slice_get (set marks n true) m true true at)

-- the items before the next place
one_more : {X : Type 0} (xs : List X) (i : ℕ) (x : X) → i < length xs → x ≡ get_or xs i x → take (i + 1) xs ≡ take i xs ++ x ∷ []
one_more xs i x inside at = take_more xs i x inside ∙ ap (λ y. take i xs ++ y ∷ []) (sym at)

module _ (find : List ℕ → Option ℕ) where
  -- no literal, no mark
  pub marked_none : (IsLiteral : List ℕ → Type 0) (marks : List Bool) → ((t : List ℕ) → IsLiteral t → ⊥) → AreMarked find IsLiteral marks marks
  marked_none IsLiteral marks none = record {
    count = refl;
    found = λ t it. absurd (none t it);
    only = λ n at. inl at;
  }

  pub marked_one : (text : List ℕ) (n : ℕ) (old new : List Bool) → find (quoted text) ≡ Some n → new ≡ set old n true → AreMarked find (λ (t : List ℕ). text ≡ t) old new
  marked_one text n old new is marked = record {
    count = ap length marked ∙ length-set old n true;
    found = λ t same. (n, ap (λ (x : List ℕ). find (quoted x)) (sym same) ∙ is);
    only = λ m at. by_place m (subst (λ (marks : List Bool). slice_get marks m ≡ Some true) marked at) (cases_eq m n);
  }
    where
      by_place : (m : ℕ) → slice_get (set old n true) m ≡ Some true → (m ≡ n) ⊎ (m ≡ n → ⊥) →
          (slice_get old m ≡ Some true) ⊎ ((t : List ℕ) × (text ≡ t) × (find (quoted t) ≡ Some m))
      by_place m at (inl same) = inr (text, refl, is ∙ ap Some (sym same))
      by_place m at (inr other) = inl (kept old n m at other)

  -- first some literals, then others
  pub marked_both : (V W U : List ℕ → Type 0) (a b c : List Bool) → ((t : List ℕ) → U t → V t ⊎ W t) → ((t : List ℕ) → V t → U t) → ((t : List ℕ) → W t → U t) →
      AreMarked find V a b → AreMarked find W b c → AreMarked find U a c
  marked_both V W U a b c split left right first second = record {
    count = second.count ∙ first.count;
    found = λ t it. elim (split t it) [ inl v ↦ first.found t v | inr w ↦ second.found t w ];
    only = λ n at. elim (second.only n at) [
      | inl before ↦ elim (first.only n before) [ inl older ↦ inl older | inr it ↦ inr (it.0, left it.0 it.1, it.2) ]
      | inr it ↦ inr (it.0, right it.0 it.1, it.2)
    ];
  }

  pub marked_same : (V W : List ℕ → Type 0) (a b : List Bool) → ((t : List ℕ) → V t → W t) → ((t : List ℕ) → W t → V t) → AreMarked find V a b → AreMarked find W a b
  marked_same V W a b to from marked = record {
    count = marked.count;
    found = λ t it. marked.found t (from t it);
    only = λ n at. elim (marked.only n at) [ inl before ↦ inl before | inr it ↦ inr (it.0, to it.0 it.1, it.2) ];
  }

  -- the literals among tokens
  module _ (words : List TokenKind) where
    pub tokens_none : (marks : List Bool) → AreMarked find (λ (t : List ℕ). Contains (take 0 words) (kind.Literal t)) marks marks
    tokens_none marks = marked_none (λ (t : List ℕ). Contains (take 0 words) (kind.Literal t)) marks (λ t it. absurd (omega (arith, it.1)))

    pub tokens_more : (i : ℕ) (w : TokenKind) (a b c : List Bool) → i < length words → w ≡ get_or words i w → AreMarked find (λ (t : List ℕ). Contains (take i words) (kind.Literal t)) a b →
        AreMarked find (λ (t : List ℕ). w ≡ kind.Literal t) b c → AreMarked find (λ (t : List ℕ). Contains (take (i + 1) words) (kind.Literal t)) a c
    tokens_more i w a b c inside at before here =
        let front : take (i + 1) words ≡ take i words ++ w ∷ [] = one_more words i w inside at in
        marked_both (λ (t : List ℕ). Contains (take i words) (kind.Literal t)) (λ (t : List ℕ). w ≡ kind.Literal t) (λ (t : List ℕ). Contains (take (i + 1) words) (kind.Literal t)) a b c
        (λ t it. Contains-push_cases (take i words) w (kind.Literal t) (subst (λ (xs : List TokenKind). Contains xs (kind.Literal t)) front it))
        (λ t it. subst (λ (xs : List TokenKind). Contains xs (kind.Literal t)) (sym front) (Contains-append_left (take i words) (w ∷ []) (kind.Literal t) it))
        (λ t same. subst (λ (xs : List TokenKind). Contains xs (kind.Literal t)) (sym front)
        (subst (λ (x : TokenKind). Contains (take i words ++ w ∷ []) x) same (Contains-push (take i words) w)))
        before here

    pub tokens_all : (i : ℕ) (a b : List Bool) → length words ≤ i → AreMarked find (λ (t : List ℕ). Contains (take i words) (kind.Literal t)) a b →
        AreMarked find (λ (t : List ℕ). Contains words (kind.Literal t)) a b
    tokens_all i a b past marked =
        subst (λ (xs : List TokenKind). AreMarked find (λ (t : List ℕ). Contains xs (kind.Literal t)) a b) (take_all i words past) marked

  -- the literals in the texts of instances
  module _ (texts : List Text) (instances : List Instance) where
    pub instances_none : (marks : List Bool) → AreMarked find (IsWritten texts (take 0 instances)) marks marks
    instances_none marks = marked_none (IsWritten texts (take 0 instances)) marks (λ t it. absurd (omega (arith, it.1.1)))

    pub instances_more : (i : ℕ) (x : Instance) (a b c : List Bool) → i < length instances → x ≡ get_or instances i x → AreMarked find (IsWritten texts (take i instances)) a b →
        AreMarked find (Writes (module_of texts x)) b c → AreMarked find (IsWritten texts (take (i + 1) instances)) a c
    instances_more i x a b c inside at before here =
        let front : take (i + 1) instances ≡ take i instances ++ x ∷ [] = one_more instances i x inside at in
        marked_both (IsWritten texts (take i instances)) (Writes (module_of texts x)) (IsWritten texts (take (i + 1) instances)) a b c
        (λ t it. elim (Contains-push_cases (take i instances) x it.0 (subst (λ (xs : List Instance). Contains xs it.0) front it.1)) [
          | inl sooner ↦ inl (it.0, sooner, it.2)
          | inr same ↦ inr (subst (λ (y : Instance). Writes (module_of texts y) t) (sym same) it.2)
        ])
        (λ t it. (it.0, subst (λ (xs : List Instance). Contains xs it.0) (sym front) (Contains-append_left (take i instances) (x ∷ []) it.0 it.1), it.2))
        (λ t it. (x, subst (λ (xs : List Instance). Contains xs x) (sym front) (Contains-push (take i instances) x), it))
        before here

    pub instances_all : (i : ℕ) (a b : List Bool) → length instances ≤ i → AreMarked find (IsWritten texts (take i instances)) a b → AreMarked find (IsWritten texts instances) a b
    instances_all i a b past marked = subst (λ (xs : List Instance). AreMarked find (IsWritten texts xs) a b) (take_all i instances past) marked

  -- where nothing was marked at first, and each number from one on is now
  pub found_all : (IsLiteral : List ℕ → Type 0) (first count : ℕ) (old new : List Bool) → old ≡ replicate count false → AreMarked find IsLiteral old new →
      ((n : ℕ) → first ≤ n → n < length new → slice_get new n ≡ Some true) → AreFound find IsLiteral first count
  found_all IsLiteral first count old new none marked all = record {
    found = marked.found;
    each = λ n low high. elim (marked.only n (all n low (omega (arith, high, long, marked.count)))) [
      | inl before ↦ absurd (no_mark n high before)
      | inr it ↦ it
    ];
  }
    where
      long : length old ≡ count
      long = ap length none ∙ length-replicate count false

      no_mark : (n : ℕ) → n < count → slice_get old n ≡ Some true → ⊥
      no_mark n high before =
          false≢true (sym (get_or-replicate count n false true high) ∙ ap (λ (xs : List Bool). get_or xs n true) (sym none) ∙ get_or_from_slice_get old n true true before)
