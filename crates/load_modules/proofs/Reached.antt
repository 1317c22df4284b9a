-- Marks say to which instances opens lead.
use Rattle.std.proofs.Common.{◌≡◌, ◌⊎◌, ℕ, zero, suc, ◌+◌, ◌<◌, Bool, true, false, List, [], ◌∷◌, Some, Contains, length, slice_get, slice_set, replicate, refl, sym, ◌∙◌, ap, subst, inl, inr, arith}
use Rattle.std.proofs.lemmas.Bool.{cases_lt}
use Rattle.std.proofs.lemmas.List.{length-replicate}
use Rattle.syntax_tree.specs.declared.instance.Instance.{Instance}
use Rattle.syntax_tree.specs.declared.instance.Opened.{Opened}
use Rattle.load_modules.specs.Reached.{IsPlain, HasOpen, IsReached, first, AreMarked, AreReached}

-- a mark more, and no other
set_cases : (marks : List Bool) (t j : ℕ) → slice_get (slice_set marks t true) j ≡ Some true → (j ≡ t) ⊎ (slice_get marks j ≡ Some true)
set_cases [] t j h = inr h
set_cases (m ∷ marks) zero zero h = inl refl
set_cases (m ∷ marks) zero (suc j) h = inr h
set_cases (m ∷ marks) (suc t) zero h = inr h
set_cases (m ∷ marks) (suc t) (suc j) h = elim (set_cases marks t j h) [
  | inl e ↦ inl (ap suc e)
  | inr k ↦ inr k
]

set_length : (marks : List Bool) (t : ℕ) → length (slice_set marks t true) ≡ length marks
set_length [] t = refl
set_length (m ∷ marks) zero = refl
set_length (m ∷ marks) (suc t) = ap suc (set_length marks t)

no_mark : (n j : ℕ) → slice_get (replicate n false) j ≡ Some true → ⊥
no_mark zero j e = cc
no_mark (suc n) zero e = cc
no_mark (suc n) (suc j) e = no_mark n j e

-- no argument
nothing : {A : Type 0} (xs : List A) → length xs ≡ 0 → xs ≡ []
nothing [] e = refl
nothing (x ∷ xs) e = absurd (omega (arith, e))

pub is_plain : (number : ℕ) (i : Instance) → i.text ≡ number → length i.arguments ≡ 0 → IsPlain number i
is_plain number i text none = record { text = text; none = nothing i.arguments none }

module _ (instances : List Instance) where
  -- a mark more, at an instance that is reached
  mark_more : (t : ℕ) (marks : List Bool) → IsReached instances t → AreMarked instances marks → AreMarked instances (slice_set marks t true)
  mark_more t marks reached are = record {
    every = set_length marks t ∙ are.every;
    sound = λ j m. sound j (set_cases marks t j m);
  }
    where
      sound : (j : ℕ) → (j ≡ t) ⊎ (slice_get marks j ≡ Some true) → IsReached instances j
      sound j (inl same) = subst (λ (k : ℕ). IsReached instances k) (sym same) reached
      sound j (inr m) = are.sound j m

  pub marked_more : (t : ℕ) (old new : List Bool) → IsReached instances t → AreMarked instances old → new ≡ slice_set old t true → AreMarked instances new
  marked_more t old new reached are is = subst (λ (ms : List Bool). AreMarked instances ms) (sym is) (mark_more t old reached are)

  -- the first mark
  pub first_marked : (count : ℕ) (before after : List Bool) → count ≡ length instances → before ≡ replicate count false → after ≡ slice_set before 0 true → AreMarked instances after
  first_marked count before after all none is =
      marked_more 0 before after first (record {
        every = ap length none ∙ (length-replicate count false ∙ all);
        sound = λ j m. absurd (no_mark count j (subst (λ (ms : List Bool). slice_get ms j ≡ Some true) none m));
      }) is

  pub marked_reached : (number : ℕ) (marks : List Bool) → AreMarked instances marks → slice_get marks number ≡ Some true → IsReached instances number
  marked_reached number marks are is = are.sound number is

  pub own_open : (number : ℕ) (i : Instance) (o : Opened) → slice_get instances number ≡ Some i → Contains i.opens o → HasOpen instances number o
  own_open number i o is has = record { instance = i; numbered = is; has = has }

  pub done_none : (n : ℕ) → n < 0 → IsReached instances n
  done_none n lt = absurd (omega (arith, lt))

  pub done_more : (count : ℕ) → ((n : ℕ) → n < count → IsReached instances n) → IsReached instances count → (n : ℕ) → n < count + 1 → IsReached instances n
  done_more count done now n lt = elim (cases_lt n count) [
    | inl less ↦ done n less
    | inr more ↦ let same : count ≡ n = omega (arith, lt, more) in subst (λ (k : ℕ). IsReached instances k) same now
  ]

  pub all_reached : (root : Instance) → slice_get instances 0 ≡ Some root → IsPlain 0 root → ((n : ℕ) → n < length instances → IsReached instances n) → AreReached instances
  all_reached root is plain all = record { root = root; begins = is; plain = plain; all = all }
