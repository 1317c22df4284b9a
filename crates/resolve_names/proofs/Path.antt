-- The steps of the walk over aliases.
use Rattle.std.proofs.Common.{◌≡◌, ◌⊎◌, ℕ, zero, suc, ◌+◌, ◌<◌, ◌==◌, Bool, true, false, not, ◌||◌, List, [], ◌∷◌, ◌++◌, Some, Contains, length, slice_get, slice_set, get_or, take, replicate, refl, sym, ◌∙◌, ap, subst, inl, inr, arith}
use Rattle.std.proofs.lemmas.List.{take_more, length-replicate}
use Rattle.std.proofs.lemmas.List.Elements.{Contains-append_cases, Contains-append_left, Contains-append_right, Contains-push}
use Rattle.std.specs.Str.{bytes_eq}
use Rattle.std.proofs.lemmas.Slice.Eq.{bytes_eq-Decides}
use Rattle.std.proofs.lemmas.Bool.{eqb-true, eq-eqb}
use Rattle.resolve_names.specs.declared.table.Link.{Link}
use Rattle.resolve_names.specs.declared.table.Namespace.{Namespace}
use Rattle.resolve_names.specs.Visible.{HasOpen, IsStep, Follows}
use Rattle.resolve_names.specs.Lookup.{may_follow}
use Rattle.resolve_names.specs.Marks.{IsMarked, MayFollow, LeadsTo, AreOpened, IsAfter, AreFollowed, AreBehind, AreLed}
use Rattle.resolve_names.proofs.Walk.{set_cases, set_here, set_kept, set_length, no_mark}
use Rattle.resolve_names.proofs.Listed.{both, both_back, either, either_back}

-- the test of an open says whether it may be followed
pub may_true : (is_own : Bool) (alias : List ℕ) (o : Link) → may_follow is_own alias o ≡ true → MayFollow is_own alias o
may_true is_own alias o e =
    let parts = both (bytes_eq o.alias alias) (is_own || not o.is_private) e in
    ((bytes_eq-Decides o.alias alias).0 parts.0, either is_own o.is_private parts.1)

pub may_false : (is_own : Bool) (alias : List ℕ) (o : Link) → may_follow is_own alias o ≡ false → MayFollow is_own alias o → ⊥
may_false is_own alias o e (same, own) =
    let all : may_follow is_own alias o ≡ true = both_back (bytes_eq o.alias alias) (is_own || not o.is_private) ((bytes_eq-Decides o.alias alias).1 same) (either_back is_own o.is_private own) in
    cc

none_in : (o : Link) → Contains [] o → ⊥
none_in o c = omega (arith, c.1)

alone : (o p : Link) → Contains (o ∷ []) p → o ≡ p
alone o p (zero, l, e) = e
alone o p (suc k, l, e) = absurd (omega arith)

module _ (is_own : Bool) (alias : List ℕ) where
  pub opened_none : (marks : List Bool) → AreOpened is_own alias [] marks marks
  opened_none marks = record {
    every = refl;
    just = λ j. (λ m. inl m, back j);
  }
    where
      back : (j : ℕ) → IsMarked marks j ⊎ LeadsTo is_own alias [] j → IsMarked marks j
      back j (inl m) = m
      back j (inr (o, c, may, e)) = absurd (none_in o c)

  -- an open that is followed
  pub opened_one : (o : Link) (marks : List Bool) → MayFollow is_own alias o → o.instance < length marks → AreOpened is_own alias (o ∷ []) marks (slice_set marks o.instance true)
  opened_one o marks may lt = record {
    every = set_length marks o.instance;
    just = λ j. (λ m. to j (set_cases marks o.instance j m), back j);
  }
    where
      to : (j : ℕ) → (j ≡ o.instance) ⊎ IsMarked marks j → IsMarked marks j ⊎ LeadsTo is_own alias (o ∷ []) j
      to j (inl e) = inr (o, Contains-push [] o, may, sym e)
      to j (inr m) = inl m

      back : (j : ℕ) → IsMarked marks j ⊎ LeadsTo is_own alias (o ∷ []) j → IsMarked (slice_set marks o.instance true) j
      back j (inl m) = set_kept marks o.instance j m
      back j (inr (p, c, q, e)) = subst (λ (k : ℕ). IsMarked (slice_set marks o.instance true) k) (ap (λ (x : Link). x.instance) (alone o p c) ∙ e) (set_here marks o.instance lt)

  -- one that isn't
  pub opened_not : (o : Link) (marks : List Bool) → (MayFollow is_own alias o → ⊥) → AreOpened is_own alias (o ∷ []) marks marks
  opened_not o marks never = record {
    every = refl;
    just = λ j. (λ m. inl m, back j);
  }
    where
      back : (j : ℕ) → IsMarked marks j ⊎ LeadsTo is_own alias (o ∷ []) j → IsMarked marks j
      back j (inl m) = m
      back j (inr (p, c, q, e)) = absurd (never (subst (λ (x : Link). MayFollow is_own alias x) (sym (alone o p c)) q))

  opened_append : (xs ys : List Link) (a b c : List Bool) → AreOpened is_own alias xs a b → AreOpened is_own alias ys b c → AreOpened is_own alias (xs ++ ys) a c
  opened_append xs ys a b c first second = record {
    every = second.every ∙ first.every;
    just = λ j. (λ m. to j ((second.just j).0 m), back j);
  }
    where
      earlier : (j : ℕ) → IsMarked a j ⊎ LeadsTo is_own alias xs j → IsMarked a j ⊎ LeadsTo is_own alias (xs ++ ys) j
      earlier j (inl m) = inl m
      earlier j (inr (o, k, q, e)) = inr (o, Contains-append_left xs ys o k, q, e)

      to : (j : ℕ) → IsMarked b j ⊎ LeadsTo is_own alias ys j → IsMarked a j ⊎ LeadsTo is_own alias (xs ++ ys) j
      to j (inl m) = earlier j ((first.just j).0 m)
      to j (inr (o, k, q, e)) = inr (o, Contains-append_right xs ys o k, q, e)

      by_part : (j : ℕ) (o : Link) → Contains xs o ⊎ Contains ys o → MayFollow is_own alias o → o.instance ≡ j → IsMarked c j
      by_part j o (inl k) q e = (second.just j).1 (inl ((first.just j).1 (inr (o, k, q, e))))
      by_part j o (inr k) q e = (second.just j).1 (inr (o, k, q, e))

      back : (j : ℕ) → IsMarked a j ⊎ LeadsTo is_own alias (xs ++ ys) j → IsMarked c j
      back j (inl m) = (second.just j).1 (inl ((first.just j).1 (inl m)))
      back j (inr (o, k, q, e)) = by_part j o (Contains-append_cases xs ys o k) q e

  -- one open more
  pub opened_more : (opens : List Link) (old middle new : List Bool) (i : ℕ) (o : Link) → i < length opens → o ≡ get_or opens i o →
      AreOpened is_own alias (take i opens) old middle → AreOpened is_own alias (o ∷ []) middle new → AreOpened is_own alias (take (i + 1) opens) old new
  opened_more opens old middle new i o lt at first second =
      subst (λ (os : List Link). AreOpened is_own alias os old new) (ap (λ (x : Link). take i opens ++ x ∷ []) at ∙ sym (take_more opens i o lt))
      (opened_append (take i opens) (o ∷ []) old middle new first second)

below : (i n : ℕ) → i < n + 1 → (i < n) ⊎ (i ≡ n)
below zero zero lt = inr refl
below zero (suc n) lt = inl (omega arith)
below (suc i) zero lt = absurd (omega arith)
below (suc i) (suc n) lt = elim (below i n (omega arith)) [
  | inl l ↦ inl (omega arith)
  | inr e ↦ inr (ap suc e)
]

inside : {X : Type 0} (xs : List X) (k : ℕ) (x : X) → slice_get xs k ≡ Some x → k < length xs
inside [] k x e = absurd cc
inside (y ∷ xs) zero x e = omega arith
inside (y ∷ xs) (suc k) x e = let less = inside xs k x e in omega arith

module _ (scopes : List Namespace) (from : ℕ) (alias : List ℕ) where
  pub followed_none : (before : List Bool) (n : ℕ) → n ≡ length scopes → AreFollowed scopes from alias before 0 (replicate n false)
  followed_none before n e = record {
    every = length-replicate n false ∙ e;
    just = λ j. (λ m. absurd (no_mark n j m), λ w. absurd (omega (arith, w.2)));
  }

  at_own : (i : ℕ) (is_private : Bool) → ((i == from) ≡ true) ⊎ (is_private ≡ false) → (i ≡ from) ⊎ (is_private ≡ false)
  at_own i is_private (inl e) = inl (eqb-true i from e)
  at_own i is_private (inr e) = inr e

  at_own_back : (i : ℕ) (is_private : Bool) → (i ≡ from) ⊎ (is_private ≡ false) → ((i == from) ≡ true) ⊎ (is_private ≡ false)
  at_own_back i is_private (inl e) = inl (eq-eqb i from e)
  at_own_back i is_private (inr e) = inr e

  -- the opens of one marked instance more
  pub followed_more : (before : List Bool) (n : ℕ) (opens : List Link) (old new : List Bool) → ((o : Link) → Contains opens o → HasOpen scopes n o) → ((o : Link) → HasOpen scopes n o → Contains opens o) →
      IsMarked before n → AreFollowed scopes from alias before n old → AreOpened (n == from) alias opens old new → AreFollowed scopes from alias before (n + 1) new
  followed_more before n opens old new own all marked followed opened = record {
    every = opened.every ∙ followed.every;
    just = λ j. (λ m. to j ((opened.just j).0 m), back j);
  }
    where
      wider : (j : ℕ) → IsAfter scopes from alias before n j → IsAfter scopes from alias before (n + 1) j
      wider j (i, o, lt, b, s, e) = (i, o, omega arith, b, s, e)

      to : (j : ℕ) → IsMarked old j ⊎ LeadsTo (n == from) alias opens j → IsAfter scopes from alias before (n + 1) j
      to j (inl m) = wider j ((followed.just j).0 m)
      to j (inr (o, c, may, e)) = (n, o, omega arith, marked, (own o c, may.0, at_own n o.is_private may.1), e)

      last : (j i : ℕ) (o : Link) → i ≡ n → IsStep scopes from alias i o → o.instance ≡ j → IsMarked new j
      last j i o same s e =
          let step : IsStep scopes from alias n o = subst (λ (k : ℕ). IsStep scopes from alias k o) same s in
          (opened.just j).1 (inr (o, all o step.0, (step.1, at_own_back n o.is_private step.2), e))

      by_place : (j i : ℕ) (o : Link) → (i < n) ⊎ (i ≡ n) → IsMarked before i → IsStep scopes from alias i o → o.instance ≡ j → IsMarked new j
      by_place j i o (inl lt) b s e = (opened.just j).1 (inl ((followed.just j).1 (i, o, lt, b, s, e)))
      by_place j i o (inr same) b s e = last j i o same s e

      back : (j : ℕ) → IsAfter scopes from alias before (n + 1) j → IsMarked new j
      back j (i, o, lt, b, s, e) = by_place j i o (below i n lt) b s e

  -- an instance that wasn't marked
  pub followed_skip : (before : List Bool) (n : ℕ) (marks : List Bool) → (IsMarked before n → ⊥) → AreFollowed scopes from alias before n marks → AreFollowed scopes from alias before (n + 1) marks
  followed_skip before n marks never followed = record {
    every = followed.every;
    just = λ j. (λ m. wider j ((followed.just j).0 m), back j);
  }
    where
      wider : (j : ℕ) → IsAfter scopes from alias before n j → IsAfter scopes from alias before (n + 1) j
      wider j (i, o, lt, b, s, e) = (i, o, omega arith, b, s, e)

      by_place : (j i : ℕ) (o : Link) → (i < n) ⊎ (i ≡ n) → IsMarked before i → IsStep scopes from alias i o → o.instance ≡ j → IsMarked marks j
      by_place j i o (inl lt) b s e = (followed.just j).1 (i, o, lt, b, s, e)
      by_place j i o (inr same) b s e = absurd (never (subst (λ (k : ℕ). IsMarked before k) same b))

      back : (j : ℕ) → IsAfter scopes from alias before (n + 1) j → IsMarked marks j
      back j (i, o, lt, b, s, e) = by_place j i o (below i n lt) b s e

  -- one alias more at the end of a path
  follows_on : (path : List (List ℕ)) (i k j : ℕ) (o : Link) → Follows scopes from i path k → IsStep scopes from alias k o → o.instance ≡ j → Follows scopes from i (path ++ alias ∷ []) j
  follows_on [] i k j o same s e = (o, subst (λ (n : ℕ). IsStep scopes from alias n o) (sym same) s, e)
  follows_on (first ∷ rest) i k j o (p, t, f) s e = (p, t, follows_on rest p.instance k j o f s e)

  follows_back : (path : List (List ℕ)) (i j : ℕ) → Follows scopes from i (path ++ alias ∷ []) j → (k : ℕ) × (o : Link) × Follows scopes from i path k × IsStep scopes from alias k o × (o.instance ≡ j)
  follows_back [] i j (o, s, e) = (i, o, refl, s, e)
  follows_back (first ∷ rest) i j (p, t, f) =
      let later = follows_back rest p.instance j f in
      (later.0, later.1, (p, t, later.2), later.3, later.4)

  behind_on : (path : List (List ℕ)) (before marks : List Bool) → AreBehind scopes from path before → AreFollowed scopes from alias before (length scopes) marks → AreBehind scopes from (path ++ alias ∷ []) marks
  behind_on path before marks behind followed = record { just = λ j. (λ m. to j ((followed.just j).0 m), λ f. back j (follows_back path from j f)) }
    where
      to : (j : ℕ) → IsAfter scopes from alias before (length scopes) j → Follows scopes from from (path ++ alias ∷ []) j
      to j (i, o, lt, b, s, e) = follows_on path from i j o ((behind.just i).0 b) s e

      back : (j : ℕ) → (k : ℕ) × (o : Link) × Follows scopes from from path k × IsStep scopes from alias k o × (o.instance ≡ j) → IsMarked marks j
      back j (k, o, f, s, e) = (followed.just j).1 (k, o, inside scopes k s.0.0 s.0.1, (behind.just k).1 f, s, e)

-- one alias more
pub behind_more : (scopes : List Namespace) (from : ℕ) (path : List (List ℕ)) (i : ℕ) (alias : List ℕ) (before marks : List Bool) → i < length path → alias ≡ get_or path i alias →
    AreBehind scopes from (take i path) before → AreFollowed scopes from alias before (length scopes) marks → AreBehind scopes from (take (i + 1) path) marks
behind_more scopes from path i alias before marks lt at behind followed =
    subst (λ (p : List (List ℕ)). AreBehind scopes from p marks) (ap (λ (x : List ℕ). take i path ++ x ∷ []) at ∙ sym (take_more path i alias lt))
    (behind_on scopes from alias (take i path) before marks behind followed)

pub behind_none : (scopes : List Namespace) (from : ℕ) (marks : List Bool) → AreLed scopes from true [] marks → AreBehind scopes from [] marks
behind_none scopes from marks led = record { just = led.just }

-- behind a path that isn't empty, whether `this` stands before it makes no difference
pub led_behind : (scopes : List Namespace) (from : ℕ) (is_own : Bool) (path : List (List ℕ)) (marks : List Bool) → (path ≡ [] → ⊥) → AreBehind scopes from path marks → AreLed scopes from is_own path marks
led_behind scopes from is_own [] marks never behind = absurd (never refl)
led_behind scopes from true (first ∷ rest) marks never behind = record { just = behind.just }
led_behind scopes from false (first ∷ rest) marks never behind = record { just = behind.just }
