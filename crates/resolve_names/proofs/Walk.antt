-- The steps of the walk over opens.
use Rattle.std.proofs.Common.{◌≡◌, ◌⊎◌, ℕ, zero, suc, ◌+◌, ◌<◌, Bool, true, false, List, [], ◌∷◌, ◌++◌, Some, Contains, length, slice_get, slice_set, get_or, take, replicate, if◌then◌else◌, refl, sym, ◌∙◌, ap, subst, inl, inr, arith}
use Rattle.std.proofs.lemmas.List.{take_more}
use Rattle.std.proofs.lemmas.List.Elements.{Contains-append_cases}
use Rattle.std.proofs.lemmas.List.{length-replicate}
use Rattle.resolve_names.specs.declared.table.Link.{Link}
use Rattle.resolve_names.specs.declared.table.Namespace.{Namespace}
use Rattle.resolve_names.specs.Visible.{HasOpen, Passes, here, further, Reaches, own, through}
use Rattle.resolve_names.specs.Marks.{IsMarked, IsLinked, IsNext, IsClosed, IsBegun, AreReached, AreLed}

-- a mark more, and no other
pub set_cases : (marks : List Bool) (t j : ℕ) → IsMarked (slice_set marks t true) j → (j ≡ t) ⊎ IsMarked marks j
set_cases [] t j h = inr h
set_cases (m ∷ marks) zero zero h = inl refl
set_cases (m ∷ marks) zero (suc j) h = inr h
set_cases (m ∷ marks) (suc t) zero h = inr h
set_cases (m ∷ marks) (suc t) (suc j) h = elim (set_cases marks t j h) [
  | inl e ↦ inl (ap suc e)
  | inr k ↦ inr k
]

pub set_here : (marks : List Bool) (t : ℕ) → t < length marks → IsMarked (slice_set marks t true) t
set_here [] t lt = absurd (omega arith)
set_here (m ∷ marks) zero lt = refl
set_here (m ∷ marks) (suc t) lt = set_here marks t (omega arith)

pub set_kept : (marks : List Bool) (t j : ℕ) → IsMarked marks j → IsMarked (slice_set marks t true) j
set_kept [] t j h = h
set_kept (m ∷ marks) zero zero h = refl
set_kept (m ∷ marks) zero (suc j) h = h
set_kept (m ∷ marks) (suc t) zero h = h
set_kept (m ∷ marks) (suc t) (suc j) h = set_kept marks t j h

pub set_length : (marks : List Bool) (t : ℕ) → length (slice_set marks t true) ≡ length marks
set_length [] t = refl
set_length (m ∷ marks) zero = refl
set_length (m ∷ marks) (suc t) = ap suc (set_length marks t)

module _ (scopes : List Namespace) where
  -- what is reached reaches on by an open that isn't private
  reaches_on : (i j : ℕ) (o : Link) → Reaches scopes i j → HasOpen scopes j o → o.is_private ≡ false → Reaches scopes i o.instance
  reaches_on i j o own h e = through h here
  reaches_on i j o (through first p) h e = through first (further p h e)

  -- a mark at the next instance keeps what is said of the marks
  pub begun_next : (from : ℕ) (opens : List Link) (marks : List Bool) (t : ℕ) → IsBegun scopes from opens marks → IsNext scopes marks t → IsBegun scopes from opens (slice_set marks t true)
  begun_next from opens marks t begun (j, o, h, marked, public, leads, free) = record {
    every = set_length marks t ∙ begun.every;
    sound = λ k m. sound k (set_cases marks t k m);
    own = set_kept marks t from begun.own;
    seeds = λ s c. set_kept marks t s.instance (begun.seeds s c);
  }
    where
      sound : (k : ℕ) → (k ≡ t) ⊎ IsMarked marks k → Reaches scopes from k
      sound k (inl e) = subst (λ (n : ℕ). Reaches scopes from n) (leads ∙ sym e) (reaches_on from j o (begun.sound j marked) h public)
      sound k (inr m) = begun.sound k m

  some_mark : (marks : List Bool) (k : ℕ) → k < length marks → (slice_get marks k ≡ Some true) ⊎ (slice_get marks k ≡ Some false)
  some_mark [] k lt = absurd (omega arith)
  some_mark (true ∷ marks) zero lt = inl refl
  some_mark (false ∷ marks) zero lt = inr refl
  some_mark (m ∷ marks) (suc k) lt = some_mark marks k (omega arith)

  -- what a marked instance passes to is marked, once nothing is next
  passed_marked : (marks : List Bool) → length marks ≡ length scopes → IsLinked scopes → IsClosed scopes marks → (i j : ℕ) → Passes scopes i j → IsMarked marks i → IsMarked marks j
  passed_marked marks every linked closed i j here m = m
  passed_marked marks every linked closed i j (further {j = k} {o = o} p h public) m =
      let before = passed_marked marks every linked closed i k p m in
      elim (some_mark marks o.instance (subst (λ (n : ℕ). o.instance < n) (sym every) (linked k o h))) [
        | inl marked ↦ marked
        | inr free ↦ absurd (closed k o h before public free)
      ]

  -- once nothing is next, just what is reached is marked
  pub closed_reached : (from : ℕ) (opens : List Link) (marks : List Bool) → ((o : Link) → HasOpen scopes from o → Contains opens o) → IsLinked scopes → IsBegun scopes from opens marks → IsClosed scopes marks → AreReached scopes from marks
  closed_reached from opens marks all linked begun closed = record {
    every = begun.every;
    just = λ j. (begun.sound j, λ r. marked j r);
  }
    where
      marked : (j : ℕ) → Reaches scopes from j → IsMarked marks j
      marked j own = begun.own
      marked j (through {o = o} h p) = passed_marked marks begun.every linked closed o.instance j p (begun.seeds o (all o h))

-- how many have no mark
abbrev pub count_free : List Bool → ℕ
count_free [] = 0
count_free (m ∷ marks) = (if m then 0 else 1) + count_free marks

pub fewer_free : (marks : List Bool) (t : ℕ) → slice_get marks t ≡ Some false → count_free (slice_set marks t true) < count_free marks
fewer_free [] t e = absurd cc
fewer_free (true ∷ marks) zero e = absurd cc
fewer_free (false ∷ marks) zero e = omega arith
fewer_free (m ∷ marks) (suc t) e = let less = fewer_free marks t e in omega arith

pub no_mark : (n j : ℕ) → IsMarked (replicate n false) j → ⊥
no_mark zero j e = cc
no_mark (suc n) zero e = cc
no_mark (suc n) (suc j) e = no_mark n j e

-- the first mark
pub begun_first : (scopes : List Namespace) (n from : ℕ) → n ≡ length scopes → from < length scopes → IsBegun scopes from [] (slice_set (replicate n false) from true)
begun_first scopes n from e lt = record {
  every = set_length (replicate n false) from ∙ length-replicate n false ∙ e;
  sound = λ j m. sound j (set_cases (replicate n false) from j m);
  own = set_here (replicate n false) from (subst (λ (k : ℕ). from < k) (sym (length-replicate n false ∙ e)) lt);
  seeds = λ o c. absurd (omega (arith, c.1));
}
  where
    sound : (j : ℕ) → (j ≡ from) ⊎ IsMarked (replicate n false) j → Reaches scopes from j
    sound j (inl same) = subst (λ (k : ℕ). Reaches scopes from k) (sym same) own
    sound j (inr m) = absurd (no_mark n j m)

-- one open more
pub begun_more : (scopes : List Namespace) (from : ℕ) (opens : List Link) (marks : List Bool) (i : ℕ) (o : Link) → IsLinked scopes → HasOpen scopes from o → i < length opens → o ≡ get_or opens i o →
    IsBegun scopes from (take i opens) marks → IsBegun scopes from (take (i + 1) opens) (slice_set marks o.instance true)
begun_more scopes from opens marks i o linked h lt at begun = record {
  every = set_length marks o.instance ∙ begun.every;
  sound = λ j m. sound j (set_cases marks o.instance j m);
  own = set_kept marks o.instance from begun.own;
  seeds = λ s c. seed s (Contains-append_cases (take i opens) (o ∷ []) s (subst (λ (os : List Link). Contains os s) (take_more opens i o lt ∙ ap (λ x. take i opens ++ x ∷ []) (sym at)) c));
}
  where
    sound : (j : ℕ) → (j ≡ o.instance) ⊎ IsMarked marks j → Reaches scopes from j
    sound j (inl same) = subst (λ (k : ℕ). Reaches scopes from k) (sym same) (through h here)
    sound j (inr m) = begun.sound j m

    alone : (s : Link) → Contains (o ∷ []) s → o ≡ s
    alone s (zero, l, e) = e
    alone s (suc k, l, e) = absurd (omega arith)

    inside : o.instance < length marks
    inside = subst (λ (k : ℕ). o.instance < k) (sym begun.every) (linked from o h)

    seed : (s : Link) → Contains (take i opens) s ⊎ Contains (o ∷ []) s → IsMarked (slice_set marks o.instance true) s.instance
    seed s (inl c) = set_kept marks o.instance s.instance (begun.seeds s c)
    seed s (inr c) = subst (λ (t : Link). IsMarked (slice_set marks o.instance true) t.instance) (alone s c) (set_here marks o.instance inside)

-- a mark of one instance alone
pub own_led : (scopes : List Namespace) (n from : ℕ) → n ≡ length scopes → from < length scopes → AreLed scopes from true [] (slice_set (replicate n false) from true)
own_led scopes n from e lt = record { just = λ j. (λ m. only j (set_cases (replicate n false) from j m), λ is. subst (λ (k : ℕ). IsMarked (slice_set (replicate n false) from true) k) is (set_here (replicate n false) from (subst (λ (k : ℕ). from < k) (sym (length-replicate n false ∙ e)) lt))) }
  where
    only : (j : ℕ) → (j ≡ from) ⊎ IsMarked (replicate n false) j → from ≡ j
    only j (inl same) = sym same
    only j (inr m) = absurd (no_mark n j m)
