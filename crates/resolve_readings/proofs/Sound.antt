-- The list of right choices has just those under which the definition gives a meaning, each once.
use Rattle.std.proofs.Common.{◌≡◌, ℕ, zero, suc, ◌+◌, List, [], ◌∷◌, ◌++◌, Option, Some, None, refl, sym, ◌∙◌, ap, subst, inl, inr, arith, slice_get, append_assoc}
use Rattle.std.specs.Option.{option_map}
use Rattle.std.proofs.lemmas.List.{append_cancel_right}
use Rattle.resolve_readings.specs.declared.part.Typing.{Typing}
use Rattle.resolve_readings.specs.Meanings.{single_of, pair_of}
use Rattle.resolve_readings.specs.Readings.{bind, Choice, before, read}
use Rattle.resolve_readings.specs.Found.{found_as, numbered, made, paired, found}
use Rattle.resolve_readings.specs.declared.meaning.Meaning.{Meaning}
use Rattle.resolve_readings.specs.declared.part.Found.{Found}
use Rattle.resolve_readings.specs.declared.part.Part.{Part, Name, Known, Single', Pair'}
use Rattle.resolve_readings.proofs.Lists.{In, Apart, in_filter_map, to_filter_map, in_pairs, to_pairs, apart_filter_map, apart_pairs}

-- their choices differ
abbrev pub Differ : Found → Found → Type 0
Differ f g = f.choice ≡ g.choice → ⊥

-- a candidate that is found has the choice of its number
name_sound : (n : ℕ) (cs : List Meaning) (f : Found) → In (numbered n cs) f → (i : ℕ) × (f.choice ≡ (n + i) ∷ []) × (slice_get cs i ≡ Some f.meaning)
name_sound n [] f i = absurd i
name_sound n (m ∷ ms) f (inl e) =
    let number : n ≡ n + 0 = omega arith in
    (zero, ap (λ g. g.choice) (sym e) ∙ ap (λ k. k ∷ []) number, ap (λ g. Some g.meaning) e)
name_sound n (m ∷ ms) f (inr later) =
    let at = name_sound (n + 1) ms f later in
    let number : (n + 1) + at.0 ≡ n + suc at.0 = omega arith in
    (suc at.0, at.1 ∙ ap (λ k. k ∷ []) number, at.2)

name_complete : (n : ℕ) (cs : List Meaning) (i : ℕ) (m : Meaning) → slice_get cs i ≡ Some m → In (numbered n cs) (found_as ((n + i) ∷ []) m)
name_complete n [] i m e = absurd cc
name_complete n (c ∷ cs) zero m e =
    let number : n ≡ n + 0 = omega arith in
    let same : c ≡ m = cc in
    inl (ap (λ k. found_as (k ∷ []) c) number ∙ ap (found_as ((n + 0) ∷ [])) same)
name_complete n (c ∷ cs) (suc i) m e =
    let number : (n + 1) + i ≡ n + suc i = omega arith in
    inr (subst (λ k. In (numbered (n + 1) cs) (found_as (k ∷ []) m)) number (name_complete (n + 1) cs i m e))

name_apart : (n : ℕ) (cs : List Meaning) → Apart Differ (numbered n cs)
name_apart n [] = tt
name_apart n (m ∷ ms) = ((λ g i e. other g i e), name_apart (n + 1) ms)
  where
    other : (g : Found) → In (numbered (n + 1) ms) g → n ∷ [] ≡ g.choice → ⊥
    other g i e =
        let at = name_sound (n + 1) ms g i in
        let all : n ∷ [] ≡ ((n + 1) + at.0) ∷ [] = e ∙ at.1 in
        let same : n ≡ (n + 1) + at.0 = cc in
        omega arith

as_found : (o : Option Meaning) (c : Choice) (f : Found) → option_map (found_as c) o ≡ Some f → (c ≡ f.choice) × (o ≡ Some f.meaning)
as_found None c f e = absurd cc
as_found (Some m) c f e =
    let same : found_as c m ≡ f = cc in
    (ap (λ g. g.choice) same, ap (λ g. Some g.meaning) same)

with_rest : (o : Option Meaning) (s rest : Choice) (m : Meaning) → option_map (before s) o ≡ Some (m, rest) → (o ≡ Some m) × (s ≡ rest)
with_rest None s rest m e = absurd cc
with_rest (Some k) s rest m e =
    let same : before s k ≡ before rest m = cc in
    (ap (λ r. Some r.0) same, ap (λ r. r.1) same)

bound : {X Y : Type 0} (o : Option X) (k : X → Option Y) (z : Y) → bind o k ≡ Some z → (x : X) × (o ≡ Some x) × (k x ≡ Some z)
bound None k z e = absurd cc
bound (Some x) k z e = (x, refl, e)

module _ (typing : Typing) where
  -- under a choice that is found, the part is what was found, whatever choices follow
  pub sound : (t : Part) (f : Found) → In (found typing t) f → (rest : Choice) → read typing t (f.choice ++ rest) ≡ Some (f.meaning, rest)
  sound (Name cs) f i rest =
      let at = name_sound 0 cs f i in
      let number : 0 + at.0 ≡ at.0 = omega arith in
      ap (λ c. read typing (Name cs) (c ++ rest)) at.1 ∙ ap (option_map (before rest)) (ap (slice_get cs) number ∙ at.2)
  sound (Known m) f (inl e) rest = subst (λ (g : Found). read typing (Known m) (g.choice ++ rest) ≡ Some (g.meaning, rest)) e refl
  sound (Known m) f (inr i) rest = absurd i
  sound (Single' op p a) f i rest =
      let inner = in_filter_map (made typing op) (found typing a) f i in
      let whole = as_found (single_of typing op inner.0.meaning) inner.0.choice f inner.2 in
      let step = sound a inner.0 inner.1 rest in
      subst (λ (c : Choice). read typing (Single' op p a) (c ++ rest) ≡ Some (f.meaning, rest)) whole.0
      (ap (λ o. bind o (λ r. option_map (before r.1) (single_of typing op r.0))) step ∙ ap (option_map (before rest)) whole.1)
  sound (Pair' op p a q b) f i rest =
      let both = in_pairs (paired typing op) (found typing a) (found typing b) f i in
      let whole = as_found (pair_of typing op both.0.meaning both.1.meaning) (both.0.choice ++ both.1.choice) f both.4 in
      let left = sound a both.0 both.2 (both.1.choice ++ rest) in
      let right = sound b both.1 both.3 rest in
      subst (λ (c : Choice). read typing (Pair' op p a q b) (c ++ rest) ≡ Some (f.meaning, rest)) whole.0
      (ap (read typing (Pair' op p a q b)) (append_assoc both.0.choice both.1.choice rest)
      ∙ ap (λ o. bind o (λ r. bind (read typing b r.1) (λ s. option_map (before s.1) (pair_of typing op r.0 s.0)))) left
      ∙ ap (λ o. bind o (λ s. option_map (before s.1) (pair_of typing op both.0.meaning s.0))) right
      ∙ ap (option_map (before rest)) whole.1)

  -- a choice under which the part has a meaning is found
  pub complete : (t : Part) (s : Choice) (m : Meaning) (rest : Choice) → read typing t s ≡ Some (m, rest) → (c : Choice) × In (found typing t) (found_as c m) × (c ++ rest ≡ s)
  complete (Name cs) [] m rest e = absurd cc
  complete (Name cs) (k ∷ s) m rest e =
      let at = with_rest (slice_get cs k) s rest m e in
      let number : 0 + k ≡ k = omega arith in
      (k ∷ [], subst (λ n. In (numbered 0 cs) (found_as (n ∷ []) m)) number (name_complete 0 cs k m at.0), ap (λ r. k ∷ r) (sym at.1))
  complete (Known k) s m rest e =
      let at = with_rest (Some k) s rest m e in
      let same : k ≡ m = cc in
      ([], inl (ap (found_as []) same), sym at.1)
  complete (Single' op p a) s m rest e =
      let inner = bound (read typing a s) (λ r. option_map (before r.1) (single_of typing op r.0)) (m, rest) e in
      let at = with_rest (single_of typing op inner.0.0) inner.0.1 rest m inner.2 in
      let start = complete a s inner.0.0 inner.0.1 inner.1 in (
        start.0,
        to_filter_map (made typing op) (found typing a) (found_as start.0 inner.0.0) (found_as start.0 m) start.1 (ap (option_map (found_as start.0)) at.0),
        ap (λ r. start.0 ++ r) (sym at.1) ∙ start.2,
      )
  complete (Pair' op p a q b) s m rest e =
      let left = bound (read typing a s) (λ r. bind (read typing b r.1) (λ t. option_map (before t.1) (pair_of typing op r.0 t.0))) (m, rest) e in
      let right = bound (read typing b left.0.1) (λ t. option_map (before t.1) (pair_of typing op left.0.0 t.0)) (m, rest) left.2 in
      let at = with_rest (pair_of typing op left.0.0 right.0.0) right.0.1 rest m right.2 in
      let first = complete a s left.0.0 left.0.1 left.1 in
      let second = complete b left.0.1 right.0.0 right.0.1 right.1 in (
        first.0 ++ second.0,
        to_pairs (paired typing op) (found typing a) (found typing b) (found_as first.0 left.0.0) (found_as second.0 right.0.0) (found_as (first.0 ++ second.0) m)
            first.1 second.1 (ap (option_map (found_as (first.0 ++ second.0))) at.0),
        append_assoc first.0 second.0 rest ∙ ap (λ r. first.0 ++ (second.0 ++ r)) (sym at.1) ∙ ap (λ r. first.0 ++ r) second.2 ∙ first.2,
      )

  -- two choices that are found and go on to equal lists are equal
  same_start : (t : Part) (f g : Found) (r s : Choice) → In (found typing t) f → In (found typing t) g → f.choice ++ r ≡ g.choice ++ s → (f.choice ≡ g.choice) × (r ≡ s)
  same_start t f g r s i j e =
      let both : Some (before r f.meaning) ≡ Some (before s g.meaning) = sym (sound t f i r) ∙ ap (read typing t) e ∙ sound t g j s in
      let pair : before r f.meaning ≡ before s g.meaning = cc in
      let rest : r ≡ s = ap (λ x. x.1) pair in
      (append_cancel_right f.choice g.choice s (ap (λ x. f.choice ++ x) (sym rest) ∙ e), rest)

  -- no choice is found twice
  pub apart : (t : Part) → Apart Differ (found typing t)
  apart (Name cs) = name_apart 0 cs
  apart (Known m) = ((λ g i. absurd i), tt)
  apart (Single' op p a) =
      apart_filter_map Differ Differ (made typing op) (found typing a) (apart a)
      (λ x y u v i j d e g same. d ((as_found (single_of typing op x.meaning) x.choice u e).0 ∙ same ∙ sym (as_found (single_of typing op y.meaning) y.choice v g).0))
  apart (Pair' op p a q b) =
      apart_pairs Differ Differ Differ (paired typing op) (found typing a) (found typing b) (apart a) (apart b)
      (λ x w y v z u i j k l r e g same.
      let one = as_found (pair_of typing op x.meaning y.meaning) (x.choice ++ y.choice) z e in
      let two = as_found (pair_of typing op w.meaning v.meaning) (w.choice ++ v.choice) u g in
      let start = same_start a x w y.choice v.choice i j (one.0 ∙ same ∙ sym two.0) in
      elim r [
        | inl d ↦ d start.0
        | inr d ↦ d.1 start.1
      ])
