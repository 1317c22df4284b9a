-- The choice that is picked of the right ones is the root's reading.
use Rattle.std.proofs.Common.{◌≡◌, ◌⊎◌, Bool, true, false, not, ◌&&◌, List, [], ◌∷◌, Option, Some, None, refl, sym, ◌∙◌, ap, subst, inl, inr}
use Rattle.std.proofs.lemmas.List.{append-nil}
use Rattle.resolve_readings.specs.declared.part.Typing.{Typing}
use Rattle.resolve_readings.specs.Readings.{Choice, read, Only, Has, IsRight, IsRelevant, IsPlain, IsReading, Decides}
use Rattle.resolve_readings.specs.Found.{found_as, found, single, relevant_of, plain_of, else_all, first_of_two, chosen, outcome_of, picked}
use Rattle.resolve_readings.specs.declared.meaning.Meaning.{Meaning}
use Rattle.resolve_readings.specs.declared.part.Found.{Found}
use Rattle.resolve_readings.specs.declared.part.Part.{Part}
use Rattle.resolve_readings.proofs.Lists.{In, Apart, in_filter, to_filter, apart_filter}
use Rattle.resolve_readings.proofs.Sound.{Differ, sound, complete, apart}

-- the list has just the choices of which P holds, each once
record Lists (all : List Found) (P : Choice → Type 0) : Type 0 where
  each_once : Apart Differ all
  has : (choice : Choice) → P choice → (m : Meaning) × In all (found_as choice m)
  only : (f : Found) → In all f → P f.choice

-- the only one of a list is the only choice
only_from : (all : List Found) (P : Choice → Type 0) → Lists all P → (f : Found) → single all ≡ Some f → Only P f.choice
only_from [] P lists f e = absurd cc
only_from (x ∷ []) P lists f e =
    let same : x ≡ f = cc in
    subst (λ (g : Found). Only P g.choice) same (lists.only x (inl refl), (λ c p. here c (lists.has c p).0 (lists.has c p).1))
  where
    here : (c : Choice) (m : Meaning) → In (x ∷ []) (found_as c m) → c ≡ x.choice
    here c m (inl e) = ap (λ g. g.choice) (sym e)
    here c m (inr i) = absurd i
only_from (x ∷ y ∷ more) P lists f e = absurd cc

-- the only choice is the only one of the list
to_only : (all : List Found) (P : Choice → Type 0) → Lists all P → (c : Choice) → Only P c → (f : Found) × (single all ≡ Some f)
to_only [] P lists c only = absurd (lists.has c only.0).1
to_only (x ∷ []) P lists c only = (x, refl)
to_only (x ∷ y ∷ more) P lists c only =
    let one = only.1 x.choice (lists.only x (inl refl)) in
    let two = only.1 y.choice (lists.only y (inr (inl refl))) in
    absurd (lists.each_once.0 y (inl refl) (one ∙ sym two))

both_true : (a b : Bool) → a ≡ true → b ≡ true → (a && b) ≡ true
both_true true true e g = refl
both_true true false e g = absurd cc
both_true false b e g = absurd cc

first_true : (a b : Bool) → (a && b) ≡ true → a ≡ true
first_true true b e = refl
first_true false b e = absurd cc

second_true : (a b : Bool) → (a && b) ≡ true → b ≡ true
second_true true b e = e
second_true false b e = absurd cc

pub which : {X : Type 0} (a b : Option X) (x : X) → first_of_two a b ≡ Some x → (a ≡ Some x) ⊎ (b ≡ Some x)
which None b x e = inr e
which (Some y) b x e = inl e

neither : {X : Type 0} (a b : Option X) → first_of_two a b ≡ None → (a ≡ None) × (b ≡ None)
neither None b e = (refl, e)
neither (Some y) b e = absurd cc

module _ (typing : Typing) (root : Part) where
  -- a choice of which a test is true is found
  found_where : (test : Meaning → Bool) (c : Choice) → Has typing root test c → (m : Meaning) × In (found typing root) (found_as c m) × (test m ≡ true)
  found_where test c has =
      let at = complete typing root c has.0 [] has.1 in
      let same : at.0 ≡ c = sym (append-nil at.0) ∙ at.2 in
      (has.0, subst (λ (d : Choice). In (found typing root) (found_as d has.0)) same at.1, has.2)

  where_found : (test : Meaning → Bool) (f : Found) → In (found typing root) f → test f.meaning ≡ true → Has typing root test f.choice
  where_found test f i e =
      (f.meaning, ap (read typing root) (sym (append-nil f.choice)) ∙ sound typing root f i [], e)

  lists_right : Lists (found typing root) (IsRight typing root)
  lists_right = record {
    each_once = apart typing root;
    has = λ c h. let at = found_where (λ m. true) c h in (at.0, at.1);
    only = λ f i. where_found (λ m. true) f i refl;
  }

  lists_relevant : Lists (relevant_of (found typing root)) (IsRelevant typing root)
  lists_relevant = record {
    each_once = apart_filter Differ (λ f. f.meaning.relevant) (found typing root) (apart typing root);
    has = λ c h. let at = found_where (λ m. m.relevant) c h in (at.0, to_filter (λ f. f.meaning.relevant) (found typing root) (found_as c at.0) at.1 at.2);
    only = λ f i. let at = in_filter (λ f. f.meaning.relevant) (found typing root) f i in where_found (λ m. m.relevant) f at.0 at.1;
  }

  -- where nothing is relevant, all right choices without the integer module are plain
  lists_plain_none : relevant_of (found typing root) ≡ [] → Lists (plain_of (found typing root)) (IsPlain typing root)
  lists_plain_none empty = record {
    each_once = apart_filter Differ (λ f. not f.meaning.integer) (found typing root) (apart typing root);
    has = λ c h. has_plain c h;
    only = λ f i. let at = in_filter (λ f. not f.meaning.integer) (found typing root) f i in inr (nothing, where_found (λ m. not m.integer) f at.0 at.1);
  }
    where
      nothing : (other : Choice) → ¬ IsRelevant typing root other
      nothing other h =
          let at = lists_relevant.has other h in
          subst (λ (all : List Found). In all (found_as other at.0)) empty at.1

      listed : (c : Choice) → Has typing root (λ m. not m.integer) c → (m : Meaning) × In (plain_of (found typing root)) (found_as c m)
      listed c h = let at = found_where (λ m. not m.integer) c h in (at.0, to_filter (λ f. not f.meaning.integer) (found typing root) (found_as c at.0) at.1 at.2)

      has_plain : (c : Choice) → IsPlain typing root c → (m : Meaning) × In (plain_of (found typing root)) (found_as c m)
      has_plain c (inl h) = absurd (nothing c (h.0, h.1, second_true (not h.0.integer) h.0.relevant h.2))
      has_plain c (inr h) = listed c h.1

  -- where something is relevant, the relevant choices without the integer module are plain
  lists_plain_some : (c : Choice) → IsRelevant typing root c → Lists (plain_of (relevant_of (found typing root))) (IsPlain typing root)
  lists_plain_some r some = record {
    each_once = apart_filter Differ (λ f. not f.meaning.integer) (relevant_of (found typing root)) (lists_relevant.each_once);
    has = λ c h. has_plain c h;
    only = λ f i. plain f i;
  }
    where
      listed : (c : Choice) → Has typing root (λ m. not m.integer && m.relevant) c → (m : Meaning) × In (plain_of (relevant_of (found typing root))) (found_as c m)
      listed c h =
          let at = found_where (λ m. not m.integer && m.relevant) c h in
          let relevant = to_filter (λ f. f.meaning.relevant) (found typing root) (found_as c at.0) at.1 (second_true (not at.0.integer) at.0.relevant at.2) in
          (at.0, to_filter (λ f. not f.meaning.integer) (relevant_of (found typing root)) (found_as c at.0) relevant (first_true (not at.0.integer) at.0.relevant at.2))

      has_plain : (c : Choice) → IsPlain typing root c → (m : Meaning) × In (plain_of (relevant_of (found typing root))) (found_as c m)
      has_plain c (inl h) = listed c h
      has_plain c (inr h) = absurd (h.0 r some)

      plain : (f : Found) → In (plain_of (relevant_of (found typing root))) f → IsPlain typing root f.choice
      plain f i =
          let one = in_filter (λ f. not f.meaning.integer) (relevant_of (found typing root)) f i in
          let two = in_filter (λ f. f.meaning.relevant) (found typing root) f one.0 in
          inl (where_found (λ m. not m.integer && m.relevant) f two.0 (both_true (not f.meaning.integer) f.meaning.relevant one.1 two.1))

  lists_plain_of : (relevant : List Found) → relevant_of (found typing root) ≡ relevant → Lists (plain_of (else_all relevant (found typing root))) (IsPlain typing root)
  lists_plain_of [] e = lists_plain_none e
  lists_plain_of (f ∷ fs) e =
      subst (λ (all : List Found). Lists (plain_of all) (IsPlain typing root)) e
      (lists_plain_some f.choice (lists_relevant.only f (subst (λ (all : List Found). In all f) (sym e) (inl refl))))

  lists_plain : Lists (plain_of (else_all (relevant_of (found typing root)) (found typing root))) (IsPlain typing root)
  lists_plain = lists_plain_of (relevant_of (found typing root)) refl

  -- the one that is chosen is the reading, and there is none where none is chosen
  chosen_reads : (f : Found) → chosen (found typing root) ≡ Some f → IsReading typing root f.choice
  chosen_reads f e = elim (which (single (found typing root)) (first_of_two (single (relevant_of (found typing root))) (single (plain_of (else_all (relevant_of (found typing root)) (found typing root))))) f e) [
    | inl right ↦ inl (only_from (found typing root) (IsRight typing root) lists_right f right)
    | inr later ↦ elim (which (single (relevant_of (found typing root))) (single (plain_of (else_all (relevant_of (found typing root)) (found typing root)))) f later) [
      | inl relevant ↦ inr (inl (only_from (relevant_of (found typing root)) (IsRelevant typing root) lists_relevant f relevant))
      | inr plain ↦ inr (inr (only_from (plain_of (else_all (relevant_of (found typing root)) (found typing root))) (IsPlain typing root) lists_plain f plain))
    ]
  ]

  none_chosen : chosen (found typing root) ≡ None → (c : Choice) → ¬ IsReading typing root c
  none_chosen e c reading =
      let first = neither (single (found typing root)) (first_of_two (single (relevant_of (found typing root))) (single (plain_of (else_all (relevant_of (found typing root)) (found typing root))))) e in
      let second = neither (single (relevant_of (found typing root))) (single (plain_of (else_all (relevant_of (found typing root)) (found typing root)))) first.1 in
      elim reading [
        | inl right ↦ clash (to_only (found typing root) (IsRight typing root) lists_right c right).1 first.0
        | inr later ↦ elim later [
          | inl relevant ↦ clash (to_only (relevant_of (found typing root)) (IsRelevant typing root) lists_relevant c relevant).1 second.0
          | inr plain ↦ clash (to_only (plain_of (else_all (relevant_of (found typing root)) (found typing root))) (IsPlain typing root) lists_plain c plain).1 second.1
        ]
      ]
    where
      clash : {o : Option Found} {f : Found} → o ≡ Some f → o ≡ None → ⊥
      clash a b = cc

  decided_of : (all : List Found) (o : Option Found) → found typing root ≡ all → chosen (found typing root) ≡ o → Decides typing root (outcome_of all o)
  decided_of [] o all e = λ c h. let at = lists_right.has c h in subst (λ (fs : List Found). In fs (found_as c at.0)) all at.1
  decided_of (f ∷ fs) None all e = ((f.choice, lists_right.only f (subst (λ (gs : List Found). In gs f) (sym all) (inl refl))), none_chosen e)
  decided_of (f ∷ fs) (Some g) all e = chosen_reads g e

  -- the outcome that is picked of the right choices is the one that the definition gives
  pub decided : Decides typing root (picked (found typing root))
  decided = decided_of (found typing root) (chosen (found typing root)) refl refl
