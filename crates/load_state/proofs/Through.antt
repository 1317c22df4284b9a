-- Aliases lead from instances to others.
use Rattle.std.proofs.Common.{◌≡◌, ◌⊎◌, inl, inr, ◌↔◌, ℕ, zero, suc, ◌+◌, ◌<◌, false, List, [], ◌∷◌, ◌++◌, take, length, Contains, get_or, refl, sym, ap, subst, ◌∙◌, arith}
use Rattle.std.specs.HashMap.{get_by_text}
use Rattle.std.proofs.lemmas.List.{take_more, take_all}
use Rattle.std.proofs.lemmas.List.Elements.{Contains-append_cases, Contains-append_left, Contains-append_right}
use Rattle.syntax_tree.specs.declared.instance.Instance.{Instance}
use Rattle.syntax_tree.specs.declared.instance.Text.{Text}
use Rattle.load_state.specs.Doors.{Has, IsAfter, IsAfterOne, AreReplayed, StandsAt}
use Rattle.load_state.specs.Named.{IsOpen, Follows, IsBehind}
use Rattle.load_state.specs.Sets.{IsIn, reach_or}
use Rattle.load_state.specs.declared.argument.Opener.{Opener}
use Rattle.load_state.specs.declared.loading.Finished.{Finished}
use Rattle.load_state.specs.declared.reach.InstanceSet.{InstanceSet}
use Rattle.load_state.proofs.Noted.{empty_in}

module _ (instances : List Instance) (texts : List Text) where
  -- what is among these is finished, and leads by these aliases just to what is behind all
  pub record IsOnTheWay (finished : List Finished) (among : InstanceSet) (aliases : List (List ℕ)) (behind : ℕ → Type 0) : Type 0 where
    pub held : (j : ℕ) → IsIn among j → Has finished j
    pub leads : (l j : ℕ) → IsIn among j → Follows instances texts aliases j l → behind l
    pub led : (l : ℕ) → behind l → (j : ℕ) × IsIn among j × Follows instances texts aliases j l

  pub way_first : (k : ℕ) (o : Opener) (among : InstanceSet) (alias : List ℕ) (aliases : List (List ℕ)) → StandsAt instances texts k o → among ≡ (reach_or (get_by_text o.doors.now.aliases alias)).all →
      IsOnTheWay o.finished.now among aliases (IsBehind instances texts o.number k alias aliases)
  way_first k o among alias aliases stands is = record {
    held = λ j inside. let e = (stands.noted.aliased alias j).0 (subst (λ s. IsIn s j) is inside) in subst (Has o.finished.now) e.leading.1 (stands.behind e.earlier e.opened e.hidden e.before e.is_open);
    leads = λ l j inside follows.
        let e = (stands.noted.aliased alias j).0 (subst (λ s. IsIn s j) is inside) in
        record { earlier = e.earlier; before = e.before; opened = e.opened; hidden = e.hidden; is_open = e.is_open; seen = e.seen; leading = (e.leading.0, subst (λ x. Follows instances texts aliases x l) (sym e.leading.1) follows) };
    led = λ l e. (
      e.opened.instance,
      subst (λ s. IsIn s e.opened.instance) (sym is) ((stands.noted.aliased alias e.opened.instance).1
          (record { earlier = e.earlier; before = e.before; opened = e.opened; hidden = e.hidden; is_open = e.is_open; seen = e.seen; leading = (e.leading.0, refl) })),
      e.leading.1,
    );
  }

  pub way_next : (finished : List Finished) (among next : InstanceSet) (alias : List ℕ) (aliases : List (List ℕ)) (behind : ℕ → Type 0) → AreReplayed instances texts finished → ((l : ℕ) → IsIn next l ↔ IsAfter finished among alias l) →
      IsOnTheWay finished among (alias ∷ aliases) behind → IsOnTheWay finished next aliases behind
  unfolding AreReplayed
  way_next finished among next alias aliases behind replayed after way = record {
    held = λ l inside.
        let (f, has, found) = (after l).0 inside in
        let done = replayed f has in
        let e = (done.noted.shown alias l).0 found.1 in
        subst (Has finished) e.leading.1 (done.behind e.earlier e.opened e.hidden e.is_open);
    leads = λ l j inside follows.
        let (f, has, found) = (after j).0 inside in
        let done = replayed f has in
        let e = (done.noted.shown alias j).0 found.1 in
        way.leads l f.instance found.0
        (e.earlier, e.opened, subst (λ b. IsOpen instances texts f.instance e.earlier e.opened b) (e.seen refl) e.is_open, e.leading.0, subst (λ x. Follows instances texts aliases x l) (sym e.leading.1) follows);
    led = λ l is.
        let (j, inside, by_alias) = way.led l is in
        let (k, o, open_here, named, follows) = by_alias in
        let (f, has, same) = way.held j inside in
        let done = replayed f has in
        let open_of : IsOpen instances texts f.instance k o false = subst (λ n. IsOpen instances texts n k o false) (sym same) open_here in (
          o.instance,
          (after o.instance).1 (
            f,
            has,
            (
              subst (IsIn among) (sym same) inside,
              (done.noted.shown alias o.instance).1 (record { earlier = k; before = done.whole k o false open_of; opened = o; hidden = false; is_open = open_of; seen = λ e. refl; leading = (named, refl) }),
            ),
          ),
          follows,
        );
  }

  pub way_over : (finished : List Finished) (among : InstanceSet) (behind : ℕ → Type 0) → IsOnTheWay finished among [] behind → (l : ℕ) → IsIn among l ↔ behind l
  way_over finished among behind way l = (λ inside. way.leads l l inside refl, λ is. let (j, inside, same) = way.led l is in subst (IsIn among) same inside)

-- the opens of one instance more
pub after_next : {A B C : Type 0} (finished : List Finished) (i next : ℕ) (f : Finished) (among : InstanceSet) (alias : List ℕ) (l : ℕ) → i < length finished → f ≡ get_or finished i f → next ≡ i + 1 →
    A ↔ IsAfter (take i finished) among alias l → C ↔ IsAfterOne f among alias l → B ↔ (A ⊎ C) → B ↔ IsAfter (take next finished) among alias l
after_next {A} {B} {C} finished i next f among alias l inside at is before one both = subst (λ fs. B ↔ IsAfter fs among alias l) (sym more) (λ b. to (both.0 b), λ a. both.1 (from a))
  where
    more : take next finished ≡ take i finished ++ f ∷ []
    more = ap (λ n. take n finished) is ∙ (take_more finished i f inside ∙ ap (λ x. take i finished ++ x ∷ []) (sym at))

    to : A ⊎ C → IsAfter (take i finished ++ f ∷ []) among alias l
    to (inl a) = let (g, has, after) = before.0 a in (g, Contains-append_left (take i finished) (f ∷ []) g has, after)
    to (inr c) = (f, Contains-append_right (take i finished) (f ∷ []) f (zero, omega arith, refl), one.0 c)

    alone : (g : Finished) → Contains (f ∷ []) g → f ≡ g
    alone g (zero, under, e) = e
    alone g (suc k, under, e) = absurd (omega (arith, under))

    by_place : (g : Finished) → IsAfterOne g among alias l → Contains (take i finished) g ⊎ Contains (f ∷ []) g → A ⊎ C
    by_place g after (inl has) = inl (before.1 (g, has, after))
    by_place g after (inr has) = inr (one.1 (subst (λ (x : Finished). IsAfterOne x among alias l) (sym (alone g has)) after))

    from : IsAfter (take i finished ++ f ∷ []) among alias l → A ⊎ C
    from (g, has, after) = by_place g after (Contains-append_cases (take i finished) (f ∷ []) g has)

pub after_none : (finished : List Finished) (among : InstanceSet) (alias : List ℕ) (l : ℕ) → IsIn (record { bits = 0 }) l ↔ IsAfter (take 0 finished) among alias l
after_none finished among alias l = (λ h. absurd (empty_in l h), λ a. absurd (omega (arith, a.1.1)))

pub after_all : (finished : List Finished) (n : ℕ) (among next : InstanceSet) (alias : List ℕ) (l : ℕ) → (n < length finished → ⊥) → IsIn next l ↔ IsAfter (take n finished) among alias l → IsIn next l ↔ IsAfter finished among alias l
after_all finished n among next alias l end after = subst (λ fs. IsIn next l ↔ IsAfter fs among alias l) (take_all n finished (omega (arith, end))) after
