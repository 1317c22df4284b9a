-- What is kept of opens, open by open.
use Rattle.std.proofs.Common.{◌≡◌, ◌⊎◌, inl, inr, ◌↔◌, ℕ, ◌+◌, ◌-◌, Bool, true, false, List, slice_get, Option, Some, None, cond, refl, sym, ap, subst, ◌∙◌, arith}
use Rattle.std.specs.Map.{update}
use Rattle.std.specs.Str.{bytes_eq}
use Rattle.std.proofs.lemmas.Bool.{cases_eq}
use Rattle.std.proofs.lemmas.Nat.Bits.{bit_at-zero}
use Rattle.std.proofs.lemmas.Option.{same_Some}
use Rattle.std.proofs.lemmas.Slice.Eq.{bytes_eq-Decides}
use Rattle.syntax_tree.specs.declared.instance.Instance.{Instance}
use Rattle.syntax_tree.specs.declared.instance.Opened.{Opened}
use Rattle.syntax_tree.specs.declared.instance.Text.{Text}
use Rattle.load_state.specs.Doors.{AreDoors, IsReplayed}
use Rattle.load_state.specs.Named.{IsOpen, Reaches, itself, further, Earlier}
use Rattle.load_state.specs.Opens.{openings_of, is_hidden}
use Rattle.load_state.specs.Sets.{HasRoom, IsIn, IsJust, IsWider, IsAliased, IsNoted, reach_or}
use Rattle.load_state.specs.declared.loading.Doors.{Doors}
use Rattle.load_state.specs.declared.loading.Finished.{Finished}
use Rattle.load_state.specs.declared.reach.InstanceSet.{InstanceSet}
use Rattle.load_state.specs.declared.reach.Reach.{Reach}

pub empty_in : (n : ℕ) → IsIn (record { bits = 0 }) n → ⊥
unfolding IsIn
empty_in n h = absurd (omega (arith, bit_at-zero (n - 1), h.1))

-- the same instances were added
pub wider_as : {P Q : ℕ → Type 0} (old new : Reach) (is_private : Bool) → ((n : ℕ) → P n ↔ Q n) → IsWider old new is_private P → IsWider old new is_private Q
wider_as {P} {Q} old new is_private same wider = record { all = λ n. (λ h. right n (wider.all n).0 h, λ h. (wider.all n).1 (left n h)); public = λ n. (λ h. right_public n ((wider.public n).0 h), λ h. (wider.public n).1 (left_public n h)) }
  where
    right : (n : ℕ) → (IsIn new.all n → IsIn old.all n ⊎ P n) → IsIn new.all n → IsIn old.all n ⊎ Q n
    right n f h = elim (f h) [
      | inl a ↦ inl a
      | inr p ↦ inr ((same n).0 p)
    ]

    left : (n : ℕ) → IsIn old.all n ⊎ Q n → IsIn old.all n ⊎ P n
    left n (inl a) = inl a
    left n (inr q) = inr ((same n).1 q)

    right_public : (n : ℕ) → IsIn old.public n ⊎ ((is_private ≡ false) × P n) → IsIn old.public n ⊎ ((is_private ≡ false) × Q n)
    right_public n (inl a) = inl a
    right_public n (inr p) = inr (p.0, (same n).0 p.1)

    left_public : (n : ℕ) → IsIn old.public n ⊎ ((is_private ≡ false) × Q n) → IsIn old.public n ⊎ ((is_private ≡ false) × P n)
    left_public n (inl a) = inl a
    left_public n (inr q) = inr (q.0, (same n).1 q.1)

-- the set of one instance
pub alone : (set : InstanceSet) (instance n : ℕ) → IsIn set n ↔ (IsIn (record { bits = 0 }) n ⊎ IsJust instance n) → IsIn set n ↔ IsJust instance n
alone set instance n is = (λ h. to (is.0 h), λ j. is.1 (inr j))
  where
    to : IsIn (record { bits = 0 }) n ⊎ IsJust instance n → IsJust instance n
    to (inl h) = absurd (empty_in n h)
    to (inr j) = j

pub alias_put : (alias : List ℕ) (instance : ℕ) (is_private : Bool) (before after : List ℕ → Option Reach) (reach : Reach) → ((other : List ℕ) → after other ≡ update bytes_eq before alias (Some reach) other) →
    IsWider (reach_or (before alias)) reach is_private (IsJust instance) → IsAliased alias instance is_private before after
alias_put alias instance is_private before after reach put wider = record {
  here =
      let yes = (bytes_eq-Decides alias alias).1 refl in
      let at : after alias ≡ Some reach = put alias ∙ ap (λ b. cond b (Some reach) (before alias)) yes in
      subst (λ o. IsWider (reach_or (before alias)) (reach_or o) is_private (IsJust instance)) (sym at) wider;
  others = λ other ne. apart other ne (bytes_eq alias other) refl;
}
  where
    apart : (other : List ℕ) → (other ≡ alias → ⊥) → (b : Bool) → bytes_eq alias other ≡ b → after other ≡ before other
    apart other ne true is = absurd (ne (sym ((bytes_eq-Decides alias other).0 is)))
    apart other ne false is = put other ∙ ap (λ b. cond b (Some reach) (before other)) is

module _ (instances : List Instance) (texts : List Text) where
  pub open_same : (n k : ℕ) (o p : Opened) (h g : Bool) → IsOpen instances texts n k o h → IsOpen instances texts n k p g → (o ≡ p) × (h ≡ g)
  open_same n k o p h g a b =
      let instance : a.instance ≡ b.instance = same_Some a.instance b.instance (sym a.is.is_instance ∙ b.is.is_instance) in
      let text : a.text ≡ b.text = same_Some a.text b.text (sym a.is.is_text ∙ (ap (λ (i : Instance). slice_get texts i.text) instance ∙ b.is.is_text)) in
      let opening : a.opening ≡ b.opening = same_Some a.opening b.opening (sym a.asks ∙ (ap (λ (t : Text). slice_get (openings_of t.tree) k) text ∙ b.asks)) in
      (same_Some o p (sym a.leads ∙ (ap (λ (i : Instance). slice_get i.opens k) instance ∙ b.leads)), sym a.private ∙ (ap is_hidden opening ∙ b.private))

  -- one open more
  pub earlier_cases : (n k : ℕ) (p : Bool) (o : Opened) (h : Bool) (L : Opened → Type 0) → IsOpen instances texts n k o h → Earlier instances texts n (k + 1) p L →
      Earlier instances texts n k p L ⊎ ((p ≡ true → h ≡ false) × L o)
  earlier_cases n k p o h L here e = by_place (cases_eq e.earlier k)
    where
      by_place : (e.earlier ≡ k) ⊎ (e.earlier ≡ k → ⊥) → Earlier instances texts n k p L ⊎ ((p ≡ true → h ≡ false) × L o)
      by_place (inl same) =
          let at = open_same n k e.opened o e.hidden h (subst (λ j. IsOpen instances texts n j e.opened e.hidden) same e.is_open) here in
          inr (λ public. sym at.1 ∙ e.seen public, subst L at.0 e.leading)
      by_place (inr other) =
          inl (record { earlier = e.earlier; before = omega (arith, e.before, other); opened = e.opened; hidden = e.hidden; is_open = e.is_open; seen = e.seen; leading = e.leading })

  pub earlier_kept : (n k : ℕ) (p : Bool) (L : Opened → Type 0) → Earlier instances texts n k p L → Earlier instances texts n (k + 1) p L
  earlier_kept n k p L e = record { earlier = e.earlier; before = omega (arith, e.before); opened = e.opened; hidden = e.hidden; is_open = e.is_open; seen = e.seen; leading = e.leading }

  pub earlier_last : (n k : ℕ) (p : Bool) (o : Opened) (h : Bool) (L : Opened → Type 0) → IsOpen instances texts n k o h → (p ≡ true → h ≡ false) → L o → Earlier instances texts n (k + 1) p L
  earlier_last n k p o h L here seen leads = record { earlier = k; before = omega arith; opened = o; hidden = h; is_open = here; seen = seen; leading = leads }

  collected : {A B X : Type 0} (n k : ℕ) (p : Bool) (o : Opened) (h : Bool) (L : Opened → Type 0) → IsOpen instances texts n k o h → A ↔ Earlier instances texts n k p L → B ↔ (A ⊎ X) →
      X ↔ ((p ≡ true → h ≡ false) × L o) → B ↔ Earlier instances texts n (k + 1) p L
  collected {A} {B} {X} n k p o h L here before more added = (λ b. to (more.0 b), λ e. more.1 (from (earlier_cases n k p o h L here e)))
    where
      to : A ⊎ X → Earlier instances texts n (k + 1) p L
      to (inl a) = earlier_kept n k p L (before.0 a)
      to (inr x) = let is = added.0 x in earlier_last n k p o h L here is.0 is.1

      from : Earlier instances texts n k p L ⊎ ((p ≡ true → h ≡ false) × L o) → A ⊎ X
      from (inl e) = inl (before.1 e)
      from (inr is) = inr (added.1 is)

  -- where all opens are asked for, and where only those that aren't private are
  any : {X Y : Type 0} (h : Bool) → X ↔ Y → X ↔ ((false ≡ true → h ≡ false) × Y)
  any h same = (λ x. (λ e. absurd cc, same.0 x), λ y. same.1 y.1)

  shown : {X Y : Type 0} (h : Bool) → X ↔ Y → ((h ≡ false) × X) ↔ ((true ≡ true → h ≡ false) × Y)
  shown h same = (λ x. (λ e. x.0, same.0 x.1), λ y. (y.0 refl, same.1 y.1))

  -- nothing is added
  unchanged : {A X : Type 0} → (X → ⊥) → A ↔ (A ⊎ X)
  unchanged {A} {X} never = (λ a. inl a, back)
    where
      back : A ⊎ X → A
      back (inl a) = a
      back (inr x) = absurd (never x)

  pub doors_none : (n : ℕ) (find : List ℕ → Option Reach) → ((alias : List ℕ) → find alias ≡ None) → AreDoors instances texts n 0 (record { all = record { bits = 0 }; public = record { bits = 0 } }) find
  doors_none n find none = record {
    all = λ l. (λ h. absurd (empty_in l h), λ e. absurd (omega (arith, e.before)));
    public = λ l. (λ h. absurd (empty_in l h), λ e. absurd (omega (arith, e.before)));
    aliased = λ alias l. (λ h. absurd (empty_in l (subst (λ o. IsIn (reach_or o).all l) (none alias) h)), λ e. absurd (omega (arith, e.before)));
    shown = λ alias l. (λ h. absurd (empty_in l (subst (λ o. IsIn (reach_or o).public l) (none alias) h)), λ e. absurd (omega (arith, e.before)));
  }

  pub doors_more : (n k : ℕ) (o : Opened) (h : Bool) (beyond : InstanceSet) (old new : Reach) (before after : List ℕ → Option Reach) → IsOpen instances texts n k o h → HasRoom o.instance →
      ((l : ℕ) → (IsIn beyond l ⊎ IsJust o.instance l) ↔ Reaches instances texts o.instance l) → IsNoted o.alias o.instance beyond h old new before after → AreDoors instances texts n k old before →
      AreDoors instances texts n (k + 1) new after
  doors_more n k o h beyond old new before after here room reached noted doors = record {
    all = λ l. collected n k false o h (λ p. Reaches instances texts p.instance l) here (doors.all l) (noted.reach.all l) (any h (reached l));
    public = λ l. collected n k true o h (λ p. Reaches instances texts p.instance l) here (doors.public l) (noted.reach.public l) (shown h (reached l));
    aliased = λ alias l. by_alias alias l (bytes_eq alias o.alias) refl;
    shown = λ alias l. by_alias_shown alias l (bytes_eq alias o.alias) refl;
  }
    where
      just : (alias : List ℕ) (l : ℕ) → alias ≡ o.alias → IsJust o.instance l ↔ ((o.alias ≡ alias) × (o.instance ≡ l))
      just alias l same = (λ j. (sym same, sym j.0), λ is. (sym is.1, (omega (arith, room.0, is.1), omega (arith, room.1, is.1))))

      by_alias : (alias : List ℕ) (l : ℕ) (b : Bool) → bytes_eq alias o.alias ≡ b → IsIn (reach_or (after alias)).all l ↔ Earlier instances texts n (k + 1) false (λ p. (p.alias ≡ alias) × (p.instance ≡ l))
      by_alias alias l true is =
          let same = (bytes_eq-Decides alias o.alias).0 is in
          collected n k false o h (λ p. (p.alias ≡ alias) × (p.instance ≡ l)) here (doors.aliased alias l)
          (subst (λ a. IsIn (reach_or (after a)).all l ↔ (IsIn (reach_or (before a)).all l ⊎ IsJust o.instance l)) (sym same) (noted.aliased.here.all l)) (any h (just alias l same))
      by_alias alias l false is =
          let ne : alias ≡ o.alias → ⊥ = λ same. let yes = (bytes_eq-Decides alias o.alias).1 same in cc in
          subst (λ r. IsIn (reach_or r).all l ↔ Earlier instances texts n (k + 1) false (λ p. (p.alias ≡ alias) × (p.instance ≡ l))) (sym (noted.aliased.others alias ne))
          (collected n k false o h (λ p. (p.alias ≡ alias) × (p.instance ≡ l)) here (doors.aliased alias l) (unchanged (λ x. ne (sym x.1.0))) (λ x. x, λ x. x))

      by_alias_shown : (alias : List ℕ) (l : ℕ) (b : Bool) → bytes_eq alias o.alias ≡ b → IsIn (reach_or (after alias)).public l ↔ Earlier instances texts n (k + 1) true (λ p. (p.alias ≡ alias) × (p.instance ≡ l))
      by_alias_shown alias l true is =
          let same = (bytes_eq-Decides alias o.alias).0 is in
          collected n k true o h (λ p. (p.alias ≡ alias) × (p.instance ≡ l)) here (doors.shown alias l)
          (subst (λ a. IsIn (reach_or (after a)).public l ↔ (IsIn (reach_or (before a)).public l ⊎ ((h ≡ false) × IsJust o.instance l))) (sym same) (noted.aliased.here.public l)) (shown h (just alias l same))
      by_alias_shown alias l false is =
          let ne : alias ≡ o.alias → ⊥ = λ same. let yes = (bytes_eq-Decides alias o.alias).1 same in cc in
          subst (λ r. IsIn (reach_or r).public l ↔ Earlier instances texts n (k + 1) true (λ p. (p.alias ≡ alias) × (p.instance ≡ l))) (sym (noted.aliased.others alias ne))
          (collected n k true o h (λ p. (p.alias ≡ alias) × (p.instance ≡ l)) here (doors.shown alias l) (unchanged (λ x. ne (sym x.1.0))) (λ x. x, λ x. x))

  split_reach : (j l : ℕ) → Reaches instances texts j l → (j ≡ l) ⊎ ((k : ℕ) × (o : Opened) × IsOpen instances texts j k o false × Reaches instances texts o.instance l)
  split_reach j l (itself i) = inl refl
  split_reach j l (further i k m o is rest) = inr (k, o, is, rest)

  -- what an instance reaches beyond itself
  pub reached_beyond : (finished : List Finished) (number : ℕ) (doors : Doors) → HasRoom number → IsReplayed instances texts finished number doors → (l : ℕ) →
      (IsIn doors.reach.public l ⊎ IsJust number l) ↔ Reaches instances texts number l
  reached_beyond finished number doors room replayed l = (to, from)
    where
      to : IsIn doors.reach.public l ⊎ IsJust number l → Reaches instances texts number l
      to (inl h) =
          let e = (replayed.noted.public l).0 h in
          further number e.earlier l e.opened (subst (λ b. IsOpen instances texts number e.earlier e.opened b) (e.seen refl) e.is_open) e.leading
      to (inr j) = subst (λ x. Reaches instances texts number x) (sym j.0) (itself number)

      by_steps : (number ≡ l) ⊎ ((k : ℕ) × (o : Opened) × IsOpen instances texts number k o false × Reaches instances texts o.instance l) → IsIn doors.reach.public l ⊎ IsJust number l
      by_steps (inl same) = inr (sym same, (omega (arith, room.0, same), omega (arith, room.1, same)))
      by_steps (inr on) =
          inl ((replayed.noted.public l).1 (record { earlier = on.0; before = replayed.whole on.0 on.1 false on.2; opened = on.1; hidden = false; is_open = on.2; seen = λ e. refl; leading = on.3 }))

      from : Reaches instances texts number l → IsIn doors.reach.public l ⊎ IsJust number l
      from reaches = by_steps (split_reach number l reaches)
