-- The test of a walk over opens.
use Rattle.std.proofs.Common.{◌≡◌, ◌≢◌, ℕ, zero, suc, ◌+◌, ◌<◌, ◌≤◌, Bool, true, false, List, [], ◌∷◌, ◌++◌, length, Option, Some, None, refl, sym, ap, subst, ◌∙◌, arith, slice_get, inl, inr}
use Rattle.std.proofs.lemmas.Bool.{cases_lt}
use Rattle.std.proofs.lemmas.Option.{none-some, same_Some}
use Rattle.std.specs.Borrow.{Bor}
use Rattle.std.specs.Prelude.{IfSome, codes, decimal}
use Rattle.syntax_tree.specs.declared.instance.Instance.{Instance}
use Rattle.syntax_tree.specs.declared.instance.Opened.{Opened}
use Rattle.syntax_tree.specs.declared.instance.Text.{Text}
use Rattle.load_state.specs.Leads.{IsInstanceOf}
use Rattle.load_state.specs.Named.{IsOpen}
use Rattle.load_state.specs.Opens.{openings_of, is_hidden}
use Rattle.load_modules.specs.Numbered.{IsAmong, labels_before, IsLabelled, HasPlain, HasOpens, Walks, done, known, new, Begins, AreWalked, by_root, and_integers, AreNumbered, AreApart, AreMet, IsRounded}
use Rattle.load_modules.specs.Order.{slashed_to, IsLabel, plain, counted}
use Rattle.load_modules.specs.Reached.{IsPlain}
use Rattle.load_modules.specs.Steps.{IsTarget, IsNext, Leaves}

-- what an option has
pub some_of : {A : Type 0} (P : A → Type 0) (o : Option A) (a : A) → o ≡ Some a → IfSome o P → P a
some_of P o a is holds = subst (λ x. IfSome x P) is holds

-- what stands at a place that there is
at_place : {A : Type 0} (xs : List A) (k : ℕ) → k < length xs → (x : A) × (slice_get xs k ≡ Some x)
at_place [] k less = absurd (omega (arith, less))
at_place (x ∷ xs) zero less = (x, refl)
at_place (x ∷ xs) (suc k) less = at_place xs k (omega (arith, less))

pub open_here : (instances : List Instance) (texts : List Text) (number k count : ℕ) (i : Instance) (o : Opened) → HasOpens instances texts number count → k < count → slice_get instances number ≡ Some i →
    slice_get i.opens k ≡ Some o → (hidden : Bool) × IsOpen instances texts number k o hidden
open_here instances texts number k count i o has less here there =
    let one : has.instance ≡ i = same_Some has.instance i (sym has.is.is_instance ∙ here) in
    let opening = at_place (openings_of has.text.tree) k (let all = has.counted in omega (arith, less, all)) in
    let leads : slice_get has.instance.opens k ≡ Some o = subst (λ (j : Instance). slice_get j.opens k ≡ Some o) (sym one) there in
    (is_hidden opening.0, record { instance = has.instance; text = has.text; is = has.is; opening = opening.0; asks = opening.1; leads = leads; private = refl })

-- the same of an open that may not be there
pub opens_here : (instances : List Instance) (texts : List Text) (number k count : ℕ) (i : Instance) (found : Option (Bor Opened)) → HasOpens instances texts number count → k < count → slice_get instances number ≡ Some i →
    IfSome found (λ o. slice_get i.opens k ≡ Some o.now) → IfSome found (λ o. (hidden : Bool) × IsOpen instances texts number k o.now hidden)
opens_here instances texts number k count i None has less here is = tt
opens_here instances texts number k count i (Some o) has less here is = open_here instances texts number k count i o.now has less here is

module _ (instances : List Instance) (texts : List Text) where
  -- an open that is gone through, with where it leads
  pub next_here : (number : ℕ) (way : List ℕ) (k met : ℕ) (passed : List ℕ) (o : Opened) (there target : List ℕ) (at next : ℕ) (is_new : Bool) (found : List ℕ) → (hidden : Bool) × IsOpen instances texts number k o hidden →
      there ≡ slashed_to way o.alias → at ≡ o.instance → IsTarget instances there met passed at next is_new found → IsNext instances texts number way k met passed next is_new found
  next_here number way k met passed o there target at next is_new found is_open way_is at_is leads = record {
    opened = o;
    hidden = is_open.0;
    is_open = is_open.1;
    leads = subst (λ (w : List ℕ). IsTarget instances w met passed o.instance next is_new found) way_is (subst (λ (n : ℕ). IsTarget instances there met passed n next is_new found) at_is leads);
  }

  pub walk_begins : (number : ℕ) (way : List ℕ) (met : ℕ) (passed : List ℕ) → Leaves instances texts number way 0 met passed 0 met passed
  walk_begins number way met passed after behind rest = rest

  -- an open more that leads to an instance whose opens were followed
  pub walk_known : (number : ℕ) (way : List ℕ) (met : ℕ) (passed : List ℕ) (k now : ℕ) (found : List ℕ) (next : ℕ) (is_new : Bool) (there : List ℕ) → Leaves instances texts number way 0 met passed k now found →
      IsNext instances texts number way k now found next is_new there → is_new ≡ false → Leaves instances texts number way 0 met passed (k + 1) now found
  walk_known number way met passed k now found next is_new there leaves is old after behind rest =
      leaves after behind (known number way k now found after behind is.opened is.hidden is.is_open (is.leads.known old) (subst (λ (n : ℕ). Walks instances texts number way n now found after behind) (omega arith) rest))

  -- an open more that leads to a new one
  pub walk_new : (number : ℕ) (way : List ℕ) (met : ℕ) (passed : List ℕ) (k now : ℕ) (found : List ℕ) (next : ℕ) (is_new : Bool) (there : List ℕ) (inner between : ℕ) (inside grown : List ℕ) →
      Leaves instances texts number way 0 met passed k now found → IsNext instances texts number way k now found next is_new there → is_new ≡ true → inner ≡ now + 1 →
      Walks instances texts next there 0 inner found between inside → grown ≡ inside ++ next ∷ [] → Leaves instances texts number way 0 met passed (k + 1) between grown
  walk_new number way met passed k now found next is_new there inner between inside grown leaves is fresh more walks pushed after behind rest =
      let way_to = slashed_to way is.opened.alias in
      let number_is : next ≡ now = is.leads.same ∙ is.leads.numbered fresh in
      let way_is : there ≡ way_to = is.leads.way_there in
      let one : inner ≡ suc now = omega (arith, more) in
      let below : Walks instances texts now way_to 0 (suc now) found between inside =
      subst (λ (w : List ℕ). Walks instances texts now w 0 (suc now) found between inside) way_is
      (subst (λ (n : ℕ). Walks instances texts n there 0 (suc now) found between inside) number_is (subst (λ (n : ℕ). Walks instances texts next there 0 n found between inside) one walks)) in
      let list : grown ≡ inside ++ now ∷ [] = pushed ∙ ap (λ (n : ℕ). inside ++ n ∷ []) number_is in
      let later : Walks instances texts number way (suc k) between (inside ++ now ∷ []) after behind =
      subst (λ (l : List ℕ). Walks instances texts number way (suc k) between l after behind) list (subst (λ (n : ℕ). Walks instances texts number way n between grown after behind) (omega arith) rest) in
      leaves after behind (new number way k now found between inside after behind is.opened is.hidden is.is_open (is.leads.numbered fresh) (is.leads.labelled fresh) below later)

  pub walk_ends : (number : ℕ) (way : List ℕ) (met : ℕ) (passed : List ℕ) (count now : ℕ) (found : List ℕ) → Leaves instances texts number way 0 met passed count now found → HasOpens instances texts number count →
      Walks instances texts number way 0 met passed now found
  walk_ends number way met passed count now found leaves has = leaves now found (done number way count now found has)

  pub begins : (met : ℕ) (way : List ℕ) (passed : List ℕ) (next after : ℕ) (behind : List ℕ) → IsLabelled instances met way → next ≡ met + 1 → Walks instances texts met way 0 next passed after behind →
      Begins instances texts met way passed after behind
  begins met way passed next after behind labelled more walks = record {
    labelled = labelled;
    walks = subst (λ (n : ℕ). Walks instances texts met way 0 n passed after behind) (let one : next ≡ suc met = omega (arith, more) in one) walks;
  }

  pub walked_by_root : (integers : Option ℕ) (met after : ℕ) (way passed behind : List ℕ) → Begins instances texts met way passed after behind → met ≡ 0 → way ≡ [] → passed ≡ [] → after ≡ length instances →
      ((text : ℕ) → integers ≡ Some text → HasPlain instances text) → AreWalked instances texts integers
  walked_by_root integers met after way passed behind is zero_met no_way no_passed whole there =
      by_root integers behind (from_root met after way passed behind is zero_met no_way no_passed whole) there
    where
      from_root : (met after : ℕ) (way passed behind : List ℕ) → Begins instances texts met way passed after behind → met ≡ 0 → way ≡ [] → passed ≡ [] → after ≡ length instances → Begins instances texts 0 [] [] (length instances) behind
      from_root met after way passed behind is zero_met no_way no_passed whole =
          subst (λ (n : ℕ). Begins instances texts 0 [] [] n behind) whole
          (subst (λ (l : List ℕ). Begins instances texts 0 [] l after behind) no_passed
          (subst (λ (w : List ℕ). Begins instances texts 0 w passed after behind) no_way (subst (λ (n : ℕ). Begins instances texts n way passed after behind) zero_met is)))

  pub walked_behind : (text met after : ℕ) (way passed found behind : List ℕ) (i : Instance) → Begins instances texts 0 [] [] met passed → slice_get instances met ≡ Some i → IsPlain text i → found ≡ passed ++ 0 ∷ [] →
      way ≡ codes "integer" → Begins instances texts met way found after behind → after ≡ length instances → AreWalked instances texts (Some text)
  walked_behind text met after way passed found behind i root here is_plain pushed way_is more whole =
      and_integers text met passed behind i root here is_plain
      (subst (λ (n : ℕ). Begins instances texts met (codes "integer") (passed ++ 0 ∷ []) n behind) whole
      (subst (λ (l : List ℕ). Begins instances texts met (codes "integer") l after behind) pushed (subst (λ (w : List ℕ). Begins instances texts met w found after behind) way_is more)))

  pub numbered_all : (integers : Option ℕ) → AreApart texts → AreMet instances (length texts) → AreWalked instances texts integers →
      ((n : ℕ) (i : Instance) (t : Text) → IsInstanceOf instances texts n i t → IsRounded integers (length (openings_of t.tree)) i) → AreNumbered instances texts integers
  numbered_all integers apart met walked rounded = record { apart = apart; met = met; walked = walked; rounded = rounded }

pub target_known : (instances : List Instance) (way there : List ℕ) (met : ℕ) (passed : List ℕ) (target next : ℕ) (is_new : Bool) → next ≡ target → is_new ≡ false → there ≡ way → IsAmong passed target →
    IsTarget instances way met passed target next is_new there
target_known instances way there met passed target next is_new same old way_is among = record {
  same = same;
  way_there = way_is;
  known = λ no. among;
  labelled = λ yes. absurd (false_true (sym old ∙ yes));
  numbered = λ yes. absurd (false_true (sym old ∙ yes));
  within = λ yes. absurd (false_true (sym old ∙ yes));
}
  where
    false_true : ◌≡◌ {A = Bool} false true → ⊥
    false_true e = cc

pub target_new : (instances : List Instance) (way there : List ℕ) (met : ℕ) (passed : List ℕ) (target next : ℕ) (is_new : Bool) → next ≡ target → is_new ≡ true → there ≡ way → target ≡ met → target < length instances →
    IsLabelled instances target way → IsTarget instances way met passed target next is_new there
target_new instances way there met passed target next is_new same fresh way_is here less labelled = record {
  same = same;
  way_there = way_is;
  known = λ no. absurd (true_false (sym fresh ∙ no));
  labelled = λ yes. subst (λ (n : ℕ). IsLabelled instances n way) here labelled;
  numbered = λ yes. here;
  within = λ yes. omega (arith, less, here);
}
  where
    true_false : ◌≡◌ {A = Bool} true false → ⊥
    true_false e = cc

-- the labels before a number
label_at : (instances : List Instance) (number k : ℕ) (i : Instance) → k < number → slice_get instances k ≡ Some i → slice_get (labels_before instances number) k ≡ Some i.label
label_at [] number k i less is = absurd (none-some i is)
label_at (j ∷ instances) zero k i less is = absurd (omega (arith, less))
label_at (j ∷ instances) (suc number) zero i less is = ap (λ (x : Instance). Some x.label) (same_Some j i is)
label_at (j ∷ instances) (suc number) (suc k) i less is = label_at instances number k i (omega (arith, less)) is

label_of : (instances : List Instance) (number k : ℕ) (label : List ℕ) → slice_get (labels_before instances number) k ≡ Some label → (i : Instance) × (slice_get instances k ≡ Some i) × (i.label ≡ label) × (k < number)
label_of [] zero k label is = absurd (none-some label is)
label_of [] (suc number) k label is = absurd (none-some label is)
label_of (j ∷ instances) zero k label is = absurd (none-some label is)
label_of (j ∷ instances) (suc number) zero label is = (j, refl, same_Some j.label label is, omega arith)
label_of (j ∷ instances) (suc number) (suc k) label is =
    let rest = label_of instances number k label is in
    let less = rest.3 in
    (rest.0, rest.1, rest.2, omega (arith, less))

module _ (instances : List Instance) (label : List ℕ) where
  -- an earlier instance has the label
  pub taken_here : (number k : ℕ) (i : Instance) (own : List ℕ) → k < number → slice_get instances k ≡ Some i → own ≡ i.label → own ≡ label → slice_get (labels_before instances number) k ≡ Some label
  taken_here number k i own less is own_is same = label_at instances number k i less is ∙ ap (λ (l : List ℕ). Some l) (sym own_is ∙ same)

  -- none of so many instances has it
  abbrev pub HaveNot : ℕ → Type 0
  HaveNot count = (k : ℕ) (i : Instance) → k < count → slice_get instances k ≡ Some i → i.label ≢ label

  pub have_not_none : (k : ℕ) (i : Instance) → k < 0 → slice_get instances k ≡ Some i → i.label ≢ label
  have_not_none k i less is = absurd (omega (arith, less))

  pub have_not_next : (count : ℕ) (i : Instance) (own : List ℕ) → HaveNot count → slice_get instances count ≡ Some i → own ≡ i.label → own ≢ label → HaveNot (count + 1)
  have_not_next count i own not here own_is other k j less is same = elim (cases_lt k count) [
    | inl below ↦ not k j below is same
    | inr more ↦
        let at : k ≡ count = omega (arith, less, more) in
        let one : i ≡ j = same_Some i j (sym here ∙ (ap (λ (n : ℕ). slice_get instances n) (sym at) ∙ is)) in
        other (own_is ∙ (ap (λ (x : Instance). x.label) one ∙ same))
  ]

  pub free_here : (number : ℕ) → HaveNot number → (k : ℕ) → slice_get (labels_before instances number) k ≢ Some label
  free_here number not k is = let found = label_of instances number k label is in not k found.0 found.3 found.1 found.2

module _ (taken : List (List ℕ)) (way : List ℕ) where
  pub plain_label : (label : List ℕ) → ((k : ℕ) → slice_get taken k ≢ Some way) → way ≡ label → IsLabel taken way label
  plain_label label free same = subst (IsLabel taken way) same (plain free)

  -- the numbers from 2 on below this one make labels that are taken
  abbrev pub AreTaken : ℕ → Type 0
  AreTaken number = (m : ℕ) → 2 ≤ m → m < number → (k : ℕ) × (slice_get taken k ≡ Some (way ++ 36 ∷ decimal m))

  pub taken_none : (m : ℕ) → 2 ≤ m → m < 2 → (k : ℕ) × (slice_get taken k ≡ Some (way ++ 36 ∷ decimal m))
  taken_none m high low = absurd (omega (arith, high, low))

  pub taken_next : (number k : ℕ) (label : List ℕ) → AreTaken number → label ≡ way ++ 36 ∷ decimal number → slice_get taken k ≡ Some label → AreTaken (number + 1)
  taken_next number k label lower is there m high less = elim (cases_lt m number) [
    | inl below ↦ lower m high below
    | inr more ↦
        let same : number ≡ m = omega (arith, less, more) in
        subst (λ (n : ℕ). (j : ℕ) × (slice_get taken j ≡ Some (way ++ 36 ∷ decimal n))) same (k, there ∙ ap (λ (l : List ℕ). Some l) is)
  ]

  pub counted_label : (other number : ℕ) (next label : List ℕ) → slice_get taken other ≡ Some way → 2 ≤ number → AreTaken number → next ≡ way ++ 36 ∷ decimal number → ((k : ℕ) → slice_get taken k ≢ Some next) → next ≡ label →
      IsLabel taken way label
  counted_label other number next label here high lower is free same =
      subst (IsLabel taken way) (sym is ∙ same) (counted other number here high (subst (λ (l : List ℕ). (k : ℕ) → slice_get taken k ≢ Some l) is free) lower)

pub labelled_here : (instances : List Instance) (number : ℕ) (way own : List ℕ) (i : Instance) → slice_get instances number ≡ Some i → own ≡ i.label → IsLabel (labels_before instances number) way own → IsLabelled instances number way
labelled_here instances number way own i is own_is label =
    record { instance = i; is = is; label = subst (IsLabel (labels_before instances number) way) own_is label }
