-- Lemmas on temporal operators one period later, where their formulas repeat.
use Rattle.std.specs.Prelude.{◌≡◌, ◌↔◌, ℕ, ◌+◌, ◌-◌, ◌*◌, ◌<◌, ◌≤◌, max}
use Rattle.std.proofs.Common.{inl, inr, refl, sym, subst, arith}
use Rattle.std.proofs.lemmas.Bool.{cases_lt, cond_below, cond_above}
use Rattle.std.proofs.Math.Nat.{le-max_left, le-max_right}
use Rattle.core_tree.specs.declared.operators.TemporalUnary.{TemporalUnary}
use Rattle.core_tree.specs.declared.operators.TemporalUnary.TheVariants.{After, Always, Eventually, Before, Historically, Once}
use Rattle.core_tree.specs.declared.operators.TemporalBinary.{TemporalBinary}
use Rattle.core_tree.specs.declared.operators.TemporalBinary.TheVariants.{Until, Releases, Since, Triggered, Then}
use Rattle.core_tree.specs.Past.{one_more, under_unary, under_binary}
use Rattle.core_meaning.specs.Operators.{Times, SomeLater, SomeEarlier, UntilAt, SinceAt, Happens, HappenBoth}
use Rattle.core_window.proofs.SameLemmas.{both_same, not_same, turn, same_trans}
use Rattle.core_window.specs.Repeats.{uncounted}

pub until_again : (F G : Times) (p i : ℕ) → ((j : ℕ) → i ≤ j → F j ↔ F (j + p)) → ((j : ℕ) → i ≤ j → G j ↔ G (j + p)) → UntilAt F G i ↔ UntilAt F G (i + p)
until_again F G p i f g = (
  (λ (j, le, gj, fs). (
    j + p,
    omega arith,
    (g j le).0 gj,
    λ k low high.
        let back : k - p + p ≡ k = omega arith in
        subst F back ((f (k - p) (omega arith)).0 (fs (k - p) (omega arith) (omega arith))),
  )),
  (λ (j, le, gj, fs).
      let back : j ≡ j - p + p = omega arith in
      (j - p, omega arith, (g (j - p) (omega arith)).1 (subst G back gj), λ k low high. (f k low).1 (fs (k + p) (omega arith) (omega arith)))),
)

pub since_again : (F G : Times) (p m i : ℕ) → m + p ≤ i → ((j : ℕ) → m ≤ j → F j ↔ F (j + p)) → ((j : ℕ) → m ≤ j → G j ↔ G (j + p)) → SinceAt F G i ↔ SinceAt F G (i + p)
since_again F G p m i far f g = (
  (λ (j, le, gj, fs). elim (cases_lt j m) [
    | inl before ↦ (
      j,
      omega arith,
      gj,
      λ k low high. elim (cases_lt i k) [
        | inl later ↦
            let back : k - p + p ≡ k = omega arith in
            subst F back ((f (k - p) (omega arith)).0 (fs (k - p) (omega arith) (omega arith)))
        | inr sooner ↦ fs k low sooner
      ],
    )
    | inr after ↦ (
      j + p,
      omega arith,
      (g j after).0 gj,
      λ k low high.
          let back : k - p + p ≡ k = omega arith in
          subst F back ((f (k - p) (omega arith)).0 (fs (k - p) (omega arith) (omega arith))),
    )
  ]),
  (λ (j, le, gj, fs). elim (cases_lt j (m + p)) [
    | inl before ↦ (j, omega arith, gj, λ k low high. fs k low (omega arith))
    | inr after ↦
        let back : j ≡ j - p + p = omega arith in
        (j - p, omega arith, (g (j - p) (omega arith)).1 (subst G back gj), λ k low high. (f k (omega arith)).1 (fs (k + p) (omega arith) (omega arith)))
  ]),
)

abbrev pub Always_true : Times
Always_true j = Unit {0}

pub later_is_until : (F : Times) (i : ℕ) → SomeLater F i ↔ UntilAt Always_true F i
later_is_until F i = ((λ (j, le, f). (j, le, f, λ k low high. tt)), (λ (j, le, f, all). (j, le, f)))

pub earlier_is_since : (F : Times) (i : ℕ) → SomeEarlier F i ↔ SinceAt Always_true F i
earlier_is_since F i = ((λ (j, le, f). (j, le, f, λ k low high. tt)), (λ (j, le, f, all). (j, le, f)))

pub later_again : (F : Times) (p i : ℕ) → ((j : ℕ) → i ≤ j → F j ↔ F (j + p)) → SomeLater F i ↔ SomeLater F (i + p)
later_again F p i f = same_trans (later_is_until F i) (same_trans (until_again Always_true F p i (λ j le. ((λ x. x), (λ x. x))) f) (turn (later_is_until F (i + p))))

pub earlier_again : (F : Times) (p m i : ℕ) → m + p ≤ i → ((j : ℕ) → m ≤ j → F j ↔ F (j + p)) → SomeEarlier F i ↔ SomeEarlier F (i + p)
earlier_again F p m i far f = same_trans (earlier_is_since F i) (same_trans (since_again Always_true F p m i far (λ j le. ((λ x. x), (λ x. x))) f) (turn (earlier_is_since F (i + p))))

pub le_trans : {a b c : ℕ} → a ≤ b → b ≤ c → a ≤ c
le_trans h k = omega arith

-- one past operator over what nests n is more than n
pub one_more-le : (n h : ℕ) → one_more n ≤ h → h < uncounted → n + 1 ≤ h
one_more-le n h le few = elim (cases_lt n uncounted) [
  | inl below ↦ subst (λ k. k ≤ h) (sym (cond_below n uncounted (n + 1) n below)) le
  | inr above ↦ absurd (let e : uncounted ≤ h = le_trans above (subst (λ k. k ≤ h) (sym (cond_above n uncounted (n + 1) n n above refl)) le) in omega arith)
]

pub max-le_left : (a b h : ℕ) → max a b ≤ h → a ≤ h
max-le_left a b h le = le_trans (le-max_left a b) le

pub max-le_right : (a b h : ℕ) → max a b ≤ h → b ≤ h
max-le_right a b h le = le_trans (le-max_right a b) le

-- m is where a loop begins and p its period: so many rounds into the loop
module _ (m p : ℕ) where
  abbrev pub IsAfterRounds : ℕ → ℕ → Type 0
  IsAfterRounds h i = m + h * p ≤ i

  round_back : (h i : ℕ) → IsAfterRounds (h + 1) i → m + h * p + p ≤ i
  round_back h i far = omega (arith, far)

  -- a fact of past depth n repeats after n rounds
  abbrev pub Repeats : ℕ → Times → Type 0
  Repeats n F = (h j : ℕ) → n ≤ h → h < uncounted → IsAfterRounds h j → F j ↔ F (j + p)

  pub not_repeats : (n : ℕ) (F : Times) → Repeats n F → Repeats n (λ j. ¬ F j)
  not_repeats n F again h j le few far = not_same (again h j le few far)

  pub swap : (F : Times) (i : ℕ) → F (i + 1) ↔ F (i + 1 + p) → F (i + 1) ↔ F (i + p + 1)
  swap F i h = let e : i + 1 + p ≡ i + p + 1 = omega arith in subst (λ j. F (i + 1) ↔ F j) e h

  before_again : (F : Times) (n h i : ℕ) → Repeats n F → n + 1 ≤ h → h < uncounted → IsAfterRounds h i → 0 < p → Happens Before F i ↔ Happens Before F (i + p)
  before_again F n h i again le few far some =
      let whole : h - 1 + 1 ≡ h = omega arith in
      let back = round_back (h - 1) i (subst (λ k. m + k * p ≤ i) (sym whole) far) in
      let e : i - 1 + p ≡ i + p - 1 = omega arith in
      let same = subst (λ j. F (i - 1) ↔ F j) e (again (h - 1) (i - 1) (omega arith) (omega arith) (omega (arith, back))) in
      ((λ (low, k). (omega arith, same.0 k)), (λ (low, k). (omega arith, same.1 k)))

  once_again : (F : Times) (n h i : ℕ) → Repeats n F → n + 1 ≤ h → h < uncounted → IsAfterRounds h i → SomeEarlier F i ↔ SomeEarlier F (i + p)
  once_again F n h i again le few far =
      let whole : h - 1 + 1 ≡ h = omega arith in
      earlier_again F p (m + (h - 1) * p) i (round_back (h - 1) i (subst (λ k. m + k * p ≤ i) (sym whole) far)) (λ j low. again (h - 1) j (omega arith) (omega arith) low)

  both_again : (F G : Times) (n h i : ℕ) → Repeats n F → Repeats n G → n + 1 ≤ h → h < uncounted → IsAfterRounds h i → SinceAt F G i ↔ SinceAt F G (i + p)
  both_again F G n h i f g le few far =
      let whole : h - 1 + 1 ≡ h = omega arith in
      since_again F G p (m + (h - 1) * p) i (round_back (h - 1) i (subst (λ k. m + k * p ≤ i) (sym whole) far)) (λ j low. f (h - 1) j (omega arith) (omega arith) low) (λ j low. g (h - 1) j (omega arith) (omega arith) low)

  pub unary_again : (op : TemporalUnary) (F : Times) (n : ℕ) → 0 < p → Repeats n F → Repeats (under_unary op n) (Happens op F)
  unary_again After F n some again h i le few far = swap F i (again h (i + 1) le few (omega (arith, far)))
  unary_again Always F n some again h i le few far = not_same (later_again (λ j. ¬ F j) p i (λ j low. not_same (again h j le few (le_trans far low))))
  unary_again Eventually F n some again h i le few far = later_again F p i (λ j low. again h j le few (le_trans far low))
  unary_again Before F n some again h i le few far = before_again F n h i again (one_more-le n h le few) few far some
  unary_again Historically F n some again h i le few far = not_same (once_again (λ j. ¬ F j) n h i (not_repeats n F again) (one_more-le n h le few) few far)
  unary_again Once F n some again h i le few far = once_again F n h i again (one_more-le n h le few) few far

  pub binary_again : (op : TemporalBinary) (F G : Times) (n : ℕ) → Repeats n F → Repeats n G → Repeats (under_binary op n) (HappenBoth op F G)
  binary_again Until F G n f g h i le few far = until_again F G p i (λ j low. f h j le few (le_trans far low)) (λ j low. g h j le few (le_trans far low))
  binary_again Releases F G n f g h i le few far = not_same (until_again (λ j. ¬ F j) (λ j. ¬ G j) p i (λ j low. not_same (f h j le few (le_trans far low))) (λ j low. not_same (g h j le few (le_trans far low))))
  binary_again Since F G n f g h i le few far = both_again F G n h i f g (one_more-le n h le few) few far
  binary_again Triggered F G n f g h i le few far = not_same (both_again (λ j. ¬ F j) (λ j. ¬ G j) n h i (not_repeats n F f) (not_repeats n G g) (one_more-le n h le few) few far)
  binary_again Then F G n f g h i le few far = both_same (f h i le few far) (swap G i (g h (i + 1) le few (omega (arith, far))))
