-- `until` and `since` one place after another.
use Rattle.std.proofs.Common.{◌≡◌, ◌⊎◌, ◌↔◌, ℕ, zero, suc, ◌+◌, ◌-◌, ◌%◌, ◌<◌, ◌≤◌, Bool, true, false, ◌&&◌, ◌||◌, IsTrue, List, length, refl, sym, ◌∙◌, ap, subst, inl, inr, arith}
use Rattle.std.proofs.lemmas.Bool.{cases_lt, cond_below, cond_above}
use Rattle.std.proofs.Math.Nat.{mod-eq_of_lt, add-mod_left}
use Rattle.gate_trait.specs.declared.node.Node.{Node}
use Rattle.gate_temporal.specs.Rows.{row_value, folded, IsAt}
use Rattle.gate_temporal.specs.Times.{UntilAt, SinceAt, until_to, since_to}

or_and : (a b c : Bool) → IsTrue (a || (b && c)) ↔ (IsTrue a ⊎ (IsTrue b × IsTrue c))
or_and true b c = ((λ _. inl refl), (λ _. refl))
or_and false true true = ((λ _. inr (refl, refl)), (λ _. refl))
or_and false true false = ((λ e. absurd cc), (elim [ inl e ↦ absurd cc | inr p ↦ let e = p.1 in absurd cc ]))
or_and false false c = ((λ e. absurd cc), (elim [ inl e ↦ absurd cc | inr p ↦ let e = p.0 in absurd cc ]))

pub true_same : {P : Type 0} (a b : Bool) → a ≡ b → IsTrue b ↔ P → IsTrue a ↔ P
true_same a b e h = ((λ t. h.0 (sym e ∙ t)), (λ p. e ∙ h.1 p))

pub iff_trans : {P Q R : Type 0} → P ↔ Q → Q ↔ R → P ↔ R
iff_trans f g = ((λ x. g.0 (f.0 x)), (λ x. f.1 (g.1 x)))

pub since_step : (F G : ℕ → Bool) (k : ℕ) (v f g l : Bool) → v ≡ (g || (f && l)) → f ≡ F k → g ≡ G k → l ≡ since_to F G k → v ≡ since_to F G (suc k)
since_step F G k v f g l e ef eg el = cc

pub since_law : (F G : ℕ → Bool) (i : ℕ) → IsTrue (since_to F G (suc i)) ↔ SinceAt (λ j. IsTrue (F j)) (λ j. IsTrue (G j)) i
since_law F G zero = iff_trans (or_and (G 0) (F 0) false) (
  (elim [
    | inl g ↦ (0, omega arith, g, λ k low high. absurd (omega arith))
    | inr p ↦ let e = p.1 in absurd cc
  ]),
  (λ (j, le, g, after). let e : j ≡ 0 = omega arith in inl (subst (λ (k : ℕ). IsTrue (G k)) e g)),
)
since_law F G (suc i) = iff_trans (or_and (G (suc i)) (F (suc i)) (since_to F G (suc i))) (
  (elim [
    | inl g ↦ (suc i, omega arith, g, λ k low high. absurd (omega arith))
    | inr p ↦
        let (j, le, g, after) = (since_law F G i).0 p.1 in (
          j,
          omega arith,
          g,
          λ k low high. elim (cases_lt k (suc i)) [
            | inl less ↦ after k low (omega arith)
            | inr more ↦ let e : suc i ≡ k = omega arith in subst (λ (k : ℕ). IsTrue (F k)) e p.0
          ],
        )
  ]),
  (λ (j, le, g, after). elim (cases_lt j (suc i)) [
    | inl less ↦ inr (after (suc i) less (omega arith), (since_law F G i).1 (j, omega arith, g, λ k low high. after k low (omega arith)))
    | inr more ↦ let e : j ≡ suc i = omega arith in inl (subst (λ (k : ℕ). IsTrue (G k)) e g)
  ]),
)

pub until_step : (F G : ℕ → Bool) (b : Bool) (n m p q : ℕ) (v f g l : Bool) → v ≡ (g || (f && l)) → f ≡ F p → g ≡ G p → l ≡ until_to F G b n q → q ≡ p + 1 → m ≡ suc n → v ≡ until_to F G b m p
until_step F G b n m p q v f g l e ef eg el at more =
    let step : v ≡ until_to F G b (suc n) p = e ∙ ap (λ (c : Bool). c || (f && l)) eg ∙ ap (λ (c : Bool). G p || (c && l)) ef ∙ ap (λ (c : Bool). G p || (F p && c)) (el ∙ ap (λ (k : ℕ). until_to F G b n k) at) in
    step ∙ ap (λ (k : ℕ). until_to F G b k p) (sym more)

pub until_index : (F G : ℕ → Bool) (b : Bool) (n m i j : ℕ) → n ≡ m → i ≡ j → until_to F G b n i ≡ until_to F G b m j
until_index F G b n m i j e f = ap (λ (k : ℕ). until_to F G b k i) e ∙ ap (λ (k : ℕ). until_to F G b m k) f

-- g within n positions from i on, and f at each before it
abbrev UntilBy : (ℕ → Bool) → (ℕ → Bool) → ℕ → ℕ → Type 0
UntilBy F G n i = (j : ℕ) × (i ≤ j) × (j < i + n) × IsTrue (G j) × ((k : ℕ) → i ≤ k → k < j → IsTrue (F k))

until_law : (F G : ℕ → Bool) (n i : ℕ) → IsTrue (until_to F G false n i) ↔ UntilBy F G n i
until_law F G zero i = ((λ e. absurd cc), (λ (j, low, high, g, before). absurd (omega arith)))
until_law F G (suc n) i = iff_trans (or_and (G i) (F i) (until_to F G false n (i + 1))) (
  (elim [
    | inl g ↦ (i, omega arith, omega arith, g, λ k low high. absurd (omega arith))
    | inr p ↦
        let (j, low, high, g, before) = (until_law F G n (i + 1)).0 p.1 in (
          j,
          omega arith,
          omega arith,
          g,
          λ k lo hi. elim (cases_lt i k) [
            | inl less ↦ before k (omega arith) hi
            | inr more ↦ let e : i ≡ k = omega arith in subst (λ (k : ℕ). IsTrue (F k)) e p.0
          ],
        )
  ]),
  (λ (j, low, high, g, before). elim (cases_lt i j) [
    | inl less ↦ inr (before i (omega arith) less, (until_law F G n (i + 1)).1 (j, omega arith, omega arith, g, λ k lo hi. before k (omega arith) hi))
    | inr more ↦ let e : j ≡ i = omega arith in inl (subst (λ (k : ℕ). IsTrue (G k)) e g)
  ]),
)

-- it looks at n positions alone
until_same : (F G H K : ℕ → Bool) (b : Bool) (n i j : ℕ) → ((d p q : ℕ) → d < n → p ≡ i + d → q ≡ j + d → F p ≡ H q) → ((d p q : ℕ) → d < n → p ≡ i + d → q ≡ j + d → G p ≡ K q) → until_to F G b n i ≡ until_to H K b n j
until_same F G H K b zero i j f g = refl
until_same F G H K b (suc n) i j f g =
    let ef = f 0 i j (omega arith) (omega arith) (omega arith) in
    let eg = g 0 i j (omega arith) (omega arith) (omega arith) in
    let rest = until_same F G H K b n (i + 1) (j + 1) (λ d p q l e h. f (d + 1) p q (omega arith) (omega arith) (omega arith)) (λ d p q l e h. g (d + 1) p q (omega arith) (omega arith) (omega arith)) in
    cc

until_split : (F G : ℕ → Bool) (b : Bool) (n m k i j : ℕ) → k ≡ n + m → j ≡ i + n → until_to F G b k i ≡ until_to F G (until_to F G b m j) n i
until_split F G b zero m k i j e f = until_index F G b k m i j (omega arith) (omega arith)
until_split F G b (suc n) m zero i j e f = absurd (omega arith)
until_split F G b (suc n) m (suc k) i j e f = ap (λ (c : Bool). G i || (F i && c)) (until_split F G b n m k (i + 1) j (omega arith) (omega arith))

-- what holds with nothing behind holds with the truth behind
until_more : (F G : ℕ → Bool) (n i : ℕ) → IsTrue (until_to F G false n i) → IsTrue (until_to F G true n i)
until_more F G zero i e = absurd cc
until_more F G (suc n) i e = elim ((or_and (G i) (F i) (until_to F G false n (i + 1))).0 e) [
  | inl g ↦ (or_and (G i) (F i) (until_to F G true n (i + 1))).1 (inl g)
  | inr p ↦ (or_and (G i) (F i) (until_to F G true n (i + 1))).1 (inr (p.0, until_more F G n (i + 1) p.1))
]

-- a second round finds no more than the first
until_again : (F G : ℕ → Bool) (n i : ℕ) (b : Bool) → b ≡ until_to F G false n i → until_to F G b n i ≡ b
until_again F G n i false e = sym e
until_again F G n i true e = until_more F G n i (sym e)

-- up to the place where rounds begin one pass is enough
pub until_once : (F G : ℕ → Bool) (first len i : ℕ) (last : Bool) → i ≤ first → first ≤ len → last ≡ until_to F G false (len - first) first → until_to F G false (len - i) i ≡ until_to F G last (len - i) i
until_once F G first len i last low inside el =
    let m : ℕ = len - first in
    let n : ℕ = first - i in
    until_split F G false n m (len - i) i first (omega arith) (omega arith)
    ∙ ap (λ (b : Bool). until_to F G b n i) (sym el ∙ sym (until_again F G m first last el))
    ∙ sym (until_split F G last n m (len - i) i first (omega arith) (omega arith))

pub fold_inside : (first round i : ℕ) → i < first + round → folded first round i ≡ i
fold_inside first round i lt = sym (cond_below i (first + round) i _ lt)

fold_past : (first round i : ℕ) → 0 < round → first ≤ i → folded first round i ≡ first + (i - first) % round
fold_past first round i some far =
    elim (cases_lt i (first + round)) [
      | inl inside ↦
          let same : i ≡ first + (i - first) = omega arith in
          fold_inside first round i inside ∙ same ∙ ap (λ (k : ℕ). first + k) (sym (mod-eq_of_lt (omega arith)))
      | inr past ↦ sym (cond_above i (first + round) i _ _ past refl)
    ]

pub fold_again : (first round i : ℕ) → 0 < round → first ≤ i → folded first round (i + round) ≡ folded first round i
fold_again first round i some far =
    let turned : i + round - first ≡ round + (i - first) = omega arith in
    fold_past first round (i + round) some (omega arith)
    ∙ ap (λ (k : ℕ). first + k % round) turned
    ∙ ap (λ (k : ℕ). first + k) (add-mod_left round (i - first))
    ∙ sym (fold_past first round i some far)

-- a witness is found within one round of where the truth repeats
near : (F G : ℕ → Type 0) (i p m top : ℕ) → i ≤ top → m ≤ top → 0 < p → ((k : ℕ) → m ≤ k → G (k + p) → G k) → (fuel n : ℕ) → n ≤ fuel → i ≤ n → G n → ((k : ℕ) → i ≤ k → k < n → F k) → (j : ℕ) × (i ≤ j) × (j < top + p) × G j × ((k : ℕ) → i ≤ k → k < j → F k)
near F G i p m top it mt some again zero n le low at before = (n, low, omega arith, at, before)
near F G i p m top it mt some again (suc fuel) n le low at before = elim (cases_lt n (top + p)) [
  | inl close ↦ (n, low, close, at, before)
  | inr far ↦
      let back : n ≡ n - p + p = omega arith in
      near F G i p m top it mt some again fuel (n - p) (omega arith) (omega arith) (again (n - p) (omega arith) (subst G back at)) (λ k low high. before k low (omega arith))
]

-- two passes over a row decide `until`
pub until_passes : (value : Node → Bool) (f g : List Node) (first i : ℕ) (v last : Bool) → length f ≡ length g → first < length f → i < length f
    → last ≡ until_to (row_value value f) (row_value value g) false (length f - first) first
    → v ≡ until_to (row_value value f) (row_value value g) last (length f - i) i
    → IsTrue v ↔ UntilAt (IsAt value f first) (IsAt value g first) i
until_passes value f g first i v last same loops inside el ev =
    let len : ℕ = length f in
    let round : ℕ = len - first in
    let F = row_value value f in
    let G = row_value value g in
    let H = λ (k : ℕ). F (folded first round k) in
    let K = λ (k : ℕ). G (folded first round k) in
    let here : (d p q : ℕ) → d < len - i → p ≡ i + d → q ≡ i + d → folded first round q ≡ p = λ d p q l e h. fold_inside first round q (omega arith) ∙ h ∙ sym e in
    let there : (d p q : ℕ) → d < round → p ≡ first + d → q ≡ len + d → folded first round q ≡ p = λ d p q l e h.
    let back : q ≡ p + round = omega arith in
    ap (λ (k : ℕ). folded first round k) back ∙ fold_again first round p (omega arith) (omega arith) ∙ fold_inside first round p (omega arith) in
    let el2 : last ≡ until_to H K false round len = el ∙ until_same F G H K false round first len (λ d p q l e h. ap F (sym (there d p q l e h))) (λ d p q l e h. ap G (sym (there d p q l e h))) in
    let ev2 : v ≡ until_to H K last (len - i) i = ev ∙ until_same F G H K last (len - i) i i (λ d p q l e h. ap F (sym (here d p q l e h))) (λ d p q l e h. ap G (sym (here d p q l e h))) in
    let whole : v ≡ until_to H K false (len - i + round) i = ev2 ∙ ap (λ (b : Bool). until_to H K b (len - i) i) el2 ∙ sym (until_split H K false (len - i) round (len - i + round) i len (omega arith) (omega arith)) in
    let again : (k : ℕ) → first ≤ k → IsTrue (K (k + round)) → IsTrue (K k) = λ k far t. ap G (sym (fold_again first round k (omega arith) far)) ∙ t in
    let law = until_law H K (len - i + round) i in
    let by : IsTrue v ↔ UntilAt (λ k. IsTrue (H k)) (λ k. IsTrue (K k)) i = true_same v _ whole (
      (λ t. let (j, low, high, at, before) = law.0 t in (j, low, at, before)),
      (λ (n, low, at, before).
          let (j, low2, high2, at2, before2) = near (λ k. IsTrue (H k)) (λ k. IsTrue (K k)) i round first len (omega arith) (omega arith) (omega arith) again n n (omega arith) low at before in
          law.1 (j, low2, omega arith, at2, before2)),
    ) in
    subst (λ (r : ℕ). IsTrue v ↔ UntilAt (IsAt value f first) (λ k. IsTrue (G (folded first (r - first) k))) i) same by

pub fold_end : (first round i : ℕ) → 0 < round → i ≡ first + round → folded first round i ≡ first
fold_end first round i some at =
    ap (λ (k : ℕ). folded first round k) at ∙ fold_again first round first some (omega arith) ∙ fold_inside first round first (omega arith)

same_truth : (a b : Bool) → IsTrue a ↔ IsTrue b → a ≡ b
same_truth true b h = sym (h.0 refl)
same_truth false true h = h.1 refl
same_truth false false h = refl

-- up to the place where rounds begin the first pass tells it
pub until_first : (value : Node → Bool) (f g : List Node) (first i : ℕ) (v : Bool) → length f ≡ length g → first < length f → i ≤ first
    → v ≡ until_to (row_value value f) (row_value value g) false (length f - i) i
    → IsTrue v ↔ UntilAt (IsAt value f first) (IsAt value g first) i
until_first value f g first i v same loops low ev =
    let last = until_to (row_value value f) (row_value value g) false (length f - first) first in
    until_passes value f g first i v last same loops (omega arith) refl
    (ev ∙ until_once (row_value value f) (row_value value g) first (length f) i last low (omega arith) refl)

-- behind any place the second pass tells it, where the truth at the place where rounds begin is known
pub until_second : (value : Node → Bool) (f g : List Node) (first i : ℕ) (v last : Bool) → length f ≡ length g → first < length f → i < length f
    → IsTrue last ↔ UntilAt (IsAt value f first) (IsAt value g first) first
    → v ≡ until_to (row_value value f) (row_value value g) last (length f - i) i
    → IsTrue v ↔ UntilAt (IsAt value f first) (IsAt value g first) i
until_second value f g first i v last same loops inside tells ev =
    let F = row_value value f in
    let G = row_value value g in
    let found = until_to F G false (length f - first) first in
    let known = until_first value f g first first found same loops (omega arith) refl in
    let is : last ≡ found = same_truth last found (iff_trans tells (known.1, known.0)) in
    until_passes value f g first i v last same loops inside is ev
