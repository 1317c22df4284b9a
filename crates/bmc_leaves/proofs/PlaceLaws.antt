-- The places of windows show positions, and formulas have the same truth at the next place as at
-- the next position.
use Rattle.std.proofs.Common.{◌≡◌, ◌↔◌, ◌⊎◌, ◌<◌, ◌≤◌, ◌+◌, ◌-◌, ◌*◌, ◌%◌, ℕ, nat_lt, eqb, Bool, true, false, List, [], ◌∷◌, length, Some, slice_get, refl, sym, ap, ◌∙◌, subst, arith, inl, inr, if◌then◌else◌}
use Rattle.std.proofs.Math.Nat.{mod_self}
use Rattle.std.proofs.lemmas.Bool.{cases_lt, cond_below, cond_above}
use Rattle.std.proofs.lemmas.Option.{slice_get_within}
use Rattle.core_tree.specs.Trees.{Term, Claim}
use Rattle.core_tree.specs.Past.{no_depths, past_in, past_of}
use Rattle.core_meaning.specs.Sequence.{LassoValue, period}
use Rattle.core_meaning.specs.World.{World}
use Rattle.core_meaning.specs.Operators.{Tuples}
use Rattle.core_meaning.specs.Meaning.{atom, one_of, InTerm, Holds}
use Rattle.core_meaning.specs.Called.{no_bodies}
use Rattle.core_window.proofs.FoldLemmas.{fold_below, holds_folded, term_folded}
use Rattle.bmc_windows.specs.declared.frame.Stretch.{Stretch}
use Rattle.bmc_windows.specs.Frames.{IsStretch, window_length, place_next}
use Rattle.bmc_leaves.specs.Shown.{Atoms, names_of, Reading, IsReading, HasPlace, none_nested}
use Rattle.bmc_leaves.specs.Loops.{IsNextIn}
use Rattle.bmc_leaves.specs.Table.{Decodes}
use Rattle.core_window.specs.Repeats.{SameTuples, uncounted, HasLoop, RepeatNames, RepeatBodies, repeats_from, window_end, fold_of}

-- ---- the window law, where nothing is called and names stand for atoms

bodies_again : (w : World) (some : HasLoop w.lasso) → RepeatBodies w some no_bodies none_nested
bodies_again w some = record {
  terms = λ body names d again h i le few far t. ((λ v. v), (λ v. v));
  claims = λ body names d again h i le few far. ((λ v. v), (λ v. v));
}

one_moves : (b : Bool) (a i j : ℕ) (A B : Tuples) (t : List ℕ) → (A t → B t) → one_of b (atom a i) A t → one_of b (atom a j) B t
one_moves true a i j A B t same is = is
one_moves false a i j A B t same is = same is

-- an atom is the same at every position
atoms_move : (atoms : Atoms) (x i j : ℕ) (t : List ℕ) → names_of atoms x i t → names_of atoms x j t
atoms_move [] x i j t is = is
atoms_move (b ∷ atoms) x i j t is = one_moves (eqb x b.0) b.1 i j (names_of atoms x i) (names_of atoms x j) t (atoms_move atoms x i j t) is

names_again : (w : World) (some : HasLoop w.lasso) (atoms : Atoms) → RepeatNames w some (names_of atoms) no_depths
names_again w some atoms = λ x h i le few far t. (atoms_move atoms x i _ t, atoms_move atoms x _ i t)

few_enough : (h : ℕ) → h ≤ 8 → h < uncounted
few_enough h le = omega arith

pub holds_folds : (w : World) (atoms : Atoms) (f : Claim) (h i : ℕ) → HasLoop w.lasso → h ≤ 8 → past_of none_nested f no_depths ≤ h → Holds w no_bodies f (names_of atoms) (fold_of w.lasso h i) ↔ Holds w no_bodies f (names_of atoms) i
holds_folds w atoms f h i some few le = holds_folded w some no_bodies none_nested (bodies_again w some) f (names_of atoms) no_depths (names_again w some atoms) h le (few_enough h few) i

pub term_folds : (w : World) (atoms : Atoms) (e : Term) (h i : ℕ) → HasLoop w.lasso → h ≤ 8 → past_in none_nested e no_depths ≤ h → SameTuples (InTerm w no_bodies e (names_of atoms) (fold_of w.lasso h i)) (InTerm w no_bodies e (names_of atoms) i)
term_folds w atoms e h i some few le = term_folded w some no_bodies none_nested (bodies_again w some) e (names_of atoms) no_depths (names_again w some atoms) h le (few_enough h few) i

-- ---- windows

pub loop_of : (r : Reading) (x : ℕ → Bool) (lasso : LassoValue) → Decodes r.bounds r.table x lasso → HasLoop lasso
loop_of r x lasso shows = let a = shows.states in let b = shows.loop.0 in omega (arith, a, b)

pub round_more : (h p : ℕ) → (h + 1) * p ≡ h * p + p
round_more h p = grind arith

-- how long the window of a loop is
pub window_is : (r : Reading) (x : ℕ → Bool) (lasso : LassoValue) (loop : ℕ) → Decodes r.bounds r.table x lasso → lasso.loop_start ≡ loop → window_length r.bounds.states (r.depth + 1) loop ≡ window_end lasso r.depth
window_is r x lasso loop shows at =
    let round : r.bounds.states - loop ≡ period lasso = ap (λ (n : ℕ). n - loop) (sym shows.states) ∙ ap (λ (n : ℕ). length lasso.states - n) (sym at) in
    let whole = round_more r.depth (period lasso) in
    ap (λ (p : ℕ). loop + (r.depth + 1) * p) round ∙ ap (λ (n : ℕ). n + (r.depth + 1) * period lasso) (sym at) ∙ (omega (arith, whole))

pub round_is : (r : Reading) (x : ℕ → Bool) (lasso : LassoValue) (loop : ℕ) → Decodes r.bounds r.table x lasso → lasso.loop_start ≡ loop → r.bounds.states - loop ≡ period lasso
round_is r x lasso loop shows at = ap (λ (n : ℕ). n - loop) (sym shows.states) ∙ ap (λ (n : ℕ). length lasso.states - n) (sym at)

pub stretch_of : (r : Reading) → IsReading r → (loop k : ℕ) (s : Stretch) → HasPlace r.frame loop s k → IsStretch r.bounds.states (r.depth + 1) loop r.frame.shown.items r.frame.next.items s
stretch_of r ok loop k s place = ok.frame.each loop s place.0

pub length_of : (r : Reading) → IsReading r → (loop k : ℕ) (s : Stretch) → HasPlace r.frame loop s k → s.end - s.start ≡ window_length r.bounds.states (r.depth + 1) loop
length_of r ok loop k s place = let e = (stretch_of r ok loop k s place).end in omega (arith, e)

-- a place is one of all places
pub place_within : (r : Reading) → IsReading r → (loop k : ℕ) (s : Stretch) → HasPlace r.frame loop s k → s.start + k < length r.frame.shown.items
place_within r ok loop k s place =
    let long = length_of r ok loop k s place in
    slice_get_within r.frame.shown.items (s.start + k) _ ((stretch_of r ok loop k s place).shows k (let lt = place.1 in omega (arith, lt, long)))

folds_to : (m p w k : ℕ) → w ≡ m + p → k < w → (if nat_lt (k + 1) w then k + 1 else w - p) ≡ (if nat_lt (k + 1) (m + p) then k + 1 else m + (k + 1 - m) % p)
folds_to m p w k e lt = elim (cases_lt (k + 1) w) [
  | inl below ↦ sym (cond_below (k + 1) w (k + 1) (w - p) below) ∙ cond_below (k + 1) (m + p) (k + 1) (m + (k + 1 - m) % p) (omega (arith, below, e))
  | inr above ↦
      let past : m + p ≤ k + 1 = omega (arith, above, e) in
      let whole : k + 1 - m ≡ p = omega (arith, above, lt, e) in
      let zero_left : (k + 1 - m) % p ≡ 0 = ap (λ (n : ℕ). n % p) whole ∙ mod_self p in
      sym (cond_above (k + 1) w (k + 1) (w - p) _ above refl) ∙ (let back : w - p ≡ m + (k + 1 - m) % p = omega (arith, zero_left, e) in back) ∙ cond_above (k + 1) (m + p) (k + 1) (m + (k + 1 - m) % p) _ past refl
]

-- the place of the next position
pub next_is : (r : Reading) → IsReading r → (x : ℕ → Bool) (lasso : LassoValue) (loop k : ℕ) (s : Stretch) → Decodes r.bounds r.table x lasso → lasso.loop_start ≡ loop → HasPlace r.frame loop s k → place_next r.bounds.states (r.depth + 1) loop k ≡ fold_of lasso r.depth (k + 1)
next_is r ok x lasso loop k s shows at place =
    let long = length_of r ok loop k s place in
    let lt = place.1 in
    let e = window_is r x lasso loop shows at in
    let round = round_is r x lasso loop shows at in
    ap (λ (p : ℕ). if nat_lt (k + 1) (window_length r.bounds.states (r.depth + 1) loop) then k + 1 else window_length r.bounds.states (r.depth + 1) loop - p) round
    ∙ folds_to (repeats_from lasso r.depth) (period lasso) (window_length r.bounds.states (r.depth + 1) loop) k e (omega (arith, lt, long))

next_below : (w p k : ℕ) → 0 < p → k < w → (if nat_lt (k + 1) w then k + 1 else w - p) < w
next_below w p k some lt = elim (cases_lt (k + 1) w) [
  | inl below ↦ subst (λ (n : ℕ). n < w) (cond_below (k + 1) w (k + 1) (w - p) below) below
  | inr above ↦ (let less : w - p < w = omega (arith, some, lt) in subst (λ (n : ℕ). n < w) (cond_above (k + 1) w (k + 1) (w - p) _ above refl) less)
]

pub next_place : (r : Reading) → IsReading r → (loop k : ℕ) (s : Stretch) → loop < r.bounds.states → HasPlace r.frame loop s k → HasPlace r.frame loop s (place_next r.bounds.states (r.depth + 1) loop k)
next_place r ok loop k s some place =
    let long = length_of r ok loop k s place in
    let lt = place.1 in
    let below = next_below (window_length r.bounds.states (r.depth + 1) loop) (r.bounds.states - loop) k (omega (arith, some)) (omega (arith, lt, long)) in
    (place.0, subst (λ (n : ℕ). place_next r.bounds.states (r.depth + 1) loop k < n) (sym long) below)

-- each window is of a loop that begins at a state
pub loop_below : (r : Reading) → IsReading r → (loop k : ℕ) (s : Stretch) → HasPlace r.frame loop s k → loop < r.bounds.states
loop_below r ok loop k s place = let lt = slice_get_within r.frame.windows.items loop s place.0 in let count = ok.frame.count in omega (arith, lt, count)

pub next_at : (r : Reading) → IsReading r → (loop k : ℕ) (s : Stretch) → HasPlace r.frame loop s k → slice_get r.frame.next.items (s.start + k) ≡ Some (s.start + place_next r.bounds.states (r.depth + 1) loop k)
next_at r ok loop k s place =
    let long = length_of r ok loop k s place in
    let lt = place.1 in
    (stretch_of r ok loop k s place).nexts k (omega (arith, lt, long))

next_either : (w p i start end back : ℕ) (k : ℕ) → p ≤ w → end ≡ start + w → back ≡ end - p → i ≡ start + k → (start + (if nat_lt (k + 1) w then k + 1 else w - p) ≡ i + 1) ⊎ (start + (if nat_lt (k + 1) w then k + 1 else w - p) ≡ back)
next_either w p i start end back k less e b here = elim (cases_lt (k + 1) w) [
  | inl below ↦ inl (ap (λ (n : ℕ). start + n) (sym (cond_below (k + 1) w (k + 1) (w - p) below)) ∙ omega (arith, here))
  | inr above ↦ inr (ap (λ (n : ℕ). start + n) (sym (cond_above (k + 1) w (k + 1) (w - p) _ above refl)) ∙ omega (arith, less, e, b))
]

pub next_in : (r : Reading) → IsReading r → (loop k : ℕ) (s : Stretch) → HasPlace r.frame loop s k → IsNextIn s (s.start + k) (s.start + place_next r.bounds.states (r.depth + 1) loop k)
next_in r ok loop k s place =
    let st = stretch_of r ok loop k s place in
    let round : ℕ = r.bounds.states - loop in
    let more = round_more r.depth round in
    next_either (window_length r.bounds.states (r.depth + 1) loop) round (s.start + k) s.start s.end s.back k (omega (arith, more)) st.end st.back refl

-- the place to which a position is folded
pub fold_place : (r : Reading) → IsReading r → (x : ℕ → Bool) (lasso : LassoValue) (loop k : ℕ) (s : Stretch) → Decodes r.bounds r.table x lasso → lasso.loop_start ≡ loop → HasPlace r.frame loop s k → (j : ℕ) → HasPlace r.frame loop s (fold_of lasso r.depth j)
fold_place r ok x lasso loop k s shows at place j =
    let long = length_of r ok loop k s place in
    let e = window_is r x lasso loop shows at in
    let below = fold_below lasso r.depth j (loop_of r x lasso shows) in
    (place.0, omega (arith, long, e, below))

-- from where the window goes round
pub back_is : (r : Reading) → IsReading r → (x : ℕ → Bool) (lasso : LassoValue) (loop k : ℕ) (s : Stretch) → Decodes r.bounds r.table x lasso → lasso.loop_start ≡ loop → HasPlace r.frame loop s k → (s.back - s.start ≡ repeats_from lasso r.depth) × (s.end - s.start - (s.back - s.start) ≡ period lasso)
back_is r ok x lasso loop k s shows at place =
    let st = stretch_of r ok loop k s place in
    let long = length_of r ok loop k s place in
    let e = window_is r x lasso loop shows at in
    let round = round_is r x lasso loop shows at in
    let back = st.back in
    let end = st.end in
    let first : s.back - s.start ≡ repeats_from lasso r.depth = omega (arith, back, end, round, e) in
    (first, omega (arith, first, long, e))
