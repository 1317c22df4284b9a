-- Rows that go round windows.
use Rattle.std.proofs.Common.{◌≡◌, ◌↔◌, ◌<◌, ◌≤◌, ◌+◌, ◌-◌, ◌*◌, ◌%◌, ℕ, zero, suc, nat_lt, cond, Bool, true, false, List, [], ◌∷◌, ◌++◌, length, slice_get, Some, IsTrue, refl, sym, ap, ◌∙◌, subst, arith, inl, inr, length-append}
use Rattle.std.proofs.lemmas.Bool.{cases_lt}
use Rattle.std.proofs.lemmas.Bool.Decides.{nat_tests}
use Rattle.std.proofs.lemmas.Nat.{mod_below}
use Rattle.std.proofs.lemmas.Option.{slice_get_within}
use Rattle.gate_trait.specs.declared.node.Node.{Node}
use Rattle.gate_trait.specs.Built.{Keeps, AllIn}
use Rattle.gate_temporal.specs.Rows.{row_value, folded, IsAt}
use Rattle.gate_temporal.specs.Rounds.{TellsUntil}
use Rattle.bmc_windows.specs.declared.frame.Stretch.{Stretch}
use Rattle.bmc_windows.specs.declared.frame.Frame.{Frame}
use Rattle.bmc_windows.specs.Frames.{IsFrame, start_of, window_length}
use Rattle.bmc_stack.specs.Rows.{IsPart}
use Rattle.bmc_stack.proofs.RowLaws.{value_append_before, value_append_after}
use Rattle.bmc_leaves.specs.Loops.{value_in, TellsIn}
use Rattle.bmc_leaves.proofs.RowLaws.{row_kept, push_last, push_before}
use Rattle.bmc_leaves.proofs.PlaceLaws.{round_more}
use Rattle.bmc_leaves.proofs.RightLaws.{true_same, until_means}
use Rattle.bmc_places.specs.RoundRows.{AreBacks, IsOnceRow, TellsAgain, IsAgainRow}

-- ---- the places to which one goes back

pub record BacksTo (value : (ℕ → Bool) → Node → Bool) (windows : List Stretch) (all backs : List Node) (i : ℕ) : Type 0 where
  pub long : length backs ≡ i
  pub values : (x : ℕ → Bool) (l : ℕ) (s : Stretch) → l < i → slice_get windows l ≡ Some s → row_value (value x) backs l ≡ row_value (value x) all s.back

pub backs_none : (value : (ℕ → Bool) → Node → Bool) (windows : List Stretch) (all : List Node) → BacksTo value windows all [] 0
backs_none value windows all = record { long = refl; values = λ x l s lt at. absurd (omega (arith, lt)) }

pub backs_more : (value : (ℕ → Bool) → Node → Bool) (windows : List Stretch) (all backs new : List Node) (n : Node) (i back : ℕ) → ((s : Stretch) → slice_get windows i ≡ Some s → back ≡ s.back) → BacksTo value windows all backs i → ((x : ℕ → Bool) → value x n ≡ row_value (value x) all back) → new ≡ backs ++ n ∷ [] → BacksTo value windows all new (i + 1)
backs_more value windows all backs new n i back here old is_n is = record {
  long = ap (λ (row : List Node). length row) is ∙ length-append backs (n ∷ []) ∙ ap (λ (k : ℕ). k + 1) old.long;
  values = λ x l t lt at. ap (λ (row : List Node). row_value (value x) row l) is ∙ elim (cases_lt l i) [
    | inl less ↦ push_before (value x) backs n l (let e = old.long in omega (arith, less, e)) ∙ old.values x l t less at
    | inr ge ↦ (let same : l ≡ i = omega (arith, ge, lt) in
        let one : back ≡ t.back = here t (ap (λ (k : ℕ). slice_get windows k) (sym same) ∙ at) in
        push_last (value x) backs n l (same ∙ sym old.long) ∙ is_n x ∙ ap (λ (k : ℕ). row_value (value x) all k) one)
  ];
}

pub backs_all : (value : (ℕ → Bool) → Node → Bool) (windows : List Stretch) (all backs : List Node) (i : ℕ) → length windows ≤ i → i ≤ length windows → BacksTo value windows all backs i → AreBacks value windows all backs
backs_all value windows all backs i over under h = record {
  long = h.long ∙ (omega (arith, over, under));
  values = λ x l s at. h.values x l s (let inside = slice_get_within windows l s at in omega (arith, inside, over)) at;
}

-- ---- the next places

-- one more node, which tells what its place asks
pub tells_push : (value : Node → Bool) (row new : List Node) (n : Node) (k : ℕ) (P : ℕ → Bool → Type 0) → new ≡ row ++ n ∷ [] → length row ≡ k → ((i : ℕ) → i < k → P i (row_value value row i)) → P k (value n) → (i : ℕ) → i < k + 1 → P i (row_value value new i)
tells_push value row new n k P is long old here i lt = elim (cases_lt i k) [
  | inl less ↦
      let same : row_value value row i ≡ row_value value new i = sym (ap (λ (r : List Node). row_value value r i) is ∙ push_before value row n i (omega (arith, less, long))) in
      subst (λ (b : Bool). P i b) same (old i less)
  | inr ge ↦
      let at : k ≡ i = omega (arith, lt, ge) in
      let same : value n ≡ row_value value new i = sym (ap (λ (r : List Node). row_value value r i) is ∙ push_last value row n i (omega (arith, at, long))) in
      subst (λ (b : Bool). P i b) same (subst (λ (j : ℕ). P j (value n)) at here)
]

-- ---- what a value tells in a window

same_truth : (a b : Bool) → a ≡ b → IsTrue a ↔ IsTrue b
same_truth a b e = true_same a b e ((λ t. t), (λ t. t))

-- the same of other nodes of equal values
pub tells_moved : (v w : Node → Bool) (s : Stretch) (f g : List Node) (k : ℕ) (b c : Bool) → ((j : ℕ) → row_value v f j ≡ row_value w f j) → ((j : ℕ) → row_value v g j ≡ row_value w g j) → b ≡ c → TellsIn v s f g k b → TellsIn w s f g k c
tells_moved v w s f g k b c same alike e tells =
    let place = λ (j : ℕ). s.start + folded (s.back - s.start) (s.end - s.start - (s.back - s.start)) j in
    subst (λ (d : Bool). TellsIn w s f g k d) e
    (until_means (λ j. IsTrue (value_in v s f j)) (λ j. IsTrue (value_in v s g j)) (λ j. IsTrue (value_in w s f j)) (λ j. IsTrue (value_in w s g j)) k b tells
    (λ j. same_truth (value_in v s f j) (value_in w s f j) (same (place j))) (λ j. same_truth (value_in v s g j) (value_in w s g j) (alike (place j))))

fold_below : (first count i : ℕ) → first < count → folded first (count - first) i < count
fold_below first count i lt = elim (cases_lt i (first + (count - first))) [
  | inl less ↦ (let t : nat_lt i (first + (count - first)) ≡ true = grind (arith, nat_tests, less) in
      subst (λ (b : Bool). cond b i (first + (i - first) % (count - first)) < count) (sym t) (omega (arith, less, lt)))
  | inr ge ↦ (let t : nat_lt i (first + (count - first)) ≡ false = grind (arith, nat_tests, ge) in
      let small : (i - first) % (count - first) < count - first = mod_below (i - first) (count - first) (omega (arith, lt)) in
      subst (λ (b : Bool). cond b i (first + (i - first) % (count - first)) < count) (sym t) (omega (arith, small, lt)))
]

-- a part of a row has its values in the window
part_at : (value : (ℕ → Bool) → Node → Bool) (s : Stretch) (f p : List Node) (x : ℕ → Bool) (j : ℕ) → s.back - s.start < s.end - s.start → IsPart value f s.start (s.end - s.start) p → row_value (value x) p (folded (s.back - s.start) (length p - (s.back - s.start)) j) ≡ value_in (value x) s f j
part_at value s f p x j inside part =
    ap (λ (n : ℕ). row_value (value x) p (folded (s.back - s.start) (n - (s.back - s.start)) j)) part.long
    ∙ part.values x (folded (s.back - s.start) (s.end - s.start - (s.back - s.start)) j) (fold_below (s.back - s.start) (s.end - s.start) j inside)

-- what is told of the parts is told in the window
pub tells_in : (value : (ℕ → Bool) → Node → Bool) (s : Stretch) (f g p q : List Node) (x : ℕ → Bool) (k : ℕ) (b : Bool) → IsPart value f s.start (s.end - s.start) p → IsPart value g s.start (s.end - s.start) q → s.back - s.start < s.end - s.start → TellsUntil (value x) p q (s.back - s.start) k b → TellsIn (value x) s f g k b
tells_in value s f g p q x k b left right inside tells =
    until_means (IsAt (value x) p (s.back - s.start)) (IsAt (value x) q (s.back - s.start)) (λ j. IsTrue (value_in (value x) s f j)) (λ j. IsTrue (value_in (value x) s g j)) k b tells
    (λ j. same_truth (row_value (value x) p (folded (s.back - s.start) (length p - (s.back - s.start)) j)) (value_in (value x) s f j) (part_at value s f p x j inside left))
    (λ j. same_truth (row_value (value x) q (folded (s.back - s.start) (length q - (s.back - s.start)) j)) (value_in (value x) s g j) (part_at value s g q x j inside right))

-- and the other way
pub tells_out : (value : (ℕ → Bool) → Node → Bool) (s : Stretch) (f g p q : List Node) (x : ℕ → Bool) (k : ℕ) (b : Bool) → IsPart value f s.start (s.end - s.start) p → IsPart value g s.start (s.end - s.start) q → s.back - s.start < s.end - s.start → TellsIn (value x) s f g k b → TellsUntil (value x) p q (s.back - s.start) k b
tells_out value s f g p q x k b left right inside tells =
    until_means (λ j. IsTrue (value_in (value x) s f j)) (λ j. IsTrue (value_in (value x) s g j)) (IsAt (value x) p (s.back - s.start)) (IsAt (value x) q (s.back - s.start)) k b tells
    (λ j. same_truth (value_in (value x) s f j) (row_value (value x) p (folded (s.back - s.start) (length p - (s.back - s.start)) j)) (sym (part_at value s f p x j inside left)))
    (λ j. same_truth (value_in (value x) s g j) (row_value (value x) q (folded (s.back - s.start) (length q - (s.back - s.start)) j)) (sym (part_at value s g q x j inside right)))

-- ---- the windows of a frame

start_later : (states rounds l i : ℕ) → l < i → start_of states rounds l + window_length states rounds l ≤ start_of states rounds i
start_later states rounds l zero lt = absurd (omega arith)
start_later states rounds l (suc i) lt = elim (cases_lt l i) [
  | inl less ↦ (let before = start_later states rounds l i less in omega (arith, before))
  | inr ge ↦ (let same : l ≡ i = omega (arith, lt, ge) in subst (λ (k : ℕ). start_of states rounds l + window_length states rounds l ≤ start_of states rounds k + window_length states rounds k) same (omega arith))
]

-- the values of a row tell what the places of the first windows ask
pub record TellsTo (value : (ℕ → Bool) → Node → Bool) (P : (ℕ → Bool) → Stretch → ℕ → Bool → Type 0) (states rounds : ℕ) (frame : Frame) (row : List Node) (i : ℕ) : Type 0 where
  pub long : length row ≡ start_of states rounds i
  pub values : (x : ℕ → Bool) (l : ℕ) (s : Stretch) (k : ℕ) → l < i → slice_get frame.windows.items l ≡ Some s → k < s.end - s.start → P x s k (row_value (value x) row (s.start + k))

pub windows_none : (value : (ℕ → Bool) → Node → Bool) (P : (ℕ → Bool) → Stretch → ℕ → Bool → Type 0) (states rounds : ℕ) (frame : Frame) → TellsTo value P states rounds frame [] 0
windows_none value P states rounds frame = record { long = refl; values = λ x l s k lt. absurd (omega arith) }

pub windows_more : {S : Type 0} (belongs : S → Node → Type 0) (value : S → (ℕ → Bool) → Node → Bool) (mid last : S) → Keeps belongs value mid last → (P : (ℕ → Bool) → Stretch → ℕ → Bool → Type 0) (states rounds : ℕ) (frame : Frame) (row more new : List Node) (i : ℕ) (w : Stretch) → IsFrame states rounds frame → slice_get frame.windows.items i ≡ Some w → AllIn (belongs mid) row → TellsTo (value mid) P states rounds frame row i → new ≡ row ++ more → length more ≡ w.end - w.start → ((x : ℕ → Bool) (k : ℕ) → k < w.end - w.start → P x w k (row_value (value last x) more k)) → TellsTo (value last) P states rounds frame new (i + 1)
windows_more belongs value mid last keeps P states rounds frame row more new i w fr here row_all h is long tells =
    let st = fr.each i w here in
    let start : w.start ≡ length row = st.start ∙ sym h.long in
    let size : w.end - w.start ≡ window_length states rounds i = (let e = st.end in omega (arith, e)) in
    subst (λ (r : List Node). TellsTo (value last) P states rounds frame r (i + 1)) (sym is) (record {
      long = length-append row more ∙ ap (λ (k : ℕ). k + length more) h.long ∙ ap (λ (k : ℕ). start_of states rounds i + k) (long ∙ size) ∙ ap (λ (k : ℕ). start_of states rounds k) (let e : suc i ≡ i + 1 = omega arith in e);
      values = λ x l s k lt at under. elim (cases_lt l i) [
        | inl less ↦ (let ls = fr.each l s at in
            let low : s.start + k < length row = (let later = start_later states rounds l i less in let e1 = ls.start in let e2 = ls.end in let e3 = h.long in omega (arith, later, e1, e2, e3, under)) in
            let same : row_value (value mid x) row (s.start + k) ≡ row_value (value last x) (row ++ more) (s.start + k) = sym (value_append_before (value last x) row more (s.start + k) low ∙ row_kept belongs value mid last keeps row row_all x (s.start + k)) in
            subst (λ (b : Bool). P x s k b) same (h.values x l s k less at under))
        | inr ge ↦ (let which : l ≡ i = omega (arith, lt, ge) in
            let one : Some s ≡ Some w = sym at ∙ ap (λ (j : ℕ). slice_get frame.windows.items j) which ∙ here in
            let equal : w ≡ s = cc in
            subst (λ (t : Stretch). (j : ℕ) → j < t.end - t.start → P x t j (row_value (value last x) (row ++ more) (t.start + j))) equal (λ j low.
            let place : row_value (value last x) more j ≡ row_value (value last x) (row ++ more) (w.start + j) = sym (ap (λ (n : ℕ). row_value (value last x) (row ++ more) (n + j)) start ∙ value_append_after (value last x) row more j) in
            subst (λ (b : Bool). P x w j b) place (tells x j low)) k under)
      ];
    })

pub windows_long : (value : (ℕ → Bool) → Node → Bool) (P : (ℕ → Bool) → Stretch → ℕ → Bool → Type 0) (states rounds : ℕ) (frame : Frame) (row : List Node) (i : ℕ) → IsFrame states rounds frame → length frame.windows.items ≤ i → i ≤ length frame.windows.items → TellsTo value P states rounds frame row i → length row ≡ length frame.shown.items
windows_long value P states rounds frame row i fr over under h =
    h.long ∙ ap (λ (k : ℕ). start_of states rounds k) (let e = fr.count in let same : i ≡ states = omega (arith, e, over, under) in same) ∙ sym fr.long

pub windows_all : (value : (ℕ → Bool) → Node → Bool) (P : (ℕ → Bool) → Stretch → ℕ → Bool → Type 0) (states rounds : ℕ) (frame : Frame) (row : List Node) (i : ℕ) → length frame.windows.items ≤ i → TellsTo value P states rounds frame row i → (x : ℕ → Bool) (l : ℕ) (s : Stretch) (k : ℕ) → slice_get frame.windows.items l ≡ Some s → k < s.end - s.start → P x s k (row_value (value x) row (s.start + k))
windows_all value P states rounds frame row i over h x l s k at under = h.values x l s k (let inside = slice_get_within frame.windows.items l s at in omega (arith, inside, over)) at under

at_least : (r p : ℕ) → 0 < r → p ≤ r * p
at_least r p some =
    let more = round_more (r - 1) p in
    let is : r - 1 + 1 ≡ r = omega (arith, some) in
    subst (λ (n : ℕ). p ≤ n * p) is (omega (arith, more))

-- the place to which a window goes back is one of its places
pub back_inside : (states rounds : ℕ) (frame : Frame) (l : ℕ) (s : Stretch) → 0 < rounds → IsFrame states rounds frame → slice_get frame.windows.items l ≡ Some s → (s.back - s.start < s.end - s.start) × (s.start + (s.back - s.start) ≡ s.back)
back_inside states rounds frame l s some fr at =
    let st = fr.each l s at in
    let within = slice_get_within frame.windows.items l s at in
    let count = fr.count in
    let end = st.end in
    let back = st.back in
    let least = at_least rounds (states - l) some in
    (omega (arith, within, count, end, back, least), omega (arith, end, back, least))

-- ---- the passes of `until` in the windows

-- what the first pass tells at a place
abbrev pub OnceAt : ((ℕ → Bool) → Node → Bool) → List Node → List Node → (ℕ → Bool) → Stretch → ℕ → Bool → Type 0
OnceAt value f g x s k b = s.back - s.start < s.end - s.start → k ≤ s.back - s.start → TellsIn (value x) s f g k b

pub once_all : (old new : (ℕ → Bool) → Node → Bool) (states rounds : ℕ) (frame : Frame) (f g row : List Node) (i : ℕ) → IsFrame states rounds frame → length frame.windows.items ≤ i → i ≤ length frame.windows.items → TellsTo new (OnceAt old f g) states rounds frame row i → IsOnceRow old new frame f g row
once_all old new states rounds frame f g row i fr over under h = record {
  long = windows_long new (OnceAt old f g) states rounds frame row i fr over under h;
  values = λ x l s k at inside low. windows_all new (OnceAt old f g) states rounds frame row i over h x l s k at (omega (arith, inside, low)) inside low;
}

-- what the second pass tells at a place
abbrev pub AgainAt : ((ℕ → Bool) → Node → Bool) → List Node → List Node → List Node → Node → (ℕ → Bool) → Stretch → ℕ → Bool → Type 0
AgainAt value f g onces round x s k b = TellsAgain (value x) s f g onces round k b

pub again_all : (old new : (ℕ → Bool) → Node → Bool) (states rounds : ℕ) (frame : Frame) (f g onces : List Node) (round : Node) (row : List Node) (i : ℕ) → IsFrame states rounds frame → length frame.windows.items ≤ i → i ≤ length frame.windows.items → TellsTo new (AgainAt old f g onces round) states rounds frame row i → IsAgainRow old new frame f g onces round row
again_all old new states rounds frame f g onces round row i fr over under h = record {
  long = windows_long new (AgainAt old f g onces round) states rounds frame row i fr over under h;
  values = λ x l s k at lt. windows_all new (AgainAt old f g onces round) states rounds frame row i over h x l s k at lt;
}
