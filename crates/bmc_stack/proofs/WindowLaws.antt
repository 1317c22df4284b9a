-- Operators in windows.
use Rattle.std.proofs.Common.{◌≡◌, ◌↔◌, ◌<◌, ◌≤◌, ◌+◌, ◌-◌, ℕ, zero, suc, Bool, List, [], ◌++◌, length, slice_get, Some, IsTrue, refl, sym, ap, ◌∙◌, subst, arith, inl, inr, length-append}
use Rattle.std.proofs.lemmas.Bool.{cases_lt}
use Rattle.std.proofs.lemmas.Option.{slice_get_within}
use Rattle.gate_trait.specs.declared.node.Node.{Node}
use Rattle.gate_trait.specs.Built.{Keeps, AllIn}
use Rattle.gate_temporal.specs.Rows.{row_value}
use Rattle.bmc_windows.specs.declared.frame.Stretch.{Stretch}
use Rattle.bmc_windows.specs.declared.frame.Frame.{Frame}
use Rattle.bmc_windows.specs.Frames.{IsFrame, start_of, window_length}
use Rattle.bmc_stack.specs.declared.windows.TimeOperator.{TimeOperator}
use Rattle.bmc_stack.specs.declared.windows.TimeOperator.TheVariants.{Before, Since}
use Rattle.bmc_stack.specs.Rows.{GoesOn, GoesIn, IsMoving, IsMoved, IsAlong, IsPart}
use Rattle.bmc_stack.proofs.RowLaws.{row_kept, value_append_before, value_append_after}

as_true : (a b : Bool) → a ≡ b → IsTrue a → IsTrue b
as_true a b e t = subst (λ (c : Bool). IsTrue c) e t

-- an operator looks at the places of its window alone
pub goes_within : (op : TimeOperator) (count : ℕ) (f g h k : ℕ → Bool) (i : ℕ) → i < count → ((j : ℕ) → j < count → f j ≡ h j) → ((j : ℕ) → j < count → g j ≡ k j) → GoesOn op f g i → GoesOn op h k i
goes_within Before count f g h k i lt same alike b = (b.0, as_true (g (i - 1)) (k (i - 1)) (alike (i - 1) (omega (arith, lt))) b.1)
goes_within Since count f g h k i lt same alike s = (
  s.0,
  s.1,
  as_true (g s.0) (k s.0) (alike s.0 (let le = s.1 in omega (arith, le, lt))) s.2,
  (λ j over under. as_true (f j) (h j) (same j (omega (arith, under, lt))) (s.3 j over under)),
)

-- the same of values that are equal at all places
pub goes_same : (op : TimeOperator) (f g h k : ℕ → Bool) (i : ℕ) → ((j : ℕ) → f j ≡ h j) → ((j : ℕ) → g j ≡ k j) → GoesOn op f g i → GoesOn op h k i
goes_same op f g h k i same alike o = goes_within op (suc i) f g h k i (omega arith) (λ j lt. same j) (λ j lt. alike j) o

-- the parts of two rows in a window
pub moved_law : (op : TimeOperator) (old new : (ℕ → Bool) → Node → Bool) (s : Stretch) (f g p q made : List Node) → IsPart old f s.start (s.end - s.start) p → IsPart old g s.start (s.end - s.start) q → IsMoving op old new p q made → IsMoved op old new s f g made
moved_law op old new s f g p q made left right h =
    let count = s.end - s.start in
    let wide : length p ≡ count = left.long in
    record {
      long = h.long ∙ wide;
      values = λ x k lt.
          let at = h.values x k (omega (arith, lt, wide)) in (
            (λ t. goes_within op count (row_value (old x) p) (row_value (old x) q) (λ j. row_value (old x) f (s.start + j)) (λ j. row_value (old x) g (s.start + j)) k lt (left.values x) (right.values x) (at.0 t)),
            (λ o. at.1 (goes_within op count (λ j. row_value (old x) f (s.start + j)) (λ j. row_value (old x) g (s.start + j)) (row_value (old x) p) (row_value (old x) q) k lt (λ j under. sym (left.values x j under)) (λ j under. sym (right.values x j under)) o)),
          );
    }

-- ---- the windows of a frame

start_later : (states rounds l i : ℕ) → l < i → start_of states rounds l + window_length states rounds l ≤ start_of states rounds i
start_later states rounds l zero lt = absurd (omega arith)
start_later states rounds l (suc i) lt = elim (cases_lt l i) [
  | inl less ↦ (let before = start_later states rounds l i less in omega (arith, before))
  | inr ge ↦ (let same : l ≡ i = omega (arith, lt, ge) in subst (λ (k : ℕ). start_of states rounds l + window_length states rounds l ≤ start_of states rounds k + window_length states rounds k) same (omega arith))
]

-- what an operator gives in the first windows
pub record AlongTo (op : TimeOperator) (old new : (ℕ → Bool) → Node → Bool) (states rounds : ℕ) (frame : Frame) (f g row : List Node) (i : ℕ) : Type 0 where
  pub long : length row ≡ start_of states rounds i
  pub values : (x : ℕ → Bool) (loop : ℕ) (s : Stretch) → loop < i → slice_get frame.windows.items loop ≡ Some s → GoesIn op (old x) (new x) s f g row

pub along_none : (op : TimeOperator) (old new : (ℕ → Bool) → Node → Bool) (states rounds : ℕ) (frame : Frame) (f g : List Node) → AlongTo op old new states rounds frame f g [] 0
along_none op old new states rounds frame f g = record { long = refl; values = λ x loop s lt. absurd (omega arith) }

pub along_more : {S : Type 0} (belongs : S → Node → Type 0) (value : S → (ℕ → Bool) → Node → Bool) (first mid last : S) → Keeps belongs value first mid → Keeps belongs value mid last → (op : TimeOperator) (states rounds : ℕ) (frame : Frame) (f g row more new : List Node) (i : ℕ) (w : Stretch) → IsFrame states rounds frame → slice_get frame.windows.items i ≡ Some w → AllIn (belongs first) f → AllIn (belongs first) g → AllIn (belongs mid) row → AlongTo op (value first) (value mid) states rounds frame f g row i → new ≡ row ++ more → IsMoved op (value mid) (value last) w f g more → AlongTo op (value first) (value last) states rounds frame f g new (i + 1)
along_more belongs value first mid last before after op states rounds frame f g row more new i w fr here f_all g_all row_all h is moved =
    let st = fr.each i w here in
    let start : w.start ≡ length row = st.start ∙ sym h.long in
    let size : w.end - w.start ≡ window_length states rounds i = (let e = st.end in omega (arith, e)) in
    subst (λ (r : List Node). AlongTo op (value first) (value last) states rounds frame f g r (i + 1)) (sym is) (record {
      long = length-append row more ∙ ap (λ (k : ℕ). k + length more) h.long ∙ ap (λ (k : ℕ). start_of states rounds i + k) (moved.long ∙ size) ∙ ap (λ (k : ℕ). start_of states rounds k) (let e : suc i ≡ i + 1 = omega arith in e);
      values = λ x loop s lt at k under. elim (cases_lt loop i) [
        | inl less ↦ (let ls = fr.each loop s at in
            let low : s.start + k < length row = (let later = start_later states rounds loop i less in let e1 = ls.start in let e2 = ls.end in let e3 = h.long in omega (arith, later, e1, e2, e3, under)) in
            let same : row_value (value last x) (row ++ more) (s.start + k) ≡ row_value (value mid x) row (s.start + k) = value_append_before (value last x) row more (s.start + k) low ∙ row_kept belongs value mid last after row row_all x (s.start + k) in
            let old = h.values x loop s less at k under in
            ((λ t. old.0 (as_true _ _ same t)), (λ o. as_true _ _ (sym same) (old.1 o))))
        | inr ge ↦ (let which : loop ≡ i = omega (arith, lt, ge) in
            let one : Some s ≡ Some w = sym at ∙ ap (λ (j : ℕ). slice_get frame.windows.items j) which ∙ here in
            let equal : w ≡ s = cc in
            subst (λ (t : Stretch). (j : ℕ) → j < t.end - t.start → IsTrue (row_value (value last x) (row ++ more) (t.start + j)) ↔ GoesOn op (λ m. row_value (value first x) f (t.start + m)) (λ m. row_value (value first x) g (t.start + m)) j) equal (λ j low.
            let place : row_value (value last x) (row ++ more) (w.start + j) ≡ row_value (value last x) more j = ap (λ (n : ℕ). row_value (value last x) (row ++ more) (n + j)) start ∙ value_append_after (value last x) row more j in
            let there = moved.values x j low in
            let f_same = λ (m : ℕ). row_kept belongs value first mid before f f_all x (w.start + m) in
            let g_same = λ (m : ℕ). row_kept belongs value first mid before g g_all x (w.start + m) in (
              (λ t. goes_same op (λ m. row_value (value mid x) f (w.start + m)) (λ m. row_value (value mid x) g (w.start + m)) (λ m. row_value (value first x) f (w.start + m)) (λ m. row_value (value first x) g (w.start + m)) j f_same g_same (there.0 (as_true _ _ place t))),
              (λ o. as_true _ _ (sym place) (there.1 (goes_same op (λ m. row_value (value first x) f (w.start + m)) (λ m. row_value (value first x) g (w.start + m)) (λ m. row_value (value mid x) f (w.start + m)) (λ m. row_value (value mid x) g (w.start + m)) j (λ m. sym (f_same m)) (λ m. sym (g_same m)) o))),
            )) k under)
      ];
    })

pub along_all : (op : TimeOperator) (old new : (ℕ → Bool) → Node → Bool) (states rounds : ℕ) (frame : Frame) (f g row : List Node) (i : ℕ) → IsFrame states rounds frame → length frame.windows.items ≤ i → i ≤ length frame.windows.items → AlongTo op old new states rounds frame f g row i → IsAlong op old new frame f g row
along_all op old new states rounds frame f g row i fr over under h = record {
  long = h.long ∙ ap (λ (k : ℕ). start_of states rounds k) (let e = fr.count in let same : i ≡ states = omega (arith, e, over, under) in same) ∙ sym fr.long;
  values = λ x loop s at. (let inside = slice_get_within frame.windows.items loop s at in h.values x loop s (omega (arith, inside, over)) at);
}
