-- The choice of a loop.
use Rattle.std.proofs.Common.{◌≡◌, ◌↔◌, ◌<◌, ℕ, Bool, true, List, Some, slice_get, length, refl, sym, ap, ◌∙◌, arith}
use Rattle.gate_trait.specs.declared.node.Node.{Node}
use Rattle.gate_trait.specs.Built.{Keeps, AllIn}
use Rattle.gate_temporal.specs.Rows.{row_value, IsOnlyOf}
use Rattle.core_meaning.specs.Sequence.{LassoValue}
use Rattle.bmc_windows.specs.declared.frame.Stretch.{Stretch}
use Rattle.bmc_leaves.specs.Loops.{AreChoices, IsChosen}
use Rattle.bmc_leaves.specs.Table.{Decodes}
use Rattle.bmc_leaves.specs.Shown.{Reading, HasPlace}
use Rattle.bmc_leaves.proofs.RowLaws.{row_kept}

-- the only choice that is true is where the loop begins
pub only_loop : (is y : ℕ → Bool) (n len l : ℕ) → len ≡ n → 1 < n → ((k : ℕ) → k < n → is k ≡ y k) → IsOnlyOf is len l ↔ ((l < n) × ((1 < n) → (k : ℕ) → k < n → (y k ≡ true) ↔ (k ≡ l)))
only_loop is y n len l long some same = (
  (λ o. ((let i = o.inside in omega (arith, i, long)), λ _ k lt. ((λ e. o.others k (omega (arith, lt, long)) (same k lt ∙ e)), (λ e. sym (same k lt) ∙ ap is e ∙ o.here)))),
  (λ p. record {
    inside = (let i = p.0 in omega (arith, i, long));
    here = same l p.0 ∙ (p.1 some l p.0).1 refl;
    others = λ j lt e. let less : j < n = omega (arith, lt, long) in (p.1 some j less).0 (sym (same j less) ∙ e);
  }),
)

pub only_same : (is y : ℕ → Bool) (n l : ℕ) → ((k : ℕ) → is k ≡ y k) → IsOnlyOf is n l → IsOnlyOf y n l
only_same is y n l same o = record {
  inside = o.inside;
  here = sym (same l) ∙ o.here;
  others = λ j lt e. o.others j lt (same j ∙ e);
}

-- choices stay choices as the circuit grows
pub choices_kept : {S : Type 0} (belongs : S → Node → Type 0) (value : S → (ℕ → Bool) → Node → Bool) (g h : S) → Keeps belongs value g h → (row : List Node) → AllIn (belongs g) row → (states loops : ℕ) → AreChoices (value g) states loops row → AreChoices (value h) states loops row
choices_kept belongs value g h keeps row all states loops are = record {
  long = are.long;
  only = λ x l. (
    (λ o. (are.only x l).0 (only_same (row_value (value h x) row) (row_value (value g x) row) (length row) l (λ k. row_kept belongs value g h keeps row all x k) o)),
    (λ p. only_same (row_value (value g x) row) (row_value (value h x) row) (length row) l (λ k. sym (row_kept belongs value g h keeps row all x k)) ((are.only x l).1 p)),
  );
}

-- the assignment stands for a lasso, whose loop has this window
abbrev pub IsShownIn : Reading → (ℕ → Bool) → Stretch → Type 0
IsShownIn r x s = (lasso : LassoValue) × Decodes r.bounds r.table x lasso × (slice_get r.frame.windows.items lasso.loop_start ≡ Some s)

pub shown_in : (r : Reading) (x : ℕ → Bool) (lasso : LassoValue) (loop k : ℕ) (s : Stretch) → Decodes r.bounds r.table x lasso → lasso.loop_start ≡ loop → HasPlace r.frame loop s k → IsShownIn r x s
shown_in r x lasso loop k s shows at place = (lasso, shows, ap (λ (l : ℕ). slice_get r.frame.windows.items l) at ∙ place.0)

-- the choice of that window is the only one
pub chosen_of : (r : Reading) (value : (ℕ → Bool) → Node → Bool) (choices : List Node) (x : ℕ → Bool) (s : Stretch) → AreChoices value r.bounds.states r.table.loops choices → IsShownIn r x s → IsChosen value r.frame choices x s
chosen_of r value choices x s are shown = (shown.0.loop_start, (are.only x shown.0.loop_start).1 shown.1.loop, shown.2)
