-- Places of rows, and the first variable of a relation at a state as the table keeps it.
use Rattle.std.proofs.Common.{◌≡◌, ℕ, zero, suc, ◌<◌, Bool, true, false, List, Option, if◌then◌else◌, Contains, Some, slice_get, sym, ap, ◌∙◌}
use Rattle.std.proofs.lemmas.Option.{slice_get-get_or}
use Rattle.bound_uppers.specs.declared.places.Cells.{Cells}
use Rattle.bound_uppers.specs.declared.table.Bound.{Bound}
use Rattle.bound_uppers.specs.declared.table.Bounds.{Bounds}
use Rattle.bound_uppers.specs.Table as rows
use Rattle.bound_uppers.specs.Table.{first_variable, cell_at, IsTable}
use Rattle.bmc_leaves.specs.Table.{first_at}

pub some_same : {X : Type 0} (o : Option X) (x y : X) → o ≡ Some x → o ≡ Some y → x ≡ y
some_same o x y e f = cc

-- a tuple that is listed stands at some place
pub listed_at : (ts : List (List ℕ)) (t : List ℕ) → Contains ts t → (j : ℕ) × (slice_get ts j ≡ Some t)
listed_at ts t (j, lt, e) = (j, slice_get-get_or ts j t lt ∙ ap Some e)

module _ (bounds : Bounds) (table : IsTable bounds) where
  pub same_first : (s : ℕ) (b : Bound) → b.fixed ≡ true → first_variable bounds.relations b s ≡ first_variable bounds.relations b 0
  same_first s b e =
      ap (λ (q : Bool). rows.first_at bounds.relations b (if q then 0 else s)) e
      ∙ sym (ap (λ (q : Bool). rows.first_at bounds.relations b (if q then 0 else 0)) e)

  pub first_same : (fixed : Bool) (s : ℕ) (b : Bound) (cells : Cells) → b.fixed ≡ fixed → ((z : ℕ) → z < bounds.states → cell_at cells z ≡ first_variable bounds.relations b z) → s < bounds.states → first_at b.fixed cells s ≡ first_variable bounds.relations b s
  first_same true s b cells e laid lt = ap (λ (q : Bool). first_at q cells s) e ∙ laid 0 table.some ∙ sym (same_first s b e)
  first_same false zero b cells e laid lt = ap (λ (q : Bool). first_at q cells zero) e ∙ laid zero lt
  first_same false (suc s) b cells e laid lt = ap (λ (q : Bool). first_at q cells (suc s)) e ∙ laid (suc s) lt
