-- Values that are the same on the variables of the table stand for the same lassos.
use Rattle.std.proofs.Common.{◌≡◌, ◌↔◌, ℕ, ◌+◌, ◌<◌, ◌≤◌, Bool, true, false, List, if◌then◌else◌, nat_lt, Some, slice_get, refl, sym, ap, ◌∙◌, subst, arith}
use Rattle.std.proofs.lemmas.Bool.{lt-ltb}
use Rattle.std.proofs.lemmas.Option.{slice_get_within}
use Rattle.core_meaning.specs.Sequence.{LassoValue}
use Rattle.bound_uppers.specs.declared.places.Cells.{Cells}
use Rattle.bound_uppers.specs.declared.places.Layout.{Layout}
use Rattle.bound_uppers.specs.declared.table.Bound.{Bound}
use Rattle.bound_uppers.specs.declared.table.Bounds.{Bounds}
use Rattle.bound_uppers.specs.Table.{variable_of, first_variable, earlier, cell_at, IsTable, IsRow, AreInOrder, RowsInOrder, IsLayout}
use Rattle.bmc_leaves.specs.Table.{Decodes, InState, InTable, first_at}
use Rattle.bmc_leaves.specs.Loops.{IsLoopOf}
use Rattle.bmc_laws.specs.TableTold.{AlikeStand}
use Rattle.bmc_laws.proofs.Places.{some_same, same_first, first_same}

positive : (m : ℕ) → 1 ≤ m → 0 < m
positive m some = omega (arith, some)

row_low : (m rows more all : ℕ) → m ≤ rows → all ≡ rows + more → m ≤ all
row_low m rows more all low whole = omega (arith, low, whole)

loop_some : (loops k rows : ℕ) → loops ≡ 1 + rows + 0 → 0 < loops + k
loop_some loops k rows is = omega (arith, is)

loop_low : (loops k rows states all : ℕ) → loops ≡ 1 + rows + 0 → all ≡ rows + states → k < states → loops + k ≤ all
loop_low loops k rows states all is whole lt = omega (arith, is, whole, lt)

module _ (bounds : Bounds) (table : Layout) (v x : ℕ → Bool) (lasso : LassoValue) (is : IsTable bounds) (order : AreInOrder bounds) (laid : IsLayout bounds table) (same : (m : ℕ) → 0 < m → m ≤ table.variables → v m ≡ x m) (decodes : Decodes bounds table x lasso) where
  loop_same : 1 < bounds.states → (k : ℕ) → k < bounds.states → v (table.loops + k) ≡ x (table.loops + k)
  loop_same several k lt =
      let rows = earlier bounds.relations bounds.states in
      let whole : table.variables ≡ rows + bounds.states = laid.count ∙ ap (λ (b : Bool). rows + (if b then bounds.states else 0)) (lt-ltb 1 bounds.states several) in
      same (table.loops + k) (loop_some table.loops k rows laid.loops) (loop_low table.loops k rows bounds.states table.variables laid.loops whole lt)

  alike_loop : IsLoopOf bounds.states table.loops v lasso.loop_start
  alike_loop =
      let (low, only) = decodes.loop in (
        low,
        λ several k lt.
            let both = only several k lt in
            let level = loop_same several k lt in
            (λ on. both.0 (sym level ∙ on), λ e. level ∙ both.1 e),
      )

  row_same : (s r j : ℕ) (b : Bound) → IsRow bounds s r j b → v (variable_of bounds.relations b s j) ≡ x (variable_of bounds.relations b s j)
  row_same s r j b row =
      let m = variable_of bounds.relations b s j in
      let within = order.within s r j b row in
      same m (positive m within.0) (row_low m (earlier bounds.relations bounds.states) (if nat_lt 1 bounds.states then bounds.states else 0) table.variables within.1 laid.count)

  -- the variable of a tuple of an upper bound at a state
  tuple_same : (fixed : Bool) (r s j : ℕ) (b : Bound) (t : List ℕ) → b.fixed ≡ fixed → slice_get bounds.relations r ≡ Some b → s < bounds.states → slice_get b.upper.tuples j ≡ Some t → v (first_variable bounds.relations b s + j) ≡ x (first_variable bounds.relations b s + j)
  tuple_same false r s j b t e at lt listed = row_same s r j b (record { relation = at; state = lt; place_in = slice_get_within b.upper.tuples j t listed; own = λ f. absurd cc })
  tuple_same true r s j b t e at lt listed =
      let row : IsRow bounds 0 r j b = record { relation = at; state = is.some; place_in = slice_get_within b.upper.tuples j t listed; own = λ f. refl } in
      subst (λ (n : ℕ). v (n + j) ≡ x (n + j)) (sym (same_first bounds is s b e)) (row_same 0 r j b row)

  cell_same : (r s j : ℕ) (b : Bound) (cells : Cells) (t : List ℕ) → slice_get bounds.relations r ≡ Some b → slice_get table.relations.items r ≡ Some cells → s < bounds.states → slice_get b.upper.tuples j ≡ Some t → v (first_at b.fixed cells s + j) ≡ x (first_at b.fixed cells s + j)
  cell_same r s j b cells t at there lt listed =
      let (own, at_own, kept) = laid.cells r b at in
      let same_cells : own ≡ cells = some_same (slice_get table.relations.items r) own cells at_own there in
      let level = first_same bounds is b.fixed s b cells refl (λ z below. subst (λ (c : Cells). cell_at c z ≡ first_variable bounds.relations b z) same_cells (kept z below).1) lt in
      subst (λ (n : ℕ). v (n + j) ≡ x (n + j)) (sym level) (tuple_same b.fixed r s j b t refl at lt listed)

  alike_relations : (r s : ℕ) (b : Bound) (cells : Cells) → slice_get bounds.relations r ≡ Some b → slice_get table.relations.items r ≡ Some cells → s < bounds.states → (t : List ℕ) → InState lasso r s t ↔ InTable v b cells s t
  alike_relations r s b cells at there lt t =
      let both = decodes.relations r s b cells at there lt t in (
        λ held.
            let (j, listed, on) = both.0 held in
            (j, listed, cell_same r s j b cells t at there lt listed ∙ on),
        λ row. both.1 (row.0, row.1, sym (cell_same r s row.0 b cells t at there lt row.1) ∙ row.2),
      )

  alike_at : Decodes bounds table v lasso
  alike_at = record { states = decodes.states; loop = alike_loop; relations = alike_relations }

pub alike_stand : RowsInOrder → AlikeStand
alike_stand order bounds table v x lasso is laid same decodes = alike_at bounds table v x lasso is (order bounds) laid same decodes
