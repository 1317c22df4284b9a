-- A lasso of which values of the table's variables tell is one for which they stand.
use Rattle.std.proofs.Common.{◌≡◌, ◌↔◌, ℕ, zero, suc, ◌+◌, ◌-◌, ◌<◌, Bool, true, false, List, if◌then◌else◌, Some, slice_get, slice_index_or, refl, sym, ap, ◌∙◌, subst, arith}
use Rattle.core_meaning.specs.Sequence.{LassoValue}
use Rattle.sat_dimacs.specs.Literal.{value_of}
use Rattle.bound_uppers.specs.declared.places.Cells.{Cells}
use Rattle.bound_uppers.specs.declared.places.Layout.{Layout}
use Rattle.bound_uppers.specs.declared.table.Bound.{Bound}
use Rattle.bound_uppers.specs.declared.table.Bounds.{Bounds}
use Rattle.bound_uppers.specs.Table.{variable_of, first_variable, loop_variable, earlier, before, is_later, cell_at, truth, IsTable, IsLayout}
use Rattle.bound_uppers.specs.Candidates.{IsCandidate, Agrees}
use Rattle.bmc_leaves.specs.Table.{Decodes, InState, InTable}
use Rattle.bmc_leaves.specs.Loops.{IsLoopOf}
use Rattle.bmc_laws.specs.TableTold.{StandingHaveOneLoop, AgreeingAreDecoded}
use Rattle.bmc_laws.proofs.Places.{some_same, listed_at, first_same}

-- ---- the value of a variable

same_truth : (values : List Bool) (m : ℕ) → 0 < m → truth values m ≡ value_of values m
same_truth values zero some = absurd (omega (arith, some))
same_truth values (suc n) some = let e : n ≡ suc n - 1 = omega arith in ap (λ (k : ℕ). slice_index_or values k false) e

row_positive : (a b c : ℕ) → 0 < 1 + a + b + c
row_positive a b c = omega arith

loop_positive : (a b : ℕ) → 0 < 1 + a + b
loop_positive a b = omega arith

row_truth : (values : List Bool) (bs : List Bound) (b : Bound) (s place : ℕ) → truth values (variable_of bs b s place) ≡ value_of values (variable_of bs b s place)
row_truth values bs b s place =
    same_truth values (variable_of bs b s place)
    (row_positive (earlier bs (if b.fixed then 0 else s)) (before (is_later (if b.fixed then 0 else s)) b.order bs) place)

-- that of a loop's variable, as the table keeps its number
loop_truth : (bounds : Bounds) (table : Layout) (values : List Bool) (k : ℕ) → IsLayout bounds table → truth values (loop_variable bounds k) ≡ value_of values (table.loops + k)
loop_truth bounds table values k laid =
    let same : loop_variable bounds k ≡ table.loops + k = omega (arith, laid.loops) in
    same_truth values (loop_variable bounds k) (loop_positive (earlier bounds.relations bounds.states) k) ∙ ap (value_of values) same

-- ---- the laws

pub one_loop : StandingHaveOneLoop
one_loop bounds table values lasso laid decodes several =
    let l = lasso.loop_start in
    let (low, only) = decodes.loop in (
      l,
      low,
      loop_truth bounds table values l laid ∙ (only several l low).1 refl,
      λ q lt on. (only several q lt).0 (sym (loop_truth bounds table values q laid) ∙ on),
    )

module _ (bounds : Bounds) (table : Layout) (values : List Bool) (lasso : LassoValue) (is : IsTable bounds) (laid : IsLayout bounds table) (candidate : IsCandidate bounds lasso) (agrees : Agrees bounds values lasso) where
  loop_decoded : IsLoopOf bounds.states table.loops (value_of values) lasso.loop_start
  loop_decoded = (
    candidate.loop,
    λ several k lt.
        let tells = agrees.loop several k lt in
        let same = loop_truth bounds table values k laid in
        (λ on. tells.0 (same ∙ on), λ e. sym same ∙ tells.1 e),
  )

  -- the variable of a row is true just where the relation has its tuple
  row_decoded : (r k j : ℕ) (b : Bound) (t : List ℕ) → slice_get bounds.relations r ≡ Some b → k < bounds.states → slice_get b.upper.tuples j ≡ Some t → (value_of values (first_variable bounds.relations b k + j) ≡ true) ↔ InState lasso r k t
  row_decoded r k j b t at lt listed =
      let tells = agrees.tuples k r j b t lt at listed in
      let same = row_truth values bounds.relations b k j in
      (λ on. tells.0 (same ∙ on), λ held. sym same ∙ tells.1 held)

  in_upper : (r k : ℕ) (b : Bound) (t : List ℕ) → slice_get bounds.relations r ≡ Some b → InState lasso r k t → (j : ℕ) × (slice_get b.upper.tuples j ≡ Some t)
  in_upper r k b t at (state, set, e, f, held) =
      let within = candidate.within k r state set b e f at in
      listed_at b.upper.tuples t (within.2 t held)

  relation_decoded : (r k : ℕ) (b : Bound) (cells : Cells) → slice_get bounds.relations r ≡ Some b → slice_get table.relations.items r ≡ Some cells → k < bounds.states → (t : List ℕ) → InState lasso r k t ↔ InTable (value_of values) b cells k t
  relation_decoded r k b cells at there lt t =
      let (own, at_own, kept) = laid.cells r b at in
      let same_cells : own ≡ cells = some_same (slice_get table.relations.items r) own cells at_own there in
      let same = first_same bounds is b.fixed k b cells refl (λ z below. subst (λ (c : Cells). cell_at c z ≡ first_variable bounds.relations b z) same_cells (kept z below).1) lt in (
        λ held.
            let (j, listed) = in_upper r k b t at held in
            (j, listed, subst (λ (m : ℕ). value_of values (m + j) ≡ true) (sym same) ((row_decoded r k j b t at lt listed).1 held)),
        λ row. (row_decoded r k row.0 b t at lt row.1).0 (subst (λ (m : ℕ). value_of values (m + row.0) ≡ true) same row.2),
      )

  decoded_at : Decodes bounds table (value_of values) lasso
  decoded_at = record { states = candidate.states; loop = loop_decoded; relations = relation_decoded }

pub agreeing_decoded : AgreeingAreDecoded
agreeing_decoded = decoded_at
