-- The variables of a table have only one assignment that stands for a lasso.
use Rattle.std.proofs.Common.{◌≡◌, ℕ, zero, suc, ◌+◌, ◌-◌, ◌<◌, ◌≤◌, inl, inr, Bool, true, false, if◌then◌else◌, List, [], ◌∷◌, length, Some, slice_get, refl, sym, ap, ◌∙◌, subst, arith}
use Rattle.std.proofs.lemmas.Bool.{cases_lt, lt-ltb, le-ltb}
use Rattle.core_meaning.specs.Sequence.{LassoValue}
use Rattle.bound_uppers.specs.declared.places.Layout.{Layout}
use Rattle.bound_uppers.specs.declared.table.Bound.{Bound}
use Rattle.bound_uppers.specs.declared.table.Bounds.{Bounds}
use Rattle.bound_uppers.specs.Table.{earlier, variable_of, IsTable, IsRow, IsLayout}
use Rattle.bound_uppers.specs.Candidates.{HasSets}
use Rattle.bound_naming.specs.Naming.{IsCell}
use Rattle.bmc_leaves.specs.Table.{Decodes}
use Rattle.answer_search.proofs.NamedLaw.{decoded_tells}
use Rattle.answer_search.proofs.RowsLaw.{row_found}

there : {X : Type 0} (xs : List X) (k : ℕ) → k < length xs → (x : X) × (slice_get xs k ≡ Some x)
there [] k lt = absurd (omega arith)
there (x ∷ xs) zero lt = (x, refl)
there (x ∷ xs) (suc k) lt = there xs k (omega arith)

both_ways : (a b : Bool) → (a ≡ true → b ≡ true) → (b ≡ true → a ≡ true) → a ≡ b
both_ways true b to from = sym (to refl)
both_ways false true to from = from refl
both_ways false false to from = refl

loop_place : (m rows states loops all : ℕ) → rows < m → m ≤ all → all ≡ rows + states → loops ≡ 1 + rows + 0 → (m - 1 - rows < states) × (m ≡ loops + (m - 1 - rows))
loop_place m rows states loops all after low whole is = (omega (arith, after, low, whole), omega (arith, after, is))

no_loop : (m rows more all : ℕ) → rows < m → m ≤ all → all ≡ rows + more → more ≡ 0 → ⊥
no_loop m rows more all after low whole none = omega (arith, after, low, whole, none)

module _ (bounds : Bounds) (table : Layout) (is : IsTable bounds) (laid : IsLayout bounds table) (sets : HasSets bounds) (v x : ℕ → Bool) (lasso : LassoValue) (first : Decodes bounds table v lasso) (second : Decodes bounds table x lasso) where
  abbrev rows : ℕ
  rows = earlier bounds.relations bounds.states

  row_once : (s r place : ℕ) (b : Bound) → IsRow bounds s r place b → v (variable_of bounds.relations b s place) ≡ x (variable_of bounds.relations b s place)
  row_once s r place b row =
      let m = variable_of bounds.relations b s place in
      let (t, listed) = there b.upper.tuples place row.place_in in
      let cell : IsCell bounds s r t m = (b, place, row, listed, refl) in
      let one = decoded_tells bounds table laid sets v lasso first s r m t cell in
      let two = decoded_tells bounds table laid sets x lasso second s r m t cell in
      both_ways (v m) (x m) (λ on. two.1 (one.0 on)) (λ on. one.1 (two.0 on))

  loop_once : 1 < bounds.states → (k : ℕ) → k < bounds.states → v (table.loops + k) ≡ x (table.loops + k)
  loop_once several k lt =
      let one = first.loop.1 several k lt in
      let two = second.loop.1 several k lt in
      both_ways (v (table.loops + k)) (x (table.loops + k)) (λ on. two.1 (one.0 on)) (λ on. one.1 (two.0 on))

  pub stand_once : (m : ℕ) → 0 < m → m ≤ table.variables → v m ≡ x m
  stand_once m some low =
      elim (cases_lt rows m) [
        | inr le ↦
            let (s, r, place, b, row, same) = row_found bounds is m some le in
            subst (λ (n : ℕ). v n ≡ x n) (sym same) (row_once s r place b row)
        | inl after ↦ elim (cases_lt 1 bounds.states) [
          | inl several ↦
              let whole : table.variables ≡ rows + bounds.states = laid.count ∙ ap (λ (b : Bool). rows + (if b then bounds.states else 0)) (lt-ltb 1 bounds.states several) in
              let (lt, same) = loop_place m rows bounds.states table.loops table.variables after low whole laid.loops in
              subst (λ (n : ℕ). v n ≡ x n) (sym same) (loop_once several (m - 1 - rows) lt)
          | inr few ↦
              let whole : table.variables ≡ rows + 0 = laid.count ∙ ap (λ (b : Bool). rows + (if b then bounds.states else 0)) (le-ltb 1 bounds.states few) in
              absurd (no_loop m rows 0 table.variables after low whole refl)
        ]
      ]
