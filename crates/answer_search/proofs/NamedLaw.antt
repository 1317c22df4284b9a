-- The lasso for which an assignment stands is told by the variables of the table.
use Rattle.std.proofs.Common.{◌≡◌, ℕ, zero, suc, ◌+◌, Bool, true, false, List, Some, slice_get, refl, sym, ap, ◌∙◌, subst, arith}
use Rattle.std.specs.List.Sorted.{IsStrictlySortedBy}
use Rattle.core_tuples.specs.Sets.{tuple_cmp}
use Rattle.core_meaning.specs.Sequence.{LassoValue}
use Rattle.bound_uppers.specs.declared.table.Bound.{Bound}
use Rattle.bound_uppers.specs.declared.table.Bounds.{Bounds}
use Rattle.bound_uppers.specs.declared.places.Cells.{Cells}
use Rattle.bound_uppers.specs.declared.places.Layout.{Layout}
use Rattle.bound_uppers.specs.Table.{IsLayout, IsRow, first_variable, variable_of, cell_at}
use Rattle.bound_uppers.specs.Candidates.{HasSets, InState}
use Rattle.bmc_leaves.specs.Table.{Decodes, first_at}
use Rattle.bound_naming.specs.Naming.{IsCell}
use Rattle.bound_naming.specs.Decided.{Tells}
use Rattle.bound_naming.proofs.Finding.{found_is}

same_cell : (fixed : Bool) (c : Cells) (s : ℕ) → (fixed ≡ true → s ≡ 0) → first_at fixed c s ≡ cell_at c s
same_cell true c zero own = refl
same_cell true c (suc s) own = let none : suc s ≡ 0 = own refl in absurd (omega (arith, none))
same_cell false c zero own = refl
same_cell false c (suc s) own = refl

-- a tuple stands at one place of a set
one_place : (ts : List (List ℕ)) (j k : ℕ) (t : List ℕ) → IsStrictlySortedBy tuple_cmp ts → slice_get ts j ≡ Some t → slice_get ts k ≡ Some t → j ≡ k
one_place ts j k t sorted first second =
    let both : Some j ≡ Some k = found_is ts j t sorted first ∙ sym (found_is ts k t sorted second) in
    cc

module _ (bounds : Bounds) (table : Layout) (laid : IsLayout bounds table) (sets : HasSets bounds) (x : ℕ → Bool) (lasso : LassoValue) (decodes : Decodes bounds table x lasso) where
  -- the variable of a row is the one that the table keeps for it
  kept_variable : (s r place v : ℕ) (b : Bound) (c : Cells) → IsRow bounds s r place b → cell_at c s ≡ first_variable bounds.relations b s → v ≡ variable_of bounds.relations b s place → first_at b.fixed c s + place ≡ v
  kept_variable s r place v b c row kept is = ap (λ (n : ℕ). n + place) (same_cell b.fixed c s row.own ∙ kept) ∙ sym is

  tells_from : (s r v : ℕ) (t : List ℕ) → IsCell bounds s r t v → x v ≡ true → InState lasso s r t
  tells_from s r v t (b, place, row, at, is) on =
      let (c, get, kept) = laid.cells r b row.relation in
      let same : first_at b.fixed c s + place ≡ v = kept_variable s r place v b c row (kept s row.state).1 is in
      (decodes.relations r s b c row.relation get row.state t).1 (place, at, subst (λ (n : ℕ). x n ≡ true) (sym same) on)

  tells_to : (s r v : ℕ) (t : List ℕ) → IsCell bounds s r t v → InState lasso s r t → x v ≡ true
  tells_to s r v t (b, place, row, at, is) held =
      let (c, get, kept) = laid.cells r b row.relation in
      let (j, there, on) = (decodes.relations r s b c row.relation get row.state t).0 held in
      let spot : j ≡ place = one_place b.upper.tuples j place t (sets r b row.relation).sorted there at in
      let same : first_at b.fixed c s + place ≡ v = kept_variable s r place v b c row (kept s row.state).1 is in
      subst (λ (n : ℕ). x n ≡ true) same (subst (λ (m : ℕ). x (first_at b.fixed c s + m) ≡ true) spot on)

  pub decoded_tells : Tells bounds x lasso
  decoded_tells s r v t cell = (tells_from s r v t cell, tells_to s r v t cell)
