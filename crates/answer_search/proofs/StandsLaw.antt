-- An assignment that stands for a lasso stands for one within the bounds.
use Rattle.std.proofs.Common.{◌≡◌, ℕ, ◌-◌, ◌<◌, ◌≤◌, Bool, false, List, map, sym, arith}
use Rattle.std.specs.List.{range_with_len}
use Rattle.std.proofs.lemmas.List.FromFn.{get_or-map-range_with_len}
use Rattle.core_meaning.specs.Sequence.{LassoValue}
use Rattle.sat_dimacs.specs.Literal.{value_of}
use Rattle.bound_uppers.specs.declared.places.Layout.{Layout}
use Rattle.bound_uppers.specs.declared.table.Bounds.{Bounds}
use Rattle.bound_uppers.specs.Table.{IsTable, IsLayout, decoded}
use Rattle.bound_uppers.specs.Candidates.{HasSets, IsCandidate, DecodesCandidates, DecodesAgreeing}
use Rattle.bmc_leaves.specs.Table.{Decodes}
use Rattle.bmc_laws.specs.TableTold.{CandidatesAreTold, StandingHaveOneLoop, AgreeingAreDecoded, AlikeStand}

-- the laws on values of a table's variables
pub record TableLaws : Type 0 where
  pub told : CandidatesAreTold
  pub one_loop : StandingHaveOneLoop
  pub agreeing : AgreeingAreDecoded
  pub alike : AlikeStand
  pub candidates : DecodesCandidates
  pub agree : DecodesAgreeing

module _ (laws : TableLaws) (bounds : Bounds) (table : Layout) (is : IsTable bounds) (laid : IsLayout bounds table) (sets : HasSets bounds) (v : ℕ → Bool) (other : LassoValue) (found : Decodes bounds table v other) where
  -- the values of the table's variables
  abbrev values : List Bool
  values = map v (range_with_len 1 table.variables)

  value_same : (m : ℕ) → 0 < m → m ≤ table.variables → value_of values m ≡ v m
  value_same m some low = get_or-map-range_with_len v 1 table.variables (m - 1) m false (omega (arith, some, low)) (omega (arith, some))

  pub candidate_stands : (lasso : LassoValue) × IsCandidate bounds lasso × Decodes bounds table v lasso
  candidate_stands =
      let listed = laws.alike bounds table (value_of values) v other is laid value_same found in
      let one = laws.one_loop bounds table values other laid listed in
      let candidate = laws.candidates bounds values is.some sets in
      let agrees = laws.agree bounds values sets one in
      let decodes = laws.agreeing bounds table values (decoded bounds values) is laid candidate agrees in
      (decoded bounds values, candidate, laws.alike bounds table v (value_of values) (decoded bounds values) is laid (λ m some low. sym (value_same m some low)) decodes)
