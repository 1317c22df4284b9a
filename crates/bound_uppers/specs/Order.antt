-- The order of relations: each sig, then its fields, then the fields without owner.
use Rattle.std.specs.Prelude.{◌≡◌, ◌<◌, ℕ, ◌+◌, if◌then◌else◌, nat_lt, eqb, List, ◌++◌, length, take, map, Option, Some, None, slice_index, count_by}
use Rattle.std.specs.List.{range_with_len}
use Rattle.core_tree.specs.declared.model.Model.{Model}
use Rattle.core_tree.specs.declared.model.Field.{Field}
use Rattle.bound_uppers.specs.declared.sums.Weight.{Weight}

-- with which of so many sigs a field stands: its owner, or behind them all
abbrev pub with_owner : ℕ → Option ℕ → ℕ
with_owner sigs None = sigs
with_owner sigs (Some owner) = if nat_lt owner sigs then owner else sigs

-- with which sig each relation stands: first each sig with itself, then the fields
abbrev pub standings : ℕ → List Field → List ℕ
standings sigs fields = range_with_len 0 sigs ++ map (λ (f : Field). with_owner sigs f.owner) fields

-- how many relations stand before one: those with an earlier sig, and those with the same sig that are listed before it
abbrev pub order_in : List ℕ → ℕ → ℕ
order_in with_sigs r = count_by (λ (s : ℕ). nat_lt s (slice_index with_sigs r)) with_sigs + count_by (λ (s : ℕ). eqb s (slice_index with_sigs r)) (take r with_sigs)

-- each relation's place in the order
abbrev pub order_of : Model → ℕ → ℕ
order_of model = order_in (standings (length model.sigs) model.fields)

-- ---- as it is reckoned

abbrev pub one_at : ℕ → Weight
one_at s = record { place = s; size = 1 }

abbrev pub AreOrders : List ℕ → List ℕ → Type 0
AreOrders with_sigs orders = (length orders ≡ length with_sigs) × ((r : ℕ) → r < length with_sigs → slice_index orders r ≡ order_in with_sigs r)
