-- The fields that a sig owns, and how they are linked.
use Rattle.std.specs.Prelude.{◌≡◌, ℕ, zero, suc, ◌+◌, ◌-◌, ◌≤◌, ◌==◌, nat_lt, if◌then◌else◌, Bool, true, false, List, [], ◌∷◌, length, Option, Some, None, slice_get, slice_index}
use Rattle.core_tree.specs.declared.model.Model.{Model}
use Rattle.core_tree.specs.declared.model.Field.{Field}

-- a field's owner, or the number of sigs where no sig of the model owns it
abbrev pub owner_among : ℕ → Option ℕ → ℕ
owner_among sigs None = sigs
owner_among sigs (Some s) = if nat_lt s sigs then s else sigs

abbrev pub owner_or : ℕ → Option Field → ℕ
owner_or sigs None = sigs
owner_or sigs (Some f) = owner_among sigs f.owner

-- the owner of the field of this number
abbrev pub owner_at : Model → ℕ → ℕ
owner_at model k = owner_or (length model.sigs) (slice_get model.fields k)

abbrev pub put_where : Bool → ℕ → List ℕ → List ℕ
put_where true k ks = k ∷ ks
put_where false k ks = ks

-- of n fields from number k on those that sig s owns, in order, where `own` tells the owner of each
abbrev pub owned_in : (ℕ → ℕ) → ℕ → ℕ → ℕ → List ℕ
owned_in own s k zero = []
owned_in own s k (suc n) = put_where (own k == s) k (owned_in own s (suc k) n)

-- the fields of a model that sig s owns, in order; for the number of sigs those that no sig owns
abbrev pub owned : Model → ℕ → List ℕ
owned model s = owned_in (owner_at model) s 0 (length model.fields)

-- at most n fields along links, of m fields. A link is 0 where none is next, and else tells how far the next one stands
-- from the end of the fields
abbrev pub walk : ℕ → List ℕ → ℕ → ℕ → List ℕ
walk m next zero link = []
walk m next (suc n) zero = []
walk m next (suc n) (suc k) = (m - suc k) ∷ walk m next n (slice_index next k)

-- the last i of m fields are linked: for each owner a link to the first of its fields, and for each field, from the end on,
-- a link to the next one of its owner
pub record AreLinked (own : ℕ → ℕ) (sigs m : ℕ) (heads next : List ℕ) (i : ℕ) : Type 0 where
  pub owners : length heads ≡ sigs + 1
  pub fields : length next ≡ i
  pub inside : (k : ℕ) → slice_index next k ≤ i
  pub firsts : (s : ℕ) → slice_index heads s ≤ i
  pub walks : (s n : ℕ) → s ≤ sigs → i ≤ n → walk m next n (slice_index heads s) ≡ owned_in own s (m - i) i

abbrev pub IsLinked : Model → List ℕ → List ℕ → ℕ → Type 0
IsLinked model heads next i = AreLinked (owner_at model) (length model.sigs) (length model.fields) heads next i
