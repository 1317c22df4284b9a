-- Own atoms as they are reckoned.
use Rattle.std.specs.Prelude.{◌≡◌, ◌<◌, ◌++◌, ℕ, Bool, true, false, if◌then◌else◌, nat_lt, List, [], ◌∷◌, length, get_or, filter, set}
use Rattle.std.specs.List.{list_any, range_with_len}
use Rattle.core_tree.specs.declared.model.Sig.{Sig}
use Rattle.core_meaning.specs.declared.scopes.SigScope.{SigScope}
use Rattle.bound_owners.specs.declared.own.Constants.{Constants}
use Rattle.bound_owners.specs.Tops.{top_at}
use Rattle.bound_owners.specs.Own.{does_extend, is_constant, is_constant_of, stands_as}

-- the marks, this one among them where there is one
abbrev pub marked : List Bool → ℕ → List Bool
marked marks s = if nat_lt s (length marks) then set marks s true else marks

-- the lists, with a sig more at the end of one where there is one
abbrev pub extended_at : List (List ℕ) → ℕ → ℕ → List (List ℕ)
extended_at lists n s = if nat_lt n (length lists) then set lists n (get_or lists n [] ++ s ∷ []) else lists

-- for each sig whether one of some sigs extends it
pub record AreExtended (sigs some : List Sig) (marks : List Bool) : Type 0 where
  pub count : length marks ≡ length sigs
  pub each : (s : ℕ) → s < length sigs → get_or marks s false ≡ list_any (does_extend s) some

-- for each of the first sigs whether it is a constant
pub record AreConstants (sigs : List Sig) (n : ℕ) (marks : List Bool) : Type 0 where
  pub count : length marks ≡ n
  pub each : (s : ℕ) → s < n → get_or marks s false ≡ is_constant sigs s

-- for each top-level sig the constants below it among the first sigs
pub record HasLists (sigs : List Sig) (n : ℕ) (lists : List (List ℕ)) : Type 0 where
  pub count : length lists ≡ length sigs
  pub each : (top : ℕ) → top < length sigs → get_or lists top [] ≡ filter (is_constant_of sigs top) (range_with_len 0 n)

-- the constants of a model
pub record AreConstantsOf (sigs : List Sig) (all : Constants) : Type 0 where
  pub marks : AreConstants sigs (length sigs) all.marks.items
  pub lists : HasLists sigs (length sigs) all.lists.items

-- as which sig each of the first sigs stands in the table
pub record AreStanding (sigs : List Sig) (numbers : List SigScope) (n : ℕ) (all : List ℕ) : Type 0 where
  pub count : length all ≡ n
  pub each : (s : ℕ) → s < n → top_at all s ≡ stands_as sigs numbers s

-- and each
abbrev pub HasStanding : List Sig → List SigScope → List ℕ → Type 0
HasStanding sigs numbers all = (s : ℕ) → top_at all s ≡ stands_as sigs numbers s
