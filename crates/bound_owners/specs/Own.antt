-- Own atoms. What atoms are called is no part of a model's meaning, so the table keeps an atom of its own for each constant.
use Rattle.std.specs.Prelude.{◌≡◌, ℕ, ◌-◌, Bool, true, false, not, ◌&&◌, if◌then◌else◌, eqb, leb, List, [], length, filter, Option, Some, None, slice_get, is_some}
use Rattle.std.specs.List.{list_any, range_with_len}
use Rattle.core_tree.specs.declared.model.Sig.{Sig}
use Rattle.core_tree.specs.declared.model.SigKind.TheVariants.{Extends}
use Rattle.core_tree.specs.declared.operators.Multiplicity.{Multiplicity}
use Rattle.core_tree.specs.declared.operators.Multiplicity.TheVariants.{Set, One, Lone, Some as AtLeastOne}
use Rattle.core_tree.specs.Types.{by_parent, by_sig, is_under}
use Rattle.core_meaning.specs.declared.scopes.SigScope.{SigScope}
use Rattle.core_meaning.specs.Kept.{first_atom, or_zero_number, top_above}

-- the word before a sig is `one`
abbrev pub is_one : Multiplicity → Bool
is_one Set = false
is_one One = true
is_one Lone = false
is_one AtLeastOne = false

-- a static `one sig` that extends another, and that isn't a literal's
abbrev pub is_single : Sig → Bool
is_single d = not d.is_var && is_one d.multiplicity && is_some d.origin && by_parent false (λ p. true) d.kind

-- a sig extends the one of this number
abbrev pub does_extend : ℕ → Sig → Bool
does_extend p d = by_parent false (λ q. eqb q p) d.kind

-- a sig has an origin exactly where the one that it extends has one: `String` and the literals' sigs have none
abbrev pub HasOrigins : List Sig → Type 0
HasOrigins sigs = (s p : ℕ) (d e : Sig) → slice_get sigs s ≡ Some d → d.kind ≡ Extends p → slice_get sigs p ≡ Some e → is_some d.origin ≡ is_some e.origin

module _ (sigs : List Sig) where
  -- some sig extends the one of this number
  abbrev pub is_extended : ℕ → Bool
  is_extended s = list_any (does_extend s) sigs

  -- a constant: a static `one sig` that extends another, that none extends, and that isn't a literal's
  abbrev pub is_constant : ℕ → Bool
  is_constant s = by_sig false is_single (slice_get sigs s) && not (is_extended s)

  -- the top-level sig above a sig
  abbrev pub top_of : ℕ → ℕ
  top_of s = top_above sigs (length sigs) s

  -- a constant below this top-level sig
  abbrev pub is_constant_of : ℕ → ℕ → Bool
  is_constant_of top s = is_constant s && eqb (top_of s) top

  -- the constants below a top-level sig, in order
  abbrev pub constants : ℕ → List ℕ
  constants top = filter (is_constant_of top) (range_with_len 0 (length sigs))

  -- An atom without owner is given to the sigs that own none; an atom with an owner is given to the owner and to
  -- each sig above it
  abbrev pub is_given_by : Bool → Option ℕ → ℕ → Bool
  is_given_by owns None s = not owns
  is_given_by owns (Some owner) s = is_under sigs (length sigs) owner s

  module _ (numbers : List SigScope) where
    -- a top-level sig has at least as many atoms as there are constants below it
    abbrev pub fits : ℕ → Bool
    fits top = leb (length (constants top)) (or_zero_number (slice_get numbers top))

    -- the owners of the atoms of a top-level sig, the first owning the first atom and so on: its constants
    -- where it has as many atoms; where it has fewer, none owns an atom
    abbrev pub owners : ℕ → List ℕ
    owners top = if fits top then constants top else []

    -- the owner of the atom at a place of a top-level sig
    abbrev pub owner_at : ℕ → ℕ → Option ℕ
    owner_at top place = slice_get (owners top) place

    -- the owner of an atom of a top-level sig
    abbrev pub owner_of : ℕ → ℕ → Option ℕ
    owner_of top a = owner_at top (a - first_atom numbers top)

    -- a sig owns an atom
    abbrev pub does_own : ℕ → Bool
    does_own s = is_constant s && fits (top_of s)

    -- whether the table gives a sig an atom with this owner, or one without
    abbrev pub is_given : Option ℕ → ℕ → Bool
    is_given owner s = is_given_by (does_own s) owner s

    -- as which sig a sig stands in the table: where no atom of its top-level sig has an owner, as that one
    abbrev pub stands_as : ℕ → ℕ
    stands_as s = if eqb (length (owners (top_of s))) 0 then top_of s else s
