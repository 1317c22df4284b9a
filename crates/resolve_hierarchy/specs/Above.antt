-- Parents, ancestors, the members of a sig's type, and overlap.
use Rattle.std.specs.Prelude.{◌≡◌, ◌↔◌, ℕ, Bool, true, false, List, [], ◌∷◌, Some, Contains, slice_get, length}
use Rattle.resolve_types.specs.Types.{Lines, Row, meet_of}
use Rattle.resolve_types.specs.declared.member.Member.{Member}
use Rattle.resolve_types.specs.declared.member.Member.TheVariants as member
use Rattle.resolve_hierarchy.specs.declared.sigs.Kind.{Kind}
use Rattle.resolve_hierarchy.specs.declared.sigs.Kind.TheVariants as kind

abbrev pub Sigs : Type 0
Sigs = List Kind

-- the parents of a sig: what it extends, or what it lies in
abbrev pub parents_in : Kind → List Member
parents_in kind.Top = []
parents_in (kind.Extends s) = member.Sig s ∷ []
parents_in (kind.Subset ms) = ms

abbrev pub IsParent : Sigs → ℕ → Member → Type 0
IsParent sigs s m = (d : Kind) × (slice_get sigs s ≡ Some d) × Contains (parents_in d) m

-- a sig that lies in others
abbrev pub is_inside : Kind → Bool
is_inside (kind.Subset ms) = true
is_inside _ = false

abbrev pub IsSubset : Sigs → ℕ → Type 0
IsSubset sigs s = (d : Kind) × (slice_get sigs s ≡ Some d) × (is_inside d ≡ true)

-- t is an ancestor of s: a parent, or an ancestor of a parent
pub data IsAncestor (sigs : Sigs) : ℕ → ℕ → Type 0 where
  parent : {s t : ℕ} → IsParent sigs s (member.Sig t) → IsAncestor sigs s t
  further : {s t u : ℕ} → IsParent sigs s (member.Sig t) → IsAncestor sigs t u → IsAncestor sigs s u

-- a member of the type of a sig: itself, or for a subset sig a member of the types of its parents
pub data IsMember (sigs : Sigs) : ℕ → Member → Type 0 where
  itself : {s : ℕ} → (IsSubset sigs s → ⊥) → IsMember sigs s (member.Sig s)
  integer : {s : ℕ} → IsSubset sigs s → IsParent sigs s member.Int → IsMember sigs s member.Int
  of_parent : {s t : ℕ} {m : Member} → IsSubset sigs s → IsParent sigs s (member.Sig t) → IsMember sigs t m → IsMember sigs s m

-- the line of a sig that is no subset sig: itself, what it extends, and so on up to its top-level sig
pub data IsLine (sigs : Sigs) : ℕ → List ℕ → Type 0 where
  top : {s : ℕ} {d : Kind} → slice_get sigs s ≡ Some d → d ≡ kind.Top → IsLine sigs s (s ∷ [])
  child : {s t : ℕ} {d : Kind} {line : List ℕ} → slice_get sigs s ≡ Some d → d ≡ kind.Extends t → IsLine sigs t line → IsLine sigs s (s ∷ line)

-- one line for each sig; a subset sig has an empty one
pub record AreLines (sigs : Sigs) (lines : Lines) : Type 0 where
  pub every : length lines ≡ length sigs
  pub of_sig : (s : ℕ) (line : List ℕ) → (IsSubset sigs s → ⊥) → slice_get lines s ≡ Some line → IsLine sigs s line
  pub of_subset : (s : ℕ) (line : List ℕ) → IsSubset sigs s → slice_get lines s ≡ Some line → line ≡ []

-- two sigs overlap where members of their types meet
abbrev pub Overlap : Sigs → Lines → ℕ → ℕ → Type 0
Overlap sigs lines a b = (m n k : Member) × IsMember sigs a m × IsMember sigs b n × (meet_of lines m n ≡ Some k)

-- the rows of a sig's type are just its members, each in a row of one column
abbrev pub AreRows : Sigs → ℕ → List Row → Type 0
AreRows sigs s rows = (row : Row) → Contains rows row ↔ ((m : Member) × IsMember sigs s m × (row ≡ m ∷ []))

-- no sig is its own ancestor
abbrev pub HasNoCycle : Sigs → Type 0
HasNoCycle sigs = (s : ℕ) → IsAncestor sigs s s → ⊥
