-- What scopes ask of a sig, of a field, and of a number of the universe.
use Rattle.std.specs.Prelude.{◌≡◌, ℕ, ◌+◌, ◌-◌, ◌<◌, false, List, [], ◌∷◌, Contains, length, Option, Some, None, IfSome, slice_get, if◌then◌else◌}
use Rattle.core_tree.specs.declared.model.Sig.{Sig}
use Rattle.core_tree.specs.declared.model.SigKind.{SigKind}
use Rattle.core_tree.specs.declared.model.SigKind.TheVariants.{Extends}
use Rattle.core_tree.specs.declared.model.Field.{Field}
use Rattle.core_tree.specs.declared.model.Column.{Column}
use Rattle.core_tree.specs.Types.{TypeRow, by_parent, by_sig, parent_rows, sig_rows}
use Rattle.core_meaning.specs.declared.scopes.SigScope.{SigScope}
use Rattle.core_meaning.specs.World.{World, InRelation}
use Rattle.core_meaning.specs.Kept.{first_atom, InRowBound, IsLiteral, InSigBound, KeepsNumber, IsStatic, IsWithin}
use Rattle.eval_context.specs.Settings.{SettingValue, world}

-- the relation of number k has the tuple at some position
abbrev pub IsEver : World → ℕ → List ℕ → Type 0
IsEver w k t = (i : ℕ) × InRelation w k i t

-- the parent that a sig extends, and the same where the sig is `var`
abbrev pub parent_in : List Sig → ℕ → Option ℕ
parent_in sigs s = by_sig None (λ d. by_parent None (λ p. Some p) d.kind) (slice_get sigs s)

abbrev pub var_parent_in : List Sig → ℕ → Option ℕ
var_parent_in sigs s = by_sig None (λ d. if d.is_var then by_parent None (λ p. Some p) d.kind else None) (slice_get sigs s)

-- some row of a type bounds the number
abbrev pub HasRow : SettingValue → List TypeRow → ℕ → Type 0
HasRow s rows a = (r : TypeRow) × Contains rows r × InRowBound s.model s.scopes r (a ∷ [])

-- some row of one of these parents does
abbrev pub HasRowOf : SettingValue → ℕ → List Column → ℕ → Type 0
HasRowOf s more parents a = (c : Column) × Contains parents c × HasRow s (parent_rows (λ p. sig_rows s.model.sigs more p) c) a

-- the number is that of the literal whose sig is sig k, of this kind
abbrev pub IsOwnAtom : SettingValue → ℕ → SigKind → ℕ → Type 0
IsOwnAtom s k kind a = (p : ℕ) → kind ≡ Extends p → a ≡ first_atom s.scopes.numbers p + (k - p - 1)

-- the number is the literal's own, where sig k is that of a literal
abbrev pub IsOwn : SettingValue → ℕ → Sig → ℕ → Type 0
IsOwn s k d a = (p : ℕ) → IsLiteral s.model s.scopes d p → a ≡ first_atom s.scopes.numbers p + (k - p - 1)

-- a scope allows so many atoms
abbrev pub Allows : SigScope → ℕ → Type 0
Allows scope count = IfSome scope.number (λ n. IsWithin scope.exact n count)

-- what the scopes ask of sig k
pub record SigKept (s : SettingValue) (k : ℕ) (d : Sig) (scope : SigScope) : Type 0 where
  pub bounded : (i a : ℕ) → InRelation (world s) k i (a ∷ []) → InSigBound s.model s.scopes k d a
  pub number : KeepsNumber (world s) k scope
  pub same : d.is_var ≡ false → IsStatic (world s) k

abbrev pub SigsKept : SettingValue → ℕ → Type 0
SigsKept s n = (k : ℕ) (d : Sig) (scope : SigScope) → k < n → slice_get s.model.sigs k ≡ Some d → slice_get s.scopes.numbers k ≡ Some scope → SigKept s k d scope

-- what they ask of field k
abbrev pub FieldKept : SettingValue → ℕ → Field → Type 0
FieldKept s k f = f.is_var ≡ false → IsStatic (world s) (length s.model.sigs + k)

abbrev pub FieldsKept : SettingValue → ℕ → Type 0
FieldsKept s n = (k : ℕ) (f : Field) → k < n → slice_get s.model.fields k ≡ Some f → FieldKept s k f
