-- When lines and types are those of the sigs.
use Rattle.std.specs.Prelude.{◌≡◌, ℕ, List, length, Some, slice_get}
use Rattle.resolve_types.specs.Types.{Lines}
use Rattle.resolve_types.specs.declared.columns.Columns.{Columns}
use Rattle.resolve_hierarchy.specs.Above.{Sigs, AreLines}
use Rattle.resolve_rules.specs.Types.{HasType, IsIdenRow, IsSigType, IsUnivRow}

-- one type for each sig, which is that of the definitions
pub record AreTypes (sigs : Sigs) (types : List Columns) : Type 0 where
  pub every : length types ≡ length sigs
  pub each : (s : ℕ) (c : Columns) → slice_get types s ≡ Some c → IsSigType sigs s c

-- the lines of sigs, the type of each, and those of `univ` and `iden`, are right
pub record AreSigTypes (sigs : Sigs) (ls : Lines) (types : List Columns) (u i : Columns) : Type 0 where
  pub lines : AreLines sigs ls
  pub every : length types ≡ length sigs
  pub each : (s : ℕ) (c : Columns) → slice_get types s ≡ Some c → IsSigType sigs s c
  pub univ : HasType 1 (IsUnivRow sigs) u
  pub iden : HasType 2 (IsIdenRow sigs) i
