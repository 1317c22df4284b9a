-- The types of constants and of declarations: which rows they have.
use Rattle.std.specs.Prelude.{◌≡◌, ◌↔◌, ℕ, suc, [], ◌∷◌, Some, Contains, slice_get}
use Rattle.syntax_tree.specs.declared.operator.Constant.{Constant}
use Rattle.syntax_tree.specs.declared.operator.Constant.TheVariants as constant
use Rattle.resolve_types.specs.Types.{Row}
use Rattle.resolve_types.specs.declared.columns.Columns.{Columns}
use Rattle.resolve_types.specs.declared.member.Member.{Member}
use Rattle.resolve_types.specs.declared.member.Member.TheVariants as member
use Rattle.resolve_hierarchy.specs.declared.sigs.Kind.TheVariants as kind
use Rattle.resolve_hierarchy.specs.Above.{Sigs, IsMember}

-- a type of so many columns that has just the rows of which P holds
pub record HasType (count : ℕ) (P : Row → Type 0) (c : Columns) : Type 0 where
  pub columns : c.count ≡ count
  pub rows : (row : Row) → Contains c.rows row ↔ P row

-- one column with just this member
abbrev pub IsRowOf : Member → Row → Type 0
IsRowOf m row = row ≡ m ∷ []

module _ (sigs : Sigs) where
  -- a member of the type of `univ`: a top-level sig, or `Int`
  abbrev pub IsOutermost : Member → Type 0
  IsOutermost member.Int = Unit {0}
  IsOutermost (member.Sig s) = slice_get sigs s ≡ Some kind.Top

  abbrev pub IsUnivRow : Row → Type 0
  IsUnivRow row = (m : Member) × IsOutermost m × IsRowOf m row

  -- `iden` has the pairs of each such member with each
  abbrev pub IsIdenRow : Row → Type 0
  IsIdenRow row = (m n : Member) × IsOutermost m × IsOutermost n × (row ≡ m ∷ n ∷ [])

  -- a row of the type of a sig
  abbrev pub IsSigRow : ℕ → Row → Type 0
  IsSigRow s row = (m : Member) × IsMember sigs s m × IsRowOf m row

  -- a row of the type of a field: a member of its sig's type, and then a row of its bound's
  abbrev pub IsFieldRow : ℕ → Columns → Row → Type 0
  IsFieldRow s bound row = (m : Member) × (rest : Row) × IsMember sigs s m × Contains bound.rows rest × (row ≡ m ∷ rest)

  abbrev pub IsSigType : ℕ → Columns → Type 0
  IsSigType s c = HasType 1 (IsSigRow s) c

  abbrev pub IsFieldType : ℕ → Columns → Columns → Type 0
  IsFieldType s bound c = HasType (suc bound.count) (IsFieldRow s bound) c

  -- the type of a constant, where `String` is the sig of that number; `this` is no constant
  abbrev pub IsTypeOf : ℕ → Constant → Columns → Type 0
  IsTypeOf string constant.Univ c = HasType 1 IsUnivRow c
  IsTypeOf string constant.Iden c = HasType 2 IsIdenRow c
  IsTypeOf string constant.None c = HasType 1 (λ row. ⊥) c
  IsTypeOf string constant.Int c = HasType 1 (IsRowOf member.Int) c
  IsTypeOf string constant.String c = HasType 1 (IsRowOf (member.Sig string)) c
  IsTypeOf string constant.This c = ⊥

-- the type of a number and of every other integer expression
abbrev pub IsIntType : Columns → Type 0
IsIntType c = HasType 1 (IsRowOf member.Int) c

-- the type of a literal
abbrev pub IsLiteralType : ℕ → Columns → Type 0
IsLiteralType string c = HasType 1 (IsRowOf (member.Sig string)) c
