-- What the steps are that make the types, the fields and the formula of a command.
use Rattle.std.specs.Prelude.{◌≡◌, ℕ, suc, ◌-◌, cond, Bool, true, false, List, [], ◌∷◌, ◌++◌, take, drop, set, reverse, length, Option, Some, None, slice_get, ⊤}
use Rattle.std.specs.Str.{bytes_eq}
use Rattle.core_tree.specs.declared.model.Sig.{Sig}
use Rattle.core_tree.specs.declared.model.Field.{Field}
use Rattle.core_tree.specs.declared.model.Parameter.{Parameter}
use Rattle.core_tree.specs.declared.model.Command.{Command}
use Rattle.core_tree.specs.declared.model.Model.{Model}
use Rattle.core_tree.specs.Trees.{Claim, Binder, claim_of, term_of}
use Rattle.core_tree.specs.Columns.{Columns, no_columns}
use Rattle.core_tree.specs.Models.{parameter_columns, plain_shapes}
use Rattle.core_tree.specs.Types.{NameRows, no_rows}
use Rattle.resolve_type_check.specs.Names.{SameNames, IsTypeOf}
use Rattle.resolve_type_check.specs.Same.{SameRows}
use Rattle.form_skolem.specs.declared.bounds.BoundType.{BoundType}
use Rattle.form_skolem.specs.Claims.{binder, some_of, claim_from}
use Rattle.form_skolem.specs.Opened.{TypedParameter, is_relation, typed_from, labels, IsFieldFor, IsAsked}

-- whether a sig, a field or one of them has this label
abbrev pub sig_has : List Sig → List ℕ → Bool
sig_has [] label = false
sig_has (s ∷ sigs) label = cond (bytes_eq s.label label) true (sig_has sigs label)

abbrev pub field_has : List Field → List ℕ → Bool
field_has [] label = false
field_has (f ∷ fields) label = cond (bytes_eq f.label label) true (field_has fields label)

abbrev pub is_taken : List Sig → List Field → List ℕ → Bool
is_taken sigs fields label = cond (sig_has sigs label) true (field_has fields label)

-- atom parameters from number k on as variables
abbrev pub binders : ℕ → List Parameter → List Binder
binders k [] = []
binders k (p ∷ ps) = binder k p ∷ binders (suc k) ps

-- A claim is that of the parameters from `end` on, and those from `place` to before it are atoms: together with them it is that of
-- the parameters from `place` on, whatever was picked before.
pub record IsBack (body : ℕ) (ps : List Parameter) (fs : List (Option ℕ)) (place end : ℕ) (claim : Claim) : Type 0 where
  pub leads : (picked : List Binder) →
      claim_from body fs place (drop place ps) (drop place fs) (reverse (take place fs)) picked
      ≡ some_of (picked ++ binders place (take (end - place) (drop place ps))) claim

-- a parameter with a type that was found
abbrev pub with_type : Parameter → BoundType → TypedParameter
with_type p b = record { parameter = p; columns = b.columns; rows = b.rows }

-- parameters with theirs
abbrev pub with_types : List Parameter → List BoundType → List TypedParameter
with_types [] bs = []
with_types (p ∷ ps) [] = []
with_types (p ∷ ps) (b ∷ bs) = with_type p b ∷ with_types ps bs

-- types that were found have the columns of those of parameters, and the same rows
abbrev pub AreTypes : List BoundType → List TypedParameter → Type 0
AreTypes [] [] = ⊤
AreTypes [] (t ∷ ts) = ⊥
AreTypes (b ∷ bs) [] = ⊥
AreTypes (b ∷ bs) (t ∷ ts) = (b.columns ≡ t.columns) × SameRows b.rows t.rows × AreTypes bs ts

-- the type of a parameter's bound, where its columns stand at a place among others and names have these rows
pub record IsBoundType (model : Model) (names : NameRows) (columns : List ℕ) (place : ℕ) (p : Parameter) (b : BoundType) : Type 0 where
  pub columns_are : slice_get columns place ≡ Some b.columns
  pub rows_are : IsTypeOf model (term_of p.bound.expr) names b.rows

-- The types of the parameters before a place are found, and names have the rows that those have: with right types of the others
-- all are right.
pub record AreTypesSoFar (model : Model) (all : List ℕ) (ps : List Parameter) (place : ℕ) (names : NameRows) (found : List BoundType) : Type 0 where
  pub columns : Columns
  pub rows : NameRows
  pub left : drop place all ≡ parameter_columns (plain_shapes model) (drop place ps) place columns
  pub same : SameNames names rows
  pub leads : (rest : List BoundType) → AreTypes rest (typed_from model place (drop place ps) columns rows) → AreTypes (found ++ rest) (typed_from model 0 ps no_columns no_rows)

-- the new fields are the old ones and, behind them, the one that stands for a parameter
pub record IsAdded (taken : List (List ℕ)) (t : TypedParameter) (old new : List Field) : Type 0 where
  pub field : Field
  pub stands : IsFieldFor taken t field
  pub behind : new ≡ old ++ field ∷ []

-- what a parameter adds to the fields, and its number among them
pub data IsTurn (taken : List (List ℕ)) (t : TypedParameter) (old new : List Field) : Option ℕ → Type 0 where
  atom : is_relation t.parameter ≡ false → new ≡ old → IsTurn taken t old new None
  relation : is_relation t.parameter ≡ true → IsAdded taken t old new → IsTurn taken t old new (Some (length old))

-- the same of a parameter whose type stands at a place among others
pub record IsTypedTurn (sigs : List Sig) (p : Parameter) (types : List BoundType) (place : ℕ) (old new : List Field) (number : Option ℕ) : Type 0 where
  pub bound : BoundType
  pub found : slice_get types place ≡ Some bound
  pub turn : IsTurn (labels sigs old) (with_type p bound) old new number

-- the new commands are the old ones, but that the one of this number asks another claim
pub record AskAnother (old : List Command) (number : ℕ) (command : Command) (claim : Claim) (new : List Command) : Type 0 where
  pub asked : Command
  pub commands : new ≡ set old number asked
  pub same : IsAsked command asked
  pub formula : claim_of asked.formula ≡ claim
