-- What a name may stand for where it stands, what it then means, and which of these it is taken to stand for.
use Rattle.std.specs.Prelude.{◌≡◌, ℕ, ◌==◌, Bool, true, false, not, if◌then◌else◌, List, [], ◌∷◌, ◌++◌, map, filter, length, Option, Some, None, slice_get}
use Rattle.std.specs.List.{list_any, filter_map}
use Rattle.std.specs.Str.{bytes_eq}
use Rattle.syntax_tree.specs.declared.expr.QualName.{QualName}
use Rattle.syntax_tree.specs.declared.operator.Constant.{Constant}
use Rattle.syntax_tree.specs.declared.operator.Constant.TheVariants as constant
use Rattle.resolve_types.specs.Types.{join_of}
use Rattle.resolve_types.specs.declared.columns.Columns.{Columns}
use Rattle.resolve_types.specs.declared.member.Member.TheVariants as member
use Rattle.resolve_readings.specs.Meanings.{integers}
use Rattle.resolve_readings.specs.declared.meaning.Meaning.{Meaning}
use Rattle.resolve_readings.specs.declared.meaning.What.{What}
use Rattle.resolve_readings.specs.declared.meaning.What.TheVariants as what
use Rattle.resolve_names.specs.declared.table.Decl.{Decl}
use Rattle.resolve_names.specs.declared.table.Decl.TheVariants as decl
use Rattle.resolve_names.specs.declared.table.Namespace.{Namespace}
use Rattle.resolve_names.specs.Gathered.{number_in}
use Rattle.resolve_names.specs.Lookup.{seen_of}
use Rattle.resolve_names.specs.Visible.{AreCandidates, last_of}
use Rattle.resolve_rules.specs.Candidates.{set_of}
use Rattle.resolve_said.specs.declared.place.OwnField.{OwnField}
use Rattle.resolve_said.specs.Said.{target_of, text_alone}
use Rattle.resolve_picks.specs.declared.target.Target.TheVariants as target
use Rattle.resolve_read.specs.declared.types.Ground.{Ground}
use Rattle.resolve_read.specs.declared.types.Ground.TheVariants as ground
use Rattle.resolve_read.specs.declared.ground.Test.{Test}
use Rattle.resolve_read.specs.declared.ground.Test.TheVariants as test
use Rattle.resolve_read.specs.At.{At, Scope, type_of}

-- ------------------------------------------------------------------ what declarations mean

-- an integer
abbrev pub an_integer : Meaning
an_integer = set_of integers false

-- what a declaration means by its name
abbrev pub meaning_of : At → Decl → Option Meaning
meaning_of at (decl.Sig r) = slice_get at.types.sigs (number_in at.scopes r)
meaning_of at (decl.Parameter None) = Some an_integer
meaning_of at (decl.Parameter (Some r)) = slice_get at.types.sigs (number_in at.scopes r)
meaning_of at (decl.Field f) = slice_get at.types.fields f
meaning_of at (decl.Body b) = slice_get at.types.bodies b

-- what a field means that is joined to `this`
abbrev pub joined_to : At → What → Bool → Option Meaning
joined_to at (what.Set c) integer = Some (set_of (join_of at.types.typing.lines at.this c) integer)
joined_to at _ integer = None

abbrev pub joined_meaning : At → Option Meaning → Option Meaning
joined_meaning at None = None
joined_meaning at (Some m) = joined_to at m.what m.integer

abbrev pub meaning_of_this : At → ℕ → Option Meaning
meaning_of_this at f = joined_meaning at (slice_get at.types.fields f)

-- the type of a constant
abbrev pub constant_type : At → Constant → Option Columns
constant_type at constant.Univ = Some at.types.univ
constant_type at constant.Iden = Some at.types.typing.iden
constant_type at constant.None = Some (record { count = 1; rows = [] })
constant_type at constant.Int = Some integers
constant_type at constant.String = Some (record { count = 1; rows = (member.Sig at.types.string ∷ []) ∷ [] })
constant_type at constant.This = None

-- ------------------------------------------------------------------ which declarations are candidates

-- a value, a call of a function, or a function that waits for arguments
abbrev pub gives_set : What → Bool
gives_set (what.Set c) = true
gives_set what.Formula = false
gives_set (what.Waiting parameters None) = false
gives_set (what.Waiting parameters (Some c)) = true

abbrev pub is_set_in : Option Meaning → Bool
is_set_in None = false
is_set_in (Some m) = gives_set m.what

-- in the bound of a parameter or a result no functions
abbrev pub stands_in_body : At → Decl → Bool
stands_in_body at (decl.Body b) = not (is_set_in (slice_get at.types.bodies b))
stands_in_body at _ = true

abbrev pub has_field : List OwnField → ℕ → Bool
has_field own f = list_any (λ (o : OwnField). o.field == f) own

-- in the bound of a field sigs, and fields that are joined to `this` there
abbrev pub stands_in_field : At → Decl → Bool
stands_in_field at (decl.Sig r) = true
stands_in_field at (decl.Field f) = has_field at.own f
stands_in_field at _ = false

abbrev pub is_parameter : Decl → Bool
is_parameter (decl.Parameter a) = true
is_parameter _ = false

abbrev pub is_field : Decl → Bool
is_field (decl.Field f) = true
is_field _ = false

abbrev pub parameters_in : Option Namespace → List ℕ → List Decl
parameters_in None text = []
parameters_in (Some scope) text = filter is_parameter (seen_of (Some true) true text scope.declared)

-- the parameters of its own module that the name may stand for, which has no path but `this/`
abbrev pub own_parameters : At → List (List ℕ) → List Decl
own_parameters at parts = if length parts == 1 then parameters_in (slice_get at.scopes at.instance) (last_of parts) else []

-- whether the declaration is kept by the test
abbrev pub passes : At → Test → Decl → Bool
passes at test.Field d = is_field d
passes at test.Parameter d = is_parameter d
passes at test.FieldBound d = stands_in_field at d
passes at test.BodyBound d = stands_in_body at d

-- of the declarations that a name stands for, those that are candidates on the ground
abbrev pub standing_on : At → QualName → List Decl → Ground → List Decl
standing_on at q found ground.Anywhere = found
standing_on at q found ground.FieldBound = filter (stands_in_field at) found ++ own_parameters at q.parts
standing_on at q found ground.BodyBound = filter (stands_in_body at) found

abbrev pub standing : At → QualName → List Decl → List Decl
standing at q found = standing_on at q found at.ground

-- the same of a name behind `@`, which stands for fields alone
abbrev pub fields_on : At → List Decl → Ground → List Decl
fields_on at found ground.FieldBound = filter (stands_in_field at) (filter is_field found)
fields_on at found _ = filter is_field found

-- ------------------------------------------------------------------ candidates

-- the number of the field, where it has that name
abbrev pub named_field : List ℕ → OwnField → Option ℕ
named_field text o = if bytes_eq o.name text then Some o.field else None

-- the fields of `this` of that name
abbrev pub own_named : List OwnField → List ℕ → List ℕ
own_named own text = filter_map (named_field text) own

-- neither a name in scope nor a field of `this` hides what is declared
abbrev pub IsShown : At → Scope → Option (List ℕ) → Type 0
IsShown at scope None = Unit {0}
IsShown at scope (Some text) = (type_of text scope ≡ None) × (own_named at.own text ≡ [])

-- what each of the declarations means, and the number of one that the name is taken to stand for
pub record Chooses (at : At) (q : QualName) (ds : List Decl) (ms : List Meaning) (n : ℕ) : Type 0 where
  pub each : map (meaning_of at) ds ≡ map Some ms
  pub chosen : Decl
  pub number : slice_get ds n ≡ Some chosen
  pub picked : at.picks q.place ≡ Some (target_of at.scopes chosen)

-- the same of fields that are joined to `this`
pub record ChoosesOwn (at : At) (q : QualName) (fs : List ℕ) (ms : List Meaning) (n : ℕ) : Type 0 where
  pub each : map (meaning_of_this at) fs ≡ map Some ms
  pub chosen : ℕ
  pub number : slice_get fs n ≡ Some chosen
  pub picked : at.picks q.place ≡ Some (target.Field chosen)

-- What the name means for each of its candidates, and the number of the one that it is taken to stand for. A name in scope is the
-- innermost one alone; a field of `this` is joined to it; each other name stands for declarations that are seen.
pub data Picked (at : At) (scope : Scope) (q : QualName) : List Meaning → ℕ → Type 0 where
  in_scope : {text : List ℕ} {c : Columns} → text_alone q ≡ Some text → type_of text scope ≡ Some c → Picked at scope q (set_of c false ∷ []) 0
  of_this : {text : List ℕ} {n : ℕ} {ms : List Meaning} → text_alone q ≡ Some text → type_of text scope ≡ None →
      ChoosesOwn at q (own_named at.own text) ms n → Picked at scope q ms n
  declared : {found : List Decl} {n : ℕ} {ms : List Meaning} → IsShown at scope (text_alone q) →
      AreCandidates at.scopes at.instance q found → Chooses at q (standing at q found) ms n → Picked at scope q ms n

-- the same of a name behind `@`
pub record PicksField (at : At) (q : QualName) (ms : List Meaning) (n : ℕ) : Type 0 where
  pub found : List Decl
  pub seen : AreCandidates at.scopes at.instance q found
  pub chooses : Chooses at q (fields_on at found at.ground) ms n
