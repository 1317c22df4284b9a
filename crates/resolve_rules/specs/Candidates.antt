-- What a name may stand for where it stands, and what it then means.
use Rattle.std.specs.Prelude.{◌≡◌, ◌⊎◌, ℕ, ◌+◌, ◌<◌, ◌==◌, Bool, true, false, List, [], ◌∷◌, ◌++◌, length, Option, Some, None, Contains, slice_get}
use Rattle.syntax_tree.specs.declared.expr.QualName.{QualName}
use Rattle.resolve_types.specs.Types.{Lines, join_of}
use Rattle.resolve_types.specs.declared.columns.Columns.{Columns}
use Rattle.resolve_readings.specs.declared.meaning.Meaning.{Meaning}
use Rattle.resolve_readings.specs.declared.meaning.What.TheVariants as what
use Rattle.resolve_readings.specs.Meanings.{waiting, columns_of_result}
use Rattle.resolve_names.specs.declared.table.Decl.{Decl}
use Rattle.resolve_names.specs.declared.table.Decl.TheVariants as decl
use Rattle.resolve_names.specs.declared.table.FieldEntry.{FieldEntry}
use Rattle.resolve_names.specs.declared.table.BodyEntry.{BodyEntry}
use Rattle.resolve_names.specs.declared.table.Namespace.{Namespace}
use Rattle.resolve_names.specs.Visible.{Declaration, Sees, Kept, declarations}
use Rattle.resolve_hierarchy.specs.Above.{Sigs, IsAncestor}
use Rattle.resolve_names.specs.Gathered.{number_in}
use Rattle.resolve_rules.specs.Types.{IsSigType, IsIntType}

-- where a root stands
pub data Ground : Type 0 where
  -- where each visible declaration is a candidate
  anywhere : Ground
  -- in the appended fact of the sig
  appended : ℕ → Ground
  -- in the bound of a list of fields of the sig
  field_bound : (sig group : ℕ) → Ground
  -- in the bound of a parameter or a result
  body_bound : Ground

-- a variable, a parameter or a `let` name, and its type where what it stands for has a reading
pub record Local : Type 0 where
  pub name : List ℕ
  pub columns : Option Columns

-- the names in scope, of which a later one is further in
abbrev pub Locals : Type 0
Locals = List Local

-- the innermost name in scope that is written so
abbrev pub IsInnermost : Locals → List ℕ → Local → Type 0
IsInnermost locals name l =
    (i : ℕ) × (slice_get locals i ≡ Some l) × (l.name ≡ name) ×
    ((j : ℕ) (other : Local) → i < j → slice_get locals j ≡ Some other → other.name ≡ name → ⊥)

abbrev pub IsLocal : Locals → List ℕ → Type 0
IsLocal locals name = (l : Local) × IsInnermost locals name l

-- the types of a body's parameters and of its result, None of a predicate
pub record Signature : Type 0 where
  pub parameters : List Columns
  pub result : Option Columns

-- a set with its type; whether it names something of the implicitly opened integers
abbrev pub set_of : Columns → Bool → Meaning
set_of c integer = record { what = what.Set c; marked = false; relevant = true; integer = integer; widest = c.count }

-- a body that waits for its parameters, or a call of one that has none
abbrev pub body_of : Signature → Bool → Meaning
body_of s integer = record {
  what = waiting s.parameters s.result;
  marked = false;
  relevant = true;
  integer = integer;
  widest = columns_of_result s.parameters s.result;
}

abbrev is_of : Option ℕ → ℕ → Bool
is_of None k = false
is_of (Some j) k = j == k

-- What is known of all declarations: the names of the instances, where sigs, fields and bodies stand, which
-- instance has the implicitly opened integers, which bodies are functions, and the types of fields and bodies
-- whose bounds have readings.
pub record Tables : Type 0 where
  pub scopes : List Namespace
  pub sigs : Sigs
  pub lines : Lines
  pub string : ℕ
  pub integers : Option ℕ
  pub fields : List FieldEntry
  pub bodies : List BodyEntry
  pub field_types : ℕ → Option Columns
  pub signatures : ℕ → Option Signature
  pub is_function : ℕ → Bool

module _ (tables : Tables) where
  abbrev pub HasField : ℕ → FieldEntry → Type 0
  HasField f e = slice_get tables.fields f ≡ Some e

  -- a field of the sig that is declared in an earlier list, or a field of an ancestor
  abbrev pub IsEarlier : (sig group : ℕ) → ℕ → Type 0
  IsEarlier sig group f =
      (e : FieldEntry) × HasField f e × (((e.sig ≡ sig) × (e.group < group)) ⊎ IsAncestor tables.sigs sig e.sig)

  -- a field of the sig or of an ancestor
  abbrev pub IsOfThis : ℕ → ℕ → Type 0
  IsOfThis sig f = (e : FieldEntry) × HasField f e × ((e.sig ≡ sig) ⊎ IsAncestor tables.sigs sig e.sig)

  -- the fields that are joined to `this`
  abbrev pub CanJoin : Ground → ℕ → Type 0
  CanJoin anywhere f = ⊥
  CanJoin (appended sig) f = IsOfThis sig f
  CanJoin (field_bound sig group) f = IsEarlier sig group f
  CanJoin body_bound f = ⊥

  -- The declarations that are candidates there, seen from instance k. In a field's bound these are sigs, the
  -- parameters of the module, and earlier fields; in the bound of a parameter or a result no functions.
  abbrev pub CanStand : Ground → ℕ → ℕ → Decl → Type 0
  CanStand anywhere k j d = Unit {0}
  CanStand (appended sig) k j d = Unit {0}
  CanStand (field_bound sig group) k j (decl.Sig r) = Unit {0}
  CanStand (field_bound sig group) k j (decl.Parameter a) = j ≡ k
  CanStand (field_bound sig group) k j (decl.Field f) = IsEarlier sig group f
  CanStand (field_bound sig group) k j (decl.Body b) = ⊥
  CanStand body_bound k j (decl.Body b) = tables.is_function b ≡ false
  CanStand body_bound k j _ = Unit {0}

  -- what a declaration means
  abbrev pub Means : Decl → Meaning → Type 0
  Means (decl.Sig r) m = (c : Columns) × IsSigType tables.sigs (number_in tables.scopes r) c × (m ≡ set_of c (is_of tables.integers r.instance))
  Means (decl.Parameter None) m = (c : Columns) × IsIntType c × (m ≡ set_of c false)
  Means (decl.Parameter (Some r)) m = (c : Columns) × IsSigType tables.sigs (number_in tables.scopes r) c × (m ≡ set_of c (is_of tables.integers r.instance))
  Means (decl.Field f) m =
      (e : FieldEntry) × (c : Columns) × HasField f e × (tables.field_types f ≡ Some c) × (m ≡ set_of c (is_of tables.integers e.instance))
  Means (decl.Body b) m =
      (e : BodyEntry) × (s : Signature) × (slice_get tables.bodies b ≡ Some e) × (tables.signatures b ≡ Some s) × (m ≡ body_of s (is_of tables.integers e.instance))

  -- what a field means that is joined to `this`
  abbrev pub MeansOfThis : (sig f : ℕ) → Meaning → Type 0
  MeansOfThis sig f m =
      (e : FieldEntry) × (c own : Columns) × HasField f e × (tables.field_types f ≡ Some c) × IsSigType tables.sigs sig own ×
      (m ≡ set_of (join_of tables.lines own c) (is_of tables.integers e.instance))

  -- seen from instance k there is a field of that name
  abbrev pub IsFieldNamed : ℕ → List ℕ → ℕ → Type 0
  IsFieldNamed k name f =
      (d : Declaration) × Contains (declarations tables.scopes) d × (d.1.what ≡ decl.Field f) × (d.1.name ≡ name) ×
      ((d.1.is_private ≡ false) ⊎ (d.0 ≡ k))

  abbrev sig_of : Ground → ℕ
  sig_of anywhere = 0
  sig_of (appended sig) = sig
  sig_of (field_bound sig group) = sig
  sig_of body_bound = 0

  module _ (ground : Ground) (k : ℕ) where
    -- the field that `this.f` is, where only f is written
    abbrev pub IsOwn : List ℕ → ℕ → Type 0
    IsOwn name f = IsFieldNamed k name f × CanJoin ground f

    abbrev pub HasOwn : List ℕ → Type 0
    HasOwn name = (f : ℕ) × IsOwn name f

    -- the visible declarations that the name stands for and that are candidates there
    abbrev pub IsSeen : QualName → Declaration → Type 0
    IsSeen name d = Sees tables.scopes k name d × CanStand ground k d.0 d.1.what

    -- the fields among them
    abbrev pub IsSeenField : QualName → Declaration → Type 0
    IsSeenField name d = IsSeen name d × ((f : ℕ) × (d.1.what ≡ decl.Field f))

    -- each declaration's meaning, in order
    pub data AreMeanings : List Declaration → List Meaning → Type 0 where
      none : AreMeanings [] []
      more : {d : Declaration} {ds : List Declaration} {m : Meaning} {ms : List Meaning} → Means d.1.what m → AreMeanings ds ms → AreMeanings (d ∷ ds) (m ∷ ms)

    -- the meanings of the own fields of that name, of those before number n, in order
    pub data AreOwn (name : List ℕ) : ℕ → List Meaning → Type 0 where
      none : AreOwn name 0 []
      more : {n : ℕ} {m : Meaning} {ms : List Meaning} → AreOwn name n ms → IsOwn name n → MeansOfThis (sig_of ground) n m → AreOwn name (n + 1) (ms ++ m ∷ [])
      skip : {n : ℕ} {ms : List Meaning} → AreOwn name n ms → (IsOwn name n → ⊥) → AreOwn name (n + 1) ms

    -- the meanings of just those declarations of which P holds
    abbrev pub AreOf : (Declaration → Type 0) → List Meaning → Type 0
    AreOf P ms = (ds : List Declaration) × Kept P (declarations tables.scopes) ds × AreMeanings ds ms

    -- A name without a path that is a name in scope stands for the innermost one alone. Another one that is
    -- that of fields of `this` stands for these, joined to `this`. Every other name stands for visible declarations.
    pub data AreCandidates (locals : Locals) (name : QualName) : List Meaning → Type 0 where
      in_scope : {text : List ℕ} {l : Local} {c : Columns} → name.is_own ≡ false → name.parts ≡ text ∷ [] → IsInnermost locals text l → l.columns ≡ Some c →
          AreCandidates locals name (set_of c false ∷ [])
      of_this : {text : List ℕ} {ms : List Meaning} → name.is_own ≡ false → name.parts ≡ text ∷ [] → (IsLocal locals text → ⊥) → HasOwn text →
          AreOwn text (length tables.fields) ms → AreCandidates locals name ms
      declared : {ms : List Meaning} → ((text : List ℕ) → name.is_own ≡ false → name.parts ≡ text ∷ [] → IsLocal locals text ⊎ HasOwn text → ⊥) →
          AreOf (IsSeen name) ms → AreCandidates locals name ms

    -- `@` and a name stand for the visible fields of that name
    abbrev pub AreFields : QualName → List Meaning → Type 0
    AreFields name ms = AreOf (IsSeenField name) ms
