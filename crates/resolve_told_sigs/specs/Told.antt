-- What the texts of a model declare of sigs, fields, facts and assertions, and that the model says just that.
--
-- Sigs, fields, facts and assertions have numbers, each kind in load order and then text order. A spot has the numbers of those
-- that come next, and each declaration leads from one spot to the next.
use Rattle.std.specs.Prelude.{◌≡◌, ℕ, ◌+◌, ◌<◌, ◌≤◌, Bool, true, false, if◌then◌else◌, List, map, take, length, codes, Option, Some, None, slice_get}
use Rattle.syntax_tree.specs.declared.expr.Expr.{Expr as Tree}
use Rattle.syntax_tree.specs.declared.expr.Named.{Named}
use Rattle.syntax_tree.specs.declared.module.Claim.{Claim as WrittenClaim}
use Rattle.syntax_tree.specs.declared.module.Enumeration.{Enumeration}
use Rattle.syntax_tree.specs.declared.module.Field.{Field as WrittenField}
use Rattle.syntax_tree.specs.declared.module.FieldWord.TheVariants as word
use Rattle.syntax_tree.specs.declared.module.Paragraph.{Paragraph}
use Rattle.syntax_tree.specs.declared.module.Paragraph.TheVariants as paragraph
use Rattle.syntax_tree.specs.declared.module.Qualifier.TheVariants as qualifier
use Rattle.syntax_tree.specs.declared.module.Sig.{Sig as WrittenSig}
use Rattle.syntax_tree.specs.declared.instance.Instance.{Instance}
use Rattle.syntax_tree.specs.declared.instance.Text.{Text}
use Rattle.core_tree.specs.declared.model.Assert.{Assert}
use Rattle.core_tree.specs.declared.model.Fact.{Fact}
use Rattle.core_tree.specs.declared.model.Field.{Field}
use Rattle.core_tree.specs.declared.model.FieldBound.{FieldBound}
use Rattle.core_tree.specs.declared.model.Model.{Model}
use Rattle.core_tree.specs.declared.model.Sig.{Sig}
use Rattle.core_tree.specs.declared.model.SigKind.TheVariants.{Extends, Top}
use Rattle.core_tree.specs.declared.operators.Multiplicity.{Multiplicity}
use Rattle.core_tree.specs.declared.operators.Multiplicity.TheVariants as multiplicity
use Rattle.core_tree.specs.declared.tree.Formula.{Formula}
use Rattle.core_tree.specs.Trees.{claim_of, term_of}
use Rattle.resolve_names.specs.declared.table.Namespace.{Namespace}
use Rattle.resolve_names.specs.Gathered.{module_in}
use Rattle.resolve_types.specs.declared.columns.Columns.{Columns}
use Rattle.resolve_readings.specs.declared.meaning.Meaning.{Meaning}
use Rattle.resolve_said.specs.declared.place.OwnField.{OwnField}
use Rattle.resolve_read.specs.declared.types.Readings.{Readings}
use Rattle.resolve_told_types.specs.Kinds.{kinds_of}
use Rattle.resolve_told_types.specs.Told.{AreSigTypes}
use Rattle.resolve_told_sigs.specs.declared.fields.ListSpot.{ListSpot}
use Rattle.resolve_told_sigs.specs.declared.sigs.SigSpot.{SigSpot}
use Rattle.resolve_told_sigs.specs.declared.table.FieldDecl.{FieldDecl}
use Rattle.resolve_told_sigs.specs.declared.told.Sources.{Sources}
use Rattle.resolve_told_sigs.specs.declared.walk.Spot.{Spot}
use Rattle.resolve_told_sigs.specs.Kinds.{IsKind}
use Rattle.resolve_told_sigs.specs.Own.{AreOwn}
use Rattle.resolve_told_sigs.specs.Integers.{integers_of}
use Rattle.resolve_told_sigs.specs.Says.{SaysAlone, SaysOfThis, SaysBound, IsSigTyped, IsFieldTyped, set_in}
use Rattle.resolve_told_sigs.specs.Walks.{Walks}
use Rattle.resolve_told_sigs.specs.Words.{IsQuoted, bound_word, field_label, has_field_word, has_qualifier, sig_label, sig_word}

-- the names of all instances, the model, the fields that are declared, what is told of the readings, and the instance of the integers
-- that are opened implicitly
pub record Given : Type 0 where
  pub scopes : List Namespace
  pub model : Model
  pub fields : List FieldDecl
  pub readings : Readings
  pub integers : Option ℕ

abbrev pub given : Sources → Given
given s = record { scopes = s.names.now.scopes; model = s.model.now; fields = s.fields.now; readings = s.readings.now; integers = s.integers }

-- ------------------------------------------------------------------ fields

-- the words of the bound of a field: those of its text, in list j of its sig
pub record IsWorded (j : ℕ) (g : WrittenField) (columns : ℕ) (d : FieldBound) : Type 0 where
  pub multiplicity : d.bound.multiplicity ≡ bound_word g.bound.word columns
  pub disj_list : d.disj_list ≡ (if has_field_word word.Disj g.words then Some j else None)
  pub disj_values : d.disj_values ≡ g.is_disjoint

-- the bound of field n, which is of list j of sig s in instance k, with the fields before it as those of `this`
pub record IsBound (at : Given) (k s j n : ℕ) (g : WrittenField) (columns : ℕ) (d : FieldBound) : Type 0 where
  pub words : IsWorded j g columns d
  pub own : List OwnField
  pub are_own : AreOwn at.model.sigs at.fields k s j own
  pub type : Columns
  pub says : SaysBound at.scopes at.model at.readings k s own g.bound (term_of d.bound.expr) type
  pub typed : IsFieldTyped at.readings at.integers k s n type

-- field n, which is of that list, by its name, where its sig has this label
pub record IsField (at : Given) (k s : ℕ) (label : List ℕ) (j n : ℕ) (g : WrittenField) (name : Named) (f : Field) : Type 0 where
  pub label_is : f.label ≡ field_label label name.name
  pub is_var : f.is_var ≡ has_field_word word.Var g.words
  pub owner : f.owner ≡ Some s
  pub bound : FieldBound
  pub declared : f.declared ≡ Some bound
  pub is_bound : IsBound at k s j n g f.columns bound

-- what is known of it as a declaration
pub record IsEntry (k s j : ℕ) (g : WrittenField) (name : Named) (d : FieldDecl) : Type 0 where
  pub name_is : d.name ≡ name.name
  pub is_private : d.is_private ≡ has_field_word word.Private g.words
  pub instance : d.instance ≡ k
  pub owner : d.owner ≡ s
  pub list : d.list ≡ j

-- the field of number n
pub record IsFieldAt (at : Given) (k s : ℕ) (label : List ℕ) (j : ℕ) (g : WrittenField) (n : ℕ) (name : Named) (next : ℕ) : Type 0 where
  pub entry : FieldDecl
  pub noted : slice_get at.fields n ≡ Some entry
  pub is_entry : IsEntry k s j g name entry
  pub field : Field
  pub there : slice_get at.model.fields n ≡ Some field
  pub is_field : IsField at k s label j n g name field
  pub next_is : next ≡ n + 1

-- the fields of a list
pub record IsListAt (at : Given) (k s : ℕ) (label : List ℕ) (here : ListSpot) (g : WrittenField) (there : ListSpot) : Type 0 where
  pub fields : Walks (IsFieldAt at k s label here.list g) here.field g.names there.field
  pub next_is : there.list ≡ here.list + 1

abbrev pub list_spot : (j n : ℕ) → ListSpot
list_spot j n = record { list = j; field = n }

-- the fields of all lists of a sig, from number n on
abbrev pub AreLists : Given → (k s : ℕ) → List ℕ → ℕ → List WrittenField → ℕ → Type 0
AreLists at k s label n gs next = (j : ℕ) × Walks (IsListAt at k s label) (list_spot 0 n) gs (list_spot j next)

-- ------------------------------------------------------------------ sigs

-- the words of a sig
pub record IsWordedSig (g : WrittenSig) (d : Sig) : Type 0 where
  pub is_var : d.is_var ≡ has_qualifier qualifier.Var g.qualifiers
  pub is_abstract : d.is_abstract ≡ has_qualifier qualifier.Abstract g.qualifiers
  pub multiplicity : d.multiplicity ≡ sig_word g.qualifiers

-- The appended fact of sig s in instance k, behind n lists of fields: there just where its block stands, and with the fields of
-- all these lists as those of `this`.
abbrev pub IsAppended : Given → (k s n : ℕ) → Option Tree → Option Formula → Type 0
IsAppended at k s n None appended = appended ≡ None
IsAppended at k s n (Some block) None = ⊥
IsAppended at k s n (Some block) (Some formula) =
    (own : List OwnField) × AreOwn at.model.sigs at.fields k s n own × SaysOfThis at.scopes at.model at.readings k s own block (claim_of formula)

-- sig s by its name, in an instance of this number and label
pub record IsSig (at : Given) (label : List ℕ) (k s : ℕ) (g : WrittenSig) (name : Named) (d : Sig) : Type 0 where
  pub label_is : d.label ≡ sig_label label name.name
  pub words : IsWordedSig g d
  pub kind : IsKind at.scopes k g.parents d.kind
  pub appended : IsAppended at k s (length g.fields) g.block d.appended

-- the next sig by its name, and its fields
pub record IsSigAt (at : Given) (label : List ℕ) (k : ℕ) (g : WrittenSig) (here : SigSpot) (name : Named) (there : SigSpot) : Type 0 where
  pub sig : Sig
  pub stands : slice_get at.model.sigs here.sig ≡ Some sig
  pub is_sig : IsSig at label k here.sig g name sig
  pub typed : IsSigTyped at.readings at.integers k here.sig
  pub fields : AreLists at k here.sig sig.label here.field g.fields there.field
  pub next_is : there.sig ≡ here.sig + 1

-- a sig without `var` and without an appended fact
pub record IsPlain (is_abstract : Bool) (m : Multiplicity) (d : Sig) : Type 0 where
  pub is_var : d.is_var ≡ false
  pub abstract_is : d.is_abstract ≡ is_abstract
  pub multiplicity : d.multiplicity ≡ m
  pub appended : d.appended ≡ None

-- the next sig is a member of the enum of number s
pub record IsMemberAt (at : Given) (label : List ℕ) (k s n : ℕ) (name : Named) (next : ℕ) : Type 0 where
  pub sig : Sig
  pub stands : slice_get at.model.sigs n ≡ Some sig
  pub label_is : sig.label ≡ sig_label label name.name
  pub plain : IsPlain false multiplicity.One sig
  pub kind : sig.kind ≡ Extends s
  pub typed : IsSigTyped at.readings at.integers k n
  pub next_is : next ≡ n + 1

-- the sigs of an enum: itself, and its members behind it
pub record AreEnum (at : Given) (label : List ℕ) (k : ℕ) (e : Enumeration) (n next : ℕ) : Type 0 where
  pub sig : Sig
  pub stands : slice_get at.model.sigs n ≡ Some sig
  pub label_is : sig.label ≡ sig_label label e.name.name
  pub plain : IsPlain true multiplicity.Set sig
  pub kind : sig.kind ≡ Top
  pub typed : IsSigTyped at.readings at.integers k n
  pub members : Walks (IsMemberAt at label k n) (n + 1) e.members next

pub record IsStringSig (d : Sig) : Type 0 where
  pub label_is : d.label ≡ codes "String"
  pub plain : IsPlain true multiplicity.Set d
  pub kind : d.kind ≡ Top

-- the sig of a literal, where `String` has number s: one atom of it
pub record IsLiteral (s : ℕ) (d : Sig) : Type 0 where
  pub label_is : IsQuoted d.label
  pub plain : IsPlain false multiplicity.One d
  pub kind : d.kind ≡ Extends s

-- sig s is `String`, and those behind it are the literals'
pub record AreStrings (sigs : List Sig) (s : ℕ) : Type 0 where
  pub first : Sig
  pub there : slice_get sigs s ≡ Some first
  pub is_string : IsStringSig first
  pub others : (n : ℕ) (d : Sig) → s < n → slice_get sigs n ≡ Some d → IsLiteral s d

-- ------------------------------------------------------------------ facts and assertions

abbrev pub title_of : Option Named → Option (List ℕ)
title_of None = None
title_of (Some name) = Some name.name

pub record IsFact (at : Given) (k : ℕ) (c : WrittenClaim) (f : Fact) : Type 0 where
  pub instance : f.instance ≡ k
  pub place : f.place ≡ c.place
  pub name : f.name ≡ title_of c.name
  pub says : SaysAlone at.scopes at.model at.readings k c.block (claim_of f.formula)

pub record IsAssertion (at : Given) (k : ℕ) (c : WrittenClaim) (a : Assert) : Type 0 where
  pub instance : a.instance ≡ k
  pub place : a.place ≡ c.place
  pub name : a.name ≡ title_of c.name
  pub says : SaysAlone at.scopes at.model at.readings k c.block (claim_of a.formula)

-- the fact or assertion of number n
abbrev pub HasFact : Given → ℕ → WrittenClaim → ℕ → Type 0
HasFact at k c n = (f : Fact) × (slice_get at.model.facts n ≡ Some f) × IsFact at k c f

abbrev pub HasAssertion : Given → ℕ → WrittenClaim → ℕ → Type 0
HasAssertion at k c n = (a : Assert) × (slice_get at.model.asserts n ≡ Some a) × IsAssertion at k c a

-- ------------------------------------------------------------------ paragraphs and instances

abbrev pub sig_spot : (s f : ℕ) → SigSpot
sig_spot s f = record { sig = s; field = f }

-- sigs that are declared together
pub record AreSigsAt (at : Given) (label : List ℕ) (here : Spot) (g : WrittenSig) (there : Spot) : Type 0 where
  pub sigs : Walks (IsSigAt at label here.instance g) (sig_spot here.sig here.field) g.names (sig_spot there.sig there.field)
  pub next_is : there ≡ record here { sig = there.sig; field = there.field }

pub record IsEnumAt (at : Given) (label : List ℕ) (here : Spot) (e : Enumeration) (there : Spot) : Type 0 where
  pub sigs : AreEnum at label here.instance e here.sig there.sig
  pub next_is : there ≡ record here { sig = there.sig }

pub record IsFactAt (at : Given) (here : Spot) (c : WrittenClaim) (there : Spot) : Type 0 where
  pub fact : HasFact at here.instance c here.fact
  pub next_is : there ≡ record here { fact = here.fact + 1 }

pub record IsAssertionAt (at : Given) (here : Spot) (c : WrittenClaim) (there : Spot) : Type 0 where
  pub assertion : HasAssertion at here.instance c here.assertion
  pub next_is : there ≡ record here { assertion = here.assertion + 1 }

-- a paragraph of an instance of this label; predicates, functions and commands declare none of these
abbrev pub IsParagraphAt : Given → List ℕ → Spot → Paragraph → Spot → Type 0
IsParagraphAt at label here (paragraph.Sig g) there = AreSigsAt at label here g there
IsParagraphAt at label here (paragraph.Enum e) there = IsEnumAt at label here e there
IsParagraphAt at label here (paragraph.Fact c) there = IsFactAt at here c there
IsParagraphAt at label here (paragraph.Assert c) there = IsAssertionAt at here c there
IsParagraphAt at label here (paragraph.Pred p) there = there ≡ here
IsParagraphAt at label here (paragraph.Fun f) there = there ≡ here
IsParagraphAt at label here (paragraph.Command c) there = there ≡ here

abbrev pub paragraphs_in : List Text → Instance → List Paragraph
paragraphs_in texts i = (module_in (slice_get texts i.text)).paragraphs

-- an instance: its paragraphs in turn
pub record IsInstanceAt (texts : List Text) (at : Given) (here : Spot) (i : Instance) (there : Spot) : Type 0 where
  pub last : Spot
  pub paragraphs : Walks (IsParagraphAt at i.label) here (paragraphs_in texts i) last
  pub next_is : there ≡ record last { instance = last.instance + 1 }

-- ------------------------------------------------------------------ the model

abbrev pub IsFree : Field → Type 0
IsFree f = f.owner ≡ None

-- the fields from number n on have no owner
abbrev pub AreFree : ℕ → List Field → Type 0
AreFree n fields = (k : ℕ) (f : Field) → n ≤ k → slice_get fields k ≡ Some f → IsFree f

abbrev pub type_in : Meaning → Option Columns
type_in m = set_in m.what

-- The types of the sigs are those of the hierarchy, in which `String` stands behind those that are declared. There is one for each
-- sig of it, and one for each field that is declared.
pub record AreTyped (at : Given) (there : Spot) : Type 0 where
  pub sigs : length at.readings.types.sigs ≡ there.sig + 1
  pub fields : length at.readings.types.fields ≡ there.field
  pub string : at.readings.types.string ≡ there.sig
  pub types : List Columns
  pub each : map type_in at.readings.types.sigs ≡ map Some types
  pub right : AreSigTypes (kinds_of (take (there.sig + 1) at.model.sigs)) at.readings.types.typing.lines types at.readings.types.univ at.readings.types.typing.iden

-- behind what is declared stand `String`, the sigs of the literals, and fields without an owner
pub record IsWhole (at : Given) (there : Spot) : Type 0 where
  pub strings : AreStrings at.model.sigs there.sig
  pub free : AreFree there.field at.model.fields
  pub fields : length at.fields ≡ there.field
  pub facts : length at.model.facts ≡ there.fact
  pub asserts : length at.model.asserts ≡ there.assertion
  pub types : AreTyped at there

abbrev pub first_spot : Spot
first_spot = record { instance = 0; sig = 0; field = 0; fact = 0; assertion = 0 }

abbrev pub given_by : List Text → List Instance → List Namespace → Model → Readings → List FieldDecl → Given
given_by texts instances scopes model readings fields = record { scopes = scopes; model = model; fields = fields; readings = readings; integers = integers_of texts instances }

-- The model says just what the texts declare of sigs, fields, facts and assertions, by these readings, which are the right ones, as
-- are the types of sigs and fields that they tell. Which sigs are exact, and the columns and types that the model itself has of its
-- fields, are left out.
pub record AreSigsTold (texts : List Text) (instances : List Instance) (scopes : List Namespace) (model : Model) (readings : Readings) : Type 0 where
  -- what is declared of each field, by its number
  pub fields : List FieldDecl
  pub last : Spot
  pub told : Walks (IsInstanceAt texts (given_by texts instances scopes model readings fields)) first_spot instances last
  pub whole : IsWhole (given_by texts instances scopes model readings fields) last
