-- The types of fields and of bodies: each is that of its bounds, by their readings.
use Rattle.std.specs.Prelude.{◌≡◌, ℕ, List, [], ◌∷◌, ◌++◌, map, codes, Option, Some, None, slice_get}
use Rattle.syntax_tree.specs.declared.expr.Named.{Named}
use Rattle.syntax_tree.specs.declared.expr.Decl.{Decl}
use Rattle.syntax_tree.specs.declared.expr.Expr.{Expr}
use Rattle.syntax_tree.specs.declared.module.SigName.{SigName}
use Rattle.syntax_tree.specs.declared.module.SigName.TheVariants as written
use Rattle.syntax_tree.specs.declared.module.Bound.{Bound}
use Rattle.syntax_tree.specs.declared.module.Sig.{Sig}
use Rattle.syntax_tree.specs.declared.module.Field.{Field}
use Rattle.syntax_tree.specs.declared.module.Pred.{Pred}
use Rattle.syntax_tree.specs.declared.module.Fun.{Fun}
use Rattle.syntax_tree.specs.declared.module.Parameters.{Parameters}
use Rattle.syntax_tree.specs.declared.module.Paragraph.{Paragraph}
use Rattle.syntax_tree.specs.declared.module.Paragraph.TheVariants as paragraph
use Rattle.syntax_tree.specs.declared.instance.Text.{Text}
use Rattle.syntax_tree.specs.declared.instance.Instance.{Instance}
use Rattle.resolve_names.specs.declared.table.FieldEntry.{FieldEntry}
use Rattle.resolve_names.specs.declared.table.BodyEntry.{BodyEntry}
use Rattle.resolve_types.specs.declared.columns.Columns.{Columns}
use Rattle.resolve_hierarchy.specs.Rules.{paragraphs_in}
use Rattle.resolve_readings.specs.declared.meaning.Meaning.{Meaning}
use Rattle.resolve_readings.specs.declared.meaning.What.TheVariants as what
use Rattle.resolve_readings.specs.declared.part.Typing.{Typing}
use Rattle.resolve_readings.specs.declared.part.Unary.TheVariants as unary
use Rattle.resolve_readings.specs.declared.part.RootPlace.TheVariants as place
use Rattle.resolve_rules.specs.Types.{HasType, IsIdenRow, IsIntType, IsSigType, IsFieldType}
use Rattle.resolve_rules.specs.Candidates.{field_bound, body_bound, Local, Locals, Signature, Tables, AreCandidates}
use Rattle.resolve_rules.specs.Prepared.{name, single, Settles, IsBound, named}

-- the name `this` with this type
abbrev pub this_with : Columns → Local
this_with c = record { name = codes "this"; columns = Some c }

abbrev pub decls_of : Option Parameters → List (Decl Expr)
decls_of None = []
decls_of (Some p) = p.decls

module _ (texts : List Text) (instances : List Instance) (typing : Typing) (tables : Tables) where
  -- the paragraph of that number of instance k
  abbrev pub HasParagraph : (k number : ℕ) → Paragraph → Type 0
  HasParagraph k number p = (i : Instance) × (slice_get instances k ≡ Some i) × (slice_get (paragraphs_in texts i) number ≡ Some p)

  -- the list of fields in which a field is declared
  abbrev pub HasGroup : FieldEntry → Field → Type 0
  HasGroup e g = (s : Sig) × HasParagraph e.instance e.paragraph (paragraph.Sig s) × (slice_get s.fields e.group ≡ Some g)

  -- the type of a field's bound, in which `this` has the type of its sig
  abbrev pub IsTypeOfBound : FieldEntry → Field → Columns → Type 0
  IsTypeOfBound e g c =
      (own : Columns) × IsSigType tables.sigs e.sig own × IsBound typing tables (field_bound e.sig e.group) e.instance (this_with own ∷ []) g.bound.word g.bound.tree c

  -- the type of the sig before the dot of a body's name, which is the bound of `this`
  abbrev pub IsReceiver : ℕ → SigName → Columns → Type 0
  IsReceiver k (written.Int p) c = IsIntType c
  IsReceiver k (written.Name q) c =
      (ms : List Meaning) × (m : Meaning) × AreCandidates tables body_bound k [] q ms × Settles typing (single (unary.Fits (place.Bound None)) (name ms)) m × (m.what ≡ what.Set c)

  -- what `this` adds to the names and the types
  abbrev pub AreFirst : ℕ → Option SigName → Locals → List Columns → Type 0
  AreFirst k None locals types = (locals ≡ []) × (types ≡ [])
  AreFirst k (Some receiver) locals types = (c : Columns) × IsReceiver k receiver c × (locals ≡ this_with c ∷ []) × (types ≡ c ∷ [])

  -- the names behind parameters, and a type for each of them: each bound sees the parameters before it
  pub data AreTypes (k : ℕ) : Locals → List (Decl Expr) → Locals → List Columns → Type 0 where
    none : {locals : Locals} → AreTypes k locals [] locals []
    more : {locals inner : Locals} {d : Decl Expr} {ds : List (Decl Expr)} (c : Columns) (types all : List Columns) → IsBound typing tables body_bound k locals d.word d.bound c →
        AreTypes k (locals ++ named d.names (Some c)) ds inner types → all ≡ map (λ (n : Named). c) d.names ++ types → AreTypes k locals (d ∷ ds) inner all

  abbrev pub IsResult : ℕ → Locals → Option Bound → Option Columns → Type 0
  IsResult k locals None c = c ≡ None
  IsResult k locals (Some b) c = (found : Columns) × IsBound typing tables body_bound k locals b.word b.tree found × (c ≡ Some found)

  -- the types of a body with these parameters and this result
  pub record IsSignature (k : ℕ) (receiver : Option SigName) (decls : List (Decl Expr)) (result : Option Bound) (s : Signature) : Type 0 where
    pub first : Locals
    pub inner : Locals
    pub first_types : List Columns
    pub types : List Columns
    pub are_first : AreFirst k receiver first first_types
    pub are_types : AreTypes k first decls inner types
    pub parameters : s.parameters ≡ first_types ++ types
    pub is_result : IsResult k inner result s.result

  abbrev pub IsSignatureOf : ℕ → Paragraph → Signature → Type 0
  IsSignatureOf k (paragraph.Pred p) s = IsSignature k p.receiver (decls_of p.parameters) None s
  IsSignatureOf k (paragraph.Fun f) s = IsSignature k f.receiver (decls_of f.parameters) (Some f.result) s
  IsSignatureOf k _ s = ⊥

  -- The tables' types: a field has the type of its sig and its bound, and a body those of its bounds, just where these
  -- have readings. A bound names only what is declared before it, so there is one such table.
  pub record AreTabled : Type 0 where
    pub lines : typing.lines ≡ tables.lines
    pub iden : HasType 2 (IsIdenRow tables.sigs) typing.iden
    pub has_type : (f : ℕ) (e : FieldEntry) (g : Field) (c : Columns) → slice_get tables.fields f ≡ Some e → HasGroup e g → tables.field_types f ≡ Some c →
        (bound : Columns) × IsTypeOfBound e g bound × IsFieldType tables.sigs e.sig bound c
    pub has_none : (f : ℕ) (e : FieldEntry) (g : Field) (bound : Columns) → slice_get tables.fields f ≡ Some e → HasGroup e g → tables.field_types f ≡ None → IsTypeOfBound e g bound → ⊥
    pub has_signature : (b : ℕ) (e : BodyEntry) (p : Paragraph) (s : Signature) → slice_get tables.bodies b ≡ Some e → HasParagraph e.instance e.paragraph p → tables.signatures b ≡ Some s → IsSignatureOf e.instance p s
    pub has_no_signature : (b : ℕ) (e : BodyEntry) (p : Paragraph) (s : Signature) → slice_get tables.bodies b ≡ Some e → HasParagraph e.instance e.paragraph p → tables.signatures b ≡ None → IsSignatureOf e.instance p s → ⊥
