-- Where sigs stand, as their texts tell it, and the rules that declarations of sigs and fields may
-- break.
use Rattle.std.specs.Prelude.{◌≡◌, ◌⊎◌, ℕ, ◌+◌, ◌<◌, List, [], ◌∷◌, ◌++◌, length, take, replicate, sum_by, Contains, Option, Some, None, slice_get}
use Rattle.std.specs.List.{flat_map, filter_map}
use Rattle.base_types.specs.declared.place.Position.{Position}
use Rattle.base_types.specs.declared.place.Refusal.{Refusal}
use Rattle.base_types.specs.declared.place.Rule.{Rule}
use Rattle.base_types.specs.declared.place.Rule.TheVariants as rule
use Rattle.base_types.specs.Place.{number_of}
use Rattle.syntax_tree.specs.declared.expr.Named.{Named}
use Rattle.syntax_tree.specs.declared.module.SigName.{SigName}
use Rattle.syntax_tree.specs.declared.module.SigName.TheVariants as written
use Rattle.syntax_tree.specs.declared.module.Parents.{Parents}
use Rattle.syntax_tree.specs.declared.module.Parents.TheVariants as parents
use Rattle.syntax_tree.specs.declared.module.Field.{Field}
use Rattle.syntax_tree.specs.declared.module.Sig.{Sig}
use Rattle.syntax_tree.specs.declared.module.Paragraph.{Paragraph}
use Rattle.syntax_tree.specs.declared.module.Paragraph.TheVariants as paragraph
use Rattle.syntax_tree.specs.declared.instance.Text.{Text}
use Rattle.syntax_tree.specs.declared.instance.Instance.{Instance}
use Rattle.syntax_tree.specs.Instances.{sigs_in, sig_count}
use Rattle.resolve_names.specs.declared.table.Decl.{Decl}
use Rattle.resolve_names.specs.declared.table.Decl.TheVariants as decl
use Rattle.resolve_names.specs.declared.table.Namespace.{Namespace}
use Rattle.resolve_names.specs.Visible.{AreCandidates}
use Rattle.resolve_names.specs.Gathered.{module_in, number_in}
use Rattle.resolve_names.specs.Twice.{IsBefore}
use Rattle.resolve_types.specs.declared.member.Member.{Member}
use Rattle.resolve_types.specs.declared.member.Member.TheVariants as member
use Rattle.resolve_hierarchy.specs.declared.sigs.Kind.{Kind}
use Rattle.resolve_hierarchy.specs.declared.sigs.Kind.TheVariants as kind
use Rattle.resolve_hierarchy.specs.Above.{Sigs, IsSubset, IsAncestor, IsMember}

-- what a declaration is as a parent
abbrev pub member_of : List Namespace → Decl → Option Member
member_of scopes (decl.Sig r) = Some (member.Sig (number_in scopes r))
member_of scopes (decl.Parameter None) = Some member.Int
member_of scopes (decl.Parameter (Some r)) = Some (member.Sig (number_in scopes r))
member_of scopes _ = None

-- in instance k the name of a parent stands for just this one
abbrev pub Names : List Namespace → ℕ → SigName → Member → Type 0
Names scopes k (written.Int place) m = m ≡ member.Int
Names scopes k (written.Name q) m = (ds : List Decl) × AreCandidates scopes k q ds × (filter_map (member_of scopes) ds ≡ m ∷ [])

abbrev pub NamesNone : List Namespace → ℕ → SigName → Type 0
NamesNone scopes k x = (m : Member) → Names scopes k x m → ⊥

-- what those of the names stand for that stand for one
pub data AreNamed (scopes : List Namespace) (k : ℕ) : List SigName → List Member → Type 0 where
  none : AreNamed scopes k [] []
  one : {x : SigName} {m : Member} {xs : List SigName} {ms : List Member} → Names scopes k x m → AreNamed scopes k xs ms → AreNamed scopes k (x ∷ xs) (m ∷ ms)
  skipped : {x : SigName} {xs : List SigName} {ms : List Member} → NamesNone scopes k x → AreNamed scopes k xs ms → AreNamed scopes k (x ∷ xs) ms

-- where a sig with these parents stands; a parent that names no sig adds nothing
abbrev pub IsKind : List Namespace → ℕ → Parents → Kind → Type 0
IsKind scopes k parents.Top d = d ≡ kind.Top
IsKind scopes k (parents.Extends x) d =
    ((t : ℕ) × Names scopes k x (member.Sig t) × (d ≡ kind.Extends t)) ⊎
    (((t : ℕ) → Names scopes k x (member.Sig t) → ⊥) × (d ≡ kind.Top))
IsKind scopes k (parents.Subset xs) d = (ms : List Member) × AreNamed scopes k xs ms × (d ≡ kind.Subset ms)

-- where the sigs of a paragraph stand, the first of which has number s; the members of an enum extend it
abbrev pub AreKindsOf : List Namespace → ℕ → ℕ → Paragraph → List Kind → Type 0
AreKindsOf scopes k s (paragraph.Sig g) ds = (d : Kind) × IsKind scopes k g.parents d × (ds ≡ replicate (length g.names) d)
AreKindsOf scopes k s (paragraph.Enum e) ds = ds ≡ kind.Top ∷ replicate (length e.members) (kind.Extends s)
AreKindsOf scopes k s _ ds = ds ≡ []

pub data AreKindsIn (scopes : List Namespace) (k : ℕ) : ℕ → List Paragraph → List Kind → Type 0 where
  none : {s : ℕ} → AreKindsIn scopes k s [] []
  more : {s : ℕ} {p : Paragraph} {ps : List Paragraph} (ds es : List Kind) → AreKindsOf scopes k s p ds → AreKindsIn scopes k (s + sigs_in p) ps es → AreKindsIn scopes k s (p ∷ ps) (ds ++ es)

abbrev pub paragraphs_in : List Text → Instance → List Paragraph
paragraphs_in texts i = (module_in (slice_get texts i.text)).paragraphs

abbrev pub sigs_of : List Text → Instance → ℕ
sigs_of texts i = sig_count (module_in (slice_get texts i.text))

-- where the sigs of the instances from number k on stand; `String` is the last sig
pub data AreKindsFrom (texts : List Text) (scopes : List Namespace) : ℕ → ℕ → List Instance → List Kind → Type 0 where
  string : {k s : ℕ} → AreKindsFrom texts scopes k s [] (kind.Top ∷ [])
  more : {k s : ℕ} {i : Instance} {is : List Instance} (ds es : List Kind) → AreKindsIn scopes k s (paragraphs_in texts i) ds → AreKindsFrom texts scopes (k + 1) (s + sigs_of texts i) is es → AreKindsFrom texts scopes k s (i ∷ is) (ds ++ es)

abbrev pub AreKinds : List Text → List Instance → List Namespace → Sigs → Type 0
AreKinds texts instances scopes sigs = AreKindsFrom texts scopes 0 0 instances sigs

-- t is above s: what s extends, what that extends, and so on
pub data IsAbove (sigs : Sigs) : ℕ → ℕ → Type 0 where
  parent : {s t : ℕ} → slice_get sigs s ≡ Some (kind.Extends t) → IsAbove sigs s t
  further : {s t u : ℕ} → slice_get sigs s ≡ Some (kind.Extends t) → IsAbove sigs t u → IsAbove sigs s u

-- two members meet where one is the other or above it; they are no subset sigs
abbrev pub Meet : Sigs → Member → Member → Type 0
Meet sigs member.Int n = n ≡ member.Int
Meet sigs (member.Sig a) member.Int = ⊥
Meet sigs (member.Sig a) (member.Sig b) = (a ≡ b) ⊎ IsAbove sigs a b ⊎ IsAbove sigs b a

-- two sigs overlap where members of their types meet
abbrev pub DoOverlap : Sigs → ℕ → ℕ → Type 0
DoOverlap sigs a b = (m n : Member) × IsMember sigs a m × IsMember sigs b n × Meet sigs m n

abbrev pub parent_names : Parents → List SigName
parent_names parents.Top = []
parent_names (parents.Extends x) = x ∷ []
parent_names (parents.Subset xs) = xs

-- the place of a name's first token
abbrev pub place_of : SigName → Position
place_of (written.Int place) = place
place_of (written.Name q) = q.place

-- the names of the fields of a sig paragraph, in text order
abbrev pub field_names : List Field → List Named
field_names fields = flat_map (λ (f : Field). f.names) fields

module _ (texts : List Text) (instances : List Instance) (scopes : List Namespace) (sigs : Sigs) where
  -- instance k has the sig paragraph, whose first sig has number s
  pub record HasSigs (k s : ℕ) (g : Sig) : Type 0 where
    pub instance : Instance
    pub position : ℕ
    pub there : slice_get instances k ≡ Some instance
    pub stands : slice_get (paragraphs_in texts instance) position ≡ Some (paragraph.Sig g)
    pub first : s ≡ sum_by (sigs_of texts) (take k instances) + sum_by sigs_in (take position (paragraphs_in texts instance))

  -- S31: a parent names not one sig
  abbrev pub NoParentAt : ℕ → Position → Type 0
  NoParentAt k p = (s : ℕ) × (g : Sig) × (x : SigName) × HasSigs k s g × Contains (parent_names g.parents) x × NamesNone scopes k x × (p ≡ place_of x)

  -- S32: a sig is its own ancestor, by this parent
  abbrev pub ParentCycleAt : ℕ → Position → Type 0
  ParentCycleAt k p =
      (s : ℕ) × (g : Sig) × (n : ℕ) × (x : SigName) × (t : ℕ) × HasSigs k s g × (n < length g.names) × Contains (parent_names g.parents) x ×
      Names scopes k x (member.Sig t) × ((t ≡ s + n) ⊎ IsAncestor sigs t (s + n)) × (p ≡ place_of x)

  -- S33: `Int` or a subset sig is extended
  abbrev pub ExtendsSubsetAt : ℕ → Position → Type 0
  ExtendsSubsetAt k p =
      (s : ℕ) × (g : Sig) × (x : SigName) × HasSigs k s g × (g.parents ≡ parents.Extends x) ×
      (Names scopes k x member.Int ⊎ ((t : ℕ) × Names scopes k x (member.Sig t) × IsSubset sigs t)) × (p ≡ place_of x)

  -- in instance k sig s has the field of that name, number c of its own
  abbrev pub HasField : ℕ → ℕ → ℕ → Named → Type 0
  HasField k s c name = (first : ℕ) × (g : Sig) × (n : ℕ) × HasSigs k first g × (n < length g.names) × (s ≡ first + n) × (slice_get (field_names g.fields) c ≡ Some name)

  -- S34: a field has the name of an earlier one of the same sig or of one that overlaps
  abbrev pub FieldTwiceAt : ℕ → Position → Type 0
  FieldTwiceAt k p =
      (l s t c d : ℕ) × (a b : Named) × HasField l s c a × HasField k t d b × ((s < t) ⊎ ((s ≡ t) × (c < d))) ×
      (a.name ≡ b.name) × ((s ≡ t) ⊎ DoOverlap sigs s t) × (p ≡ b.place)

  -- the rule is broken in instance k, at a place of its text
  abbrev pub IsBroken : Rule → ℕ → Position → Type 0
  IsBroken rule.NoParent k p = NoParentAt k p
  IsBroken rule.ParentCycle k p = ParentCycleAt k p
  IsBroken rule.ExtendsSubset k p = ExtendsSubsetAt k p
  IsBroken rule.FieldTwice k p = FieldTwiceAt k p
  IsBroken _ k p = ⊥

-- which of two broken rules counts: that in the earlier instance, then at the earlier place, then of the lower number
abbrev pub CountsBefore : Rule → ℕ → Position → Rule → ℕ → Position → Type 0
CountsBefore r k p q l o =
    (k < l) ⊎ ((k ≡ l) × IsBefore p o) ⊎ ((k ≡ l) × (p.line ≡ o.line) × (p.column ≡ o.column) × (number_of r < number_of q))

-- the refusal is by the first of the rules that are broken
pub record IsFirstOf (Broken : Rule → ℕ → Position → Type 0) (instances : List Instance) (refusal : Refusal) : Type 0 where
  pub number : ℕ
  pub instance : Instance
  pub place : Position
  pub there : slice_get instances number ≡ Some instance
  pub broken : Broken refusal.rule number place
  pub first : (r : Rule) (k : ℕ) (p : Position) → Broken r k p → CountsBefore r k p refusal.rule number place → ⊥
  pub at : refusal.place ≡ record { «module» = instance.text; line = place.line; column = place.column }
