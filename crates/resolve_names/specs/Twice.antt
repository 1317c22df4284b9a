-- Names that a module declares twice.
use Rattle.std.specs.Prelude.{◌≡◌, ◌⊎◌, ℕ, ◌<◌, List, [], ◌∷◌, ◌++◌, map, Option, Some, None, slice_get}
use Rattle.std.specs.List.{flat_map}
use Rattle.base_types.specs.declared.place.Position.{Position}
use Rattle.base_types.specs.declared.place.Refusal.{Refusal}
use Rattle.base_types.specs.declared.place.Rule.TheVariants as rule
use Rattle.syntax_tree.specs.declared.expr.Named.{Named}
use Rattle.syntax_tree.specs.declared.module.Parameter.{Parameter}
use Rattle.syntax_tree.specs.declared.module.Paragraph.{Paragraph}
use Rattle.syntax_tree.specs.declared.module.Paragraph.TheVariants as paragraph
use Rattle.syntax_tree.specs.declared.module.Module.{Module}
use Rattle.syntax_tree.specs.declared.instance.Text.{Text}
use Rattle.syntax_tree.specs.declared.instance.Instance.{Instance}
use Rattle.resolve_names.specs.Gathered.{parameters_of}

abbrev pub sigs_named : Paragraph → List Named
sigs_named (paragraph.Sig g) = g.names
sigs_named (paragraph.Enum e) = e.name ∷ e.members
sigs_named _ = []

abbrev pub titled : Option Named → List Named
titled None = []
titled (Some name) = name ∷ []

abbrev pub claim_named : Paragraph → List Named
claim_named (paragraph.Assert c) = titled c.name
claim_named _ = []

-- the names of a module's parameters and sigs, in text order
abbrev pub sig_names : Module → List Named
sig_names m = map (λ (p : Parameter). p.name) (parameters_of m.header) ++ flat_map sigs_named m.paragraphs

-- the names of its assertions
abbrev pub assertion_names : Module → List Named
assertion_names m = flat_map claim_named m.paragraphs

-- a name that stands in the list before it too
abbrev pub IsSecond : List Named → Named → Type 0
IsSecond names b = (i j : ℕ) × (a : Named) × (i < j) × (slice_get names i ≡ Some a) × (slice_get names j ≡ Some b) × (a.name ≡ b.name)

-- the place of a name that stands in the list before it too
abbrev pub IsSecondAt : List Named → Position → Type 0
IsSecondAt names place = (b : Named) × (b.place ≡ place) × IsSecond names b

-- a module has a name of its sigs and parameters, or of its assertions, twice; the second one stands at the place
abbrev pub IsTwiceAt : Module → Position → Type 0
IsTwiceAt m place = IsSecondAt (sig_names m) place ⊎ IsSecondAt (assertion_names m) place

-- a stands before b in a text
abbrev pub IsBefore : Position → Position → Type 0
IsBefore a b = (a.line < b.line) ⊎ ((a.line ≡ b.line) × (a.column < b.column))

-- the instance has this text
abbrev pub HasTree : List Text → Instance → Module → Type 0
HasTree texts i m = (text : Text) × (slice_get texts i.text ≡ Some text) × (text.tree ≡ m)

-- the instance of number k has this text
abbrev pub HasModule : List Text → List Instance → ℕ → Instance → Module → Type 0
HasModule texts instances k i m = (slice_get instances k ≡ Some i) × HasTree texts i m

-- no instance has a name twice
abbrev pub HasNoneTwice : List Text → List Instance → Type 0
HasNoneTwice texts instances = (k : ℕ) (i : Instance) (m : Module) (p : Position) → HasModule texts instances k i m → IsTwiceAt m p → ⊥

-- the place of the module in the text of the instance
abbrev pub place_of : Instance → Position → Position
place_of i place = record { «module» = i.text; line = place.line; column = place.column }

-- the refusal of the earliest instance that has a name twice, at the least place of a second one
pub record IsFirstTwice (texts : List Text) (instances : List Instance) (r : Refusal) : Type 0 where
  pub number : ℕ
  pub instance : Instance
  pub tree : Module
  pub place : Position
  pub there : HasModule texts instances number instance tree
  pub twice : IsTwiceAt tree place
  pub earliest : (k : ℕ) (i : Instance) (m : Module) (p : Position) → k < number → HasModule texts instances k i m → IsTwiceAt m p → ⊥
  pub least : (p : Position) → IsTwiceAt tree p → IsBefore p place → ⊥
  pub refusal : r ≡ record { rule = rule.NameTwice; place = place_of instance place }
