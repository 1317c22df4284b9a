-- The string literals that the texts of a model write, and that its sigs are theirs.
use Rattle.std.specs.Prelude.{◌≡◌, ℕ, ◌<◌, List, [], ◌∷◌, ◌++◌, codes, Contains, Some, slice_get}
use Rattle.syntax_tree.specs.declared.token.TokenKind.TheVariants as kind
use Rattle.syntax_tree.specs.declared.module.Module.{Module}
use Rattle.syntax_tree.specs.declared.instance.Instance.{Instance}
use Rattle.syntax_tree.specs.declared.instance.Text.{Text}
use Rattle.syntax_tree.specs.ModuleWords.{module_words}
use Rattle.core_tree.specs.declared.model.Sig.{Sig}
use Rattle.resolve_names.specs.Gathered.{module_of}

-- the literal is one of the tokens that spell the module
abbrev pub Writes : Module → List ℕ → Type 0
Writes m text = Contains (module_words m) (kind.Literal text)

-- it stands in the text of an instance
abbrev pub IsWritten : List Text → List Instance → List ℕ → Type 0
IsWritten texts instances text = (x : Instance) × Contains instances x × Writes (module_of texts x) text

-- a text in quotes
abbrev pub quoted : List ℕ → List ℕ
quoted text = 34 ∷ text ++ 34 ∷ []

-- the sig of this number has the label
abbrev pub HasLabel : List Sig → ℕ → List ℕ → Type 0
HasLabel sigs n label = (d : Sig) × (slice_get sigs n ≡ Some d) × (d.label ≡ label)

-- no two sigs have one label
abbrev pub LabelsDiffer : List Sig → Type 0
LabelsDiffer sigs = (m n : ℕ) (label : List ℕ) → HasLabel sigs m label → HasLabel sigs n label → m ≡ n

-- The sigs behind `String` are just those of the literals that the texts of the instances write, one of each: as of all sigs, no two
-- have one label.
pub record AreLiteralsTold (texts : List Text) (instances : List Instance) (sigs : List Sig) : Type 0 where
  -- the number of `String`
  pub string : ℕ
  pub is_string : HasLabel sigs string (codes "String")
  pub each : (n : ℕ) (label : List ℕ) → string < n → HasLabel sigs n label → (text : List ℕ) × IsWritten texts instances text × (label ≡ quoted text)
  pub every : (text : List ℕ) → IsWritten texts instances text → (n : ℕ) × (string < n) × HasLabel sigs n (quoted text)
  pub differ : LabelsDiffer sigs
