-- The words before sigs and fields in the terms of the model, and the labels that names make.
use Rattle.std.specs.Prelude.{◌≡◌, ℕ, ◌-◌, ◌==◌, ◌≤◌, Bool, true, false, if◌then◌else◌, List, [], ◌∷◌, ◌++◌, length, codes, Option, Some, None, slice_get}
use Rattle.std.specs.List.{list_any}
use Rattle.syntax_tree.specs.declared.module.FieldWord.{FieldWord}
use Rattle.syntax_tree.specs.declared.module.FieldWord.TheVariants as word
use Rattle.syntax_tree.specs.declared.module.Qualifier.{Qualifier}
use Rattle.syntax_tree.specs.declared.module.Qualifier.TheVariants as qualifier
use Rattle.syntax_tree.specs.declared.operator.Multiplicity.{Multiplicity as Word}
use Rattle.syntax_tree.specs.declared.operator.Multiplicity.TheVariants as written
use Rattle.core_tree.specs.declared.operators.Multiplicity.{Multiplicity}
use Rattle.core_tree.specs.declared.operators.Multiplicity.TheVariants as multiplicity

-- the first is the second
abbrev pub is_field_word : FieldWord → FieldWord → Bool
is_field_word word.Private word.Private = true
is_field_word word.Var word.Var = true
is_field_word word.Disj word.Disj = true
is_field_word _ _ = false

abbrev pub is_qualifier : Qualifier → Qualifier → Bool
is_qualifier qualifier.Private qualifier.Private = true
is_qualifier qualifier.Var qualifier.Var = true
is_qualifier qualifier.Abstract qualifier.Abstract = true
is_qualifier qualifier.Lone qualifier.Lone = true
is_qualifier qualifier.One qualifier.One = true
is_qualifier qualifier.Some qualifier.Some = true
is_qualifier _ _ = false

-- the word stands before the names of fields, or before `sig`
abbrev pub has_field_word : FieldWord → List FieldWord → Bool
has_field_word wanted words = list_any (is_field_word wanted) words

abbrev pub has_qualifier : Qualifier → List Qualifier → Bool
has_qualifier wanted words = list_any (is_qualifier wanted) words

-- the multiplicity that a word before `sig` is
abbrev pub word_of : Qualifier → Option Multiplicity
word_of qualifier.Lone = Some multiplicity.Lone
word_of qualifier.One = Some multiplicity.One
word_of qualifier.Some = Some multiplicity.Some
word_of _ = None

abbrev pub first_of : Option Multiplicity → Multiplicity → Multiplicity
first_of None other = other
first_of (Some m) other = m

-- the multiplicity of a sig: its word, else `set`
abbrev pub sig_word : List Qualifier → Multiplicity
sig_word [] = multiplicity.Set
sig_word (q ∷ qs) = first_of (word_of q) (sig_word qs)

abbrev pub core_word : Word → Multiplicity
core_word written.Set = multiplicity.Set
core_word written.One = multiplicity.One
core_word written.Lone = multiplicity.Lone
core_word written.Some = multiplicity.Some

-- The multiplicity of the bound of a field: its word, else `one` for one column and `set` for more. The field has
-- one column more, that of its sig.
abbrev pub bound_word : Option Word → ℕ → Multiplicity
bound_word (Some w) columns = core_word w
bound_word None columns = if columns == 2 then multiplicity.One else multiplicity.Set

-- the label of a sig: its name, behind that of its instance and a slash where that has one
abbrev pub sig_label : List ℕ → List ℕ → List ℕ
sig_label label name = if length label == 0 then name else label ++ (codes "/" ++ name)

-- the label of a field: that of its sig, a dot and its name
abbrev pub field_label : List ℕ → List ℕ → List ℕ
field_label label name = label ++ (codes "." ++ name)

-- a text that begins and ends with a quote
pub record IsQuoted (text : List ℕ) : Type 0 where
  pub two : 2 ≤ length text
  pub first : slice_get text 0 ≡ Some 34
  pub last : slice_get text (length text - 1) ≡ Some 34
