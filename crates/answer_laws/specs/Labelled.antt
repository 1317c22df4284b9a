-- Models of which traces can be written under the labels of sigs and fields, and read again.
use Rattle.std.specs.Prelude.{◌≡◌, ℕ, ◌≤◌, false, List, ◌∷◌, [], ◌++◌, length, All, Some, slice_get, slice_index}
use Rattle.std.specs.List.{list_any}
use Rattle.core_tree.specs.declared.model.Model.{Model}
use Rattle.core_tree.specs.declared.model.Sig.{Sig}
use Rattle.core_tree.specs.declared.model.Field.{Field}
use Rattle.core_tree.specs.Columns.{IsFew}
use Rattle.core_meaning.specs.declared.scopes.Scopes.{Scopes}
use Rattle.answer_trace.specs.declared.label.Labels.{Labels}
use Rattle.answer_trace.specs.declared.make.Naming.{Naming}
use Rattle.answer_trace.specs.declared.make.Naming.TheVariants.{Literal, Strings, Numbered}
use Rattle.answer_trace.specs.Made.{naming_of, universe_texts, relation_labels_of}
use Rattle.answer_laws.specs.Form.{is_stop, is_quote, HasNoFeed, HaveLassos}

-- a literal: bytes between quotes, none of them a quote or a line feed
pub record IsLiteral (label : List ℕ) : Type 0 where
  pub body : List ℕ
  pub is : label ≡ 34 ∷ (body ++ 34 ∷ [])
  pub closed : list_any is_quote body ≡ false
  pub line : HasNoFeed body

-- a path of names, as far as the texts of atoms need it: no hyphen, comma or line feed stands in it, and no quote in front
pub record IsPath (label : List ℕ) : Type 0 where
  pub stops : list_any is_stop label ≡ false
  pub front : is_quote (slice_index label 0) ≡ false

-- the sig of a literal is called as the literal, `String` in one line, and each other sig by a path
abbrev pub IsLabelOf : Naming → List ℕ → Type 0
IsLabelOf Literal label = IsLiteral label
IsLabelOf Strings label = HasNoFeed label
IsLabelOf Numbered label = IsPath label

-- different sigs have different labels, each of its form; a field's label is in one line, and a field has from one to nine
-- columns
pub record IsLabelled (model : Model) : Type 0 where
  pub sigs : All (λ (s : Sig). IsLabelOf (naming_of s.origin s.kind) s.label) model.sigs
  pub apart : (i j : ℕ) (a b : Sig) → slice_get model.sigs i ≡ Some a → slice_get model.sigs j ≡ Some b → a.label ≡ b.label → i ≡ j
  pub fields : All (λ (f : Field). HasNoFeed f.label) model.fields
  pub columns : All (λ (f : Field). IsFew f.columns) model.fields

-- the scopes have an entry for each sig, a bitwidth from 1 to 12, and at most 16,384 atoms, integers among them
pub record AreNumbered (model : Model) (scopes : Scopes) : Type 0 where
  pub sigs : length scopes.numbers ≡ length model.sigs
  pub least : 1 ≤ scopes.bits
  pub most : scopes.bits ≤ 12
  pub atoms : length (universe_texts model scopes) ≤ 16384

-- the labels of a model under scopes, as `make_labels` gives them
pub record AreLabelsOf (model : Model) (scopes : Scopes) (labels : Labels) : Type 0 where
  pub relations : labels.relations ≡ relation_labels_of model scopes
  pub atoms : labels.atoms ≡ universe_texts model scopes

abbrev pub LabelsHaveLassos : Type 0
LabelsHaveLassos = (model : Model) (scopes : Scopes) (labels : Labels) → IsLabelled model → AreNumbered model scopes → AreLabelsOf model scopes labels → HaveLassos labels
