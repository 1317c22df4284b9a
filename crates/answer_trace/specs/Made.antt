-- The labels of a model under some scopes.
use Rattle.std.specs.Prelude.{◌≡◌, ◌+◌, ◌-◌, ◌^◌, ◌==◌, ℕ, zero, suc, Bool, true, false, List, [], ◌∷◌, ◌++◌, All, length, codes, decimal, pos, ◌-ℤ◌, Option, Some, None, slice_get}
use Rattle.std.specs.Fmt.{signed_decimal}
use Rattle.core_tree.specs.declared.model.Model.{Model}
use Rattle.core_tree.specs.declared.model.Sig.{Sig}
use Rattle.core_tree.specs.declared.model.Field.{Field}
use Rattle.core_tree.specs.declared.model.Origin.{Origin}
use Rattle.core_tree.specs.declared.model.SigKind.{SigKind}
use Rattle.core_tree.specs.declared.model.SigKind.TheVariants.{Top, Extends, Subset}
use Rattle.core_meaning.specs.declared.scopes.SigScope.{SigScope}
use Rattle.core_meaning.specs.declared.scopes.Scopes.{Scopes}
use Rattle.core_meaning.specs.Kept.{relation_columns}
use Rattle.answer_trace.specs.declared.label.Shown.{Shown}
use Rattle.answer_trace.specs.declared.label.Shown.TheVariants.{Line, Nothing, Just}
use Rattle.answer_trace.specs.declared.label.RelationLabel.{RelationLabel}
use Rattle.answer_trace.specs.declared.label.Labels.{Labels}
use Rattle.answer_trace.specs.declared.make.Naming.{Naming}
use Rattle.answer_trace.specs.declared.make.Naming.TheVariants.{Literal, Strings, Numbered}
use Rattle.answer_trace.specs.Owners.{owned}

-- a relation of the model, with its columns
abbrev pub IsRelationOf : Model → RelationLabel → Type 0
IsRelationOf model r = slice_get (relation_columns model) r.place ≡ Some r.columns

abbrev pub AreRelationsOf : Model → Labels → Type 0
AreRelationsOf model labels = All (IsRelationOf model) labels.relations

-- `String` and the literals' sigs, which extend it, are not written in a text
abbrev pub naming_of : Option Origin → SigKind → Naming
naming_of (Some o) kind = Numbered
naming_of None (Extends p) = Literal
naming_of None Top = Strings
naming_of None (Subset ps) = Strings

-- the texts of the first so many atoms of a sig: its label, `$` and a number
abbrev pub numbered_texts : List ℕ → ℕ → List (List ℕ)
numbered_texts label zero = []
numbered_texts label (suc n) = numbered_texts label n ++ (label ++ codes "$" ++ decimal n) ∷ []

abbrev pub counted_texts : List ℕ → Option ℕ → Bool → List (List ℕ)
counted_texts label (Some n) true = numbered_texts label n
counted_texts label (Some n) false = []
counted_texts label None top = []

-- the texts of the atoms that a sig names: those of `String` are named by the literals' sigs
abbrev pub named_texts : Naming → List ℕ → SigScope → List (List ℕ)
named_texts Literal label scope = label ∷ []
named_texts Strings label scope = []
named_texts Numbered label scope = counted_texts label scope.number scope.top

abbrev pub sig_texts : Sig → SigScope → List (List ℕ)
sig_texts sig scope = named_texts (naming_of sig.origin sig.kind) sig.label scope

abbrev pub nth_texts : Option Sig → Option SigScope → List (List ℕ)
nth_texts (Some sig) (Some scope) = sig_texts sig scope
nth_texts None scope = []
nth_texts (Some sig) None = []

-- the texts of the atoms that the first so many sigs name
abbrev pub texts_before : List Sig → List SigScope → ℕ → List (List ℕ)
texts_before sigs numbers zero = []
texts_before sigs numbers (suc n) = texts_before sigs numbers n ++ nth_texts (slice_get sigs n) (slice_get numbers n)

-- the first so many integers of a bitwidth, from the least up
abbrev pub integer_text : ℕ → ℕ → List ℕ
integer_text bits k = signed_decimal (pos k -ℤ pos (2 ^ (bits - 1)))

abbrev pub integer_texts : ℕ → ℕ → List (List ℕ)
integer_texts bits zero = []
integer_texts bits (suc n) = integer_texts bits n ++ integer_text bits n ∷ []

-- the texts of the numbers of the universe
abbrev pub universe_texts : Model → Scopes → List (List ℕ)
universe_texts model scopes = texts_before model.sigs scopes.numbers (length model.sigs) ++ integer_texts scopes.bits (2 ^ scopes.bits)

abbrev pub line_unless : Bool → Shown
line_unless true = Nothing
line_unless false = Line

-- a sig has a line. A literal's sig has none and holds just the atom of this number; `String` has none where it is the last
-- sig, which is where no literal's sig follows
abbrev pub shown_as : Naming → Bool → ℕ → Shown
shown_as Numbered last first = Line
shown_as Literal last first = Just first
shown_as Strings last first = line_unless last

-- how sig s is written, before whose atoms so many others stand
abbrev pub label_of_sig : Model → ℕ → ℕ → Sig → RelationLabel
label_of_sig model first s sig = record { label = sig.label; columns = 1; place = s; shown = shown_as (naming_of sig.origin sig.kind) (s + 1 == length model.sigs) first }

abbrev pub sig_label_at : Model → ℕ → ℕ → Option Sig → List RelationLabel
sig_label_at model first s None = []
sig_label_at model first s (Some sig) = label_of_sig model first s sig ∷ []

-- how field k is written: it has a line, and its place comes behind those of the sigs
abbrev pub label_of_field : Model → ℕ → Field → RelationLabel
label_of_field model k f = record { label = f.label; columns = f.columns; place = length model.sigs + k; shown = Line }

abbrev pub field_label_at : Model → ℕ → Option Field → List RelationLabel
field_label_at model k None = []
field_label_at model k (Some f) = label_of_field model k f ∷ []

-- how fields are written
abbrev pub field_labels : Model → List ℕ → List RelationLabel
field_labels model [] = []
field_labels model (k ∷ ks) = field_label_at model k (slice_get model.fields k) ++ field_labels model ks

-- how many atoms stand before those of sig s
abbrev pub first_atom : Model → Scopes → ℕ → ℕ
first_atom model scopes s = length (texts_before model.sigs scopes.numbers s)

-- how the first so many sigs are written, each followed by the fields that it owns
abbrev pub labels_before : Model → Scopes → ℕ → List RelationLabel
labels_before model scopes zero = []
labels_before model scopes (suc s) = labels_before model scopes s ++ (sig_label_at model (first_atom model scopes s) s (slice_get model.sigs s) ++ field_labels model (owned model s))

-- how the relations of a model are written, in order: each sig and then the fields that it owns, and last the fields that no
-- sig owns
abbrev pub relation_labels_of : Model → Scopes → List RelationLabel
relation_labels_of model scopes = labels_before model scopes (length model.sigs) ++ field_labels model (owned model (length model.sigs))
