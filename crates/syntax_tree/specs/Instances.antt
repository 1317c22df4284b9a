-- What the modules of an analysis keep: which numbers are in range, and how many things have a
-- name.
use Rattle.std.specs.Prelude.{ℕ, ◌+◌, Bool, true, false, ◌&&◌, ◌==◌, nat_lt, if◌then◌else◌, List, [], ◌∷◌, length, sum_by, slice_get, Option, Some, None}
use Rattle.std.specs.List.{list_any, list_all, flat_map}
use Rattle.std.specs.Str.{bytes_eq}
use Rattle.syntax_tree.specs.declared.token.TokenKind.{TokenKind}
use Rattle.syntax_tree.specs.declared.token.TokenKind.TheVariants as kind
use Rattle.syntax_tree.specs.declared.expr.Named.{Named}
use Rattle.syntax_tree.specs.declared.module.Header.{Header}
use Rattle.syntax_tree.specs.declared.module.Parameters.{Parameters}
use Rattle.syntax_tree.specs.declared.module.Paragraph.{Paragraph}
use Rattle.syntax_tree.specs.declared.module.Paragraph.TheVariants as paragraph
use Rattle.syntax_tree.specs.declared.module.Module.{Module}
use Rattle.syntax_tree.specs.declared.instance.Text.{Text}
use Rattle.syntax_tree.specs.declared.instance.SigRef.{SigRef}
use Rattle.syntax_tree.specs.declared.instance.Instance.{Instance}
use Rattle.syntax_tree.specs.ModuleWords.{module_words}

-- how many sigs a paragraph declares: an enum is one, and its members are others
abbrev pub sigs_in : Paragraph → ℕ
sigs_in (paragraph.Sig g) = length g.names
sigs_in (paragraph.Enum e) = 1 + length e.members
sigs_in _ = 0

abbrev pub sig_count : Module → ℕ
sig_count m = sum_by sigs_in m.paragraphs

abbrev header_parameters : Option Header → ℕ
header_parameters None = 0
header_parameters (Some h) = length h.parameters

abbrev pub parameter_count : Module → ℕ
parameter_count m = header_parameters m.header

-- the text of this number, and a test of its tree; a number past the end has no text
abbrev on_text : Option Text → (Module → Bool) → Bool
on_text None test = false
on_text (Some t) test = test t.tree

abbrev on_instance : Option Instance → (Instance → Bool) → Bool
on_instance None test = false
on_instance (Some i) test = test i

module _ (texts : List Text) (instances : List Instance) where
  -- it names a sig of its instance's text
  abbrev pub is_sig : SigRef → Bool
  is_sig r = on_instance (slice_get instances r.instance) (λ i. on_text (slice_get texts i.text) (λ m. nat_lt r.sig (sig_count m)))

  abbrev pub is_argument : Option SigRef → Bool
  is_argument None = true
  is_argument (Some r) = is_sig r

  -- Its text is there, it has an argument for each parameter of it, and its arguments and opens are there.
  abbrev pub is_closed : Instance → Bool
  is_closed i = on_text (slice_get texts i.text) (λ m. length i.arguments == parameter_count m)
      && list_all is_argument i.arguments
      && list_all (λ o. nat_lt o.instance (length instances)) i.opens

  abbrev pub are_closed : Bool
  are_closed = list_all is_closed instances

abbrev title_count : Option Named → ℕ
title_count None = 0
title_count (Some name) = 1

abbrev parameter_names : Option Parameters → ℕ
parameter_names None = 0
parameter_names (Some p) = sum_by (λ d. length d.names) p.decls

-- how many names a paragraph declares, those of parameters among them
abbrev pub names_in : Paragraph → ℕ
names_in (paragraph.Sig g) = length g.names + sum_by (λ f. length f.names) g.fields
names_in (paragraph.Enum e) = 1 + length e.members
names_in (paragraph.Fact c) = title_count c.name
names_in (paragraph.Assert c) = title_count c.name
names_in (paragraph.Pred p) = 1 + parameter_names p.parameters
names_in (paragraph.Fun f) = 1 + parameter_names f.parameters
names_in (paragraph.Command c) = 0

-- the paragraphs of a module and the names that it declares
abbrev pub names_of : Module → ℕ
names_of m = parameter_count m + sum_by (λ p. 1 + names_in p) m.paragraphs

abbrev literal_in : TokenKind → List (List ℕ)
literal_in (kind.Literal text) = text ∷ []
literal_in _ = []

-- the string literals of a module, in the order of the text
abbrev pub literals_of : Module → List (List ℕ)
literals_of m = flat_map literal_in (module_words m)

-- how many different texts a list has
abbrev pub distinct_count : List (List ℕ) → ℕ
distinct_count [] = 0
distinct_count (t ∷ ts) = if list_any (bytes_eq t) ts then distinct_count ts else 1 + distinct_count ts

abbrev text_names : Option Text → ℕ
text_names None = 0
text_names (Some t) = names_of t.tree

abbrev text_literals : Option Text → List (List ℕ)
text_literals None = []
text_literals (Some t) = literals_of t.tree

-- the paragraphs and declared names of all instances together
abbrev pub name_count : List Text → List Instance → ℕ
name_count texts instances = sum_by (λ i. text_names (slice_get texts i.text)) instances

-- the different string literals of all instances together
abbrev pub literal_count : List Text → List Instance → ℕ
literal_count texts instances = distinct_count (flat_map (λ i. text_literals (slice_get texts i.text)) instances)
