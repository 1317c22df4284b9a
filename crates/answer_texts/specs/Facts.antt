-- How a fact is named in a line.
use Rattle.std.specs.Prelude.{ℕ, List, [], ◌∷◌, ◌++◌, codes, decimal, Option, Some, None, slice_get}
use Rattle.base_types.specs.declared.place.Position.{Position}
use Rattle.syntax_tree.specs.declared.instance.Text.{Text}
use Rattle.syntax_tree.specs.declared.instance.Instance.{Instance}
use Rattle.syntax_tree.specs.declared.loaded.Loaded.{Loaded}
use Rattle.core_tree.specs.declared.model.Fact.{Fact}
use Rattle.answer_texts.specs.declared.fact.FactName.{FactName}

abbrev pub place_words : Position → List ℕ
place_words place = decimal place.line ++ codes ":" ++ decimal place.column

abbrev pub name_or_dash : Option (List ℕ) → List ℕ
name_or_dash None = codes "-"
name_or_dash (Some name) = name

-- the label of an instance, unless it is empty
abbrev pub label_words : List ℕ → List ℕ
label_words [] = []
label_words (b ∷ bs) = codes " " ++ b ∷ bs

-- `fact`, the name of its text, the place of its keyword, its own name, and the label of its instance
abbrev pub fact_words : FactName → List ℕ
fact_words fact = codes "fact " ++ fact.text ++ codes " " ++ place_words fact.place ++ codes " " ++ name_or_dash fact.name ++ label_words fact.label

-- the name of a text, where it is there
abbrev pub text_label : Option Text → List ℕ
text_label None = []
text_label (Some text) = text.name

-- the name of the text that an instance has, where both are there
abbrev pub source_label : List Text → Option Instance → List ℕ
source_label texts None = []
source_label texts (Some instance) = text_label (slice_get texts instance.text)

abbrev pub instance_label : Option Instance → List ℕ
instance_label None = []
instance_label (Some instance) = instance.label

-- how a fact of an instance is named
abbrev pub fact_name : List Text → List Instance → ℕ → Position → Option (List ℕ) → FactName
fact_name texts instances instance place name = record {
  text = source_label texts (slice_get instances instance);
  place = place;
  name = name;
  label = instance_label (slice_get instances instance);
}

-- how a fact of loaded modules is named
abbrev pub name_in : Loaded → Fact → FactName
name_in loaded fact = fact_name loaded.texts loaded.instances fact.instance fact.place fact.name
