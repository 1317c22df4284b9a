-- Names and their texts, in one library and in a list of libraries.
use Rattle.std.specs.Prelude.{◌≡◌, ℕ, List, [], ◌∷◌, take, cond, Option, Some, None, option_map, bytes_eq}
use Rattle.std.specs.Option.{option_or}
use Rattle.base_types.specs.declared.library.Fetch.{Fetch}
use Rattle.base_types.specs.declared.library.Fetch.TheVariants.{Found, Absent}

-- names with their texts, in order
abbrev pub Texts : Type 0
Texts = List (List ℕ × List ℕ)

-- the first text with this name
abbrev pub text_in : Texts → List ℕ → Option (List ℕ)
text_in [] name = None
text_in (text ∷ texts) name = cond (bytes_eq text.0 name) (Some text.1) (text_in texts name)

-- the text of a name: that of the first library that has one
abbrev pub text_of : List Texts → List ℕ → Option (List ℕ)
text_of [] name = None
text_of (texts ∷ rest) name = option_or (text_in texts name) (text_of rest name)

-- the bytes of an answer
abbrev pub fetched : Fetch → Option (List ℕ)
fetched (Found bytes) = Some bytes.items
fetched Absent = None

-- the answer is the front of the text of this name
abbrev pub Answers : Texts → List ℕ → ℕ → Fetch → Type 0
Answers texts name most fetch = fetched fetch ≡ option_map (take most) (text_in texts name)

-- the same of a list of libraries
abbrev pub AnswersFirst : List Texts → List ℕ → ℕ → Fetch → Type 0
AnswersFirst told name most fetch = fetched fetch ≡ option_map (take most) (text_of told name)
