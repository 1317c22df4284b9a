-- Which words are a right line, and what is wrong with the others: the grammar of a line, by whole
-- lists of words.
use Rattle.std.specs.Prelude.{◌≡◌, ℕ, ℤ, List, [], ◌∷◌, ◌++◌, Some, IsTrue}
use Rattle.std.specs.List.{AllZip, list_any}
use Rattle.base_words.specs.Words.{positive_of, literal_of, is_zero}
use Rattle.sat_lrat.specs.declared.TheConstants.{MOST_NUMBER, MOST_VARIABLE}
use Rattle.sat_lrat.specs.declared.line.Line.{Line}
use Rattle.sat_lrat.specs.declared.line.Line.TheVariants.{Lemma, Delete}
use Rattle.sat_lrat.specs.Text.{is_negative}

-- each word spells the number of a clause, or the literal, at its place
abbrev pub SpellNumbers : List (List ℕ) → List ℕ → Type 0
SpellNumbers words numbers = AllZip (λ word number. positive_of MOST_NUMBER word ≡ Some number) words numbers

abbrev pub SpellLiterals : List (List ℕ) → List ℤ → Type 0
SpellLiterals words literals = AllZip (λ word literal. literal_of MOST_VARIABLE word ≡ Some literal) words literals

-- numbers, and the word 0
abbrev pub ended_by_zero : List (List ℕ) → List (List ℕ)
ended_by_zero words = words ++ (48 ∷ []) ∷ []

-- a number, literals and 0, hints and 0
pub record IsLemmaLine (words : List (List ℕ)) (id : ℕ) (clause : List ℤ) (hints : List ℕ) : Type 0 where
  pub first : List ℕ
  pub literals : List (List ℕ)
  pub numbers : List (List ℕ)
  pub first_is : positive_of MOST_NUMBER first ≡ Some id
  pub literals_are : SpellLiterals literals clause
  pub numbers_are : SpellNumbers numbers hints
  pub words_are : words ≡ first ∷ (literals ++ (48 ∷ []) ∷ ended_by_zero numbers)

-- a number, the letter d, numbers and 0
pub record IsDeletionLine (words : List (List ℕ)) (ids : List ℕ) : Type 0 where
  pub first : List ℕ
  pub id : ℕ
  pub numbers : List (List ℕ)
  pub first_is : positive_of MOST_NUMBER first ≡ Some id
  pub numbers_are : SpellNumbers numbers ids
  pub words_are : words ≡ first ∷ (100 ∷ []) ∷ ended_by_zero numbers

-- these words are the right line that says this
abbrev pub IsRight : List (List ℕ) → Line → Type 0
IsRight words (Lemma id clause hints) = IsLemmaLine words id clause hints
IsRight words (Delete ids) = IsDeletionLine words ids

-- some words, and at least one more behind them
pub record IsProperPrefix (front whole : List (List ℕ)) : Type 0 where
  pub next : List ℕ
  pub rest : List (List ℕ)
  pub whole_is : whole ≡ front ++ next ∷ rest

-- A word of the line is a minus and then a number. The words before it are a proper prefix of a right lemma line, with
-- its first 0.
pub record HasNegativeHint (words : List (List ℕ)) : Type 0 where
  pub front : List (List ℕ)
  pub word : List ℕ
  pub back : List (List ℕ)
  pub whole : List (List ℕ)
  pub id : ℕ
  pub clause : List ℤ
  pub hints : List ℕ
  pub words_are : words ≡ front ++ word ∷ back
  pub negative : IsTrue (is_negative word)
  pub right : IsLemmaLine whole id clause hints
  pub prefix : IsProperPrefix front whole
  pub zero : IsTrue (list_any is_zero front)

-- the words are a proper prefix of a right line
pub record IsCutOff (words : List (List ℕ)) : Type 0 where
  pub whole : List (List ℕ)
  pub line : Line
  pub right : IsRight whole line
  pub prefix : IsProperPrefix words whole
