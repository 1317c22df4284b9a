-- The first line of a text at which no trace text has all lines up to it.
use Rattle.std.specs.Prelude.{◌≡◌, ℕ, suc, List, [], ◌∷◌, Bool, true, false, take, min}
use Rattle.base_words.specs.Words.{parts}
use Rattle.core_meaning.specs.Sequence.{LassoValue}
use Rattle.answer_trace.specs.declared.label.Labels.{Labels}
use Rattle.answer_trace.specs.Text.{trace_text}
use Rattle.answer_laws.specs.Form.{IsLassoOf}

-- lines, each with whether a line feed ends it
abbrev pub ended : List (List ℕ) → List (List ℕ × Bool)
ended [] = []
ended (line ∷ []) = (line, false) ∷ []
ended (line ∷ next ∷ lines) = (line, true) ∷ ended (next ∷ lines)

-- the lines of a text; the last is what stands behind the last line feed
abbrev pub lines_of : List ℕ → List (List ℕ × Bool)
lines_of text = ended (parts text)

-- two texts have the same first so many lines
abbrev pub AgreeTo : ℕ → List ℕ → List ℕ → Type 0
AgreeTo k a b = take k (lines_of a) ≡ take k (lines_of b)

-- The line with this number, counted from 1: the text of some lasso that fits the labels has the lines before it, and none
-- has these and the line itself.
pub record IsFirstFault (labels : Labels) (text : List ℕ) (line : ℕ) : Type 0 where
  pub before : ℕ
  pub number : line ≡ suc before
  pub begun : LassoValue
  pub fits : IsLassoOf labels begun
  pub agrees : AgreeTo before (trace_text labels begun) text
  pub none : (lasso : LassoValue) → IsLassoOf labels lasso → AgreeTo line (trace_text labels lasso) text → ⊥

-- the number of the first fault, or the greatest number of 32 bits where it is greater
pub record NamesFirst (labels : Labels) (text : List ℕ) (line : ℕ) : Type 0 where
  pub first : ℕ
  pub is_first : IsFirstFault labels text first
  pub named : line ≡ min first 4294967295
