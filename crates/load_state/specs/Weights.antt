-- How much the texts of a model hold: paragraphs, declared names and literals.
use Rattle.std.specs.Prelude.{ℕ, ◌+◌, ◌≤◌, List, [], ◌∷◌, length, slice_get, unwrap_or, sum_by, ⊤}
use Rattle.syntax_tree.specs.Instances.{names_of, literals_of}
use Rattle.syntax_tree.specs.declared.instance.Instance.{Instance}
use Rattle.syntax_tree.specs.declared.instance.Text.{Text}

-- each text has at most as many paragraphs, declared names and literals as its weight says
abbrev pub Weighs : List Text → List ℕ → Type 0
Weighs [] [] = ⊤
Weighs (text ∷ texts) (weight ∷ weights) = (names_of text.tree + length (literals_of text.tree) ≤ weight) × Weighs texts weights
Weighs [] (weight ∷ weights) = ⊥
Weighs (text ∷ texts) [] = ⊥

-- the weight of the text of an instance
abbrev pub weight_at : List ℕ → ℕ → ℕ
weight_at weights text = unwrap_or (slice_get weights text) 0

-- the weights of the texts of all instances together
abbrev pub total_weight : List ℕ → List Instance → ℕ
total_weight weights instances = sum_by (λ i. weight_at weights i.text) instances
