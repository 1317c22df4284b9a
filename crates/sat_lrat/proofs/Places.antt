-- A text has a part, so what stands before it is not the last one.
use Rattle.std.proofs.Common.{◌≡◌, ℕ, ◌+◌, true, false, cond, List, [], ◌∷◌, length, refl, ◌<◌, arith}
use Rattle.std.specs.List.{onto_first}
use Rattle.base_words.specs.Words.{is_feed, parts}
use Rattle.sat_lrat.specs.Text.{behind, is_last, is_silent}

some_onto : (byte : ℕ) (others : List (List ℕ)) → is_last (onto_first byte others) ≡ is_last ([] ∷ others)
some_onto byte [] = refl
some_onto byte (part ∷ others) = refl

pub not_last : (text : List ℕ) → is_last (parts text) ≡ false
not_last [] = refl
not_last (byte ∷ bytes) = elim (is_feed byte) as (λ b. is_last (cond b ([] ∷ parts bytes) (onto_first byte (parts bytes))) ≡ false) [
  | true ↦ refl
  | false ↦ some_onto byte (parts bytes)
]

behind_some : (start : ℕ) (part : List ℕ) (others : List (List ℕ)) → is_last others ≡ false → behind start part others ≡ start + length part + 1
behind_some start part [] e = cc
behind_some start part (other ∷ others) e = refl

pub behind_part : (start : ℕ) (part text : List ℕ) → behind start part (parts text) ≡ start + length part + 1
behind_part start part text = behind_some start part (parts text) (not_last text)

pub spoken : (line : List ℕ) → is_silent line ≡ false → 0 < length line
spoken [] e = cc
spoken (byte ∷ bytes) e = omega arith
