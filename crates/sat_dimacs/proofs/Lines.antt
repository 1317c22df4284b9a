-- The number of the last line, from line to line.
use Rattle.std.proofs.Common.{◌≡◌, ℕ, ◌+◌, ◌≤◌, max, Bool, true, false, cond, List, [], ◌∷◌, Option, Some, None, refl, sym, ap, ◌∙◌, arith}
use Rattle.std.specs.List.{onto_first}
use Rattle.base_words.specs.Words.{is_feed, parts, other_parts}
use Rattle.sat_dimacs.specs.Text.{last_line, end_line, is_silent}

onto_some : (byte : ℕ) (others : List (List ℕ)) → (first : List ℕ) × (rest : List (List ℕ)) × (onto_first byte others ≡ first ∷ rest)
onto_some byte [] = (byte ∷ [], [], refl)
onto_some byte (part ∷ others) = (byte ∷ part, others, refl)

-- a text has a part
some_part : (text : List ℕ) → (first : List ℕ) × (rest : List (List ℕ)) × (parts text ≡ first ∷ rest)
some_part [] = ([], [], refl)
some_part (byte ∷ bytes) = by_test (is_feed byte) refl
  where
    by_test : (b : Bool) → is_feed byte ≡ b → (first : List ℕ) × (rest : List (List ℕ)) × (cond (is_feed byte) ([] ∷ parts bytes) (onto_first byte (parts bytes)) ≡ first ∷ rest)
    by_test true e = ([], parts bytes, ap (λ b. cond b ([] ∷ parts bytes) (onto_first byte (parts bytes))) e)
    by_test false e = let found = onto_some byte (parts bytes) in (found.0, found.1, ap (λ b. cond b ([] ∷ parts bytes) (onto_first byte (parts bytes))) e ∙ found.2)

pub last_more : (number : ℕ) (part text : List ℕ) → last_line number (part ∷ parts text) ≡ last_line (number + 1) (parts text)
last_more number part text =
    let found = some_part text in
    ap (λ ps. last_line number (part ∷ ps)) found.2 ∙ by_part part found.0 found.1 ∙ sym (ap (last_line (number + 1)) found.2)
  where
    by_part : (p first : List ℕ) (rest : List (List ℕ)) → last_line number (p ∷ first ∷ rest) ≡ last_line (number + 1) (first ∷ rest)
    by_part [] first rest = refl
    by_part (byte ∷ bytes) first rest = refl

last_spoken : (number : ℕ) (part : List ℕ) → is_silent part ≡ false → last_line number (part ∷ []) ≡ number + 1
last_spoken number [] e = cc
last_spoken number (byte ∷ bytes) e = refl

last_at_least : (number : ℕ) (ps : List (List ℕ)) → number ≤ last_line number ps
last_at_least number [] = omega arith
last_at_least number ([] ∷ []) = omega arith
last_at_least number ((byte ∷ bytes) ∷ []) = omega arith
last_at_least number ([] ∷ other ∷ ps) = omega (arith, last_at_least (number + 1) (other ∷ ps))
last_at_least number ((byte ∷ bytes) ∷ other ∷ ps) = omega (arith, last_at_least (number + 1) (other ∷ ps))

-- the last line, from a line that says something on
pub last_whole : (number : ℕ) (part : List ℕ) (rest : Option (List ℕ)) → is_silent part ≡ false → max 1 (last_line number (part ∷ other_parts rest)) ≡ end_line (number + 1) rest
last_whole number part None e = let same = last_spoken number part e in omega arith
last_whole number part (Some text) e = let same = last_more number part text in let least = last_at_least (number + 1) (parts text) in omega arith
