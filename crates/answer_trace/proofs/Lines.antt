-- One line more, or none.
use Rattle.std.proofs.Common.{◌≡◌, ℕ, suc, ◌+◌, ◌<◌, ◌≤◌, Bool, true, false, cond, eqb, List, [], ◌∷◌, length, Option, Some, None, refl, sym, ap, ◌∙◌, arith}
use Rattle.std.proofs.lemmas.Bool.{ne_eqb}
use Rattle.std.specs.List.{slice_split, onto_first}
use Rattle.std.proofs.lemmas.List.Splits.{length-slice_split}
use Rattle.base_words.specs.Words.{is_feed, parts}
use Rattle.answer_trace.specs.Reading.{Way, on_line, after_line, is_over}
use Rattle.answer_trace.specs.Reading.Way.{on, off}

some_parts : (text : List ℕ) → 1 ≤ length (parts text)
some_parts text = omega (arith, length-slice_split is_feed text)

one_more : {A : Type 0} (f : List ℕ → Option A) (line : List ℕ) (rest : List (List ℕ)) (n : ℕ) → 1 ≤ length rest → on_line f (line ∷ rest) n ≡ after_line rest n (f line)
one_more f line [] n h = absurd (omega arith)
one_more f line (next ∷ rest) n h = refl

-- a line that is taken
pub on_next : {A : Type 0} (f : List ℕ → Option A) (text line rest : List ℕ) (n : ℕ) → parts text ≡ line ∷ parts rest → on_line f (parts text) n ≡ after_line (parts rest) n (f line)
on_next f text line rest n e = ap (λ ls. on_line f ls n) e ∙ one_more f line (parts rest) n (some_parts rest)

-- no line is left
pub on_last : {A : Type 0} (f : List ℕ → Option A) (text line : List ℕ) (n : ℕ) → parts text ≡ line ∷ [] → on_line f (parts text) n ≡ off (suc n)
on_last f text line n e = ap (λ ls. on_line f ls n) e

onto : (byte : ℕ) (ps : List (List ℕ)) → is_over (onto_first byte ps) ≡ false
onto byte [] = refl
onto byte (p ∷ ps) = refl

behind_feed : (ps : List (List ℕ)) → 1 ≤ length ps → is_over ([] ∷ ps) ≡ false
behind_feed [] h = absurd (omega arith)
behind_feed (p ∷ ps) h = refl

some_left : (byte : ℕ) (bytes : List ℕ) (b : Bool) → is_over (cond b ([] ∷ parts bytes) (onto_first byte (parts bytes))) ≡ false
some_left byte bytes true = behind_feed (parts bytes) (some_parts bytes)
some_left byte bytes false = onto byte (parts bytes)

-- whether nothing is left
pub over_at : (text : List ℕ) → eqb (length text) 0 ≡ is_over (parts text)
over_at [] = refl
over_at (byte ∷ bytes) = ne_eqb (suc (length bytes)) 0 (λ e. absurd (omega arith)) ∙ sym (some_left byte bytes (is_feed byte))
