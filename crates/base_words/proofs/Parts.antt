-- Cutting off the first part, and the first word.
use Rattle.std.proofs.Common.{◌≡◌, ℕ, zero, suc, ◌+◌, ◌<◌, ◌≤◌, Bool, true, false, cond, not, List, [], ◌∷◌, take, drop, length, get_or, refl, sym, ap, ◌∙◌, arith, subst, ◌⊎◌, inl, inr, nat_lt, add-zero, length-drop, get_or-drop}
use Rattle.std.proofs.lemmas.Bool.{ltb-true, ltb-false}
use Rattle.std.specs.List.{position_or_len, slice_split, filter, prefix_len}
use Rattle.std.proofs.lemmas.List.{at_drop_more, at_drop_all}
use Rattle.std.proofs.lemmas.List.Sums.{position_or_len_is, fails_before_first, passes_at_first}
use Rattle.std.proofs.lemmas.List.Splits.{slice_split_first, slice_split_none, slice_split-cons_yes}
use Rattle.base_words.specs.Words.{is_feed, is_blank, parts, words, is_some_word}

pub nowhere : (p : ℕ → Bool) (xs : List ℕ) (n : ℕ) → length xs ≤ n → ((k : ℕ) → k < n → p (get_or xs k 0) ≡ false) → length xs ≡ position_or_len p xs
nowhere p xs n h none = sym (position_or_len_is p xs (length xs) 0 (omega arith) (λ k below. none k (omega arith)) (λ below. absurd (omega arith)))

pub one_part : (text : List ℕ) (place : ℕ) → place ≡ position_or_len is_feed text → place ≡ length text → parts text ≡ text ∷ []
one_part text place e all = slice_split_none is_feed text (λ k d below. fails_before_first is_feed text k d (omega arith))

pub first_part : (text : List ℕ) (place : ℕ) → place ≡ position_or_len is_feed text → place < length text → parts text ≡ take place text ∷ parts (drop (place + 1) text)
first_part text place e below =
    let lt : position_or_len is_feed text < length text = omega arith in
    slice_split_first is_feed text 0 lt ∙ ap (λ n. take n text ∷ parts (drop (n + 1) text)) (sym e)

⊎_lt : (a b : ℕ) → (a < b) ⊎ (b ≤ a)
⊎_lt a b = by_test (nat_lt a b) refl
  where
    by_test : (t : Bool) → nat_lt a b ≡ t → (a < b) ⊎ (b ≤ a)
    by_test true e = inl (ltb-true a b e)
    by_test false e = inr (ltb-false a b e)

take_whole : (n : ℕ) (xs : List ℕ) → length xs ≤ n → take n xs ≡ xs
take_whole zero [] h = refl
take_whole (suc n) [] h = refl
take_whole zero (x ∷ xs) h = absurd (omega arith)
take_whole (suc n) (x ∷ xs) h = ap (λ ys. x ∷ ys) (take_whole n xs (omega arith))

-- a blank in front is no part of a word
blank_first : (byte : ℕ) (line : List ℕ) → is_blank byte ≡ true → words (byte ∷ line) ≡ words line
blank_first byte line e = ap (filter is_some_word) (slice_split-cons_yes is_blank byte line e)

some_word : (xs : List ℕ) (n : ℕ) → 0 < n → 0 < length xs → is_some_word (take n xs) ≡ true
some_word [] n h k = absurd (omega arith)
some_word (x ∷ xs) zero h k = absurd (omega arith)
some_word (x ∷ xs) (suc n) h k = refl

some_bytes : (byte : ℕ) (bytes : List ℕ) → is_blank byte ≡ false → 0 < position_or_len is_blank (byte ∷ bytes)
some_bytes byte bytes e = subst (λ b. 0 < cond (not b) (1 + prefix_len (λ x. not (is_blank x)) bytes) 0) (sym e) (omega arith)

keep_word : (word : List ℕ) (others : List (List ℕ)) → is_some_word word ≡ true → filter is_some_word (word ∷ others) ≡ word ∷ filter is_some_word others
keep_word word others e = ap (λ b. cond b (word ∷ filter is_some_word others) (filter is_some_word others)) e

some_line : (xs : List ℕ) → 0 < length xs → is_some_word xs ≡ true
some_line [] h = absurd (omega arith)
some_line (x ∷ xs) h = refl

positive_end : (rest : List ℕ) → 0 < length rest → is_blank (get_or rest 0 0) ≡ false → 0 < position_or_len is_blank rest
positive_end [] h e = absurd (omega arith)
positive_end (byte ∷ bytes) h e = some_bytes byte bytes e

-- a line that begins with a word and has a blank
word_then_blank : (rest : List ℕ) → 0 < length rest → is_blank (get_or rest 0 0) ≡ false → position_or_len is_blank rest < length rest
    → words rest ≡ take (position_or_len is_blank rest) rest ∷ words (drop (position_or_len is_blank rest) rest)
word_then_blank rest h e lt =
    let end = position_or_len is_blank rest in
    ap (filter is_some_word) (slice_split_first is_blank rest 0 lt)
    ∙ keep_word (take end rest) (slice_split is_blank (drop (end + 1) rest)) (some_word rest end (positive_end rest h e) h)
    ∙ ap (λ ws. take end rest ∷ ws) (sym (at_drop_more words rest end 0 lt ∙ blank_first (get_or rest end 0) (drop (end + 1) rest) (passes_at_first is_blank rest 0 lt)))

-- a line that is one word
word_alone : (rest : List ℕ) → 0 < length rest → length rest ≤ position_or_len is_blank rest
    → words rest ≡ take (position_or_len is_blank rest) rest ∷ words (drop (position_or_len is_blank rest) rest)
word_alone rest h all =
    let end = position_or_len is_blank rest in
    ap (filter is_some_word) (slice_split_none is_blank rest (λ k d below. fails_before_first is_blank rest k d (omega arith)))
    ∙ keep_word rest [] (some_line rest h)
    ∙ ap (λ w. w ∷ []) (sym (take_whole end rest all))
    ∙ ap (λ ws. take end rest ∷ ws) (sym (at_drop_all words rest end all))

word_at_front : (rest : List ℕ) → 0 < length rest → is_blank (get_or rest 0 0) ≡ false
    → words rest ≡ take (position_or_len is_blank rest) rest ∷ words (drop (position_or_len is_blank rest) rest)
word_at_front rest h e = elim (⊎_lt (position_or_len is_blank rest) (length rest)) [ inl lt ↦ word_then_blank rest h e lt | inr all ↦ word_alone rest h all ]

skip_more : (byte : ℕ) (bytes : List ℕ) → words bytes ≡ words (drop (position_or_len (λ byte. not (is_blank byte)) bytes) bytes) → (b : Bool) → is_blank byte ≡ b
    → words (byte ∷ bytes) ≡ words (drop (cond (not (not b)) (1 + position_or_len (λ byte. not (is_blank byte)) bytes) 0) (byte ∷ bytes))
skip_more byte bytes more true e =
    blank_first byte bytes e ∙ more
    ∙ let n : suc (position_or_len (λ byte. not (is_blank byte)) bytes) ≡ 1 + position_or_len (λ byte. not (is_blank byte)) bytes = omega arith in ap (λ n. words (drop n (byte ∷ bytes))) n
skip_more byte bytes more false e = refl

-- blanks in front are no part of a word
skip_blanks : (line : List ℕ) → words line ≡ words (drop (position_or_len (λ byte. not (is_blank byte)) line) line)
skip_blanks [] = refl
skip_blanks (byte ∷ bytes) = skip_more byte bytes (skip_blanks bytes) (is_blank byte) refl

pub no_word : (line : List ℕ) (start : ℕ) → start ≡ position_or_len (λ byte. not (is_blank byte)) line → start ≡ length line → words line ≡ []
no_word line start e all = skip_blanks line ∙ at_drop_all words line (position_or_len (λ byte. not (is_blank byte)) line) (omega arith)

not_blank : (line : List ℕ) → position_or_len (λ byte. not (is_blank byte)) line < length line → is_blank (get_or line (position_or_len (λ byte. not (is_blank byte)) line) 0) ≡ false
not_blank line below = turned (is_blank (get_or line (position_or_len (λ byte. not (is_blank byte)) line) 0)) (passes_at_first (λ byte. not (is_blank byte)) line 0 below)
  where
    turned : (b : Bool) → not b ≡ true → b ≡ false
    turned true e = sym e
    turned false e = refl

-- what stands behind the blanks begins with a word
front : (line rest : List ℕ) (start : ℕ) → start ≡ position_or_len (λ byte. not (is_blank byte)) line → start < length line → rest ≡ drop start line
    → (0 < length rest) × (is_blank (get_or rest 0 0) ≡ false)
front line rest start e below r =
    let place = position_or_len (λ byte. not (is_blank byte)) line in
    let lt : place < length line = omega arith in
    let same : rest ≡ drop place line = r ∙ ap (λ n. drop n line) e in (
      omega (arith, ap length same, length-drop place line),
      ap (λ xs. is_blank (get_or xs 0 0)) same ∙ ap is_blank (get_or-drop place line 0 0 ∙ ap (λ n. get_or line n 0) (add-zero place)) ∙ not_blank line lt,
    )

pub first_word : (line rest : List ℕ) (start end : ℕ) → start ≡ position_or_len (λ byte. not (is_blank byte)) line → start < length line → rest ≡ drop start line
    → end ≡ position_or_len is_blank rest → words line ≡ take end rest ∷ words (drop end rest)
first_word line rest start end e below r f =
    let facts = front line rest start e below r in
    skip_blanks line ∙ ap words (sym (r ∙ ap (λ n. drop n line) e)) ∙ word_at_front rest facts.0 facts.1 ∙ ap (λ n. take n rest ∷ words (drop n rest)) (sym f)

pub word_bytes : (line rest : List ℕ) (start end : ℕ) → start ≡ position_or_len (λ byte. not (is_blank byte)) line → start < length line → rest ≡ drop start line
    → end ≡ position_or_len is_blank rest → 0 < end
word_bytes line rest start end e below r f =
    let facts = front line rest start e below r in
    let positive = positive_end rest facts.0 facts.1 in omega arith
