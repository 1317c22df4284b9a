-- What is printed is read again, line by line.
use Rattle.std.proofs.Common.{◌≡◌, ℕ, ◌+◌, ◌<◌, ◌≤◌, ◌^◌, ℤ, nat_abs, Bool, false, cond, ◌||◌, eqb, List, [], ◌∷◌, ◌++◌, map, length, drop, Some, All, decimal, refl, sym, ap, ◌∙◌, arith, append_assoc}
use Rattle.std.specs.Fmt.{signed_decimal}
use Rattle.std.specs.List.{AllByRecursion, list_any}
use Rattle.std.proofs.lemmas.Bool.{ne_eqb, or_from}
use Rattle.std.proofs.lemmas.List.{drop_at, length-append}
use Rattle.std.proofs.lemmas.List.Elements.{recursion_from_All}
use Rattle.std.proofs.lemmas.List.Folds.{list_any-append}
use Rattle.base_words.specs.Words.{is_feed, is_blank, parts, words, is_comment, positive_of, spaced}
use Rattle.sat_laws.proofs.Again.{positive_decimal, literal_again, none_in_decimal, none_in_literals, none_in_numbers, digit_no_blank, digit_no_feed, decimal_some, parts_line, words_more, words_spaced, words_of_literals, words_of_numbers, no_comment}
use Rattle.sat_lrat.specs.declared.TheConstants.{MOST_NUMBER, MOST_VARIABLE}
use Rattle.sat_lrat.specs.declared.line.Line.{Line}
use Rattle.sat_lrat.specs.declared.line.Line.TheVariants.{Lemma, Delete}
use Rattle.sat_laws.specs.Right.{SpellNumbers, SpellLiterals, IsRight}
use Rattle.sat_lrat.specs.Text.{Found, has_no_words, is_silent, behind, is_last, as_reading, reading_of, line_of, numbers_text, literals_text, line_text, last_lemma, lines_text}
use Rattle.sat_laws.specs.Printed.{IsNumber, IsVariable, HasText, ReadsAs}
use Rattle.sat_laws.proofs.Places.{behind_part}
use Rattle.sat_laws.proofs.Rightness.{right_read}

-- ---- the words of a line

small_numbers : (numbers : List ℕ) → AllByRecursion IsNumber numbers → AllByRecursion (λ n. n < 2 ^ 64) numbers
small_numbers [] each = tt
small_numbers (n ∷ ns) each = (let h : n ≤ MOST_NUMBER = each.0.1 in omega arith, small_numbers ns each.1)

small_literals : (literals : List ℤ) → AllByRecursion IsVariable literals → AllByRecursion (λ z. nat_abs z < 2 ^ 63) literals
small_literals [] each = tt
small_literals (z ∷ zs) each = (let h : nat_abs z ≤ MOST_VARIABLE = each.0.1 in omega arith, small_literals zs each.1)

number_spelled : (n : ℕ) → IsNumber n → positive_of MOST_NUMBER (decimal n) ≡ Some n
number_spelled n h = let limit : MOST_NUMBER < 2 ^ 64 = omega arith in positive_decimal MOST_NUMBER n limit h.0 h.1

numbers_spelled : (numbers : List ℕ) → AllByRecursion IsNumber numbers → SpellNumbers (map decimal numbers) numbers
numbers_spelled [] each = tt
numbers_spelled (n ∷ ns) each = (number_spelled n each.0, numbers_spelled ns each.1)

literals_spelled : (literals : List ℤ) → AllByRecursion IsVariable literals → SpellLiterals (map signed_decimal literals) literals
literals_spelled [] each = tt
literals_spelled (z ∷ zs) each = (let limit : MOST_VARIABLE < 2 ^ 64 = omega arith in literal_again MOST_VARIABLE z limit each.0.0 each.0.1, literals_spelled zs each.1)

abbrev words_of : ℕ → Line → List (List ℕ)
words_of last (Lemma id clause hints) = decimal id ∷ (map signed_decimal clause ++ (48 ∷ []) ∷ (map decimal hints ++ (48 ∷ []) ∷ []))
words_of last (Delete ids) = decimal last ∷ (100 ∷ []) ∷ (map decimal ids ++ (48 ∷ []) ∷ [])

right_words : (last : ℕ) (line : Line) → IsNumber last → HasText line → IsRight (words_of last line) line
right_words last (Lemma id clause hints) number h = record {
  first = decimal id;
  literals = map signed_decimal clause;
  numbers = map decimal hints;
  first_is = number_spelled id h.0;
  literals_are = literals_spelled clause (recursion_from_All IsVariable clause h.1);
  numbers_are = numbers_spelled hints (recursion_from_All IsNumber hints h.2);
  words_are = refl;
}
right_words last (Delete ids) number h = record {
  first = decimal last;
  id = last;
  numbers = map decimal ids;
  first_is = number_spelled last number;
  numbers_are = numbers_spelled ids (recursion_from_All IsNumber ids h);
  words_are = refl;
}

-- ---- the bytes of a line, without its line feed

abbrev bytes_of : ℕ → Line → List ℕ
bytes_of last (Lemma id clause hints) = spaced (decimal id) ++ (literals_text clause ++ (48 ∷ 32 ∷ (numbers_text hints ++ 48 ∷ [])))
bytes_of last (Delete ids) = spaced (decimal last) ++ (100 ∷ 32 ∷ (numbers_text ids ++ 48 ∷ []))

text_is : (last : ℕ) (line : Line) → line_text last line ≡ bytes_of last line ++ 10 ∷ []
text_is last (Lemma id clause hints) = simp append_assoc refl
text_is last (Delete ids) = simp append_assoc refl

text_before : (last : ℕ) (line : Line) (rest : List ℕ) → line_text last line ++ rest ≡ bytes_of last line ++ 10 ∷ rest
text_before last line rest = ap (λ bs. bs ++ rest) (text_is last line) ∙ append_assoc (bytes_of last line) (10 ∷ []) rest

spaced_none : (p : ℕ → Bool) (n : ℕ) (tail : List ℕ) → ((d : ℕ) → d < 10 → p (48 + d) ≡ false) → p 32 ≡ false → n < 2 ^ 64 → list_any p tail ≡ false → list_any p (spaced (decimal n) ++ tail) ≡ false
spaced_none p n tail digits blank h e =
    list_any-append p (spaced (decimal n)) tail
    ∙ or_from (list_any p (spaced (decimal n))) (list_any p tail)
    (list_any-append p (decimal n) (32 ∷ []) ∙ or_from (list_any p (decimal n)) (p 32 || false) (none_in_decimal p n digits h) (or_from (p 32) false blank refl)) e

none_in_bytes : (p : ℕ → Bool) (last : ℕ) (line : Line) → ((d : ℕ) → d < 10 → p (48 + d) ≡ false) → p 45 ≡ false → p 32 ≡ false → p 100 ≡ false → IsNumber last → HasText line → list_any p (bytes_of last line) ≡ false
none_in_bytes p last (Lemma id clause hints) digits minus blank letter number h =
    let zero : p 48 ≡ false = digits 0 (omega arith) in
    let numbers = small_numbers hints (recursion_from_All IsNumber hints h.2) in
    let behind_zero = none_in_numbers p hints (48 ∷ []) digits blank numbers (or_from (p 48) false zero refl) in
    let fits : id < 2 ^ 64 = (let k : id ≤ MOST_NUMBER = h.0.1 in omega arith) in
    spaced_none p id (literals_text clause ++ (48 ∷ 32 ∷ (numbers_text hints ++ 48 ∷ []))) digits blank fits
    (none_in_literals p clause (48 ∷ 32 ∷ (numbers_text hints ++ 48 ∷ [])) digits minus blank (small_literals clause (recursion_from_All IsVariable clause h.1))
    (or_from (p 48) (p 32 || list_any p (numbers_text hints ++ 48 ∷ [])) zero (or_from (p 32) (list_any p (numbers_text hints ++ 48 ∷ [])) blank behind_zero)))
none_in_bytes p last (Delete ids) digits minus blank letter number h =
    let zero : p 48 ≡ false = digits 0 (omega arith) in
    let numbers = small_numbers ids (recursion_from_All IsNumber ids h) in
    let behind_letter = none_in_numbers p ids (48 ∷ []) digits blank numbers (or_from (p 48) false zero refl) in
    let fits : last < 2 ^ 64 = (let k : last ≤ MOST_NUMBER = number.1 in omega arith) in
    spaced_none p last (100 ∷ 32 ∷ (numbers_text ids ++ 48 ∷ [])) digits blank fits
    (or_from (p 100) (p 32 || list_any p (numbers_text ids ++ 48 ∷ [])) letter (or_from (p 32) (list_any p (numbers_text ids ++ 48 ∷ [])) blank behind_letter))

words_are : (last : ℕ) (line : Line) → IsNumber last → HasText line → words (bytes_of last line) ≡ words_of last line
words_are last (Lemma id clause hints) number h =
    let fits : id < 2 ^ 64 = (let k : id ≤ MOST_NUMBER = h.0.1 in omega arith) in
    let tail = literals_text clause ++ (48 ∷ 32 ∷ (numbers_text hints ++ 48 ∷ [])) in
    words_spaced (decimal id) tail (decimal_some id fits) (none_in_decimal is_blank id digit_no_blank fits)
    ∙ ap (λ ws. decimal id ∷ ws)
    (words_of_literals clause (48 ∷ 32 ∷ (numbers_text hints ++ 48 ∷ [])) (small_literals clause (recursion_from_All IsVariable clause h.1))
    ∙ ap (λ ws. map signed_decimal clause ++ ws)
    (words_more (48 ∷ []) (numbers_text hints ++ 48 ∷ []) refl refl
    ∙ ap (λ ws. (48 ∷ []) ∷ ws) (words_of_numbers hints (48 ∷ []) (small_numbers hints (recursion_from_All IsNumber hints h.2)))))
words_are last (Delete ids) number h =
    let fits : last < 2 ^ 64 = (let k : last ≤ MOST_NUMBER = number.1 in omega arith) in
    words_spaced (decimal last) (100 ∷ 32 ∷ (numbers_text ids ++ 48 ∷ [])) (decimal_some last fits) (none_in_decimal is_blank last digit_no_blank fits)
    ∙ ap (λ ws. decimal last ∷ ws)
    (words_more (100 ∷ []) (numbers_text ids ++ 48 ∷ []) refl refl
    ∙ ap (λ ws. (100 ∷ []) ∷ ws) (words_of_numbers ids (48 ∷ []) (small_numbers ids (recursion_from_All IsNumber ids h))))

some_words : (last : ℕ) (line : Line) → has_no_words (words_of last line) ≡ false
some_words last (Lemma id clause hints) = refl
some_words last (Delete ids) = refl

digit_no_c : (d : ℕ) → d < 10 → eqb (48 + d) 99 ≡ false
digit_no_c d h = ne_eqb (48 + d) 99 (λ e. absurd (omega arith))

spoken : (last : ℕ) (line : Line) → IsNumber last → HasText line → is_silent (bytes_of last line) ≡ false
spoken last line number h =
    or_from (is_comment (bytes_of last line)) (has_no_words (words (bytes_of last line)))
    (no_comment (bytes_of last line) (none_in_bytes (λ byte. eqb byte 99) last line digit_no_c refl refl refl number h))
    (ap has_no_words (words_are last line number h) ∙ some_words last line)

-- ---- lines

line_read : (start last : ℕ) (line : Line) (rest : List ℕ) → IsNumber last → HasText line → reading_of start (parts (line_text last line ++ rest)) ≡ Found line start (start + length (bytes_of last line) + 1)
line_read start last line rest number h =
    let bytes = bytes_of last line in
    ap (reading_of start) (ap parts (text_before last line rest) ∙ parts_line bytes rest (none_in_bytes is_feed last line digit_no_feed refl refl refl number h))
    ∙ ap (λ b. cond b (reading_of (behind start bytes (parts rest)) (parts rest)) (as_reading start (behind start bytes (parts rest)) (line_of (is_last (parts rest)) (words bytes)))) (spoken last line number h)
    ∙ ap (as_reading start (behind start bytes (parts rest))) (ap (line_of (is_last (parts rest))) (words_are last line number h) ∙ right_read (is_last (parts rest)) (words_of last line) line (right_words last line number h))
    ∙ ap (Found line start) (behind_part start bytes rest)

next_number : (last : ℕ) (line : Line) → IsNumber last → HasText line → IsNumber (last_lemma last line)
next_number last (Lemma id clause hints) number h = h.0
next_number last (Delete ids) number h = number

pub reads_as : (lines : List Line) (text before : List ℕ) (from last : ℕ) → length before ≡ from → text ≡ before ++ lines_text last lines → IsNumber last → AllByRecursion HasText lines → ReadsAs text from lines
reads_as [] text before from last size is number each = ap (λ t. reading_of from (parts t)) (ap (drop from) is ∙ drop_at before [] from size)
reads_as (line ∷ lines) text before from last size is number each =
    let rest = lines_text (last_lemma last line) lines in
    let next = from + length (bytes_of last line) + 1 in (
      next,
      ap (λ t. reading_of from (parts t)) (ap (drop from) is ∙ drop_at before (line_text last line ++ rest) from size) ∙ line_read from last line rest number each.0,
      reads_as lines text (before ++ line_text last line) next (last_lemma last line)
          (length-append before (line_text last line) ∙ ap (λ n. length before + n) (ap length (text_is last line) ∙ length-append (bytes_of last line) (10 ∷ [])) ∙ longer (length before) from (length (bytes_of last line)) size)
          (is ∙ sym (append_assoc before (line_text last line) rest)) (next_number last line number each.0) each.1,
    )
  where
    longer : (a b n : ℕ) → a ≡ b → a + (n + 1) ≡ b + n + 1
    longer a b n e = omega arith

one_is_number : IsNumber 1
one_is_number = (omega arith, omega arith)

-- printed lines are read again
pub printed_again : (lines : List Line) (text : List ℕ) → text ≡ lines_text 1 lines → All HasText lines → ReadsAs text 0 lines
printed_again lines text is each = reads_as lines text [] 0 1 refl is one_is_number (recursion_from_All HasText lines each)
