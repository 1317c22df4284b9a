-- What is written is read again: numbers, the words of a line, and the lines of a text.
use Rattle.std.proofs.Common.{◌≡◌, ℕ, suc, ◌+◌, ◌-◌, ◌*◌, ◌/◌, ◌%◌, ◌<◌, ◌≤◌, ◌^◌, ℤ, pos, negsuc, nat_abs, Bool, true, false, cond, ◌&&◌, ◌||◌, eqb, List, [], ◌∷◌, ◌++◌, map, flat_map, length, get_or, Some, None, decimal, nat_le, refl, ap, ◌∙◌, arith, append_assoc}
use Rattle.std.specs.Fmt.{signed_decimal}
use Rattle.std.specs.List.{All, AllByRecursion, list_any, slice_split, filter}
use Rattle.std.proofs.lemmas.Bool.{le-leb, eqb-true, ne_eqb, or_parts, or_from}
use Rattle.std.proofs.lemmas.Fmt.{decimal_by_steps, decimal_nonempty, first_decimal}
use Rattle.std.proofs.lemmas.List.Elements.{All-from_recursion}
use Rattle.std.proofs.lemmas.List.Folds.{list_any-append}
use Rattle.std.proofs.lemmas.List.Splits.{slice_split_at, slice_split_none}
use Rattle.base_words.specs.Words.{is_feed, is_blank, is_some_word, words, parts, is_comment, is_digit, number_after, up_to, positive_of, literal_of, as_literal, is_zero, spaced}

-- ---- numbers

digit_is : (d : ℕ) → d < 10 → is_digit (48 + d) ≡ true
digit_is d h = ap (λ b. b && nat_le (48 + d) 57) (le-leb 48 (48 + d) (omega arith)) ∙ le-leb (48 + d) 57 (omega arith)

number_append : (n : ℕ) (xs ys : List ℕ) (m : ℕ) → number_after n xs ≡ Some m → number_after n (xs ++ ys) ≡ number_after m ys
unfolding number_after
number_append n [] ys m e = let same : n ≡ m = cc in ap (λ k. number_after k ys) same
number_append n (x ∷ xs) ys m e = by_test (is_digit x) e (number_append (n * 10 + (x - 48)) xs ys m)
  where
    by_test : (b : Bool) → cond b (number_after (n * 10 + (x - 48)) xs) None ≡ Some m → (number_after (n * 10 + (x - 48)) xs ≡ Some m → number_after (n * 10 + (x - 48)) (xs ++ ys) ≡ number_after m ys)
        → cond b (number_after (n * 10 + (x - 48)) (xs ++ ys)) None ≡ number_after m ys
    by_test true e more = more e
    by_test false e more = cc

one_digit : (n d : ℕ) → d < 10 → number_after n ((48 + d) ∷ []) ≡ Some (n * 10 + d)
unfolding number_after
one_digit n d h = ap (λ b. cond b (Some (n * 10 + ((48 + d) - 48))) None) (digit_is d h) ∙ ap Some (omega arith)

decimal_value : (n : ℕ) → n < 2 ^ 64 → number_after 0 (decimal n) ≡ Some n
decimal_value n h =
    decimal_by_steps (λ n ds. number_after 0 ds ≡ Some n) (λ n small. one_digit 0 n small ∙ ap Some (omega arith))
    (λ n ds large e. number_append 0 ds ((48 + n % 10) ∷ []) (n / 10) e ∙ one_digit (n / 10) (n % 10) (omega arith) ∙ ap Some (omega arith)) n h

positive_word : (limit n : ℕ) (word : List ℕ) → 0 < length word → 48 < get_or word 0 0 → n ≤ limit → number_after 0 word ≡ Some n → positive_of limit word ≡ Some n
positive_word limit n [] some first fits e = absurd (omega arith)
positive_word limit n (byte ∷ bytes) some first fits e =
    ap (λ b. cond b None (up_to limit (number_after 0 (byte ∷ bytes)))) (apart (eqb byte 48) refl)
    ∙ ap (up_to limit) e ∙ ap (λ b. cond b (Some n) None) (le-leb n limit fits)
  where
    apart : (b : Bool) → eqb byte 48 ≡ b → eqb byte 48 ≡ false
    apart true t = absurd (let same = eqb-true byte 48 t in omega arith)
    apart false t = t

-- a number that is written is read again
pub positive_decimal : (limit n : ℕ) → limit < 2 ^ 64 → 0 < n → n ≤ limit → positive_of limit (decimal n) ≡ Some n
positive_decimal limit n small positive fits =
    let h : n < 2 ^ 64 = omega arith in
    positive_word limit n (decimal n) (decimal_nonempty n h) (first_decimal n positive h) fits (decimal_value n h)

-- a word that is a number isn't 0
pub positive_not_zero : (limit n : ℕ) (word : List ℕ) → positive_of limit word ≡ Some n → is_zero word ≡ false
positive_not_zero limit n [] e = refl
positive_not_zero limit n (byte ∷ []) e = by_test (eqb byte 48) e
  where
    by_test : (b : Bool) → cond b None (up_to limit (number_after 0 (byte ∷ []))) ≡ Some n → b ≡ false
    by_test true e = cc
    by_test false e = refl
positive_not_zero limit n (byte ∷ other ∷ bytes) e = refl

literal_word : (limit n : ℕ) (word : List ℕ) → 0 < length word → 48 < get_or word 0 0 → positive_of limit word ≡ Some n → literal_of limit word ≡ Some (pos n)
literal_word limit n [] some first e = absurd (omega arith)
literal_word limit n (byte ∷ bytes) some first e =
    ap (λ b. cond b (as_literal true (positive_of limit bytes)) (as_literal false (positive_of limit (byte ∷ bytes)))) (apart (eqb byte 45) refl)
    ∙ ap (as_literal false) e
  where
    apart : (b : Bool) → eqb byte 45 ≡ b → eqb byte 45 ≡ false
    apart true t = absurd (let same = eqb-true byte 45 t in omega arith)
    apart false t = t

-- a literal that is written is read again
pub literal_again : (limit : ℕ) (literal : ℤ) → limit < 2 ^ 64 → 0 < nat_abs literal → nat_abs literal ≤ limit → literal_of limit (signed_decimal literal) ≡ Some literal
literal_again limit (pos n) small h fits =
    let under : n < 2 ^ 64 = omega arith in
    literal_word limit n (decimal n) (decimal_nonempty n under) (first_decimal n h under) (positive_decimal limit n small h fits)
literal_again limit (negsuc n) small h fits = ap (as_literal true) (positive_decimal limit (suc n) small h fits)

-- a word that is a literal isn't 0
pub literal_not_zero : (limit : ℕ) (z : ℤ) (word : List ℕ) → literal_of limit word ≡ Some z → is_zero word ≡ false
literal_not_zero limit z [] e = refl
literal_not_zero limit z (byte ∷ []) e = by_test (eqb byte 45) (eqb byte 48) e
  where
    by_test : (a b : Bool) → cond a None (as_literal false (cond b None (up_to limit (number_after 0 (byte ∷ []))))) ≡ Some z → b ≡ false
    by_test true true e = cc
    by_test true false e = refl
    by_test false true e = cc
    by_test false false e = refl
literal_not_zero limit z (byte ∷ other ∷ bytes) e = refl

-- ---- what stands in a number

-- a test that fails at digits fails throughout a number
pub none_in_decimal : (p : ℕ → Bool) (n : ℕ) → ((d : ℕ) → d < 10 → p (48 + d) ≡ false) → n < 2 ^ 64 → list_any p (decimal n) ≡ false
none_in_decimal p n digits h =
    decimal_by_steps (λ n ds. list_any p ds ≡ false) (λ n small. or_from (p (48 + n)) false (digits n small) refl)
    (λ n ds large e. list_any-append p ds ((48 + n % 10) ∷ []) ∙ or_from (list_any p ds) (p (48 + n % 10) || false) e (or_from (p (48 + n % 10)) false (digits (n % 10) (omega arith)) refl)) n h

pub none_in_signed : (p : ℕ → Bool) (z : ℤ) → ((d : ℕ) → d < 10 → p (48 + d) ≡ false) → p 45 ≡ false → nat_abs z < 2 ^ 63 → list_any p (signed_decimal z) ≡ false
none_in_signed p (pos n) digits minus h = none_in_decimal p n digits (omega arith)
none_in_signed p (negsuc n) digits minus h = or_from (p 45) (list_any p (decimal (suc n))) minus (none_in_decimal p (suc n) digits (omega arith))

pub digit_no_blank : (d : ℕ) → d < 10 → is_blank (48 + d) ≡ false
digit_no_blank d h =
    or_from (eqb (48 + d) 9 || eqb (48 + d) 13) (eqb (48 + d) 32)
    (or_from (eqb (48 + d) 9) (eqb (48 + d) 13) (ne_eqb (48 + d) 9 (λ e. absurd (omega arith))) (ne_eqb (48 + d) 13 (λ e. absurd (omega arith))))
    (ne_eqb (48 + d) 32 (λ e. absurd (omega arith)))

pub digit_no_feed : (d : ℕ) → d < 10 → is_feed (48 + d) ≡ false
digit_no_feed d h = ne_eqb (48 + d) 10 (λ e. absurd (omega arith))

is_some : (word : List ℕ) → 0 < length word → is_some_word word ≡ true
is_some [] h = absurd (omega arith)
is_some (byte ∷ bytes) h = refl

pub decimal_some : (n : ℕ) → n < 2 ^ 64 → is_some_word (decimal n) ≡ true
decimal_some n h = is_some (decimal n) (decimal_nonempty n h)

pub signed_some : (z : ℤ) → nat_abs z < 2 ^ 63 → is_some_word (signed_decimal z) ≡ true
signed_some (pos n) h = decimal_some n (omega arith)
signed_some (negsuc n) h = refl

-- ---- words and lines

none_of : (p : ℕ → Bool) (xs : List ℕ) → list_any p xs ≡ false → AllByRecursion (λ x. p x ≡ false) xs
none_of p [] e = tt
none_of p (x ∷ xs) e = let both = or_parts (p x) (list_any p xs) e in (both.0, none_of p xs both.1)

none_all : (p : ℕ → Bool) (xs : List ℕ) → list_any p xs ≡ false → All (λ x. p x ≡ false) xs
none_all p xs e = All-from_recursion (λ x. p x ≡ false) xs (none_of p xs e)

-- a line and the text behind it
pub parts_line : (line rest : List ℕ) → list_any is_feed line ≡ false → parts (line ++ 10 ∷ rest) ≡ line ∷ parts rest
parts_line line rest e = slice_split_at is_feed line 10 rest (none_all is_feed line e) refl

keep_word : (word : List ℕ) (others : List (List ℕ)) → is_some_word word ≡ true → filter is_some_word (word ∷ others) ≡ word ∷ filter is_some_word others
keep_word word others e = ap (λ b. cond b (word ∷ filter is_some_word others) (filter is_some_word others)) e

-- a word and the words behind it
pub words_more : (word rest : List ℕ) → is_some_word word ≡ true → list_any is_blank word ≡ false → words (word ++ 32 ∷ rest) ≡ word ∷ words rest
words_more word rest some e = ap (filter is_some_word) (slice_split_at is_blank word 32 rest (none_all is_blank word e) refl) ∙ keep_word word (slice_split is_blank rest) some

pub words_spaced : (word rest : List ℕ) → is_some_word word ≡ true → list_any is_blank word ≡ false → words (spaced word ++ rest) ≡ word ∷ words rest
words_spaced word rest some e = ap words (append_assoc word (32 ∷ []) rest) ∙ words_more word rest some e

pub words_one : (word : List ℕ) → is_some_word word ≡ true → list_any is_blank word ≡ false → words word ≡ word ∷ []
words_one word some e = ap (filter is_some_word) (slice_split_none is_blank word (none_all is_blank word e)) ∙ keep_word word [] some

-- a line without the letter c is no comment
pub no_comment : (line : List ℕ) → list_any (λ byte. eqb byte 99) line ≡ false → is_comment line ≡ false
no_comment [] e = refl
no_comment (byte ∷ bytes) e = (or_parts (eqb byte 99) (list_any (λ byte. eqb byte 99) bytes) e).0

-- a test that fails at digits, the minus and the blank fails throughout numbers
pub none_in_literals : (p : ℕ → Bool) (literals : List ℤ) (rest : List ℕ) → ((d : ℕ) → d < 10 → p (48 + d) ≡ false) → p 45 ≡ false → p 32 ≡ false → AllByRecursion (λ z. nat_abs z < 2 ^ 63) literals → list_any p rest ≡ false
    → list_any p (flat_map (λ literal. spaced (signed_decimal literal)) literals ++ rest) ≡ false
none_in_literals p [] rest digits minus blank each e = e
none_in_literals p (z ∷ zs) rest digits minus blank each e =
    let tail = flat_map (λ literal. spaced (signed_decimal literal)) zs in
    ap (list_any p) (append_assoc (spaced (signed_decimal z)) tail rest)
    ∙ list_any-append p (spaced (signed_decimal z)) (tail ++ rest)
    ∙ or_from (list_any p (spaced (signed_decimal z))) (list_any p (tail ++ rest))
    (list_any-append p (signed_decimal z) (32 ∷ []) ∙ or_from (list_any p (signed_decimal z)) (p 32 || false) (none_in_signed p z digits minus each.0) (or_from (p 32) false blank refl))
    (none_in_literals p zs rest digits minus blank each.1 e)

pub none_in_numbers : (p : ℕ → Bool) (numbers rest : List ℕ) → ((d : ℕ) → d < 10 → p (48 + d) ≡ false) → p 32 ≡ false → AllByRecursion (λ n. n < 2 ^ 64) numbers → list_any p rest ≡ false
    → list_any p (flat_map (λ number. spaced (decimal number)) numbers ++ rest) ≡ false
none_in_numbers p [] rest digits blank each e = e
none_in_numbers p (n ∷ ns) rest digits blank each e =
    let tail = flat_map (λ number. spaced (decimal number)) ns in
    ap (list_any p) (append_assoc (spaced (decimal n)) tail rest)
    ∙ list_any-append p (spaced (decimal n)) (tail ++ rest)
    ∙ or_from (list_any p (spaced (decimal n))) (list_any p (tail ++ rest))
    (list_any-append p (decimal n) (32 ∷ []) ∙ or_from (list_any p (decimal n)) (p 32 || false) (none_in_decimal p n digits each.0) (or_from (p 32) false blank refl))
    (none_in_numbers p ns rest digits blank each.1 e)

-- the words of numbers in front of others
pub words_of_literals : (literals : List ℤ) (rest : List ℕ) → AllByRecursion (λ z. nat_abs z < 2 ^ 63) literals
    → words (flat_map (λ literal. spaced (signed_decimal literal)) literals ++ rest) ≡ map signed_decimal literals ++ words rest
words_of_literals [] rest each = refl
words_of_literals (z ∷ zs) rest each =
    let tail = flat_map (λ literal. spaced (signed_decimal literal)) zs in
    ap words (append_assoc (spaced (signed_decimal z)) tail rest)
    ∙ words_spaced (signed_decimal z) (tail ++ rest) (signed_some z each.0) (none_in_signed is_blank z digit_no_blank refl each.0)
    ∙ ap (λ ws. signed_decimal z ∷ ws) (words_of_literals zs rest each.1)

pub words_of_numbers : (numbers rest : List ℕ) → AllByRecursion (λ n. n < 2 ^ 64) numbers
    → words (flat_map (λ number. spaced (decimal number)) numbers ++ rest) ≡ map decimal numbers ++ words rest
words_of_numbers [] rest each = refl
words_of_numbers (n ∷ ns) rest each =
    let tail = flat_map (λ number. spaced (decimal number)) ns in
    ap words (append_assoc (spaced (decimal n)) tail rest)
    ∙ words_spaced (decimal n) (tail ++ rest) (decimal_some n each.0) (none_in_decimal is_blank n digit_no_blank each.0)
    ∙ ap (λ ws. decimal n ∷ ws) (words_of_numbers ns rest each.1)
