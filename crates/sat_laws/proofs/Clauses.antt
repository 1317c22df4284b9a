-- What is printed is read again.
use Rattle.std.proofs.Common.{◌≡◌, ℕ, zero, suc, ◌+◌, ◌<◌, ◌≤◌, ◌^◌, ℤ, nat_abs, false, cond, eqb, eq-eqb, List, [], ◌∷◌, ◌++◌, map, flat_map, length, Some, Result, Ok, Err, All, decimal, max, refl, sym, ap, ◌∙◌, arith, append_assoc}
use Rattle.std.specs.Fmt.{signed_decimal}
use Rattle.std.specs.List.{AllByRecursion, list_any}
use Rattle.std.proofs.lemmas.Bool.{ne_eqb, or_from}
use Rattle.std.proofs.lemmas.Fmt.{decimal_digit}
use Rattle.std.proofs.lemmas.List.{append-nil}
use Rattle.std.proofs.lemmas.List.Elements.{recursion_from_All}
use Rattle.std.proofs.lemmas.List.Folds.{list_any-append}
use Rattle.base_words.specs.Words.{is_feed, is_blank, parts, words, is_comment, positive_of, decimal_of, literal_of, is_zero, spaced}
use Rattle.sat_laws.proofs.Again.{positive_decimal, positive_not_zero, literal_again, literal_not_zero, none_in_decimal, none_in_literals, digit_no_blank, digit_no_feed, decimal_some, parts_line, words_more, words_spaced, words_one, words_of_literals, no_comment}
use Rattle.sat_dimacs.specs.declared.TheConstants.{MOST_VARIABLES, MOST_CLAUSES}
use Rattle.sat_laws.specs.Within.{IsOf}
use Rattle.sat_dimacs.specs.Text.{Formula, Break, take_words, take_line, ended, clauses_behind, header_of, header_numbers, at_header, nothing_taken, formula_behind, formula_of, clause_text, header_text, row_text, cnf_text, has_feed, has_no_words, last_line}

zero_again : (limit : ℕ) → decimal_of limit (decimal 0) ≡ Some 0
zero_again limit = ap (decimal_of limit) (decimal_digit 0 (omega arith))

decimal_again : (limit n : ℕ) → limit < 2 ^ 64 → n ≤ limit → decimal_of limit (decimal n) ≡ Some n
decimal_again limit zero small fits = zero_again limit
decimal_again limit (suc n) small fits =
    let e : positive_of limit (decimal (suc n)) ≡ Some (suc n) = positive_decimal limit (suc n) small (omega arith) fits in
    ap (λ b. cond b (Some 0) (positive_of limit (decimal (suc n)))) (positive_not_zero limit (suc n) (decimal (suc n)) e) ∙ e

digit_no_c : (d : ℕ) → d < 10 → eqb (48 + d) 99 ≡ false
digit_no_c d h = ne_eqb (48 + d) 99 (λ e. absurd (omega arith))

-- ---- a clause

abbrev literals_of : List ℤ → List ℕ
literals_of clause = flat_map (λ literal. spaced (signed_decimal literal)) clause

small : (most : ℕ) (clause : List ℤ) → most ≤ MOST_VARIABLES → AllByRecursion (IsOf most) clause → AllByRecursion (λ z. nat_abs z < 2 ^ 63) clause
small most [] fits each = tt
small most (z ∷ zs) fits each = (let h : nat_abs z ≤ most = each.0.1 in omega arith, small most zs fits each.1)

clause_line : (clause : List ℤ) (rest : List ℕ) → AllByRecursion (λ z. nat_abs z < 2 ^ 63) clause → parts (clause_text clause ++ rest) ≡ (literals_of clause ++ 48 ∷ []) ∷ parts rest
clause_line clause rest each =
    ap parts (append_assoc (literals_of clause) (48 ∷ 10 ∷ []) rest ∙ sym (append_assoc (literals_of clause) (48 ∷ []) (10 ∷ rest)))
    ∙ parts_line (literals_of clause ++ 48 ∷ []) rest (none_in_literals is_feed clause (48 ∷ []) digit_no_feed refl refl each refl)

clause_words : (clause : List ℤ) → AllByRecursion (λ z. nat_abs z < 2 ^ 63) clause → words (literals_of clause ++ 48 ∷ []) ≡ map signed_decimal clause ++ (48 ∷ []) ∷ []
clause_words clause each = words_of_literals clause (48 ∷ []) each

words_taken : (most : ℕ) (clause opened : List ℤ) (closed : List (List ℤ)) → most ≤ MOST_VARIABLES → AllByRecursion (IsOf most) clause
    → take_words most (record { closed = closed; opened = opened }) (map signed_decimal clause ++ (48 ∷ []) ∷ []) ≡ Some (record { closed = closed ++ (opened ++ clause) ∷ []; opened = [] })
words_taken most [] opened closed fits each = rw (append-nil opened) refl
words_taken most (z ∷ zs) opened closed fits each =
    let limit : most < 2 ^ 64 = omega arith in
    let is : literal_of most (signed_decimal z) ≡ Some z = literal_again most z limit each.0.0 each.0.1 in
    let apart : is_zero (signed_decimal z) ≡ false = literal_not_zero most z (signed_decimal z) is in
    let more = words_taken most zs (opened ++ z ∷ []) closed fits each.1 in
    rw (apart, is) (rw (append_assoc opened (z ∷ []) zs) at more)

line_taken : (most : ℕ) (clause : List ℤ) (closed : List (List ℤ)) → most ≤ MOST_VARIABLES → AllByRecursion (IsOf most) clause
    → take_line most (record { closed = closed; opened = [] }) (literals_of clause ++ 48 ∷ []) ≡ Some (record { closed = closed ++ clause ∷ []; opened = [] })
line_taken most clause closed fits each =
    let narrow = small most clause fits each in
    let apart : is_comment (literals_of clause ++ 48 ∷ []) ≡ false = no_comment (literals_of clause ++ 48 ∷ []) (none_in_literals (λ byte. eqb byte 99) clause (48 ∷ []) digit_no_c refl refl narrow refl) in
    rw (apart, clause_words clause narrow) (words_taken most clause [] closed fits each)

-- ---- the clauses

behind : (variables count last : ℕ) (clauses closed : List (List ℤ)) (number : ℕ) → variables ≤ MOST_VARIABLES → AllByRecursion (AllByRecursion (IsOf variables)) clauses
    → clauses_behind variables count last (record { closed = closed; opened = [] }) number (parts (flat_map clause_text clauses)) ≡ ended variables count last (closed ++ clauses) []
behind variables count last [] closed number fits each = ap (λ cs. ended variables count last cs []) (sym (append-nil closed))
behind variables count last (clause ∷ clauses) closed number fits each =
    let narrow = small variables clause fits each.0 in
    let more = behind variables count last clauses (closed ++ clause ∷ []) (number + 1) fits each.1 in
    rw (clause_line clause (flat_map clause_text clauses) narrow, line_taken variables clause closed fits each.0) (rw (append_assoc closed (clause ∷ []) clauses) at more)

counted : (variables last : ℕ) (clauses : List (List ℤ)) → ended variables (length clauses) last clauses [] ≡ Ok (record { variables = variables; clauses = clauses })
counted variables last clauses =
    ap (λ b. cond b (let f : Formula = record { variables = variables; clauses = clauses } in Ok f) (Err (record { rule = 3; line = last }))) (eq-eqb (length clauses) (length clauses) refl)

-- ---- the header

abbrev header_line : ℕ → ℕ → List ℕ
header_line variables count = 112 ∷ 32 ∷ 99 ∷ 110 ∷ 102 ∷ 32 ∷ (spaced (decimal variables) ++ decimal count)

header_parts : (variables count : ℕ) (rest : List ℕ) → variables < 2 ^ 64 → count < 2 ^ 64 → parts (header_text variables count ++ rest) ≡ header_line variables count ∷ parts rest
header_parts variables count rest v c =
    ap parts whole ∙ parts_line (header_line variables count) rest no_feed
  where
    whole : header_text variables count ++ rest ≡ header_line variables count ++ 10 ∷ rest
    whole = simp append_assoc refl

    no_feed : list_any is_feed (header_line variables count) ≡ false
    no_feed =
        list_any-append is_feed (spaced (decimal variables)) (decimal count)
        ∙ or_from (list_any is_feed (spaced (decimal variables))) (list_any is_feed (decimal count))
        (list_any-append is_feed (decimal variables) (32 ∷ []) ∙ or_from (list_any is_feed (decimal variables)) false (none_in_decimal is_feed variables digit_no_feed v) refl)
        (none_in_decimal is_feed count digit_no_feed c)

header_words : (variables count : ℕ) → variables < 2 ^ 64 → count < 2 ^ 64 → words (header_line variables count) ≡ (112 ∷ []) ∷ (99 ∷ 110 ∷ 102 ∷ []) ∷ decimal variables ∷ decimal count ∷ []
header_words variables count v c =
    words_more (112 ∷ []) (99 ∷ 110 ∷ 102 ∷ 32 ∷ (spaced (decimal variables) ++ decimal count)) refl refl
    ∙ ap (λ ws. (112 ∷ []) ∷ ws)
    (words_more (99 ∷ 110 ∷ 102 ∷ []) (spaced (decimal variables) ++ decimal count) refl refl
    ∙ ap (λ ws. (99 ∷ 110 ∷ 102 ∷ []) ∷ ws)
    (words_spaced (decimal variables) (decimal count) (decimal_some variables v) (none_in_decimal is_blank variables digit_no_blank v)
    ∙ ap (λ ws. decimal variables ∷ ws) (words_one (decimal count) (decimal_some count c) (none_in_decimal is_blank count digit_no_blank c))))

header_read : (variables count : ℕ) → variables ≤ MOST_VARIABLES → count ≤ MOST_CLAUSES → header_of ((112 ∷ []) ∷ (99 ∷ 110 ∷ 102 ∷ []) ∷ decimal variables ∷ decimal count ∷ []) ≡ Some (variables, count)
header_read variables count v c =
    let many : MOST_VARIABLES < 2 ^ 64 = omega arith in
    let more : MOST_CLAUSES < 2 ^ 64 = omega arith in
    ap (λ o. header_numbers o (decimal_of MOST_CLAUSES (decimal count))) (decimal_again MOST_VARIABLES variables many v)
    ∙ ap (header_numbers (Some variables)) (decimal_again MOST_CLAUSES count more c)

-- ---- the table

row_parts : (row rest : List ℕ) → has_feed row ≡ false → parts (row_text row ++ rest) ≡ (99 ∷ 32 ∷ row) ∷ parts rest
row_parts row rest e = ap parts whole ∙ parts_line (99 ∷ 32 ∷ row) rest e
  where
    whole : row_text row ++ rest ≡ (99 ∷ 32 ∷ row) ++ 10 ∷ rest
    whole = simp append_assoc refl

behind_rows : (table : List (List ℕ)) (last number : ℕ) (rest : List ℕ) (answer : Result Formula Break) → AllByRecursion (λ row. has_feed row ≡ false) table
    → ((n : ℕ) → formula_behind last n (parts rest) ≡ answer) → formula_behind last number (parts (flat_map row_text table ++ rest)) ≡ answer
behind_rows [] last number rest answer each then = then number
behind_rows (row ∷ table) last number rest answer each then =
    ap (λ text. formula_behind last number (parts text)) (append_assoc (row_text row) (flat_map row_text table) rest)
    ∙ ap (formula_behind last number) (row_parts row (flat_map row_text table ++ rest) each.0)
    ∙ behind_rows table last (number + 1) rest answer each.1 then

-- ---- the whole text

spoken : (last number : ℕ) (line : List ℕ) (rest : List (List ℕ)) → is_comment line ≡ false → has_no_words (words line) ≡ false
    → formula_behind last number (line ∷ rest) ≡ at_header (number + 1) (λ numbers. clauses_behind numbers.0 numbers.1 last nothing_taken (number + 1) rest) (header_of (words line))
spoken last number line rest e f =
    ap (λ b. cond b (formula_behind last (number + 1) rest) (at_header (number + 1) (λ numbers. clauses_behind numbers.0 numbers.1 last nothing_taken (number + 1) rest) (header_of (words line))))
    (or_from (is_comment line) (has_no_words (words line)) e f)

behind_header : (variables last number : ℕ) (clauses : List (List ℤ)) → variables ≤ MOST_VARIABLES → length clauses ≤ MOST_CLAUSES → AllByRecursion (AllByRecursion (IsOf variables)) clauses
    → formula_behind last number (parts (header_text variables (length clauses) ++ flat_map clause_text clauses)) ≡ Ok (record { variables = variables; clauses = clauses })
behind_header variables last number clauses v c each =
    let count = length clauses in
    let rest = flat_map clause_text clauses in
    let small_v : variables < 2 ^ 64 = omega arith in
    let small_c : count < 2 ^ 64 = omega arith in
    let next = λ (numbers : ℕ × ℕ). clauses_behind numbers.0 numbers.1 last nothing_taken (number + 1) (parts rest) in
    ap (formula_behind last number) (header_parts variables count rest small_v small_c)
    ∙ spoken last number (header_line variables count) (parts rest) refl (ap has_no_words (header_words variables count small_v small_c))
    ∙ ap (at_header (number + 1) next) (ap header_of (header_words variables count small_v small_c) ∙ header_read variables count v c)
    ∙ behind variables count last clauses [] (number + 1) v each
    ∙ counted variables last clauses

-- what is printed of clauses is read as the same clauses
pub printed_again : (table : List (List ℕ)) (variables : ℕ) (clauses : List (List ℤ)) → AllByRecursion (λ row. has_feed row ≡ false) table → variables ≤ MOST_VARIABLES → length clauses ≤ MOST_CLAUSES
    → AllByRecursion (AllByRecursion (IsOf variables)) clauses → formula_of (cnf_text table variables clauses) ≡ Ok (record { variables = variables; clauses = clauses })
printed_again table variables clauses rows v c each =
    let text = cnf_text table variables clauses in
    let last = max 1 (last_line 0 (parts text)) in
    ap (λ t. formula_behind last 0 (parts t)) (append_assoc (flat_map row_text table) (header_text variables (length clauses)) (flat_map clause_text clauses))
    ∙ behind_rows table last 0 (header_text variables (length clauses) ++ flat_map clause_text clauses) (Ok (record { variables = variables; clauses = clauses })) rows
    (λ n. behind_header variables last n clauses v c each)

-- ---- the same, of lists by All

clause_of : (most : ℕ) (clause : List ℤ) → All (IsOf most) clause → AllByRecursion (IsOf most) clause
clause_of most clause each = recursion_from_All (IsOf most) clause each

clauses_of : (most : ℕ) (clauses : List (List ℤ)) → AllByRecursion (All (IsOf most)) clauses → AllByRecursion (AllByRecursion (IsOf most)) clauses
clauses_of most [] each = tt
clauses_of most (c ∷ cs) each = (clause_of most c each.0, clauses_of most cs each.1)

pub round_trip : (table : List (List ℕ)) (variables : ℕ) (clauses : List (List ℤ)) → All (λ row. has_feed row ≡ false) table → variables ≤ MOST_VARIABLES → length clauses ≤ MOST_CLAUSES → All (All (IsOf variables)) clauses
    → formula_of (cnf_text table variables clauses) ≡ Ok (record { variables = variables; clauses = clauses })
round_trip table variables clauses rows v c each =
    printed_again table variables clauses (recursion_from_All (λ row. has_feed row ≡ false) table rows) v c
    (clauses_of variables clauses (recursion_from_All (All (IsOf variables)) clauses each))
