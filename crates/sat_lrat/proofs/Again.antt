-- What is written is read again.
use Rattle.std.proofs.Common.{◌≡◌, ℕ, suc, ◌+◌, ◌-◌, ◌*◌, ◌/◌, ◌%◌, ◌<◌, ◌≤◌, ◌^◌, ℤ, pos, negsuc, Bool, true, false, cond, ◌&&◌, eqb, List, [], ◌∷◌, ◌++◌, map, length, get_or, Some, None, Ok, decimal, nat_le, refl, sym, ap, ◌∙◌, arith, append_assoc}
use Rattle.std.specs.Fmt.{signed_decimal}
use Rattle.std.specs.List.{AllByRecursion}
use Rattle.std.proofs.lemmas.Bool.{le-leb, eqb-true}
use Rattle.std.proofs.lemmas.Fmt.{decimal_by_steps, decimal_nonempty, first_decimal}
use Rattle.base_words.specs.Words.{is_digit, number_after, up_to, positive_of, literal_of, as_literal, is_zero}
use Rattle.sat_lrat.specs.declared.TheConstants.{MOST_NUMBER, MOST_VARIABLE}
use Rattle.sat_lrat.specs.declared.line.Line.TheVariants.{Lemma}
use Rattle.sat_lrat.specs.Text.{alone, at_number, numbers_after, as_lemma, at_literal, lemma_after}
use Rattle.sat_lrat.specs.Words.{IsNumber, IsVariable, number_words}

digit_is : (d : ℕ) → d < 10 → is_digit (48 + d) ≡ true
digit_is d h = ap (λ b. b && nat_le (48 + d) 57) (le-leb 48 (48 + d) (omega arith)) ∙ le-leb (48 + d) 57 (omega arith)

number_append : (n : ℕ) (xs ys : List ℕ) (m : ℕ) → number_after n xs ≡ Some m → number_after n (xs ++ ys) ≡ number_after m ys
unfolding number_after
number_append n [] ys m e = let same : n ≡ m = cc in ap (λ k. number_after k ys) same
number_append n (x ∷ xs) ys m e = by_test (is_digit x) e (number_append (n * 10 + (x - 48)) xs ys m)
  where
    by_test : (b : Bool) → cond b (number_after (n * 10 + (x - 48)) xs) None ≡ Some m → (number_after (n * 10 + (x - 48)) xs ≡ Some m → number_after (n * 10 + (x - 48)) (xs ++ ys) ≡ number_after m ys)
        → cond b (number_after (n * 10 + (x - 48)) (xs ++ ys)) None ≡ number_after m ys
    by_test true e more = more e
    by_test false e more = cc

one_digit : (n d : ℕ) → d < 10 → number_after n ((48 + d) ∷ []) ≡ Some (n * 10 + d)
unfolding number_after
one_digit n d h = ap (λ b. cond b (Some (n * 10 + ((48 + d) - 48))) None) (digit_is d h) ∙ ap Some (omega arith)

decimal_value : (n : ℕ) → n < 2 ^ 64 → number_after 0 (decimal n) ≡ Some n
decimal_value n h =
    decimal_by_steps (λ n ds. number_after 0 ds ≡ Some n) (λ n small. one_digit 0 n small ∙ ap Some (omega arith))
    (λ n ds large e. number_append 0 ds ((48 + n % 10) ∷ []) (n / 10) e ∙ one_digit (n / 10) (n % 10) (omega arith) ∙ ap Some (omega arith)) n h

positive_word : (limit n : ℕ) (word : List ℕ) → 0 < length word → 48 < get_or word 0 0 → n ≤ limit → number_after 0 word ≡ Some n → positive_of limit word ≡ Some n
positive_word limit n [] some first fits e = absurd (omega arith)
positive_word limit n (byte ∷ bytes) some first fits e =
    ap (λ b. cond b None (up_to limit (number_after 0 (byte ∷ bytes)))) (apart (eqb byte 48) refl)
    ∙ ap (up_to limit) e ∙ ap (λ b. cond b (Some n) None) (le-leb n limit fits)
  where
    apart : (b : Bool) → eqb byte 48 ≡ b → eqb byte 48 ≡ false
    apart true t = absurd (let same = eqb-true byte 48 t in omega arith)
    apart false t = t

pub positive_decimal : (limit n : ℕ) → limit < 2 ^ 64 → 0 < n → n ≤ limit → positive_of limit (decimal n) ≡ Some n
positive_decimal limit n small positive fits =
    let h : n < 2 ^ 64 = omega arith in
    positive_word limit n (decimal n) (decimal_nonempty n h) (first_decimal n positive h) fits (decimal_value n h)

-- a word that is a number isn't 0
not_zero : (limit n : ℕ) (word : List ℕ) → positive_of limit word ≡ Some n → is_zero word ≡ false
not_zero limit n [] e = refl
not_zero limit n (byte ∷ []) e = by_test (eqb byte 48) e
  where
    by_test : (b : Bool) → cond b None (up_to limit (number_after 0 (byte ∷ []))) ≡ Some n → b ≡ false
    by_test true e = cc
    by_test false e = refl
not_zero limit n (byte ∷ other ∷ bytes) e = refl

append_none : {X : Type 0} (xs : List X) → xs ++ [] ≡ xs
append_none [] = refl
append_none (x ∷ xs) = ap (λ ys. x ∷ ys) (append_none xs)

most_small : MOST_NUMBER < 2 ^ 64
most_small = omega arith

pub numbers_again : (cut : Bool) (minus : ℕ) (numbers found : List ℕ) → AllByRecursion IsNumber numbers → numbers_after cut minus found (number_words numbers) ≡ Ok (found ++ numbers)
numbers_again cut minus [] found each = ap Ok (sym (append_none found))
numbers_again cut minus (n ∷ numbers) found each =
    let e = positive_decimal MOST_NUMBER n most_small each.0.0 each.0.1 in
    ap (λ b. cond b (alone found (number_words numbers)) (at_number minus (decimal n) (λ number. numbers_after cut minus (found ++ number ∷ []) (number_words numbers)) (positive_of MOST_NUMBER (decimal n)))) (not_zero MOST_NUMBER n (decimal n) e)
    ∙ ap (at_number minus (decimal n) (λ number. numbers_after cut minus (found ++ number ∷ []) (number_words numbers))) e
    ∙ numbers_again cut minus numbers (found ++ n ∷ []) each.1 ∙ ap Ok (simp append_assoc)

-- ---- literals

literal_word : (limit n : ℕ) (word : List ℕ) → 0 < length word → 48 < get_or word 0 0 → positive_of limit word ≡ Some n → literal_of limit word ≡ Some (pos n)
literal_word limit n [] some first e = absurd (omega arith)
literal_word limit n (byte ∷ bytes) some first e =
    ap (λ b. cond b (as_literal true (positive_of limit bytes)) (as_literal false (positive_of limit (byte ∷ bytes)))) (apart (eqb byte 45) refl)
    ∙ ap (as_literal false) e
  where
    apart : (b : Bool) → eqb byte 45 ≡ b → eqb byte 45 ≡ false
    apart true t = absurd (let same = eqb-true byte 45 t in omega arith)
    apart false t = t

literal_again : (literal : ℤ) → IsVariable literal → literal_of MOST_VARIABLE (signed_decimal literal) ≡ Some literal
literal_again (pos n) h =
    let small : n < 2 ^ 64 = omega (arith, h.1) in
    let limit : MOST_VARIABLE < 2 ^ 64 = omega arith in
    literal_word MOST_VARIABLE n (decimal n) (decimal_nonempty n small) (first_decimal n h.0 small) (positive_decimal MOST_VARIABLE n limit h.0 h.1)
literal_again (negsuc n) h =
    let limit : MOST_VARIABLE < 2 ^ 64 = omega arith in
    ap (as_literal true) (positive_decimal MOST_VARIABLE (suc n) limit h.0 h.1)

-- a word that is a literal is neither 0 nor the letter d
literal_not_zero : (limit : ℕ) (z : ℤ) (word : List ℕ) → literal_of limit word ≡ Some z → is_zero word ≡ false
literal_not_zero limit z [] e = refl
literal_not_zero limit z (byte ∷ []) e = by_test (eqb byte 45) (eqb byte 48) e
  where
    by_test : (a b : Bool) → cond a None (as_literal false (cond b None (up_to limit (number_after 0 (byte ∷ []))))) ≡ Some z → b ≡ false
    by_test true true e = cc
    by_test true false e = refl
    by_test false true e = cc
    by_test false false e = refl
literal_not_zero limit z (byte ∷ other ∷ bytes) e = refl

pub literals_again : (cut : Bool) (id : ℕ) (hints : List ℕ) → AllByRecursion IsNumber hints → (literals found : List ℤ) → AllByRecursion IsVariable literals
    → lemma_after cut id found (map signed_decimal literals ++ (48 ∷ []) ∷ number_words hints) ≡ Ok (Lemma id (found ++ literals) hints)
literals_again cut id hints numbers [] found each =
    ap (as_lemma id found) (numbers_again cut 12 hints [] numbers) ∙ ap (λ clause. Ok (Lemma id clause hints)) (sym (append_none found))
literals_again cut id hints numbers (z ∷ literals) found each =
    let rest = map signed_decimal literals ++ (48 ∷ []) ∷ number_words hints in
    let e = literal_again z each.0 in
    ap (λ b. cond b (as_lemma id found (numbers_after cut 12 [] rest)) (at_literal (λ literal. lemma_after cut id (found ++ literal ∷ []) rest) (literal_of MOST_VARIABLE (signed_decimal z)))) (literal_not_zero MOST_VARIABLE z (signed_decimal z) e)
    ∙ ap (at_literal (λ literal. lemma_after cut id (found ++ literal ∷ []) rest)) e
    ∙ literals_again cut id hints numbers literals (found ++ z ∷ []) each.1 ∙ ap (λ clause. Ok (Lemma id clause hints)) (simp append_assoc)
