-- The reading of words, against the grammar of a line by whole lists of words.
use Rattle.std.proofs.Common.{◌≡◌, ◌≢◌, ◌↔◌, ◌⊎◌, ℕ, ℤ, ◌<◌, Bool, true, false, cond, ◌||◌, eqb, List, [], ◌∷◌, ◌++◌, Option, Some, None, is_some, Result, Ok, Err, refl, sym, ap, ◌∙◌, subst, arith, inl, inr, append_assoc}
use Rattle.std.specs.List.{list_any}
use Rattle.std.proofs.lemmas.Bool.{eqb-true, or_right}
use Rattle.std.proofs.lemmas.List.{append-nil}
use Rattle.base_words.specs.Words.{number_after, up_to, positive_of, literal_of, as_literal, is_zero}
use Rattle.sat_lrat.specs.declared.TheConstants.{MOST_NUMBER, MOST_VARIABLE}
use Rattle.sat_lrat.specs.declared.line.Line.{Line}
use Rattle.sat_lrat.specs.declared.line.Line.TheVariants.{Lemma, Delete}
use Rattle.sat_lrat.specs.Text.{short, is_negative, is_deletion, alone, at_number, numbers_after, as_lemma, as_deletion, at_literal, lemma_after, body_of, at_id, line_of}
use Rattle.sat_laws.specs.Right.{SpellNumbers, SpellLiterals, ended_by_zero, IsLemmaLine, IsDeletionLine, IsRight, IsProperPrefix, HasNegativeHint, IsCutOff}

abbrev Word : Type 0
Word = List ℕ

-- ---- words

zero_is : (word : Word) → is_zero word ≡ true → word ≡ 48 ∷ []
zero_is [] e = cc
zero_is (byte ∷ []) e = ap (λ b. b ∷ []) (eqb-true byte 48 e)
zero_is (byte ∷ other ∷ bytes) e = cc

deletion_is : (word : Word) → is_deletion word ≡ true → word ≡ 100 ∷ []
deletion_is [] e = cc
deletion_is (byte ∷ []) e = ap (λ b. b ∷ []) (eqb-true byte 100 e)
deletion_is (byte ∷ other ∷ bytes) e = cc

number_not_zero : (limit n : ℕ) (word : Word) → positive_of limit word ≡ Some n → is_zero word ≡ false
number_not_zero limit n [] e = refl
number_not_zero limit n (byte ∷ []) e = by_test (eqb byte 48) e
  where
    by_test : (b : Bool) → cond b None (up_to limit (number_after 0 (byte ∷ []))) ≡ Some n → b ≡ false
    by_test true e = cc
    by_test false e = refl
number_not_zero limit n (byte ∷ other ∷ bytes) e = refl

literal_not_zero : (limit : ℕ) (z : ℤ) (word : Word) → literal_of limit word ≡ Some z → is_zero word ≡ false
literal_not_zero limit z [] e = refl
literal_not_zero limit z (byte ∷ []) e = by_test (eqb byte 45) (eqb byte 48) e
  where
    by_test : (a b : Bool) → cond a (as_literal true (positive_of limit [])) (as_literal false (cond b None (up_to limit (number_after 0 (byte ∷ []))))) ≡ Some z → b ≡ false
    by_test true true e = cc
    by_test true false e = refl
    by_test false true e = cc
    by_test false false e = refl
literal_not_zero limit z (byte ∷ other ∷ bytes) e = refl

d_is_no_literal : (limit : ℕ) → literal_of limit (100 ∷ []) ≡ None
unfolding number_after
d_is_no_literal limit = refl

literal_not_deletion : (limit : ℕ) (z : ℤ) (word : Word) → literal_of limit word ≡ Some z → is_deletion word ≡ false
literal_not_deletion limit z word e = by_test (is_deletion word) refl
  where
    by_test : (b : Bool) → is_deletion word ≡ b → b ≡ false
    by_test true d = let bad : None ≡ Some z = sym (d_is_no_literal limit) ∙ sym (ap (literal_of limit) (deletion_is word d)) ∙ e in cc
    by_test false d = refl

minus_is_no_number : (limit : ℕ) (bytes : Word) → positive_of limit (45 ∷ bytes) ≡ None
unfolding number_after
minus_is_no_number limit bytes = refl

negative_is_no_number : (limit : ℕ) (word : Word) → is_negative word ≡ true → positive_of limit word ≡ None
negative_is_no_number limit [] e = cc
negative_is_no_number limit (byte ∷ bytes) e = by_test (eqb byte 45) refl e
  where
    by_test : (b : Bool) → eqb byte 45 ≡ b → cond b (is_some (positive_of MOST_NUMBER bytes)) false ≡ true → positive_of limit (byte ∷ bytes) ≡ None
    by_test true t e = ap (λ c. positive_of limit (c ∷ bytes)) (eqb-true byte 45 t) ∙ minus_is_no_number limit bytes
    by_test false t e = cc

negative_not_zero : (word : Word) → is_negative word ≡ true → is_zero word ≡ false
negative_not_zero [] e = cc
negative_not_zero (byte ∷ []) e = by_test (eqb byte 48) refl
  where
    by_test : (b : Bool) → eqb byte 48 ≡ b → b ≡ false
    by_test true t = let bad : is_negative (48 ∷ []) ≡ true = subst (λ c. is_negative (c ∷ []) ≡ true) (eqb-true byte 48 t) e in cc
    by_test false t = refl
negative_not_zero (byte ∷ other ∷ bytes) e = refl

-- ---- numbers, one step

numbers_step : (cut : Bool) (minus n : ℕ) (found : List ℕ) (w : Word) (ws : List Word) → positive_of MOST_NUMBER w ≡ Some n
    → numbers_after cut minus found (w ∷ ws) ≡ numbers_after cut minus (found ++ n ∷ []) ws
numbers_step cut minus n found w ws e =
    ap (λ b. cond b (alone found ws) (at_number minus w (λ number. numbers_after cut minus (found ++ number ∷ []) ws) (positive_of MOST_NUMBER w))) (number_not_zero MOST_NUMBER n w e)
    ∙ ap (at_number minus w (λ number. numbers_after cut minus (found ++ number ∷ []) ws)) e

numbers_zero : (cut : Bool) (minus : ℕ) (found : List ℕ) (ws : List Word) → numbers_after cut minus found ((48 ∷ []) ∷ ws) ≡ alone found ws
numbers_zero cut minus found ws = refl

numbers_bad : (cut : Bool) (minus : ℕ) (found : List ℕ) (w : Word) (ws : List Word) → is_negative w ≡ true → numbers_after cut minus found (w ∷ ws) ≡ Err minus
numbers_bad cut minus found w ws neg =
    ap (λ b. cond b (alone found ws) (at_number minus w (λ number. numbers_after cut minus (found ++ number ∷ []) ws) (positive_of MOST_NUMBER w))) (negative_not_zero w neg)
    ∙ ap (at_number minus w (λ number. numbers_after cut minus (found ++ number ∷ []) ws)) (negative_is_no_number MOST_NUMBER w neg)
    ∙ ap (λ b. Err (cond b minus 11)) neg

-- ---- from the grammar to the reading

pub numbers_right : (cut : Bool) (minus : ℕ) (ns : List Word) (numbers found : List ℕ) → SpellNumbers ns numbers → numbers_after cut minus found (ns ++ (48 ∷ []) ∷ []) ≡ Ok (found ++ numbers)
numbers_right cut minus [] [] found each = ap Ok (sym (append-nil found))
numbers_right cut minus [] (n ∷ numbers) found each = absurd each
numbers_right cut minus (w ∷ ns) [] found each = absurd each
numbers_right cut minus (w ∷ ns) (n ∷ numbers) found each =
    numbers_step cut minus n found w (ns ++ (48 ∷ []) ∷ []) each.0 ∙ numbers_right cut minus ns numbers (found ++ n ∷ []) each.1 ∙ ap Ok (append_assoc found (n ∷ []) numbers)

-- numbers and 0, cut off
numbers_cut : (minus : ℕ) (ws ns : List Word) (numbers found : List ℕ) (next : Word) (rest : List Word) → SpellNumbers ns numbers → ns ++ (48 ∷ []) ∷ [] ≡ ws ++ next ∷ rest
    → numbers_after true minus found ws ≡ Err 13
numbers_cut minus [] ns numbers found next rest each e = refl
numbers_cut minus (w ∷ []) [] numbers found next rest each e = cc
numbers_cut minus (w ∷ v ∷ ws) [] numbers found next rest each e = cc
numbers_cut minus (w ∷ ws) (v ∷ ns) [] found next rest each e = absurd each
numbers_cut minus (w ∷ ws) (v ∷ ns) (n ∷ numbers) found next rest each e =
    let head : v ≡ w = cc in
    let tail : ns ++ (48 ∷ []) ∷ [] ≡ ws ++ next ∷ rest = cc in
    numbers_step true minus n found w ws (ap (positive_of MOST_NUMBER) (sym head) ∙ each.0) ∙ numbers_cut minus ws ns numbers (found ++ n ∷ []) next rest each.1 tail

-- numbers and 0, with a negative number in place of a word
numbers_negative : (cut : Bool) (minus : ℕ) (ws ns : List Word) (numbers found : List ℕ) (next word : Word) (rest back : List Word) → SpellNumbers ns numbers → ns ++ (48 ∷ []) ∷ [] ≡ ws ++ next ∷ rest → is_negative word ≡ true
    → numbers_after cut minus found (ws ++ word ∷ back) ≡ Err minus
numbers_negative cut minus [] ns numbers found next word rest back each e neg = numbers_bad cut minus found word back neg
numbers_negative cut minus (w ∷ []) [] numbers found next word rest back each e neg = cc
numbers_negative cut minus (w ∷ v ∷ ws) [] numbers found next word rest back each e neg = cc
numbers_negative cut minus (w ∷ ws) (v ∷ ns) [] found next word rest back each e neg = absurd each
numbers_negative cut minus (w ∷ ws) (v ∷ ns) (n ∷ numbers) found next word rest back each e neg =
    let head : v ≡ w = cc in
    let tail : ns ++ (48 ∷ []) ∷ [] ≡ ws ++ next ∷ rest = cc in
    numbers_step cut minus n found w (ws ++ word ∷ back) (ap (positive_of MOST_NUMBER) (sym head) ∙ each.0)
    ∙ numbers_negative cut minus ws ns numbers (found ++ n ∷ []) next word rest back each.1 tail neg

-- ---- lemmas

literal_step : (cut : Bool) (id : ℕ) (z : ℤ) (found : List ℤ) (w : Word) (ws : List Word) → literal_of MOST_VARIABLE w ≡ Some z
    → lemma_after cut id found (w ∷ ws) ≡ lemma_after cut id (found ++ z ∷ []) ws
literal_step cut id z found w ws e =
    ap (λ b. cond b (as_lemma id found (numbers_after cut 12 [] ws)) (at_literal (λ literal. lemma_after cut id (found ++ literal ∷ []) ws) (literal_of MOST_VARIABLE w))) (literal_not_zero MOST_VARIABLE z w e)
    ∙ ap (at_literal (λ literal. lemma_after cut id (found ++ literal ∷ []) ws)) e

lemma_right : (cut : Bool) (id : ℕ) (ls ns : List Word) (clause found : List ℤ) (hints : List ℕ) → SpellLiterals ls clause → SpellNumbers ns hints
    → lemma_after cut id found (ls ++ (48 ∷ []) ∷ ended_by_zero ns) ≡ Ok (Lemma id (found ++ clause) hints)
lemma_right cut id [] ns [] found hints each numbers = ap (as_lemma id found) (numbers_right cut 12 ns hints [] numbers) ∙ ap (λ c. Ok (Lemma id c hints)) (sym (append-nil found))
lemma_right cut id [] ns (z ∷ clause) found hints each numbers = absurd each
lemma_right cut id (w ∷ ls) ns [] found hints each numbers = absurd each
lemma_right cut id (w ∷ ls) ns (z ∷ clause) found hints each numbers =
    literal_step cut id z found w (ls ++ (48 ∷ []) ∷ ended_by_zero ns) each.0 ∙ lemma_right cut id ls ns clause (found ++ z ∷ []) hints each.1 numbers
    ∙ ap (λ c. Ok (Lemma id c hints)) (append_assoc found (z ∷ []) clause)

lemma_cut : (id : ℕ) (ws ls ns : List Word) (clause found : List ℤ) (hints : List ℕ) (next : Word) (rest : List Word) → SpellLiterals ls clause → SpellNumbers ns hints
    → ls ++ (48 ∷ []) ∷ ended_by_zero ns ≡ ws ++ next ∷ rest → lemma_after true id found ws ≡ Err 13
lemma_cut id [] ls ns clause found hints next rest each numbers e = refl
lemma_cut id (w ∷ ws) [] ns clause found hints next rest each numbers e =
    let head : 48 ∷ [] ≡ w = cc in
    let tail : ended_by_zero ns ≡ ws ++ next ∷ rest = cc in
    ap (λ v. lemma_after true id found (v ∷ ws)) (sym head) ∙ ap (as_lemma id found) (numbers_cut 12 ws ns hints [] next rest numbers tail)
lemma_cut id (w ∷ ws) (v ∷ ls) ns [] found hints next rest each numbers e = absurd each
lemma_cut id (w ∷ ws) (v ∷ ls) ns (z ∷ clause) found hints next rest each numbers e =
    let head : v ≡ w = cc in
    let tail : ls ++ (48 ∷ []) ∷ ended_by_zero ns ≡ ws ++ next ∷ rest = cc in
    literal_step true id z found w ws (ap (literal_of MOST_VARIABLE) (sym head) ∙ each.0) ∙ lemma_cut id ws ls ns clause (found ++ z ∷ []) hints next rest each.1 numbers tail

lemma_negative : (cut : Bool) (id : ℕ) (ws ls ns : List Word) (clause found : List ℤ) (hints : List ℕ) (next word : Word) (rest back : List Word) → SpellLiterals ls clause → SpellNumbers ns hints
    → ls ++ (48 ∷ []) ∷ ended_by_zero ns ≡ ws ++ next ∷ rest → list_any is_zero ws ≡ true → is_negative word ≡ true → lemma_after cut id found (ws ++ word ∷ back) ≡ Err 12
lemma_negative cut id [] ls ns clause found hints next word rest back each numbers e zero neg = cc
lemma_negative cut id (w ∷ ws) [] ns clause found hints next word rest back each numbers e zero neg =
    let head : 48 ∷ [] ≡ w = cc in
    let tail : ended_by_zero ns ≡ ws ++ next ∷ rest = cc in
    ap (λ v. lemma_after cut id found (v ∷ (ws ++ word ∷ back))) (sym head) ∙ ap (as_lemma id found) (numbers_negative cut 12 ws ns hints [] next word rest back numbers tail neg)
lemma_negative cut id (w ∷ ws) (v ∷ ls) ns [] found hints next word rest back each numbers e zero neg = absurd each
lemma_negative cut id (w ∷ ws) (v ∷ ls) ns (z ∷ clause) found hints next word rest back each numbers e zero neg =
    let head : v ≡ w = cc in
    let tail : ls ++ (48 ∷ []) ∷ ended_by_zero ns ≡ ws ++ next ∷ rest = cc in
    let is : literal_of MOST_VARIABLE w ≡ Some z = ap (literal_of MOST_VARIABLE) (sym head) ∙ each.0 in
    let later : list_any is_zero ws ≡ true = sym (ap (λ b. b || list_any is_zero ws) (literal_not_zero MOST_VARIABLE z w is)) ∙ zero in
    literal_step cut id z found w (ws ++ word ∷ back) is ∙ lemma_negative cut id ws ls ns clause (found ++ z ∷ []) hints next word rest back each.1 numbers tail later neg

-- ---- lines

first_step : (cut : Bool) (id : ℕ) (first : Word) (ws : List Word) → positive_of MOST_NUMBER first ≡ Some id → line_of cut (first ∷ ws) ≡ body_of cut id ws
first_step cut id first ws e = ap (at_id (λ n. body_of cut n ws)) e

-- a word that isn't the letter d begins a lemma
body_step : (cut : Bool) (id : ℕ) (w : Word) (ws : List Word) → is_deletion w ≡ false → body_of cut id (w ∷ ws) ≡ lemma_after cut id [] (w ∷ ws)
body_step cut id w ws e = ap (λ b. cond b (as_deletion (numbers_after cut 11 [] ws)) (lemma_after cut id [] (w ∷ ws))) e

body_lemma : (cut : Bool) (id : ℕ) (ls : List Word) (clause : List ℤ) (tail : List Word) → SpellLiterals ls clause → body_of cut id (ls ++ (48 ∷ []) ∷ tail) ≡ lemma_after cut id [] (ls ++ (48 ∷ []) ∷ tail)
body_lemma cut id [] clause tail each = refl
body_lemma cut id (w ∷ ls) [] tail each = absurd each
body_lemma cut id (w ∷ ls) (z ∷ clause) tail each = body_step cut id w (ls ++ (48 ∷ []) ∷ tail) (literal_not_deletion MOST_VARIABLE z w each.0)

pub right_read : (cut : Bool) (words : List Word) (line : Line) → IsRight words line → line_of cut words ≡ Ok line
right_read cut words (Lemma id clause hints) r =
    ap (line_of cut) r.words_are ∙ first_step cut id r.first (r.literals ++ (48 ∷ []) ∷ ended_by_zero r.numbers) r.first_is
    ∙ body_lemma cut id r.literals clause (ended_by_zero r.numbers) r.literals_are ∙ lemma_right cut id r.literals r.numbers clause [] hints r.literals_are r.numbers_are
right_read cut words (Delete ids) r =
    ap (line_of cut) r.words_are ∙ first_step cut r.id r.first ((100 ∷ []) ∷ ended_by_zero r.numbers) r.first_is
    ∙ ap as_deletion (numbers_right cut 11 r.numbers ids [] r.numbers_are)

-- a front of a lemma's body isn't empty before its first 0, and begins no deletion
front_step : (cut : Bool) (id : ℕ) (ws ls tail : List Word) (clause : List ℤ) (next : Word) (rest : List Word) (w : Word) → SpellLiterals ls clause → ls ++ (48 ∷ []) ∷ tail ≡ w ∷ (ws ++ next ∷ rest) → is_deletion w ≡ false
front_step cut id ws [] tail clause next rest w each e = let head : 48 ∷ [] ≡ w = cc in ap is_deletion (sym head)
front_step cut id ws (v ∷ ls) tail [] next rest w each e = absurd each
front_step cut id ws (v ∷ ls) tail (z ∷ clause) next rest w each e = let head : v ≡ w = cc in literal_not_deletion MOST_VARIABLE z w (ap (literal_of MOST_VARIABLE) (sym head) ∙ each.0)

pub negative_read : (cut : Bool) (words : List Word) → HasNegativeHint words → line_of cut words ≡ Err 12
negative_read cut words h = ap (line_of cut) h.words_are ∙ by_front h.front (sym h.right.words_are ∙ h.prefix.whole_is) h.zero
  where
    by_rest : (ws : List Word) → h.right.literals ++ (48 ∷ []) ∷ ended_by_zero h.right.numbers ≡ ws ++ h.prefix.next ∷ h.prefix.rest → list_any is_zero ws ≡ true → body_of cut h.id (ws ++ h.word ∷ h.back) ≡ Err 12
    by_rest [] e zero = cc
    by_rest (w ∷ ws) e zero =
        body_step cut h.id w (ws ++ h.word ∷ h.back) (front_step cut h.id ws h.right.literals (ended_by_zero h.right.numbers) h.clause h.prefix.next h.prefix.rest w h.right.literals_are e)
        ∙ lemma_negative cut h.id (w ∷ ws) h.right.literals h.right.numbers h.clause [] h.hints h.prefix.next h.word h.prefix.rest h.back h.right.literals_are h.right.numbers_are e zero h.negative

    by_front : (front : List Word) → h.right.first ∷ (h.right.literals ++ (48 ∷ []) ∷ ended_by_zero h.right.numbers) ≡ front ++ h.prefix.next ∷ h.prefix.rest → list_any is_zero front ≡ true → line_of cut (front ++ h.word ∷ h.back) ≡ Err 12
    by_front [] e zero = cc
    by_front (w ∷ ws) e zero =
        let head : h.right.first ≡ w = cc in
        let tail : h.right.literals ++ (48 ∷ []) ∷ ended_by_zero h.right.numbers ≡ ws ++ h.prefix.next ∷ h.prefix.rest = cc in
        let is : positive_of MOST_NUMBER w ≡ Some h.id = ap (positive_of MOST_NUMBER) (sym head) ∙ h.right.first_is in
        let later : list_any is_zero ws ≡ true = sym (ap (λ b. b || list_any is_zero ws) (number_not_zero MOST_NUMBER h.id w is)) ∙ zero in
        first_step cut h.id w (ws ++ h.word ∷ h.back) is ∙ by_rest ws tail later

lemma_line_cut : (words whole : List Word) (id : ℕ) (clause : List ℤ) (hints : List ℕ) → IsLemmaLine whole id clause hints → IsProperPrefix words whole → line_of true words ≡ Err 13
lemma_line_cut [] whole id clause hints r p = refl
lemma_line_cut (w ∷ ws) whole id clause hints r p =
    let both : r.first ∷ (r.literals ++ (48 ∷ []) ∷ ended_by_zero r.numbers) ≡ w ∷ (ws ++ p.next ∷ p.rest) = sym r.words_are ∙ p.whole_is in
    let head : r.first ≡ w = cc in
    let tail : r.literals ++ (48 ∷ []) ∷ ended_by_zero r.numbers ≡ ws ++ p.next ∷ p.rest = cc in
    first_step true id w ws (ap (positive_of MOST_NUMBER) (sym head) ∙ r.first_is) ∙ by_rest ws tail
  where
    by_rest : (ws : List Word) → r.literals ++ (48 ∷ []) ∷ ended_by_zero r.numbers ≡ ws ++ p.next ∷ p.rest → body_of true id ws ≡ Err 13
    by_rest [] e = refl
    by_rest (v ∷ vs) e =
        body_step true id v vs (front_step true id vs r.literals (ended_by_zero r.numbers) clause p.next p.rest v r.literals_are e)
        ∙ lemma_cut id (v ∷ vs) r.literals r.numbers clause [] hints p.next p.rest r.literals_are r.numbers_are e

deletion_line_cut : (words whole : List Word) (ids : List ℕ) → IsDeletionLine whole ids → IsProperPrefix words whole → line_of true words ≡ Err 13
deletion_line_cut [] whole ids r p = refl
deletion_line_cut (w ∷ ws) whole ids r p =
    let both : r.first ∷ (100 ∷ []) ∷ ended_by_zero r.numbers ≡ w ∷ (ws ++ p.next ∷ p.rest) = sym r.words_are ∙ p.whole_is in
    let head : r.first ≡ w = cc in
    let tail : (100 ∷ []) ∷ ended_by_zero r.numbers ≡ ws ++ p.next ∷ p.rest = cc in
    first_step true r.id w ws (ap (positive_of MOST_NUMBER) (sym head) ∙ r.first_is) ∙ by_rest ws tail
  where
    by_rest : (ws : List Word) → (100 ∷ []) ∷ ended_by_zero r.numbers ≡ ws ++ p.next ∷ p.rest → body_of true r.id ws ≡ Err 13
    by_rest [] e = refl
    by_rest (v ∷ vs) e =
        let head : 100 ∷ [] ≡ v = cc in
        let tail : ended_by_zero r.numbers ≡ vs ++ p.next ∷ p.rest = cc in
        ap (λ u. body_of true r.id (u ∷ vs)) (sym head) ∙ ap as_deletion (numbers_cut 11 vs r.numbers ids [] p.next p.rest r.numbers_are tail)

pub cut_read : (words : List Word) → IsCutOff words → line_of true words ≡ Err 13
cut_read words h = by_line h.line h.right
  where
    by_line : (line : Line) → IsRight h.whole line → line_of true words ≡ Err 13
    by_line (Lemma id clause hints) r = lemma_line_cut words h.whole id clause hints r h.prefix
    by_line (Delete ids) r = deletion_line_cut words h.whole ids r h.prefix

-- ---- from the reading to the grammar

data NumbersSay (cut : Bool) (minus : ℕ) (found : List ℕ) (ws : List Word) (answer : Result (List ℕ) ℕ) : Type 0 where
  right : (ns : List Word) (numbers : List ℕ) → SpellNumbers ns numbers → ws ≡ ns ++ (48 ∷ []) ∷ [] → answer ≡ Ok (found ++ numbers) → NumbersSay cut minus found ws answer
  cut_off : (numbers : List ℕ) → SpellNumbers ws numbers → answer ≡ Err (short cut) → NumbersSay cut minus found ws answer
  negative : (ns : List Word) (numbers : List ℕ) (word : Word) (back : List Word) → SpellNumbers ns numbers → is_negative word ≡ true → ws ≡ ns ++ word ∷ back → answer ≡ Err minus → NumbersSay cut minus found ws answer
  other : answer ≡ Err 11 → NumbersSay cut minus found ws answer

numbers_more : (cut : Bool) (minus n : ℕ) (found : List ℕ) (w : Word) (ws : List Word) (answer : Result (List ℕ) ℕ) → positive_of MOST_NUMBER w ≡ Some n → NumbersSay cut minus (found ++ n ∷ []) ws answer → NumbersSay cut minus found (w ∷ ws) answer
numbers_more cut minus n found w ws answer e (right ns numbers each is says) = right (w ∷ ns) (n ∷ numbers) (e, each) (ap (λ vs. w ∷ vs) is) (says ∙ ap Ok (append_assoc found (n ∷ []) numbers))
numbers_more cut minus n found w ws answer e (cut_off numbers each says) = cut_off (n ∷ numbers) (e, each) says
numbers_more cut minus n found w ws answer e (negative ns numbers word back each neg is says) = negative (w ∷ ns) (n ∷ numbers) word back (e, each) neg (ap (λ vs. w ∷ vs) is) says
numbers_more cut minus n found w ws answer e (other says) = other says

numbers_end : (cut : Bool) (minus : ℕ) (found : List ℕ) (w : Word) (ws : List Word) → is_zero w ≡ true → NumbersSay cut minus found (w ∷ ws) (alone found ws)
numbers_end cut minus found w [] z = right [] [] tt (ap (λ v. v ∷ []) (zero_is w z)) (ap Ok (sym (append-nil found)))
numbers_end cut minus found w (v ∷ ws) z = other refl

numbers_stop : (cut : Bool) (minus : ℕ) (found : List ℕ) (w : Word) (ws : List Word) (b : Bool) → is_negative w ≡ b → NumbersSay cut minus found (w ∷ ws) (Err (cond b minus 11))
numbers_stop cut minus found w ws true neg = negative [] [] w ws tt neg refl refl
numbers_stop cut minus found w ws false neg = other refl

numbers_say : (cut : Bool) (minus : ℕ) (ws : List Word) (found : List ℕ) → NumbersSay cut minus found ws (numbers_after cut minus found ws)
numbers_say cut minus [] found = cut_off [] tt refl
numbers_say cut minus (w ∷ ws) found = by_zero (is_zero w) refl (λ n. numbers_say cut minus ws (found ++ n ∷ []))
  where
    by_number : (o : Option ℕ) → positive_of MOST_NUMBER w ≡ o → ((n : ℕ) → NumbersSay cut minus (found ++ n ∷ []) ws (numbers_after cut minus (found ++ n ∷ []) ws))
        → NumbersSay cut minus found (w ∷ ws) (at_number minus w (λ number. numbers_after cut minus (found ++ number ∷ []) ws) o)
    by_number None e more = numbers_stop cut minus found w ws (is_negative w) refl
    by_number (Some n) e more = numbers_more cut minus n found w ws (numbers_after cut minus (found ++ n ∷ []) ws) e (more n)

    by_zero : (b : Bool) → is_zero w ≡ b → ((n : ℕ) → NumbersSay cut minus (found ++ n ∷ []) ws (numbers_after cut minus (found ++ n ∷ []) ws))
        → NumbersSay cut minus found (w ∷ ws) (cond b (alone found ws) (at_number minus w (λ number. numbers_after cut minus (found ++ number ∷ []) ws) (positive_of MOST_NUMBER w)))
    by_zero true z more = numbers_end cut minus found w ws z
    by_zero false z more = by_number (positive_of MOST_NUMBER w) refl more

data LemmaSay (cut : Bool) (id : ℕ) (found : List ℤ) (ws : List Word) (answer : Result Line ℕ) : Type 0 where
  right : (ls ns : List Word) (clause : List ℤ) (hints : List ℕ) → SpellLiterals ls clause → SpellNumbers ns hints → ws ≡ ls ++ (48 ∷ []) ∷ ended_by_zero ns → answer ≡ Ok (Lemma id (found ++ clause) hints)
      → LemmaSay cut id found ws answer
  cut_before : (clause : List ℤ) → SpellLiterals ws clause → answer ≡ Err (short cut) → LemmaSay cut id found ws answer
  cut_behind : (ls ns : List Word) (clause : List ℤ) (hints : List ℕ) → SpellLiterals ls clause → SpellNumbers ns hints → ws ≡ ls ++ (48 ∷ []) ∷ ns → answer ≡ Err (short cut) → LemmaSay cut id found ws answer
  negative : (ls ns : List Word) (clause : List ℤ) (hints : List ℕ) (word : Word) (back : List Word) → SpellLiterals ls clause → SpellNumbers ns hints → is_negative word ≡ true → ws ≡ ls ++ (48 ∷ []) ∷ (ns ++ word ∷ back)
      → answer ≡ Err 12 → LemmaSay cut id found ws answer
  other : answer ≡ Err 11 → LemmaSay cut id found ws answer

lemma_more : (cut : Bool) (id : ℕ) (z : ℤ) (found : List ℤ) (w : Word) (ws : List Word) (answer : Result Line ℕ) → literal_of MOST_VARIABLE w ≡ Some z → LemmaSay cut id (found ++ z ∷ []) ws answer → LemmaSay cut id found (w ∷ ws) answer
lemma_more cut id z found w ws answer e (right ls ns clause hints each numbers is says) =
    right (w ∷ ls) ns (z ∷ clause) hints (e, each) numbers (ap (λ vs. w ∷ vs) is) (says ∙ ap (λ c. Ok (Lemma id c hints)) (append_assoc found (z ∷ []) clause))
lemma_more cut id z found w ws answer e (cut_before clause each says) = cut_before (z ∷ clause) (e, each) says
lemma_more cut id z found w ws answer e (cut_behind ls ns clause hints each numbers is says) = cut_behind (w ∷ ls) ns (z ∷ clause) hints (e, each) numbers (ap (λ vs. w ∷ vs) is) says
lemma_more cut id z found w ws answer e (negative ls ns clause hints word back each numbers neg is says) = negative (w ∷ ls) ns (z ∷ clause) hints word back (e, each) numbers neg (ap (λ vs. w ∷ vs) is) says
lemma_more cut id z found w ws answer e (other says) = other says

-- the hints behind the first 0
lemma_hints : (cut : Bool) (id : ℕ) (found : List ℤ) (w : Word) (ws : List Word) (answer : Result (List ℕ) ℕ) → is_zero w ≡ true → NumbersSay cut 12 [] ws answer → LemmaSay cut id found (w ∷ ws) (as_lemma id found answer)
lemma_hints cut id found w ws answer z (right ns numbers each is says) =
    right [] ns [] numbers tt each (ap (λ v. v ∷ ws) (zero_is w z) ∙ ap (λ vs. (48 ∷ []) ∷ vs) is) (ap (as_lemma id found) says ∙ ap (λ c. Ok (Lemma id c numbers)) (sym (append-nil found)))
lemma_hints cut id found w ws answer z (cut_off numbers each says) = cut_behind [] ws [] numbers tt each (ap (λ v. v ∷ ws) (zero_is w z)) (ap (as_lemma id found) says)
lemma_hints cut id found w ws answer z (negative ns numbers word back each neg is says) =
    negative [] ns [] numbers word back tt each neg (ap (λ v. v ∷ ws) (zero_is w z) ∙ ap (λ vs. (48 ∷ []) ∷ vs) is) (ap (as_lemma id found) says)
lemma_hints cut id found w ws answer z (other says) = other (ap (as_lemma id found) says)

lemma_say : (cut : Bool) (id : ℕ) (ws : List Word) (found : List ℤ) → LemmaSay cut id found ws (lemma_after cut id found ws)
lemma_say cut id [] found = cut_before [] tt refl
lemma_say cut id (w ∷ ws) found = by_zero (is_zero w) refl (λ z. lemma_say cut id ws (found ++ z ∷ []))
  where
    by_literal : (o : Option ℤ) → literal_of MOST_VARIABLE w ≡ o → ((z : ℤ) → LemmaSay cut id (found ++ z ∷ []) ws (lemma_after cut id (found ++ z ∷ []) ws))
        → LemmaSay cut id found (w ∷ ws) (at_literal (λ literal. lemma_after cut id (found ++ literal ∷ []) ws) o)
    by_literal None e more = other refl
    by_literal (Some z) e more = lemma_more cut id z found w ws (lemma_after cut id (found ++ z ∷ []) ws) e (more z)

    by_zero : (b : Bool) → is_zero w ≡ b → ((z : ℤ) → LemmaSay cut id (found ++ z ∷ []) ws (lemma_after cut id (found ++ z ∷ []) ws))
        → LemmaSay cut id found (w ∷ ws) (cond b (as_lemma id found (numbers_after cut 12 [] ws)) (at_literal (λ literal. lemma_after cut id (found ++ literal ∷ []) ws) (literal_of MOST_VARIABLE w)))
    by_zero true zero_word more = lemma_hints cut id found w ws (numbers_after cut 12 [] ws) zero_word (numbers_say cut 12 ws [])
    by_zero false zero_word more = by_literal (literal_of MOST_VARIABLE w) refl more

data LineSay (cut : Bool) (ws : List Word) (answer : Result Line ℕ) : Type 0 where
  right : (line : Line) → IsRight ws line → answer ≡ Ok line → LineSay cut ws answer
  cut_off : IsCutOff ws → answer ≡ Err (short cut) → LineSay cut ws answer
  negative : HasNegativeHint ws → answer ≡ Err 12 → LineSay cut ws answer
  other : answer ≡ Err 11 → LineSay cut ws answer

any_behind : (ls ns : List Word) → list_any is_zero (ls ++ (48 ∷ []) ∷ ns) ≡ true
any_behind [] ns = refl
any_behind (w ∷ ls) ns = or_right (is_zero w) (list_any is_zero (ls ++ (48 ∷ []) ∷ ns)) (any_behind ls ns)

-- the lemma line of words, and a front of it
line_of_words : (first : Word) (id : ℕ) (ls ns : List Word) (clause : List ℤ) (hints : List ℕ) → positive_of MOST_NUMBER first ≡ Some id → SpellLiterals ls clause → SpellNumbers ns hints
    → IsLemmaLine (first ∷ (ls ++ (48 ∷ []) ∷ ended_by_zero ns)) id clause hints
line_of_words first id ls ns clause hints e each numbers = record { first = first; literals = ls; numbers = ns; first_is = e; literals_are = each; numbers_are = numbers; words_are = refl }

front_of_words : (first : Word) (ls ns : List Word) → IsProperPrefix (first ∷ (ls ++ (48 ∷ []) ∷ ns)) (first ∷ (ls ++ (48 ∷ []) ∷ ended_by_zero ns))
front_of_words first ls ns = record { next = 48 ∷ []; rest = []; whole_is = ap (λ vs. first ∷ vs) (sym (append_assoc ls ((48 ∷ []) ∷ ns) ((48 ∷ []) ∷ []))) }

one_is : positive_of MOST_NUMBER (49 ∷ []) ≡ Some 1
unfolding number_after
one_is = refl

no_words : IsCutOff []
no_words = record { whole = (49 ∷ []) ∷ (48 ∷ []) ∷ (48 ∷ []) ∷ []; line = Lemma 1 [] []; right = line_of_words (49 ∷ []) 1 [] [] [] [] one_is tt tt; prefix = record { next = 49 ∷ []; rest = (48 ∷ []) ∷ (48 ∷ []) ∷ []; whole_is = refl } }

-- a lemma behind its number
lemma_line : (cut : Bool) (id : ℕ) (first : Word) (ws : List Word) (answer : Result Line ℕ) → positive_of MOST_NUMBER first ≡ Some id → LemmaSay cut id [] ws answer → LineSay cut (first ∷ ws) answer
lemma_line cut id first ws answer e (right ls ns clause hints each numbers is says) =
    right (Lemma id clause hints) (subst (λ vs. IsLemmaLine (first ∷ vs) id clause hints) (sym is) (line_of_words first id ls ns clause hints e each numbers)) says
lemma_line cut id first ws answer e (cut_before clause each says) =
    cut_off (record { whole = first ∷ (ws ++ (48 ∷ []) ∷ (48 ∷ []) ∷ []); line = Lemma id clause []; right = line_of_words first id ws [] clause [] e each tt; prefix = record { next = 48 ∷ []; rest = (48 ∷ []) ∷ []; whole_is = refl } }) says
lemma_line cut id first ws answer e (cut_behind ls ns clause hints each numbers is says) =
    cut_off (subst (λ vs. IsCutOff (first ∷ vs)) (sym is)
    (record { whole = first ∷ (ls ++ (48 ∷ []) ∷ ended_by_zero ns); line = Lemma id clause hints; right = line_of_words first id ls ns clause hints e each numbers; prefix = front_of_words first ls ns })) says
lemma_line cut id first ws answer e (negative ls ns clause hints word back each numbers neg is says) =
    negative (record {
      front = first ∷ (ls ++ (48 ∷ []) ∷ ns);
      word = word;
      back = back;
      whole = first ∷ (ls ++ (48 ∷ []) ∷ ended_by_zero ns);
      id = id;
      clause = clause;
      hints = hints;
      words_are = ap (λ vs. first ∷ vs) (is ∙ sym (append_assoc ls ((48 ∷ []) ∷ ns) (word ∷ back)));
      negative = neg;
      right = line_of_words first id ls ns clause hints e each numbers;
      prefix = front_of_words first ls ns;
      zero = or_right (is_zero first) (list_any is_zero (ls ++ (48 ∷ []) ∷ ns)) (any_behind ls ns);
    }) says
lemma_line cut id first ws answer e (other says) = other says

-- a deletion behind its number and the letter d
deletion_line : (cut : Bool) (id : ℕ) (first w : Word) (ws : List Word) (answer : Result (List ℕ) ℕ) → positive_of MOST_NUMBER first ≡ Some id → is_deletion w ≡ true → NumbersSay cut 11 [] ws answer
    → LineSay cut (first ∷ w ∷ ws) (as_deletion answer)
deletion_line cut id first w ws answer e d (right ns numbers each is says) =
    right (Delete numbers) (record { first = first; id = id; numbers = ns; first_is = e; numbers_are = each; words_are = ap (λ v. first ∷ v ∷ ws) (deletion_is w d) ∙ ap (λ vs. first ∷ (100 ∷ []) ∷ vs) is }) (ap as_deletion says)
deletion_line cut id first w ws answer e d (cut_off numbers each says) =
    cut_off (subst (λ v. IsCutOff (first ∷ v ∷ ws)) (sym (deletion_is w d))
    (record { whole = first ∷ (100 ∷ []) ∷ ended_by_zero ws; line = Delete numbers; right = record { first = first; id = id; numbers = ws; first_is = e; numbers_are = each; words_are = refl }; prefix = record { next = 48 ∷ []; rest = []; whole_is = refl } })) (ap as_deletion says)
deletion_line cut id first w ws answer e d (negative ns numbers word back each neg is says) = other (ap as_deletion says)
deletion_line cut id first w ws answer e d (other says) = other (ap as_deletion says)

number_alone : (first : Word) (id : ℕ) → positive_of MOST_NUMBER first ≡ Some id → IsCutOff (first ∷ [])
number_alone first id e = record { whole = first ∷ (48 ∷ []) ∷ (48 ∷ []) ∷ []; line = Lemma id [] []; right = line_of_words first id [] [] [] [] e tt tt; prefix = record { next = 48 ∷ []; rest = (48 ∷ []) ∷ []; whole_is = refl } }

body_say : (cut : Bool) (id : ℕ) (first : Word) (ws : List Word) → positive_of MOST_NUMBER first ≡ Some id → LineSay cut (first ∷ ws) (body_of cut id ws)
body_say cut id first [] e = cut_off (number_alone first id e) refl
body_say cut id first (w ∷ ws) e = by_letter (is_deletion w) refl
  where
    by_letter : (b : Bool) → is_deletion w ≡ b → LineSay cut (first ∷ w ∷ ws) (cond b (as_deletion (numbers_after cut 11 [] ws)) (lemma_after cut id [] (w ∷ ws)))
    by_letter true d = deletion_line cut id first w ws (numbers_after cut 11 [] ws) e d (numbers_say cut 11 ws [])
    by_letter false d = lemma_line cut id first (w ∷ ws) (lemma_after cut id [] (w ∷ ws)) e (lemma_say cut id (w ∷ ws) [])

line_say : (cut : Bool) (ws : List Word) → LineSay cut ws (line_of cut ws)
line_say cut [] = cut_off no_words refl
line_say cut (first ∷ ws) = by_number (positive_of MOST_NUMBER first) refl
  where
    by_number : (o : Option ℕ) → positive_of MOST_NUMBER first ≡ o → LineSay cut (first ∷ ws) (at_id (λ id. body_of cut id ws) o)
    by_number None e = other refl
    by_number (Some id) e = body_say cut id first ws e

-- ---- the law

read_right : (cut : Bool) (ws : List Word) (line : Line) (answer : Result Line ℕ) → LineSay cut ws answer → answer ≡ Ok line → IsRight ws line
read_right cut ws line answer (right other_line r says) e = let same : other_line ≡ line = cc in subst (IsRight ws) same r
read_right cut ws line answer (cut_off h says) e = cc
read_right cut ws line answer (negative h says) e = cc
read_right cut ws line answer (other says) e = cc

abbrev rule_in : Result Line ℕ → ℕ
rule_in (Ok line) = 0
rule_in (Err rule) = rule

same_rule : (answer : Result Line ℕ) (a b : ℕ) → answer ≡ Err a → answer ≡ Err b → a < b → ⊥
same_rule answer a b p q less = absurd (let same : a ≡ b = one_rule answer a b p q in omega arith)
  where
    one_rule : (answer : Result Line ℕ) (a b : ℕ) → answer ≡ Err a → answer ≡ Err b → a ≡ b
    one_rule answer a b p q = ap (λ r. rule_in r) (sym p ∙ q)

not_twelve : (cut : Bool) → short cut ≢ 12
not_twelve true e = absurd (omega arith)
not_twelve false e = absurd (omega arith)

read_negative : (cut : Bool) (ws : List Word) (answer : Result Line ℕ) → LineSay cut ws answer → answer ≡ Err 12 → HasNegativeHint ws
read_negative cut ws answer (right line r says) e = cc
read_negative cut ws answer (cut_off h says) e = let same : short cut ≡ 12 = cc in absurd (not_twelve cut same)
read_negative cut ws answer (negative h says) e = h
read_negative cut ws answer (other says) e = absurd (same_rule answer 11 12 says e (omega arith))

read_cut : (cut : Bool) (ws : List Word) (answer : Result Line ℕ) → LineSay cut ws answer → answer ≡ Err 13 → (cut ≡ true) × IsCutOff ws
read_cut cut ws answer (right line r says) e = cc
read_cut true ws answer (cut_off h says) e = (refl, h)
read_cut false ws answer (cut_off h says) e = absurd (same_rule answer 11 13 says e (omega arith))
read_cut cut ws answer (negative h says) e = absurd (same_rule answer 12 13 says e (omega arith))
read_cut cut ws answer (other says) e = absurd (same_rule answer 11 13 says e (omega arith))

read_rule : (cut : Bool) (ws : List Word) (answer : Result Line ℕ) (rule : ℕ) → LineSay cut ws answer → answer ≡ Err rule → (rule ≡ 11) ⊎ ((rule ≡ 12) ⊎ (rule ≡ 13))
read_rule cut ws answer rule (right line r says) e = cc
read_rule true ws answer rule (cut_off h says) e = inr (inr (cc))
read_rule false ws answer rule (cut_off h says) e = inl (cc)
read_rule cut ws answer rule (negative h says) e = inr (inl (cc))
read_rule cut ws answer rule (other says) e = inl (cc)

pub right_law : (cut : Bool) (ws : List Word) (line : Line) → (line_of cut ws ≡ Ok line) ↔ IsRight ws line
right_law cut ws line = (read_right cut ws line (line_of cut ws) (line_say cut ws), right_read cut ws line)

pub negative_law : (cut : Bool) (ws : List Word) → (line_of cut ws ≡ Err 12) ↔ HasNegativeHint ws
negative_law cut ws = (read_negative cut ws (line_of cut ws) (line_say cut ws), negative_read cut ws)

pub cut_law : (cut : Bool) (ws : List Word) → (line_of cut ws ≡ Err 13) ↔ ((cut ≡ true) × IsCutOff ws)
cut_law cut ws = (read_cut cut ws (line_of cut ws) (line_say cut ws), back cut)
  where
    back : (b : Bool) → (b ≡ true) × IsCutOff ws → line_of b ws ≡ Err 13
    back true h = cut_read ws h.1
    back false h = let bad : false ≡ true = h.0 in cc

pub rule_law : (cut : Bool) (ws : List Word) (rule : ℕ) → line_of cut ws ≡ Err rule → (rule ≡ 11) ⊎ ((rule ≡ 12) ⊎ (rule ≡ 13))
rule_law cut ws rule = read_rule cut ws (line_of cut ws) rule (line_say cut ws)
