-- The parts of a line that are written are read again.
use Rattle.std.proofs.Common.{◌≡◌, ◌≢◌, ℕ, zero, suc, ◌+◌, ◌-◌, ◌*◌, ◌/◌, ◌%◌, ◌<◌, ◌≤◌, ◌^◌, ◌⊎◌, inl, inr, Bool, true, false, cond, not, ◌&&◌, ◌||◌, eqb, List, [], ◌∷◌, ◌++◌, length, take, drop, get_or, flat_map, codes, decimal, min, Some, None, nat_le, refl, sym, ap, ◌∙◌, arith, append_assoc}
use Rattle.std.specs.List.{list_any, position_or_len, prefix_len, AllByRecursion}
use Rattle.std.specs.Option.{option_and_then}
use Rattle.std.specs.Str.{bytes_eq}
use Rattle.std.proofs.lemmas.Bool.{le-leb, eqb-true, or_parts, or_from, cases_lt}
use Rattle.std.proofs.lemmas.Fmt.{decimal_by_steps, decimal_nonempty, first_decimal, decimal_digit}
use Rattle.std.proofs.lemmas.List.{take_at, drop_at, length-append, append-nil}
use Rattle.std.proofs.lemmas.List.Folds.{list_any-append}
use Rattle.std.proofs.lemmas.Slice.Eq.{bytes_eq-Decides}
use Rattle.base_words.specs.Words.{is_digit, number_after, up_to, positive_of, is_zero, decimal_of}
use Rattle.answer_trace.specs.Text.{atom_text, tuple_text, tuples_text}
use Rattle.answer_trace.specs.Reading.{is_quote, is_stop, behind, atom_length, found_before, number_of, with_rest, next_atom, further_atom, further_atoms, next_tuple, comes_after, separator, with_tuple, one_more, tuples_of}

-- ---- numbers

digit_is : (d : ℕ) → d < 10 → is_digit (48 + d) ≡ true
digit_is d h = ap (λ b. b && nat_le (48 + d) 57) (le-leb 48 (48 + d) (omega arith)) ∙ le-leb (48 + d) 57 (omega arith)

number_append : (n : ℕ) (xs ys : List ℕ) (m : ℕ) → number_after n xs ≡ Some m → number_after n (xs ++ ys) ≡ number_after m ys
unfolding number_after
number_append n [] ys m e = let same : n ≡ m = cc in ap (λ k. number_after k ys) same
number_append n (x ∷ xs) ys m e = by_test (is_digit x) e (number_append (n * 10 + (x - 48)) xs ys m)
  where
    by_test : (b : Bool) → cond b (number_after (n * 10 + (x - 48)) xs) None ≡ Some m → (number_after (n * 10 + (x - 48)) xs ≡ Some m → number_after (n * 10 + (x - 48)) (xs ++ ys) ≡ number_after m ys)
        → cond b (number_after (n * 10 + (x - 48)) (xs ++ ys)) None ≡ number_after m ys
    by_test true e more = more e
    by_test false e more = cc

one_digit : (n d : ℕ) → d < 10 → number_after n ((48 + d) ∷ []) ≡ Some (n * 10 + d)
unfolding number_after
one_digit n d h = ap (λ b. cond b (Some (n * 10 + ((48 + d) - 48))) None) (digit_is d h) ∙ ap Some (omega arith)

decimal_value : (n : ℕ) → n < 2 ^ 64 → number_after 0 (decimal n) ≡ Some n
decimal_value n h =
    decimal_by_steps (λ n ds. number_after 0 ds ≡ Some n) (λ n small. one_digit 0 n small ∙ ap Some (omega arith))
    (λ n ds large e. number_append 0 ds ((48 + n % 10) ∷ []) (n / 10) e ∙ one_digit (n / 10) (n % 10) (omega arith) ∙ ap Some (omega arith)) n h

positive_word : (limit n : ℕ) (word : List ℕ) → 0 < length word → 48 < get_or word 0 0 → n ≤ limit → number_after 0 word ≡ Some n → positive_of limit word ≡ Some n
positive_word limit n [] some first fits e = absurd (omega arith)
positive_word limit n (byte ∷ bytes) some first fits e =
    ap (λ b. cond b None (up_to limit (number_after 0 (byte ∷ bytes)))) (apart (eqb byte 48) refl)
    ∙ ap (up_to limit) e ∙ ap (λ b. cond b (Some n) None) (le-leb n limit fits)
  where
    apart : (b : Bool) → eqb byte 48 ≡ b → eqb byte 48 ≡ false
    apart true t = absurd (let same = eqb-true byte 48 t in omega arith)
    apart false t = t

positive_decimal : (limit n : ℕ) → limit < 2 ^ 64 → 0 < n → n ≤ limit → positive_of limit (decimal n) ≡ Some n
positive_decimal limit n small positive fits =
    let h : n < 2 ^ 64 = omega arith in
    positive_word limit n (decimal n) (decimal_nonempty n h) (first_decimal n positive h) fits (decimal_value n h)

positive_not_zero : (limit n : ℕ) (word : List ℕ) → positive_of limit word ≡ Some n → is_zero word ≡ false
positive_not_zero limit n [] e = refl
positive_not_zero limit n (byte ∷ []) e = by_test (eqb byte 48) e
  where
    by_test : (b : Bool) → cond b None (up_to limit (number_after 0 (byte ∷ []))) ≡ Some n → b ≡ false
    by_test true e = cc
    by_test false e = refl
positive_not_zero limit n (byte ∷ other ∷ bytes) e = refl

-- a number that is written is read again
pub decimal_again : (limit n : ℕ) → limit < 2 ^ 64 → n ≤ limit → decimal_of limit (decimal n) ≡ Some n
decimal_again limit zero small fits = ap (decimal_of limit) (decimal_digit 0 (omega arith))
decimal_again limit (suc n) small fits =
    let e : positive_of limit (decimal (suc n)) ≡ Some (suc n) = positive_decimal limit (suc n) small (omega arith) fits in
    ap (λ b. cond b (Some 0) (positive_of limit (decimal (suc n)))) (positive_not_zero limit (suc n) (decimal (suc n)) e) ∙ e

-- a test that fails at digits fails throughout a number
pub none_in_decimal : (p : ℕ → Bool) (n : ℕ) → ((d : ℕ) → d < 10 → p (48 + d) ≡ false) → n < 2 ^ 64 → list_any p (decimal n) ≡ false
none_in_decimal p n digits h =
    decimal_by_steps (λ n ds. list_any p ds ≡ false) (λ n small. or_from (p (48 + n)) false (digits n small) refl)
    (λ n ds large e. list_any-append p ds ((48 + n % 10) ∷ []) ∙ or_from (list_any p ds) (p (48 + n % 10) || false) e (or_from (p (48 + n % 10)) false (digits (n % 10) (omega arith)) refl)) n h

-- ---- words

same_bytes : (text : List ℕ) → bytes_eq text text ≡ true
same_bytes text = (bytes_eq-Decides text text).1 refl

other_bytes : (text other : List ℕ) → text ≢ other → bytes_eq text other ≡ false
other_bytes text other apart = by_test (bytes_eq text other) refl
  where
    by_test : (b : Bool) → bytes_eq text other ≡ b → bytes_eq text other ≡ false
    by_test true e = absurd (apart ((bytes_eq-Decides text other).0 e))
    by_test false e = e

pub behind_again : (word rest : List ℕ) → behind word (word ++ rest) ≡ Some rest
behind_again word rest =
    ap (λ t. cond (bytes_eq t word) (Some (drop (length word) (word ++ rest))) None) (take_at word rest (length word) refl)
    ∙ ap (λ b. cond b (Some (drop (length word) (word ++ rest))) None) (same_bytes word)
    ∙ ap Some (drop_at word rest (length word) refl)

-- ---- atoms

-- whether a text is empty or its first byte passes
abbrev pub begins : (ℕ → Bool) → List ℕ → Bool
begins p [] = true
begins p (byte ∷ bytes) = p byte

pub place_at : (p : ℕ → Bool) (xs rest : List ℕ) → list_any p xs ≡ false → begins p rest ≡ true → position_or_len p (xs ++ rest) ≡ length xs
place_at p [] [] none h = refl
place_at p [] (byte ∷ bytes) none h = ap (λ t. cond (not t) (1 + prefix_len (λ x. not (p x)) bytes) 0) h
place_at p (x ∷ xs) rest none h =
    let both = or_parts (p x) (list_any p xs) none in
    let more : position_or_len p (xs ++ rest) ≡ length xs = place_at p xs rest both.1 h in
    ap (λ t. cond (not t) (1 + position_or_len p (xs ++ rest)) 0) both.0 ∙ omega arith

-- an atom's text: a literal with its quotes, or bytes with no stop behind the first
pub data IsAtom : List ℕ → Type 0 where
  quoted : (body : List ℕ) → list_any is_quote body ≡ false → IsAtom (34 ∷ (body ++ 34 ∷ []))
  plain : (byte : ℕ) (bytes : List ℕ) → is_quote byte ≡ false → list_any is_stop bytes ≡ false → IsAtom (byte ∷ bytes)

quoted_length : (body rest : List ℕ) → list_any is_quote body ≡ false → min (position_or_len is_quote ((body ++ 34 ∷ []) ++ rest) + 2) (length ((body ++ 34 ∷ []) ++ rest) + 1) ≡ length body + 2
quoted_length body rest none =
    let place : position_or_len is_quote ((body ++ 34 ∷ []) ++ rest) ≡ length body = ap (position_or_len is_quote) (append_assoc body (34 ∷ []) rest) ∙ place_at is_quote body (34 ∷ rest) none refl in
    let long : length ((body ++ 34 ∷ []) ++ rest) ≡ length (body ++ 34 ∷ []) + length rest = length-append (body ++ 34 ∷ []) rest in
    let longer : length (body ++ 34 ∷ []) ≡ length body + 1 = length-append body (34 ∷ []) in
    omega arith

pub length_again : (t rest : List ℕ) → IsAtom t → begins is_stop rest ≡ true → atom_length (t ++ rest) ≡ length t
length_again _ rest (quoted body none) h =
    quoted_length body rest none ∙ (let longer : length (body ++ 34 ∷ []) ≡ length body + 1 = length-append body (34 ∷ []) in omega arith)
length_again _ rest (plain byte bytes apart none) h =
    ap (λ b. cond b (min (position_or_len is_quote (bytes ++ rest) + 2) (length (bytes ++ rest) + 1)) (position_or_len is_stop (bytes ++ rest) + 1)) apart
    ∙ (let place : position_or_len is_stop (bytes ++ rest) ≡ length bytes = place_at is_stop bytes rest none h in omega arith)

-- what is known of the texts of atoms
pub record AreAtoms (atoms : List (List ℕ)) : Type 0 where
  pub forms : (a : ℕ) → a < length atoms → IsAtom (atom_text atoms a)
  pub distinct : (i j : ℕ) → i < length atoms → j < length atoms → atom_text atoms i ≡ atom_text atoms j → i ≡ j

found_again : (atoms : List (List ℕ)) → AreAtoms atoms → (k a : ℕ) → a < k → k ≤ length atoms → found_before atoms k (atom_text atoms a) ≡ Some a
found_again atoms are zero a lt within = absurd (omega arith)
found_again atoms are (suc k) a lt within = by_place (cases_lt a k) (λ before. found_again atoms are k a before (omega arith))
  where
    by_place : (a < k) ⊎ (k ≤ a) → (a < k → found_before atoms k (atom_text atoms a) ≡ Some a) → cond (bytes_eq (atom_text atoms k) (atom_text atoms a)) (Some k) (found_before atoms k (atom_text atoms a)) ≡ Some a
    by_place (inl before) more =
        ap (λ b. cond b (Some k) (found_before atoms k (atom_text atoms a)))
        (other_bytes (atom_text atoms k) (atom_text atoms a) (λ e. absurd (let same : k ≡ a = are.distinct k a (omega arith) (omega arith) e in omega arith)))
        ∙ more before
    by_place (inr here) more =
        let same : k ≡ a = omega arith in
        ap (λ n. cond (bytes_eq (atom_text atoms n) (atom_text atoms a)) (Some n) (found_before atoms k (atom_text atoms a))) same
        ∙ ap (λ b. cond b (Some a) (found_before atoms k (atom_text atoms a))) (same_bytes (atom_text atoms a))

-- a number of the universe that a tuple set has
pub record IsPlace (atoms : List (List ℕ)) (a : ℕ) : Type 0 where
  pub within : a < length atoms
  pub small : a < 16384

pub atom_again : (atoms : List (List ℕ)) → AreAtoms atoms → (a : ℕ) (rest : List ℕ) → IsPlace atoms a → begins is_stop rest ≡ true → next_atom atoms (atom_text atoms a ++ rest) ≡ Some (a, rest)
atom_again atoms are a rest place h =
    let text : List ℕ = atom_text atoms a in
    let long : atom_length (text ++ rest) ≡ length text = length_again text rest (are.forms a place.within) h in
    let front : take (atom_length (text ++ rest)) (text ++ rest) ≡ text = ap (λ n. take n (text ++ rest)) long ∙ take_at text rest (length text) refl in
    let back : drop (atom_length (text ++ rest)) (text ++ rest) ≡ rest = ap (λ n. drop n (text ++ rest)) long ∙ drop_at text rest (length text) refl in
    let within : a < length atoms = place.within in
    let small : a < 16384 = place.small in
    ap (λ r. with_rest r (number_of atoms (take (atom_length (text ++ rest)) (text ++ rest)))) back
    ∙ ap (λ t. with_rest rest (number_of atoms t)) front
    ∙ ap (with_rest rest) (found_again atoms are (min (length atoms) 16384) a (omega arith) (omega arith))

-- ---- tuples

abbrev pub arrows : List (List ℕ) → List ℕ → List ℕ
arrows atoms t = flat_map (λ b. codes "->" ++ atom_text atoms b) t

arrows_begin : (atoms : List (List ℕ)) (t rest : List ℕ) → begins is_stop rest ≡ true → begins is_stop (arrows atoms t ++ rest) ≡ true
arrows_begin atoms [] rest h = h
arrows_begin atoms (a ∷ t) rest h = refl

further_again : (atoms : List (List ℕ)) → AreAtoms atoms → (a : ℕ) (rest : List ℕ) → IsPlace atoms a → begins is_stop rest ≡ true → further_atom atoms (codes "->" ++ (atom_text atoms a ++ rest)) ≡ Some (a, rest)
further_again atoms are a rest place h =
    ap (option_and_then (next_atom atoms)) (behind_again (codes "->") (atom_text atoms a ++ rest)) ∙ atom_again atoms are a rest place h

further_all : (atoms : List (List ℕ)) → AreAtoms atoms → (t tuple rest : List ℕ) → AllByRecursion (IsPlace atoms) t → begins is_stop rest ≡ true → further_atoms atoms (length t) tuple (arrows atoms t ++ rest) ≡ Some (tuple ++ t, rest)
further_all atoms are [] tuple rest each h = ap (λ t. Some (t, rest)) (sym (append-nil tuple))
further_all atoms are (a ∷ t) tuple rest each h =
    let tail : List ℕ = arrows atoms t ++ rest in
    let whole : arrows atoms (a ∷ t) ++ rest ≡ codes "->" ++ (atom_text atoms a ++ tail) = append_assoc (codes "->" ++ atom_text atoms a) (arrows atoms t) rest ∙ append_assoc (codes "->") (atom_text atoms a) tail in
    ap (λ o. option_and_then (λ found. further_atoms atoms (length t) (tuple ++ found.0 ∷ []) found.1) o)
    (ap (further_atom atoms) whole ∙ further_again atoms are a tail each.0 (arrows_begin atoms t rest h))
    ∙ further_all atoms are t (tuple ++ a ∷ []) rest each.1 h
    ∙ ap (λ x. Some (x, rest)) (append_assoc tuple (a ∷ []) t)

-- a tuple of this many columns and of numbers of the universe
pub record IsTuple (atoms : List (List ℕ)) (columns : ℕ) (t : List ℕ) : Type 0 where
  pub count : length t ≡ columns
  pub places : AllByRecursion (IsPlace atoms) t

tuple_again : (atoms : List (List ℕ)) → AreAtoms atoms → (columns : ℕ) (t rest : List ℕ) → 1 ≤ columns → IsTuple atoms columns t → begins is_stop rest ≡ true → next_tuple atoms columns (tuple_text atoms t ++ rest) ≡ Some (t, rest)
tuple_again atoms are columns [] rest some is h = absurd (let e : 0 ≡ columns = is.count in omega arith)
tuple_again atoms are columns (a ∷ t) rest some is h =
    let count : columns - 1 ≡ length t = (let e : suc (length t) ≡ columns = is.count in omega arith) in
    let tail : List ℕ = arrows atoms t ++ rest in
    let whole : tuple_text atoms (a ∷ t) ++ rest ≡ atom_text atoms a ++ tail = append_assoc (atom_text atoms a) (arrows atoms t) rest in
    ap (λ o. option_and_then (λ found. further_atoms atoms (columns - 1) (found.0 ∷ []) found.1) o)
    (ap (next_atom atoms) whole ∙ atom_again atoms are a tail is.places.0 (arrows_begin atoms t rest h))
    ∙ ap (λ n. further_atoms atoms n (a ∷ []) tail) count
    ∙ further_all atoms are t (a ∷ []) rest is.places.1 h

-- ---- the tuples of a line

abbrev pub commas : List (List ℕ) → List (List ℕ) → List ℕ
commas atoms ts = flat_map (λ u. codes ", " ++ tuple_text atoms u) ts

commas_begin : (atoms : List (List ℕ)) (ts : List (List ℕ)) → begins is_stop (commas atoms ts) ≡ true
commas_begin atoms [] = refl
commas_begin atoms (t ∷ ts) = refl

-- each tuple comes after the last before it
abbrev pub ComeAfter : List (List ℕ) → List (List ℕ) → Type 0
ComeAfter before [] = Unit {0}
ComeAfter before (t ∷ ts) = (comes_after before t ≡ true) × ComeAfter (before ++ t ∷ []) ts

one_again : (atoms : List (List ℕ)) → AreAtoms atoms → (columns : ℕ) (before : List (List ℕ)) (t rest : List ℕ) → 1 ≤ columns → IsTuple atoms columns t → comes_after before t ≡ true → begins is_stop rest ≡ true
    → one_more atoms columns before (separator before ++ (tuple_text atoms t ++ rest)) ≡ Some (before ++ t ∷ [], rest)
one_again atoms are columns before t rest some is after h =
    ap (λ o. option_and_then (with_tuple before) (option_and_then (next_tuple atoms columns) o)) (behind_again (separator before) (tuple_text atoms t ++ rest))
    ∙ ap (option_and_then (with_tuple before)) (tuple_again atoms are columns t rest some is h)
    ∙ ap (λ b. cond b (Some (before ++ t ∷ [], rest)) None) after

tuples_step : (atoms : List (List ℕ)) (columns k j : ℕ) (tuples : List (List ℕ)) (text : List ℕ) → k ≡ suc j → 0 < length text
    → tuples_of atoms columns k tuples text ≡ option_and_then (λ found. tuples_of atoms columns j found.0 found.1) (one_more atoms columns tuples text)
tuples_step atoms columns k j tuples [] e h = absurd (omega arith)
tuples_step atoms columns k j tuples (byte ∷ bytes) e h = ap (λ n. tuples_of atoms columns n tuples (byte ∷ bytes)) e

tuples_nil : (atoms : List (List ℕ)) (columns most : ℕ) (tuples : List (List ℕ)) → tuples_of atoms columns most tuples [] ≡ Some tuples
tuples_nil atoms columns most tuples = refl

some_separator : (before : List (List ℕ)) (t : List ℕ) → separator (before ++ t ∷ []) ≡ codes ", "
some_separator [] t = refl
some_separator (u ∷ before) t = refl

separator_some : (before : List (List ℕ)) → 1 ≤ length (separator before)
separator_some [] = omega arith
separator_some (t ∷ ts) = omega arith

further_tuples : (atoms : List (List ℕ)) → AreAtoms atoms → (columns most : ℕ) (before ts : List (List ℕ)) → 1 ≤ columns → separator before ≡ codes ", " → AllByRecursion (IsTuple atoms columns) ts → ComeAfter before ts → length (commas atoms ts) ≤ most
    → tuples_of atoms columns most before (commas atoms ts) ≡ Some (before ++ ts)
further_tuples atoms are columns most before [] some comma each after room = ap Some (sym (append-nil before))
further_tuples atoms are columns most before (t ∷ ts) some comma each after room =
    let tail : List ℕ = commas atoms ts in
    let long : length ((codes ", " ++ tuple_text atoms t) ++ tail) ≡ length (codes ", " ++ tuple_text atoms t) + length tail = length-append (codes ", " ++ tuple_text atoms t) tail in
    let longer : length (codes ", " ++ tuple_text atoms t) ≡ 2 + length (tuple_text atoms t) = length-append (codes ", ") (tuple_text atoms t) in
    let whole : commas atoms (t ∷ ts) ≡ separator before ++ (tuple_text atoms t ++ tail) = append_assoc (codes ", ") (tuple_text atoms t) tail ∙ ap (λ s. s ++ (tuple_text atoms t ++ tail)) (sym comma) in
    tuples_step atoms columns most (most - 1) before (commas atoms (t ∷ ts)) (omega arith) (omega arith)
    ∙ ap (λ o. option_and_then (λ found. tuples_of atoms columns (most - 1) found.0 found.1) o)
    (ap (one_more atoms columns before) whole ∙ one_again atoms are columns before t tail some each.0 after.0 (commas_begin atoms ts))
    ∙ further_tuples atoms are columns (most - 1) (before ++ t ∷ []) ts some (some_separator before t) each.1 after.1 (omega arith)
    ∙ ap Some (append_assoc before (t ∷ []) ts)

pub tuples_again : (atoms : List (List ℕ)) → AreAtoms atoms → (columns most : ℕ) (ts : List (List ℕ)) → 1 ≤ columns → AllByRecursion (IsTuple atoms columns) ts → ComeAfter [] ts → length (tuples_text atoms ts) ≤ most
    → tuples_of atoms columns most [] (tuples_text atoms ts) ≡ Some ts
tuples_again atoms are columns most [] some each after room = refl
tuples_again atoms are columns most (t ∷ ts) some each after room =
    let tail : List ℕ = commas atoms ts in
    let long : length ((codes " " ++ tuple_text atoms t) ++ tail) ≡ length (codes " " ++ tuple_text atoms t) + length tail = length-append (codes " " ++ tuple_text atoms t) tail in
    let longer : length (codes " " ++ tuple_text atoms t) ≡ 1 + length (tuple_text atoms t) = length-append (codes " ") (tuple_text atoms t) in
    let whole : tuples_text atoms (t ∷ ts) ≡ separator [] ++ (tuple_text atoms t ++ tail) = append_assoc (codes " ") (tuple_text atoms t) tail in
    tuples_step atoms columns most (most - 1) [] (tuples_text atoms (t ∷ ts)) (omega arith) (omega arith)
    ∙ ap (λ o. option_and_then (λ found. tuples_of atoms columns (most - 1) found.0 found.1) o)
    (ap (one_more atoms columns []) whole ∙ one_again atoms are columns [] t tail some each.0 after.0 (commas_begin atoms ts))
    ∙ further_tuples atoms are columns (most - 1) (t ∷ []) ts some refl each.1 after.1 (omega arith)
