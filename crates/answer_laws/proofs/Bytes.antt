-- The texts of atoms, and which bytes stand in them.
use Rattle.std.proofs.Common.{◌≡◌, ℕ, suc, ◌+◌, ◌%◌, ◌<◌, ◌^◌, Bool, true, false, ◌||◌, eqb, List, [], ◌∷◌, ◌++◌, length, slice_index, decimal, codes, ℤ, pos, negsuc, refl, sym, ap, ◌∙◌, subst, arith, append_assoc}
use Rattle.std.specs.List.{list_any}
use Rattle.std.specs.Fmt.{signed_decimal}
use Rattle.std.specs.Int.Signed.{mag}
use Rattle.std.proofs.lemmas.Bool.{ne_eqb, or_parts, or_from}
use Rattle.std.proofs.lemmas.Fmt.{decimal_by_steps, decimal_nonempty, decimal_injective}
use Rattle.std.proofs.lemmas.List.Folds.{list_any-append}
use Rattle.base_words.specs.Words.{is_feed}
use Rattle.answer_laws.specs.Form.{is_stop, is_quote, IsAtomText, HasNoFeed}
use Rattle.answer_laws.specs.Form.IsAtomText.{quoted, plain}
use Rattle.answer_laws.specs.Labelled.{IsLiteral, IsPath}

or_last : (b : Bool) → (b || true) ≡ true
or_last true = refl
or_last false = refl

-- a byte stands in a list around it
pub any_at : (p : ℕ → Bool) (t : List ℕ) (c : ℕ) (r : List ℕ) → p c ≡ true → list_any p (t ++ c ∷ r) ≡ true
any_at p [] c r pc = ap (λ (b : Bool). b || list_any p r) pc
any_at p (x ∷ t) c r pc = ap (λ (b : Bool). p x || b) (any_at p t c r pc) ∙ or_last (p x)

-- lists that are alike from the last byte at which a test holds
pub backs : (p : ℕ → Bool) (t u : List ℕ) (c d : ℕ) (r s : List ℕ) → list_any p r ≡ false → list_any p s ≡ false → p c ≡ true → p d ≡ true → t ++ c ∷ r ≡ u ++ d ∷ s → (t ≡ u) × (c ∷ r ≡ d ∷ s)
backs p [] [] c d r s nr ns pc pd e = (refl, e)
backs p [] (y ∷ u) c d r s nr ns pc pd e =
    let rest : r ≡ u ++ d ∷ s = cc in
    let bad : true ≡ false = sym (any_at p u d s pd) ∙ ap (list_any p) (sym rest) ∙ nr in
    cc
backs p (x ∷ t) [] c d r s nr ns pc pd e =
    let rest : t ++ c ∷ r ≡ s = cc in
    let bad : true ≡ false = sym (any_at p t c r pc) ∙ ap (list_any p) rest ∙ ns in
    cc
backs p (x ∷ t) (y ∷ u) c d r s nr ns pc pd e =
    let same : x ≡ y = cc in
    let rest : t ++ c ∷ r ≡ u ++ d ∷ s = cc in
    let more = backs p t u c d r s nr ns pc pd rest in
    let tails : t ≡ u = more.0 in
    let all : x ∷ t ≡ y ∷ u = cc in
    (all, more.1)

-- ---- numbers

-- a test that fails at digits fails throughout a number
pub none_in_decimal : (p : ℕ → Bool) (n : ℕ) → ((d : ℕ) → d < 10 → p (48 + d) ≡ false) → n < 2 ^ 64 → list_any p (decimal n) ≡ false
none_in_decimal p n digits h =
    decimal_by_steps (λ n ds. list_any p ds ≡ false) (λ n small. or_from (p (48 + n)) false (digits n small) refl)
    (λ n ds large e. list_any-append p ds ((48 + n % 10) ∷ []) ∙ or_from (list_any p ds) (p (48 + n % 10) || false) e (or_from (p (48 + n % 10)) false (digits (n % 10) (omega arith)) refl)) n h

pub none_in_signed : (p : ℕ → Bool) (z : ℤ) → ((d : ℕ) → d < 10 → p (48 + d) ≡ false) → p 45 ≡ false → mag z < 2 ^ 63 → list_any p (signed_decimal z) ≡ false
none_in_signed p (pos n) digits minus h = none_in_decimal p n digits (omega arith)
none_in_signed p (negsuc n) digits minus h = or_from (p 45) (list_any p (decimal (suc n))) minus (none_in_decimal p (suc n) digits (omega arith))

pub is_dollar : ℕ → Bool
is_dollar byte = eqb byte 36

pub dollar_digit : (d : ℕ) → d < 10 → is_dollar (48 + d) ≡ false
unfolding is_dollar
dollar_digit d h = ne_eqb (48 + d) 36 (λ e. absurd (omega arith))

pub dollar_minus : is_dollar 45 ≡ false
unfolding is_dollar
dollar_minus = refl

pub dollar_itself : is_dollar 36 ≡ true
unfolding is_dollar
dollar_itself = refl

pub quote_digit : (d : ℕ) → d < 10 → is_quote (48 + d) ≡ false
quote_digit d h = ne_eqb (48 + d) 34 (λ e. absurd (omega arith))

pub stop_digit : (d : ℕ) → d < 10 → is_stop (48 + d) ≡ false
stop_digit d h = or_from (eqb (48 + d) 45) _ (ne_eqb (48 + d) 45 (λ e. absurd (omega arith))) (or_from (eqb (48 + d) 44) _ (ne_eqb (48 + d) 44 (λ e. absurd (omega arith))) (ne_eqb (48 + d) 10 (λ e. absurd (omega arith))))

pub feed_digit : (d : ℕ) → d < 10 → is_feed (48 + d) ≡ false
feed_digit d h = ne_eqb (48 + d) 10 (λ e. absurd (omega arith))

-- ---- forms

bytes_are_atom : (t : List ℕ) → 0 < length t → list_any is_quote t ≡ false → list_any is_stop t ≡ false → IsAtomText t
bytes_are_atom [] some quote stop = absurd (omega arith)
bytes_are_atom (b ∷ bs) some quote stop = plain b bs (or_parts (is_quote b) (list_any is_quote bs) quote).0 (or_parts (is_stop b) (list_any is_stop bs) stop).1

pub signed_is_atom : (z : ℤ) → mag z < 2 ^ 63 → IsAtomText (signed_decimal z)
signed_is_atom (pos n) h = bytes_are_atom (decimal n) (decimal_nonempty n (omega arith)) (none_in_decimal is_quote n quote_digit (omega arith)) (none_in_decimal is_stop n stop_digit (omega arith))
signed_is_atom (negsuc n) h = plain 45 (decimal (suc n)) refl (none_in_decimal is_stop (suc n) stop_digit (omega arith))

-- the text of a numbered atom, grouped from its end
pub numbered_text : (label : List ℕ) (n : ℕ) → label ++ codes "$" ++ decimal n ≡ label ++ (36 ∷ decimal n)
numbered_text label n = append_assoc label (codes "$") (decimal n)

-- a list without such a byte has none behind its first byte
none_behind : (p : ℕ → Bool) (label : List ℕ) (n : ℕ) → ((d : ℕ) → d < 10 → p (48 + d) ≡ false) → p 36 ≡ false → n < 2 ^ 64 → list_any p label ≡ false → list_any p (label ++ (36 ∷ decimal n)) ≡ false
none_behind p label n digits dollar h none = list_any-append p label (36 ∷ decimal n) ∙ or_from (list_any p label) _ none (or_from (p 36) _ dollar (none_in_decimal p n digits h))

path_is_atom : (label : List ℕ) (n : ℕ) → IsPath label → n < 2 ^ 64 → IsAtomText (label ++ (36 ∷ decimal n))
path_is_atom [] n is h = plain 36 (decimal n) refl (none_in_decimal is_stop n stop_digit h)
path_is_atom (b ∷ bs) n is h = plain b (bs ++ (36 ∷ decimal n)) is.front (none_behind is_stop bs n stop_digit refl h (or_parts (is_stop b) (list_any is_stop bs) is.stops).1)

pub numbered_is_atom : (label : List ℕ) (n : ℕ) → IsPath label → n < 2 ^ 64 → IsAtomText (label ++ codes "$" ++ decimal n)
numbered_is_atom label n is h = subst IsAtomText (sym (numbered_text label n)) (path_is_atom label n is h)

pub literal_is_atom : (label : List ℕ) → IsLiteral label → IsAtomText label
literal_is_atom label is = subst IsAtomText (sym is.is) (quoted is.body is.closed)

-- ---- lines

pub no_feed : (t : List ℕ) → list_any is_stop t ≡ false → HasNoFeed t
no_feed [] none = refl
no_feed (b ∷ bs) none =
    let both = or_parts (is_stop b) (list_any is_stop bs) none in
    let rest = or_parts (eqb b 45) (eqb b 44 || eqb b 10) both.0 in
    or_from (is_feed b) (list_any is_feed bs) (or_parts (eqb b 44) (eqb b 10) rest.1).1 (no_feed bs both.1)

pub numbered_line : (label : List ℕ) (n : ℕ) → IsPath label → n < 2 ^ 64 → HasNoFeed (label ++ codes "$" ++ decimal n)
numbered_line label n is h = ap (list_any is_feed) (numbered_text label n) ∙ none_behind is_feed label n feed_digit refl h (no_feed label is.stops)

pub literal_line : (label : List ℕ) → IsLiteral label → HasNoFeed label
literal_line label is = ap (list_any is_feed) is.is ∙ list_any-append is_feed is.body (34 ∷ []) ∙ or_from (list_any is_feed is.body) false is.line refl

pub signed_line : (z : ℤ) → mag z < 2 ^ 63 → HasNoFeed (signed_decimal z)
signed_line z h = none_in_signed is_feed z feed_digit refl h

-- ---- which texts differ

-- numbered atoms with one text have one label and one number
pub numbered_apart : (a b : List ℕ) (i j : ℕ) → i < 2 ^ 64 → j < 2 ^ 64 → a ++ codes "$" ++ decimal i ≡ b ++ codes "$" ++ decimal j → (a ≡ b) × (i ≡ j)
numbered_apart a b i j small few e =
    let same : a ++ (36 ∷ decimal i) ≡ b ++ (36 ∷ decimal j) = sym (numbered_text a i) ∙ e ∙ numbered_text b j in
    let found = backs is_dollar a b 36 36 (decimal i) (decimal j) (none_in_decimal is_dollar i dollar_digit small) (none_in_decimal is_dollar j dollar_digit few) dollar_itself dollar_itself same in
    let behind : decimal i ≡ decimal j = (let both = found.1 in cc) in
    (found.0, decimal_injective i j small few behind)

pub numbered_no_integer : (label : List ℕ) (n : ℕ) (z : ℤ) → mag z < 2 ^ 63 → label ++ codes "$" ++ decimal n ≡ signed_decimal z → ⊥
numbered_no_integer label n z h e =
    let bad : true ≡ false = sym (any_at is_dollar label 36 (decimal n) dollar_itself) ∙ ap (list_any is_dollar) (sym (numbered_text label n) ∙ e) ∙ none_in_signed is_dollar z dollar_digit dollar_minus h in
    cc

pub literal_no_integer : (label : List ℕ) (z : ℤ) → IsLiteral label → mag z < 2 ^ 63 → label ≡ signed_decimal z → ⊥
literal_no_integer label z is h e =
    let bad : true ≡ false = ap (list_any is_quote) (sym is.is ∙ e) ∙ none_in_signed is_quote z quote_digit refl h in
    cc

path_no_quote : (label : List ℕ) (n : ℕ) → IsPath label → is_quote (slice_index (label ++ (36 ∷ decimal n)) 0) ≡ false
path_no_quote [] n is = refl
path_no_quote (b ∷ bs) n is = is.front

pub numbered_no_literal : (label other : List ℕ) (n : ℕ) → IsPath label → IsLiteral other → label ++ codes "$" ++ decimal n ≡ other → ⊥
numbered_no_literal label other n is literal e =
    let same : label ++ (36 ∷ decimal n) ≡ 34 ∷ (literal.body ++ 34 ∷ []) = sym (numbered_text label n) ∙ e ∙ literal.is in
    let bad : false ≡ true = sym (path_no_quote label n is) ∙ ap (λ (t : List ℕ). is_quote (slice_index t 0)) same in
    cc
