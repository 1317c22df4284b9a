-- What is read is what was written: the parts of a line.
use Rattle.std.proofs.Common.{◌≡◌, ◌≢◌, ℕ, zero, suc, ◌+◌, ◌-◌, ◌*◌, ◌/◌, ◌%◌, ◌<◌, ◌≤◌, ◌^◌, Bool, true, false, cond, ◌&&◌, eqb, eq-eqb, List, [], ◌∷◌, ◌++◌, length, take, drop, codes, decimal, min, Option, Some, None, option_map, nat_le, nat_lt, refl, sym, ap, ◌∙◌, arith, append_assoc, subst}
use Rattle.std.specs.List.{position_or_len, AllByRecursion}
use Rattle.std.specs.Option.{option_and_then}
use Rattle.std.specs.Str.{bytes_eq}
use Rattle.std.proofs.lemmas.Bool.{leb-true, ltb-true, eqb-true}
use Rattle.std.proofs.lemmas.Fmt.{decimal_digit, decimal_step}
use Rattle.std.proofs.lemmas.List.{take-append-drop, append-nil}
use Rattle.std.proofs.lemmas.Slice.Eq.{bytes_eq-Decides}
use Rattle.base_words.specs.Words.{is_digit, number_after, up_to, positive_of, is_zero, decimal_of}
use Rattle.core_tuples.specs.Sets.{TupleList}
use Rattle.answer_trace.specs.declared.label.RelationLabel.{RelationLabel}
use Rattle.answer_trace.specs.Text.{atom_text, tuple_text, tuples_text}
use Rattle.answer_trace.specs.Reading.{is_blank, behind, atom_length, found_before, number_of, with_rest, next_atom, further_atom, further_atoms, next_tuple, comes_after, separator, with_tuple, one_more, tuples_of, is_width, set_with, set_of, line_set, is_rest, is_state_line, counts, header_numbers, header_of}
use Rattle.answer_laws.proofs.Again.{IsPlace, IsTuple, ComeAfter, arrows, commas}

-- ---- options

pub record Both {A B : Type 0} (f : A → Option B) (o : Option A) (b : B) : Type 0 where
  pub first : A
  pub was : o ≡ Some first
  pub then : f first ≡ Some b

then_some : {A B : Type 0} (f : A → Option B) (o : Option A) (b : B) → option_and_then f o ≡ Some b → Both f o b
then_some f None b e = cc
then_some f (Some a) b e = record { first = a; was = refl; then = e }

chosen : {A : Type 0} (t : Bool) (a b : A) → cond t (Some a) None ≡ Some b → (t ≡ true) × (a ≡ b)
chosen true a b e = (refl, (let same : a ≡ b = cc in same))
chosen false a b e = cc

-- ---- words

pub behind_is : (word text rest : List ℕ) → behind word text ≡ Some rest → text ≡ word ++ rest
behind_is word text rest e =
    let found = chosen (bytes_eq (take (length word) text) word) (drop (length word) text) rest e in
    let front : take (length word) text ≡ word = (bytes_eq-Decides (take (length word) text) word).0 found.0 in
    sym (take-append-drop (length word) text) ∙ ap (λ x. x ++ drop (length word) text) front ∙ ap (λ x. word ++ x) found.1

-- ---- numbers

number_digits : (n : ℕ) (digits : List ℕ) (m : ℕ) → 0 < n → m < 2 ^ 64 → number_after n digits ≡ Some m → (n ≤ m) × (decimal m ≡ decimal n ++ digits)
unfolding number_after
number_digits n [] m some few e =
    let same : n ≡ m = cc in
    (omega arith, ap decimal (sym same) ∙ sym (append-nil (decimal n)))
number_digits n (digit ∷ digits) m some few e = by_test (is_digit digit) refl e (number_digits (n * 10 + (digit - 48)) digits m)
  where
    last : (d : ℕ) → d < 10 → n * 10 + d < 2 ^ 64 → decimal (n * 10 + d) ≡ decimal n ++ (48 + d) ∷ []
    last d small fits =
        let q : (n * 10 + d) / 10 ≡ n = omega arith in
        let r : (n * 10 + d) % 10 ≡ d = omega arith in
        decimal_step (n * 10 + d) (omega arith) fits ∙ ap (λ k. decimal k ++ (48 + (n * 10 + d) % 10) ∷ []) q ∙ ap (λ k. decimal n ++ (48 + k) ∷ []) r

    both : (a b : Bool) → (a && b) ≡ true → (a ≡ true) × (b ≡ true)
    both true b e = (refl, e)
    both false b e = cc

    by_test : (b : Bool) → is_digit digit ≡ b → cond b (number_after (n * 10 + (digit - 48)) digits) None ≡ Some m
        → (0 < n * 10 + (digit - 48) → m < 2 ^ 64 → number_after (n * 10 + (digit - 48)) digits ≡ Some m → (n * 10 + (digit - 48) ≤ m) × (decimal m ≡ decimal (n * 10 + (digit - 48)) ++ digits))
        → (n ≤ m) × (decimal m ≡ decimal n ++ digit ∷ digits)
    by_test false d e more = cc
    by_test true d e more =
        let range = both (nat_le 48 digit) (nat_le digit 57) d in
        let low : 48 ≤ digit = leb-true 48 digit range.0 in
        let high : digit ≤ 57 = leb-true digit 57 range.1 in
        let rest = more (omega arith) few e in
        let grown : n * 10 + (digit - 48) ≤ m = rest.0 in
        let same : 48 + (digit - 48) ≡ digit = omega arith in (
          omega arith,
          rest.1 ∙ ap (λ x. x ++ digits) (last (digit - 48) (omega arith) (omega arith)) ∙ append_assoc (decimal n) ((48 + (digit - 48)) ∷ []) digits ∙ ap (λ x. decimal n ++ x ∷ digits) same,
        )

up_to_is : (limit m : ℕ) (found : Option ℕ) → up_to limit found ≡ Some m → (found ≡ Some m) × (m ≤ limit)
up_to_is limit m None e = cc
up_to_is limit m (Some n) e =
    let both = chosen (nat_le n limit) n m e in
    let same : n ≡ m = both.1 in
    (ap Some same, subst (λ k. k ≤ limit) same (leb-true n limit both.0))

digits_first : (byte : ℕ) (bytes : List ℕ) → number_after 0 (byte ∷ bytes) ≡ cond (is_digit byte) (number_after (0 * 10 + (byte - 48)) bytes) None
unfolding number_after
digits_first byte bytes = refl

positive_is : (limit m : ℕ) (word : List ℕ) → limit < 2 ^ 64 → positive_of limit word ≡ Some m → (m ≤ limit) × (decimal m ≡ word)
positive_is limit m [] few e = cc
positive_is limit m (byte ∷ bytes) few e = by_test (eqb byte 48) refl e
  where
    first_digit : (b : Bool) → is_digit byte ≡ b → cond b (number_after (0 * 10 + (byte - 48)) bytes) None ≡ Some m → (m ≤ limit) → (eqb byte 48 ≡ false) → decimal m ≡ byte ∷ bytes
    first_digit false d e fits apart = cc
    first_digit true d e fits apart =
        let range = both (nat_le 48 byte) (nat_le byte 57) d in
        let low : 48 ≤ byte = leb-true 48 byte range.0 in
        let high : byte ≤ 57 = leb-true byte 57 range.1 in
        let other : byte ≢ 48 = λ same. let t : true ≡ false = sym (eq-eqb byte 48 same) ∙ apart in cc in
        let start : 0 * 10 + (byte - 48) ≡ byte - 48 = omega arith in
        let rest = number_digits (byte - 48) bytes m (omega arith) (omega arith) (ap (λ k. number_after k bytes) (sym start) ∙ e) in
        let same : 48 + (byte - 48) ≡ byte = omega arith in
        rest.1 ∙ ap (λ x. x ++ bytes) (decimal_digit (byte - 48) (omega arith)) ∙ ap (λ x. x ∷ bytes) same
      where
        both : (a b : Bool) → (a && b) ≡ true → (a ≡ true) × (b ≡ true)
        both true b e = (refl, e)
        both false b e = cc

    by_test : (b : Bool) → eqb byte 48 ≡ b → cond b None (up_to limit (number_after 0 (byte ∷ bytes))) ≡ Some m → (m ≤ limit) × (decimal m ≡ byte ∷ bytes)
    by_test true t e = cc
    by_test false t e =
        let found = up_to_is limit m (number_after 0 (byte ∷ bytes)) e in
        (found.1, first_digit (is_digit byte) refl (sym (digits_first byte bytes) ∙ found.0) found.1 t)

zero_is : (word : List ℕ) → is_zero word ≡ true → word ≡ 48 ∷ []
zero_is [] e = cc
zero_is (byte ∷ []) e = ap (λ x. x ∷ []) (eqb-true byte 48 e)
zero_is (byte ∷ other ∷ bytes) e = cc

pub decimal_is : (limit m : ℕ) (word : List ℕ) → limit < 2 ^ 64 → decimal_of limit word ≡ Some m → (m ≤ limit) × (word ≡ decimal m)
decimal_is limit m word few e = by_test (is_zero word) refl e
  where
    by_test : (b : Bool) → is_zero word ≡ b → cond b (Some 0) (positive_of limit word) ≡ Some m → (m ≤ limit) × (word ≡ decimal m)
    by_test true t e =
        let same : 0 ≡ m = cc in
        (omega arith, zero_is word t ∙ sym (decimal_digit 0 (omega arith)) ∙ ap decimal same)
    by_test false t e = let found = positive_is limit m word few e in (found.0, sym found.1)

-- ---- atoms

found_is : (atoms : List (List ℕ)) (k : ℕ) (text : List ℕ) (a : ℕ) → found_before atoms k text ≡ Some a → (a < k) × (atom_text atoms a ≡ text)
found_is atoms zero text a e = cc
found_is atoms (suc k) text a e = by_test (bytes_eq (atom_text atoms k) text) refl e (found_is atoms k text a)
  where
    by_test : (b : Bool) → bytes_eq (atom_text atoms k) text ≡ b → cond b (Some k) (found_before atoms k text) ≡ Some a → (found_before atoms k text ≡ Some a → (a < k) × (atom_text atoms a ≡ text)) → (a < suc k) × (atom_text atoms a ≡ text)
    by_test true t e more =
        let same : k ≡ a = cc in
        (omega arith, ap (atom_text atoms) (sym same) ∙ (bytes_eq-Decides (atom_text atoms k) text).0 t)
    by_test false t e more = let found = more e in let below : a < k = found.0 in (omega arith, found.1)

rest_some : (rest : List ℕ) (o : Option ℕ) (n : ℕ) (r : List ℕ) → with_rest rest o ≡ Some (n, r) → (o ≡ Some n) × (rest ≡ r)
rest_some rest None n r e = cc
rest_some rest (Some m) n r e =
    let same : (m, rest) ≡ (n, r) = cc in
    (ap (λ (p : ℕ × List ℕ). Some p.0) same, ap (λ (p : ℕ × List ℕ). p.1) same)

pub atom_is : (atoms : List (List ℕ)) (text : List ℕ) (a : ℕ) (rest : List ℕ) → next_atom atoms text ≡ Some (a, rest) → IsPlace atoms a × (text ≡ atom_text atoms a ++ rest)
atom_is atoms text a rest e =
    let parts = rest_some (drop (atom_length text) text) (number_of atoms (take (atom_length text) text)) a rest e in
    let found = found_is atoms (min (length atoms) 16384) (take (atom_length text) text) a parts.0 in
    let below : a < min (length atoms) 16384 = found.0 in (
      record { within = omega arith; small = omega arith },
      sym (take-append-drop (atom_length text) text) ∙ ap (λ x. x ++ drop (atom_length text) text) (sym found.1) ∙ ap (λ x. atom_text atoms a ++ x) parts.1,
    )

-- ---- tuples

pub record Further (atoms : List (List ℕ)) (k : ℕ) (tuple from result rest : List ℕ) : Type 0 where
  pub more : List ℕ
  pub count : length more ≡ k
  pub places : AllByRecursion (IsPlace atoms) more
  pub is : result ≡ tuple ++ more
  pub text : from ≡ arrows atoms more ++ rest

further_is : (atoms : List (List ℕ)) (k : ℕ) (tuple text result rest : List ℕ) → further_atoms atoms k tuple text ≡ Some (result, rest) → Further atoms k tuple text result rest
further_is atoms zero tuple text result rest e =
    let same : (tuple, text) ≡ (result, rest) = cc in
    record { more = []; count = refl; places = tt; is = sym (ap (λ (p : List ℕ × List ℕ). p.0) same) ∙ sym (append-nil tuple); text = ap (λ (p : List ℕ × List ℕ). p.1) same }
further_is atoms (suc k) tuple text result rest e =
    let step = then_some (λ (found : ℕ × List ℕ). further_atoms atoms k (tuple ++ found.0 ∷ []) found.1) (further_atom atoms text) (result, rest) e in
    let inner = then_some (next_atom atoms) (behind (codes "->") text) step.first step.was in
    let atom = atom_is atoms inner.first step.first.0 step.first.1 inner.then in
    let tail = further_is atoms k (tuple ++ step.first.0 ∷ []) step.first.1 result rest step.then in
    record {
      more = step.first.0 ∷ tail.more;
      count = ap suc tail.count;
      places = (atom.0, tail.places);
      is = tail.is ∙ append_assoc tuple (step.first.0 ∷ []) tail.more;
      text = behind_is (codes "->") text inner.first inner.was ∙ ap (λ x. codes "->" ++ x) (atom.1 ∙ ap (λ x. atom_text atoms step.first.0 ++ x) tail.text)
          ∙ sym (append_assoc (codes "->") (atom_text atoms step.first.0) (arrows atoms tail.more ++ rest))
          ∙ sym (append_assoc (codes "->" ++ atom_text atoms step.first.0) (arrows atoms tail.more) rest);
    }

pub tuple_is : (atoms : List (List ℕ)) (columns : ℕ) (text t rest : List ℕ) → 1 ≤ columns → next_tuple atoms columns text ≡ Some (t, rest) → IsTuple atoms columns t × (text ≡ tuple_text atoms t ++ rest)
tuple_is atoms columns text t rest some e =
    let step = then_some (λ (found : ℕ × List ℕ). further_atoms atoms (columns - 1) (found.0 ∷ []) found.1) (next_atom atoms text) (t, rest) e in
    let atom = atom_is atoms text step.first.0 step.first.1 step.was in
    let tail = further_is atoms (columns - 1) (step.first.0 ∷ []) step.first.1 t rest step.then in
    let count : length tail.more ≡ columns - 1 = tail.count in
    let whole : t ≡ step.first.0 ∷ tail.more = tail.is in
    let long : suc (length tail.more) ≡ columns = omega arith in (
      record { count = ap length whole ∙ long; places = subst (AllByRecursion (IsPlace atoms)) (sym whole) (atom.0, tail.places) },
      atom.1 ∙ ap (λ x. atom_text atoms step.first.0 ++ x) tail.text ∙ sym (append_assoc (atom_text atoms step.first.0) (arrows atoms tail.more) rest) ∙ ap (λ x. tuple_text atoms x ++ rest) (sym whole),
    )

-- ---- the tuples of a line

-- tuples behind others
abbrev pub more_text : List (List ℕ) → List (List ℕ) → List (List ℕ) → List ℕ
more_text atoms [] ts = tuples_text atoms ts
more_text atoms (u ∷ us) ts = commas atoms ts

pub record Tuples (atoms : List (List ℕ)) (columns : ℕ) (before : List (List ℕ)) (from : List ℕ) (result : List (List ℕ)) : Type 0 where
  pub more : List (List ℕ)
  pub each : AllByRecursion (IsTuple atoms columns) more
  pub after : ComeAfter before more
  pub is : result ≡ before ++ more
  pub text : from ≡ more_text atoms before more

more_nil : (atoms before : List (List ℕ)) → [] ≡ more_text atoms before []
more_nil atoms [] = refl
more_nil atoms (u ∷ us) = refl

more_push : (atoms before : List (List ℕ)) (t : List ℕ) (ts : List (List ℕ)) → separator before ++ (tuple_text atoms t ++ more_text atoms (before ++ t ∷ []) ts) ≡ more_text atoms before (t ∷ ts)
more_push atoms [] t ts = sym (append_assoc (codes " ") (tuple_text atoms t) (commas atoms ts))
more_push atoms (u ∷ us) t ts = sym (append_assoc (codes ", ") (tuple_text atoms t) (commas atoms ts))

tuples_are : (atoms : List (List ℕ)) (columns most : ℕ) (before : List (List ℕ)) (text : List ℕ) (result : List (List ℕ)) → 1 ≤ columns → tuples_of atoms columns most before text ≡ Some result → Tuples atoms columns before text result
tuples_are atoms columns most before [] result some e =
    let same : before ≡ result = cc in
    record { more = []; each = tt; after = tt; is = sym same ∙ sym (append-nil before); text = more_nil atoms before }
tuples_are atoms columns zero before (byte ∷ bytes) result some e = cc
tuples_are atoms columns (suc most) before (byte ∷ bytes) result some e =
    let text : List ℕ = byte ∷ bytes in
    let step = then_some (λ (found : List (List ℕ) × List ℕ). tuples_of atoms columns most found.0 found.1) (one_more atoms columns before text) result e in
    let put = then_some (with_tuple before) (option_and_then (next_tuple atoms columns) (behind (separator before) text)) step.first step.was in
    let inner = then_some (next_tuple atoms columns) (behind (separator before) text) put.first put.was in
    let tuple = tuple_is atoms columns inner.first put.first.0 put.first.1 some inner.then in
    let kept = chosen (comes_after before put.first.0) (before ++ put.first.0 ∷ [], put.first.1) step.first put.then in
    let longer : before ++ put.first.0 ∷ [] ≡ step.first.0 = ap (λ (p : List (List ℕ) × List ℕ). p.0) kept.1 in
    let left : put.first.1 ≡ step.first.1 = ap (λ (p : List (List ℕ) × List ℕ). p.1) kept.1 in
    let tail = tuples_are atoms columns most step.first.0 step.first.1 result some step.then in
    let after : ComeAfter (before ++ put.first.0 ∷ []) tail.more = subst (λ (b : List (List ℕ)). ComeAfter b tail.more) (sym longer) tail.after in
    record {
      more = put.first.0 ∷ tail.more;
      each = (tuple.0, tail.each);
      after = (kept.0, after);
      is = tail.is ∙ ap (λ b. b ++ tail.more) (sym longer) ∙ append_assoc before (put.first.0 ∷ []) tail.more;
      text = behind_is (separator before) text inner.first inner.was ∙ ap (λ x. separator before ++ x) (tuple.1 ∙ ap (λ x. tuple_text atoms put.first.0 ++ x) (left ∙ tail.text ∙ ap (λ b. more_text atoms b tail.more) (sym longer)))
          ∙ more_push atoms before put.first.0 tail.more;
    }

-- ---- the line of a relation

pub record LineSet (atoms : List (List ℕ)) (r : RelationLabel) (line : List ℕ) (set : TupleList) : Type 0 where
  pub columns : set.arity ≡ r.columns
  pub width : is_width r.columns ≡ true
  pub tuples : AllByRecursion (IsTuple atoms r.columns) set.tuples
  pub order : ComeAfter [] set.tuples
  pub text : line ≡ r.label ++ codes " =" ++ tuples_text atoms set.tuples

both_are : (a b : Bool) → (a && b) ≡ true → (a ≡ true) × (b ≡ true)
both_are true b e = (refl, e)
both_are false b e = cc

pub some_columns : (columns : ℕ) → is_width columns ≡ true → 1 ≤ columns
some_columns columns e = leb-true 1 columns (both_are (nat_le 1 columns) (nat_le columns 9) e).0

map_some : {A B : Type 0} (f : A → B) (o : Option A) (b : B) → option_map f o ≡ Some b → (a : A) × (o ≡ Some a) × (f a ≡ b)
map_some f None b e = cc
map_some f (Some a) b e = (a, refl, (let same : f a ≡ b = cc in same))

width_chosen : (b : Bool) (o : Option TupleList) (set : TupleList) → cond b o None ≡ Some set → (b ≡ true) × (o ≡ Some set)
width_chosen true o set e = (refl, e)
width_chosen false o set e = cc

pub line_is : (atoms : List (List ℕ)) (r : RelationLabel) (line : List ℕ) (set : TupleList) → line_set atoms r line ≡ Some set → LineSet atoms r line set
line_is atoms r line set e =
    let step = then_some (set_of atoms r.columns) (option_and_then (behind (codes " =")) (behind r.label line)) set e in
    let inner = then_some (behind (codes " =")) (behind r.label line) step.first step.was in
    let chose = width_chosen (is_width r.columns) (option_map (set_with r.columns) (tuples_of atoms r.columns (length step.first) [] step.first)) set step.then in
    let found = map_some (set_with r.columns) (tuples_of atoms r.columns (length step.first) [] step.first) set chose.1 in
    let tuples : found.0 ≡ set.tuples = ap (λ (s : TupleList). s.tuples) found.2 in
    let are = tuples_are atoms r.columns (length step.first) [] step.first found.0 (some_columns r.columns chose.0) found.1 in
    let more : are.more ≡ set.tuples = sym are.is ∙ tuples in
    record {
      columns = sym (ap (λ (s : TupleList). s.arity) found.2);
      width = chose.0;
      tuples = subst (AllByRecursion (IsTuple atoms r.columns)) more are.each;
      order = subst (ComeAfter []) more are.after;
      text = behind_is r.label line inner.first inner.was ∙ ap (λ x. r.label ++ x) (behind_is (codes " =") inner.first step.first inner.then ∙ ap (λ x. codes " =" ++ x) (are.text ∙ ap (tuples_text atoms) more))
          ∙ sym (append_assoc r.label (codes " =") (tuples_text atoms set.tuples));
    }

-- ---- the first lines

pub state_line_is : (i : ℕ) (line : List ℕ) → is_state_line i line ≡ true → line ≡ codes "state " ++ decimal i
state_line_is i line e = by_rest (behind (codes "state ") line) refl e
  where
    by_rest : (o : Option (List ℕ)) → behind (codes "state ") line ≡ o → is_rest (decimal i) o ≡ true → line ≡ codes "state " ++ decimal i
    by_rest None was e = cc
    by_rest (Some rest) was e = behind_is (codes "state ") line rest was ∙ ap (λ x. codes "state " ++ x) ((bytes_eq-Decides rest (decimal i)).0 e)

pub record Header (line : List ℕ) (count start : ℕ) : Type 0 where
  pub less : start < count
  pub few : count ≤ 4294967295
  pub text : line ≡ codes "trace states " ++ decimal count ++ codes " loop " ++ decimal start

counts_are : (a b : Option ℕ) (count start : ℕ) → counts a b ≡ Some (count, start) → (a ≡ Some count) × (b ≡ Some start) × (start < count)
counts_are None b count start e = cc
counts_are (Some c) None count start e = cc
counts_are (Some c) (Some s) count start e =
    let chose = chosen (nat_lt s c) (c, s) (count, start) e in
    let first : c ≡ count = ap (λ (p : ℕ × ℕ). p.0) chose.1 in
    let second : s ≡ start = ap (λ (p : ℕ × ℕ). p.1) chose.1 in
    let less : s < c = ltb-true s c chose.0 in
    (ap Some first, ap Some second, omega arith)

pub header_is : (line : List ℕ) (count start : ℕ) → header_of line ≡ Some (count, start) → Header line count start
header_is line count start e =
    let step = then_some header_numbers (behind (codes "trace states ") line) (count, start) e in
    let rest : List ℕ = step.first in
    let place : ℕ = position_or_len is_blank rest in
    let numbers = counts_are (decimal_of 4294967295 (take place rest)) (option_and_then (decimal_of 4294967295) (behind (codes " loop ") (drop place rest))) count start step.then in
    let first = decimal_is 4294967295 count (take place rest) (omega arith) numbers.0 in
    let inner = then_some (decimal_of 4294967295) (behind (codes " loop ") (drop place rest)) start numbers.1 in
    let second = decimal_is 4294967295 start inner.first (omega arith) inner.then in
    let behind_first : drop place rest ≡ codes " loop " ++ decimal start = behind_is (codes " loop ") (drop place rest) inner.first inner.was ∙ ap (λ x. codes " loop " ++ x) second.1 in
    record {
      less = numbers.2;
      few = first.0;
      text = behind_is (codes "trace states ") line rest step.was
          ∙ ap (λ x. codes "trace states " ++ x) (sym (take-append-drop place rest) ∙ ap (λ x. x ++ drop place rest) first.1 ∙ ap (λ x. decimal count ++ x) behind_first)
          ∙ sym (append_assoc (codes "trace states ") (decimal count) (codes " loop " ++ decimal start))
          ∙ sym (append_assoc (codes "trace states " ++ decimal count) (codes " loop ") (decimal start));
    }
