-- Facts on digits and on the bytes of names.
use Rattle.std.proofs.Common.{◌≡◌, ℕ, zero, suc, ◌+◌, ◌-◌, ◌*◌, ◌^◌, ◌<◌, ◌≤◌, Bool, true, false, refl, cond, [], ◌∷◌, take, arith, add-zero, add-suc, add-one, IsTrue, All}
use Rattle.std.proofs.Math.Nat.{pow-suc}
use Rattle.std.proofs.lemmas.Bool.Decides.{nat_tests}
use Rattle.std.proofs.lemmas.List.Elements.{All-nil, All-cons, All-head, All-tail}
use Rattle.std.specs.Str.{IsAscii}
use Rattle.syntax_lexer.specs.Piece.{Text, is_digit, is_name_byte, is_literal_byte, AreDigits, digits_len, name_len, inside_len}

ten_grows : (i k : ℕ) → 10 ^ i ≤ 10 ^ (i + k)
ten_grows i zero = rw add-zero (omega arith)
ten_grows i (suc k) = rw (add-suc, pow-suc 10 (i + k)) (omega (arith, ten_grows i k))

one_more : (n : ℕ) → 1 + n ≡ suc n
one_more n = omega arith

-- a number of i digits, and one more digit
pub digit_more : (n i d : ℕ) → n < 10 ^ i → d < 10 → n * 10 + d < 10 ^ (i + 1)
digit_more n i d h small = rw (add-one, pow-suc 10 i) (omega arith)

pub digits_fit : (n i : ℕ) → n < 10 ^ i → i ≤ 8 → n < 100000000
digits_fit n i h short =
    let grows = ten_grows i (8 - i) in
    let e : i + (8 - i) ≡ 8 = omega arith in
    let bound : 10 ^ i ≤ 10 ^ 8 = rw e at grows in
    omega arith

-- the digits ahead are digits
digits_from : (b : ℕ) (z : Text) (t : Bool) → is_digit b ≡ t → AreDigits (take (digits_len z) z) →
    AreDigits (take (cond t (1 + digits_len z) 0) (b ∷ z))
digits_from b z true e h = rw (one_more (digits_len z)) (All-cons (λ x. IsTrue (is_digit x)) b _ e h)
digits_from b z false e h = All-nil (λ x. IsTrue (is_digit x))

pub digits_ahead : (z : Text) → AreDigits (take (digits_len z) z)
digits_ahead [] = All-nil (λ x. IsTrue (is_digit x))
digits_ahead (b ∷ z) = digits_from b z (is_digit b) refl (digits_ahead z)

name_below : (b : ℕ) → is_name_byte b ≡ true → b < 128
name_below b e = grind (arith, nat_tests)

ascii_from : (b : ℕ) (z : Text) (t : Bool) → is_name_byte b ≡ t → All (λ x. x < 128) (take (name_len z) z) →
    All (λ x. x < 128) (take (cond t (1 + name_len z) 0) (b ∷ z))
ascii_from b z true e h = rw (one_more (name_len z)) (All-cons (λ x. x < 128) b _ (name_below b e) h)
ascii_from b z false e h = All-nil (λ x. x < 128)

names_below : (z : Text) → All (λ x. x < 128) (take (name_len z) z)
names_below [] = All-nil (λ x. x < 128)
names_below (b ∷ z) = ascii_from b z (is_name_byte b) refl (names_below z)

below_from : (z : Text) → All (λ x. x < 128) z → IsAscii z
below_from [] h i = omega arith
below_from (b ∷ z) h zero = All-head (λ x. x < 128) b z h
below_from (b ∷ z) h (suc i) = below_from z (All-tail (λ x. x < 128) b z h) i

literal_below : (b : ℕ) → is_literal_byte b ≡ true → b < 128
literal_below b e = grind (arith, nat_tests)

inside_from : (b : ℕ) (z : Text) (t : Bool) → is_literal_byte b ≡ t → All (λ x. x < 128) (take (inside_len z) z) →
    All (λ x. x < 128) (take (cond t (1 + inside_len z) 0) (b ∷ z))
inside_from b z true e h = rw (one_more (inside_len z)) (All-cons (λ x. x < 128) b _ (literal_below b e) h)
inside_from b z false e h = All-nil (λ x. x < 128)

insides_below : (z : Text) → All (λ x. x < 128) (take (inside_len z) z)
insides_below [] = All-nil (λ x. x < 128)
insides_below (b ∷ z) = inside_from b z (is_literal_byte b) refl (insides_below z)

-- the bytes of a literal ahead are ASCII
pub ascii_inside : (z : Text) → IsAscii (take (inside_len z) z)
ascii_inside z = below_from (take (inside_len z) z) (insides_below z)

-- the bytes of a name ahead are ASCII
pub ascii_ahead : (z : Text) → IsAscii (take (name_len z) z)
ascii_ahead z = below_from (take (name_len z) z) (names_below z)
