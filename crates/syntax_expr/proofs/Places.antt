-- Lists of tokens from a place on.
use Rattle.std.proofs.Common.{◌≡◌, ℕ, zero, suc, ◌+◌, ◌-◌, ◌<◌, List, [], ◌∷◌, ◌++◌, length, take, drop, refl, sym, ap, ◌∙◌, arith, length-append, length-drop}
use Rattle.std.specs.Prelude.{IsTrue, nat_le, min}
use Rattle.std.proofs.lemmas.Bool.Decides.{leb_tells}
use Rattle.syntax_tree.specs.declared.token.Token.{Token}
use Rattle.syntax_tree.specs.declared.token.TokenKind.TheVariants as kind
use Rattle.syntax_tree.specs.Words.{Spelled}
use Rattle.syntax_tree.specs.Levels.{has_some}
use Rattle.syntax_tree.specs.Spelling.{kinds, EndsWell}
use Rattle.syntax_expr.specs.Reads.{Spells}

pub EndsWell-drop : (n : ℕ) (ts : List Token) → n < length ts → EndsWell ts → EndsWell (drop n ts)
EndsWell-drop zero ts h e = e
EndsWell-drop (suc n) [] h e = absurd (omega arith)
EndsWell-drop (suc n) (t ∷ []) h e = absurd (omega arith)
EndsWell-drop (suc n) (t ∷ u ∷ ts) h e = EndsWell-drop n (u ∷ ts) (omega arith) e

length_kinds : (ts : List Token) → length (kinds ts) ≡ length ts
length_kinds [] = refl
length_kinds (t ∷ ts) = ap suc (length_kinds ts)

take_kinds : (n : ℕ) (ts : List Token) → kinds (take n ts) ≡ take n (kinds ts)
take_kinds zero ts = refl
take_kinds (suc n) [] = refl
take_kinds (suc n) (t ∷ ts) = ap (λ ws. t.kind ∷ ws) (take_kinds n ts)

take_front : (ws vs : Spelled) → take (length ws) (ws ++ vs) ≡ ws
take_front [] vs = refl
take_front (w ∷ ws) vs = ap (λ xs. w ∷ xs) (take_front ws vs)

-- what was read from a place on, up to the tokens that are left
pub spells_read : (tokens left : List Token) (from next : ℕ) (words : Spelled) → from < length tokens → 0 < length left →
    next ≡ length tokens - length left → kinds (drop from tokens) ≡ words ++ kinds left → Spells tokens from next words
spells_read tokens left from next words inside some at read =
    let long : length words + length left ≡ length tokens - from =
    omega (arith, length-append words (kinds left), length_kinds left, length_kinds (drop from tokens), length-drop from tokens, ap length read) in
    let count : next - from ≡ length words = omega arith in
    record {
      order = omega arith;
      within = omega arith;
      same = take_kinds (next - from) (drop from tokens) ∙ (ap (take (next - from)) read ∙ (ap (λ n. take n (words ++ kinds left)) count ∙ take_front words (kinds left)));
    }

take_whole : (ts : List Token) → take (length ts) ts ≡ ts
take_whole [] = refl
take_whole (t ∷ ts) = ap (λ us. t ∷ us) (take_whole ts)

pub take_rest : (n : ℕ) (ts : List Token) → take (length ts - n) (drop n ts) ≡ drop n ts
take_rest n ts = ap (λ k. take k (drop n ts)) (sym (length-drop n ts)) ∙ take_whole (drop n ts)

-- a list that ends well and has one token
pub one_left : (ts : List Token) → length ts < 2 → EndsWell ts → kinds ts ≡ kind.End ∷ []
one_left [] h e = absurd e
one_left (t ∷ []) h e = ap (λ k. k ∷ []) e
one_left (t ∷ u ∷ ts) h e = absurd (omega arith)

-- a list that has an item
pub some_has : {A : Type 0} (xs : List A) → 0 < length xs → IsTrue (has_some xs)
some_has [] h = absurd (omega arith)
some_has (x ∷ xs) h = refl

-- a number cut off at one above the limit is within the limit exactly if the number is
pub capped : (d most limit : ℕ) → limit < most → nat_le (min d most) limit ≡ nat_le d limit
capped d most limit h = grind (arith, leb_tells (min d most) limit, leb_tells d limit)
