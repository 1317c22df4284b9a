-- The token at the front of a text is the longest.
use Rattle.std.proofs.Common.{◌≡◌, ℕ, zero, suc, ◌+◌, ◌-◌, ◌<◌, ◌≤◌, min, Bool, true, false, cond, ◌&&◌, ◌||◌, ◌==◌, [], ◌∷◌, length, take, get_or, slice_index, Some, None, refl, sym, ap, subst, ◌∙◌, arith, eq-eqb, ne_eqb, eqb-true, true≢false}
use Rattle.std.proofs.lemmas.List.{take-take, length-take-le, get_or-take}
use Rattle.std.proofs.lemmas.List.Sums.{prefix_len-le-length}
use Rattle.std.specs.List.{prefix_len}
use Rattle.syntax_tree.specs.declared.token.Symbol.{Symbol}
use Rattle.syntax_tree.specs.declared.token.TokenKind.{TokenKind}
use Rattle.syntax_tree.specs.declared.token.TokenKind.TheVariants as kind
use Rattle.syntax_lexer.specs.Piece.{Text, is_letter, is_digit, is_name_byte, is_literal_byte, name_len, digits_len, inside_len, value, word_kind}
use Rattle.syntax_laws.specs.Division.{when, literal_said, symbol_said, symbols, told_by, said_by, IsLongest}
use Rattle.syntax_laws.proofs.Symbols.{IsFirst}

prefix_take : (p : ℕ → Bool) (m : ℕ) (z : Text) → prefix_len p (take m z) ≡ min m (prefix_len p z)
prefix_take p zero z = omega arith
prefix_take p (suc m) [] = omega arith
prefix_take p (suc m) (b ∷ z) =
    elim (p b) as (λ t. cond t (1 + prefix_len p (take m z)) 0 ≡ min (suc m) (cond t (1 + prefix_len p z) 0)) [
      | true ↦ omega (arith, prefix_take p m z)
      | false ↦ omega arith
    ]

prefix_some : (p : ℕ → Bool) (z : Text) → 0 < length z → p (slice_index z 0) ≡ true → 0 < prefix_len p z
prefix_some p [] some first = absurd (omega (arith, some))
prefix_some p (b ∷ z) some first = subst (λ t. 0 < cond t (1 + prefix_len p z) 0) (sym first) (omega arith)

front : (m : ℕ) (z : Text) → 0 < m → said_by (take m z) ≡ told_by (is_letter (slice_index z 0)) (is_digit (slice_index z 0)) (slice_index z 0 == 34) (take m z)
front m z some = ap (λ b. told_by (is_letter b) (is_digit b) (b == 34) (take m z)) (get_or-take m z 0 0 some)

when_yes : (a b : Bool) (token : TokenKind) → a ≡ true → b ≡ true → when (a && b) token ≡ Some token
when_yes a b token ha hb = ap (λ t. when (t && b) token) ha ∙ ap (λ t. when t token) hb

when_no : (a b : Bool) (token : TokenKind) → b ≡ false → when (a && b) token ≡ None
when_no true b token fails = ap (λ t. when t token) fails
when_no false b token fails = refl

-- a token of bytes that pass a test is the longest front of such bytes
prefix_longest : (p : ℕ → Bool) (token : Text → TokenKind) (z : Text) →
    ((m : ℕ) → 0 < m → said_by (take m z) ≡ when (prefix_len p (take m z) == length (take m z)) (token (take m z))) →
    0 < length z → p (slice_index z 0) ≡ true → IsLongest z (prefix_len p z) (token (take (prefix_len p z) z))
prefix_longest p token z says some first = record {
  some = begun;
  within = prefix_len-le-length p z;
  says = says n begun ∙ ap (λ t. when t (token (take n z))) (eq-eqb _ _ whole);
  longest = λ m lt le. says m (omega (arith, lt)) ∙ ap (λ t. when t (token (take m z))) (ne_eqb _ _ (part m lt le));
}
  where
    n : ℕ
    n = prefix_len p z

    begun : 0 < n
    begun = prefix_some p z some first

    whole : prefix_len p (take n z) ≡ length (take n z)
    whole = omega (arith, prefix_take p n z, length-take-le n z (prefix_len-le-length p z))

    part : (m : ℕ) → n < m → m ≤ length z → prefix_len p (take m z) ≡ length (take m z) → ⊥
    part m lt le same = omega (arith, lt, same, prefix_take p m z, length-take-le m z le)

pub word_longest : (z : Text) → 0 < length z → is_letter (slice_index z 0) ≡ true → IsLongest z (name_len z) (word_kind (take (name_len z) z))
word_longest z some letter =
    prefix_longest is_name_byte word_kind z
    (λ m begun. front m z begun ∙ ap (λ t. told_by t (is_digit (slice_index z 0)) (slice_index z 0 == 34) (take m z)) letter)
    some (ap (λ t. t || is_digit (slice_index z 0)) letter)

pub number_longest : (z : Text) → 0 < length z → is_letter (slice_index z 0) ≡ false → is_digit (slice_index z 0) ≡ true →
    IsLongest z (digits_len z) (kind.Number (value (take (digits_len z) z)))
number_longest z some letter digit =
    prefix_longest is_digit (λ t. kind.Number (value t)) z
    (λ m begun. front m z begun ∙ (ap (λ t. told_by t (is_digit (slice_index z 0)) (slice_index z 0 == 34) (take m z)) letter
    ∙ ap (λ t. told_by false t (slice_index z 0 == 34) (take m z)) digit))
    some digit

at_inside : (z : Text) (n v : ℕ) → get_or z n 0 ≡ suc v → n < length z
at_inside [] n v e = absurd (omega (arith, e))
at_inside (b ∷ z) zero v e = omega arith
at_inside (b ∷ z) (suc n) v e = omega (arith, at_inside z n v e)

module _ (b : ℕ) (z : Text) (letter : is_letter b ≡ false) (digit : is_digit b ≡ false) (quote : (b == 34) ≡ true) where
  quoted : (m : ℕ) → said_by (take (suc m) (b ∷ z)) ≡ literal_said (take m z)
  quoted m =
      ap (λ t. told_by t (is_digit b) (b == 34) (b ∷ take m z)) letter
      ∙ (ap (λ t. told_by false t (b == 34) (b ∷ take m z)) digit ∙ ap (λ t. told_by false false t (b ∷ take m z)) quote)

  module _ (closed : slice_index z (inside_len z) ≡ 34) where
    abbrev n : ℕ
    n = inside_len z

    ends : n < length z
    ends = at_inside z n 33 closed

    inside : inside_len (take (n + 1) z) ≡ n
    inside = omega (arith, prefix_take is_literal_byte (n + 1) z)

    literal_yes : literal_said (take (n + 1) z) ≡ Some (kind.Literal (take n z))
    literal_yes =
        when_yes (slice_index (take (n + 1) z) (inside_len (take (n + 1) z)) == 34) (length (take (n + 1) z) == inside_len (take (n + 1) z) + 1) (kind.Literal (take (inside_len (take (n + 1) z)) (take (n + 1) z)))
        (eq-eqb _ _ (ap (get_or_in (take (n + 1) z)) inside ∙ (get_or-take (n + 1) z n 0 (omega arith) ∙ closed)))
        (eq-eqb _ _ (omega (arith, inside, length-take-le (n + 1) z (omega (arith, ends)))))
        ∙ ap (λ x. Some (kind.Literal x)) (ap (λ k. take k (take (n + 1) z)) inside ∙ take-take n (n + 1) z (omega arith))
      where
        get_or_in : Text → ℕ → ℕ
        get_or_in w k = slice_index w k

    literal_no : (m : ℕ) → n + 1 < m → m ≤ length z → literal_said (take m z) ≡ None
    literal_no m lt le =
        when_no (slice_index (take m z) (inside_len (take m z)) == 34) (length (take m z) == inside_len (take m z) + 1) (kind.Literal (take (inside_len (take m z)) (take m z))) (ne_eqb (length (take m z)) (inside_len (take m z) + 1) (λ e. omega (arith, e, lt, prefix_take is_literal_byte m z, length-take-le m z le)))

    longer : (m : ℕ) → n + 2 < m → m ≤ length (b ∷ z) → said_by (take m (b ∷ z)) ≡ None
    longer zero lt le = absurd (omega (arith, lt))
    longer (suc m) lt le = quoted m ∙ literal_no m (omega (arith, lt)) (omega (arith, le))

    pub literal_longest : IsLongest (b ∷ z) (inside_len z + 2) (kind.Literal (take (inside_len z) z))
    literal_longest = record {
      some = omega arith;
      within = omega (arith, ends);
      says =
          let two : n + 2 ≡ suc (n + 1) = omega arith in
          ap (λ k. said_by (take k (b ∷ z))) two ∙ (quoted (n + 1) ∙ literal_yes);
      longest = longer;
    }

  -- where no quote closes the literal no front of the text says a token
  pub literal_never : (slice_index z (inside_len z) == 34) ≡ false → (m : ℕ) → 0 < m → m ≤ length (b ∷ z) → said_by (take m (b ∷ z)) ≡ None
  literal_never unclosed zero some le = absurd (omega (arith, some))
  literal_never unclosed (suc m) some le = quoted m ∙ by (slice_index (take m z) (inside_len (take m z)) == 34) (length (take m z) == inside_len (take m z) + 1) refl refl
    where
      bad : slice_index (take m z) (inside_len (take m z)) ≡ 34 → length (take m z) ≡ inside_len (take m z) + 1 → false ≡ true
      bad at size =
          let whole = prefix_take is_literal_byte m z in
          let len = length-take-le m z (omega (arith, le)) in
          let same : inside_len (take m z) ≡ inside_len z = omega (arith, whole, len, size) in
          let lt : inside_len z < m = omega (arith, whole, len, size) in
          sym unclosed ∙ eq-eqb _ _ (sym (get_or-take m z (inside_len z) 0 lt) ∙ (sym (ap (λ k. slice_index (take m z) k) same) ∙ at))

      by : (s t : Bool) → (slice_index (take m z) (inside_len (take m z)) == 34) ≡ s → (length (take m z) == inside_len (take m z) + 1) ≡ t →
          when (s && t) (kind.Literal (take (inside_len (take m z)) (take m z))) ≡ None
      by true true p q = absurd (true≢false (sym (bad (eqb-true _ _ p) (eqb-true _ _ q))))
      by true false p q = refl
      by false t p q = refl

module _ (z : Text) (letter : is_letter (slice_index z 0) ≡ false) (digit : is_digit (slice_index z 0) ≡ false) (quote : (slice_index z 0 == 34) ≡ false) where
  symbolic : (m : ℕ) → 0 < m → said_by (take m z) ≡ symbol_said (take m z)
  symbolic m some =
      front m z some ∙ (ap (λ t. told_by t (is_digit (slice_index z 0)) (slice_index z 0 == 34) (take m z)) letter
      ∙ (ap (λ t. told_by false t (slice_index z 0 == 34) (take m z)) digit ∙ ap (λ t. told_by false false t (take m z)) quote))

  pub symbol_longest : (s : Symbol) (n : ℕ) → IsFirst symbols z s n → IsLongest z n (kind.Symbol s)
  unfolding symbol_said
  symbol_longest s n first = record {
    some = first.some;
    within = first.within;
    says = symbolic n first.some ∙ first.says;
    longest = λ m lt le. symbolic m (omega (arith, lt)) ∙ first.longest m lt le;
  }

  pub symbol_never : ((m : ℕ) → m ≤ length z → symbol_said (take m z) ≡ None) → (m : ℕ) → 0 < m → m ≤ length z → said_by (take m z) ≡ None
  symbol_never none m some le = symbolic m some ∙ none m le
