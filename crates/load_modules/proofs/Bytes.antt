-- The rules that the bytes of a text can break.
use Rattle.std.proofs.Common.{◌≡◌, ℕ, zero, suc, ◌-◌, ◌∷◌, [], List, Bool, true, false, ◌&&◌, ◌||◌, ◌==◌, nat_lt, if◌then◌else◌, IsTrue, Result, Ok, Err, Option, Some, None, refl, sym, ap, subst, ◌∙◌, drop, slice_index}
use Rattle.base_types.specs.declared.place.Position.{Position}
use Rattle.base_types.specs.declared.place.Refusal.{Refusal}
use Rattle.syntax_tree.specs.declared.token.Token.{Token}
use Rattle.syntax_tree.specs.declared.token.Symbol.{Symbol}
use Rattle.syntax_lexer.specs.Piece.{Text, piece, comment, symbol_piece, number, literal, is_blank, is_letter, is_digit, line_len, comment_len, word_kind, name_len, digits_len, symbol_of, inside_len}
use Rattle.syntax_lexer.specs.Tokens.{Tokens, after, taken, with_front, tokens_after, tokens_of}
use Rattle.syntax_lexer.specs.declared.piece.Piece.{Piece}
use Rattle.syntax_lexer.specs.declared.piece.Piece.TheVariants as p
use Rattle.load_state.specs.Refusals.{is_of_loading}

-- a wrong piece breaks a rule of loading
abbrev Loads : Piece → Type 0
Loads (p.Gap n) = Unit {0}
Loads (p.Token kind n) = Unit {0}
Loads (p.Wrong r) = IsTrue (is_of_loading r)

loads_if : (b : Bool) (x y : Piece) → Loads x → Loads y → Loads (if b then x else y)
loads_if true x y is_x is_y = is_x
loads_if false x y is_x is_y = is_y

loads_comment : (length : Option ℕ) → Loads (comment length)
loads_comment None = refl
loads_comment (Some n) = tt

loads_symbol : (found : Option (Symbol × ℕ)) → Loads (symbol_piece found)
loads_symbol None = refl
loads_symbol (Some s) = tt

loads_number : (z : Text) (n : ℕ) → Loads (number z n)
loads_number z n = loads_if (nat_lt 9 n) _ _ refl tt

loads_literal : (z : Text) → Loads (literal z)
loads_literal z = loads_if (slice_index z (inside_len z) == 34) _ _ tt refl

loads_piece : (z : Text) → Loads (piece z)
unfolding piece
loads_piece z =
    let b = slice_index z 0 in
    let next = slice_index z 1 in
    loads_if (is_blank b) _ _ tt
    (loads_if ((b == 47 && next == 47) || (b == 45 && next == 45)) _ _ tt
    (loads_if (b == 47 && next == 42) _ _ (loads_comment (comment_len z))
    (loads_if (is_letter b) _ _ tt
    (loads_if (is_digit b) _ _ (loads_number z (digits_len z))
    (loads_if (b == 34) _ _ (loads_literal (drop 1 z)) (loads_symbol (symbol_of z)))))))

-- where there are no tokens, the refusal is by a rule of loading
abbrev Breaks : Tokens → Type 0
Breaks (Ok tokens) = Unit {0}
Breaks (Err r) = IsTrue (is_of_loading r.rule)

breaks_front : (front : List Token) (later : Tokens) → Breaks later → Breaks (with_front front later)
breaks_front front (Ok tokens) breaks = tt
breaks_front front (Err r) breaks = breaks

breaks_taken : (at : Position) (found : Piece) (later : ℕ → Tokens) → Loads found → ((n : ℕ) → Breaks (later n)) → Breaks (taken at found later)
breaks_taken at (p.Gap n) later loads breaks = breaks n
breaks_taken at (p.Token kind n) later loads breaks = breaks_front (record { kind = kind; place = at } ∷ []) (later n) (breaks n)
breaks_taken at (p.Wrong wrong) later loads breaks = loads

breaks_after : (n : ℕ) (at : Position) (z : Text) → Breaks (tokens_after n at z)
breaks_after n at [] = tt
breaks_after (suc n) at (b ∷ z) = breaks_after n (after at b) z
breaks_after zero at (b ∷ z) = breaks_taken at (piece (b ∷ z)) (λ n. tokens_after (n - 1) (after at b) z) (loads_piece (b ∷ z)) (λ n. breaks_after (n - 1) (after at b) z)

-- a text without tokens breaks a rule of loading
pub uncut_loads : (number : ℕ) (bytes : List ℕ) (r : Refusal) → tokens_of number bytes ≡ Err r → IsTrue (is_of_loading r.rule)
unfolding tokens_of
uncut_loads number bytes r is = subst Breaks is (breaks_after 0 (record { «module» = number; line = 1; column = 1 }) bytes)
