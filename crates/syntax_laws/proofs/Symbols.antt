-- The first symbol of the table with which a text begins is the longest that begins there.
use Rattle.std.proofs.Common.{◌≡◌, ℕ, ◌<◌, ◌≤◌, Bool, true, false, not, ◌&&◌, nat_lt, if◌then◌else◌, List, [], ◌∷◌, length, take, Option, Some, None, refl, sym, ap, subst, ◌∙◌, true≢false, arith, lt-ltb, ltb-true}
use Rattle.std.proofs.lemmas.List.{take-take, length-take, length-take-le}
use Rattle.std.proofs.lemmas.Slice.Eq.{bytes_eq-Decides}
use Rattle.std.specs.Str.{bytes_eq}
use Rattle.syntax_tree.specs.declared.token.Symbol.{Symbol}
use Rattle.syntax_tree.specs.declared.token.TokenKind.TheVariants as kind
use Rattle.syntax_lexer.specs.Piece.{Text, first_symbol, symbol_of}
use Rattle.syntax_laws.specs.Division.{entry_of, symbols}

abbrev Table : Type 0
Table = List (Text × Symbol)

pub never : {A : Type 0} → false ≡ true → A
never e = absurd (true≢false (sym e))

pub and_left : (a b : Bool) → (a && b) ≡ true → a ≡ true
and_left true b e = refl
and_left false b e = e

pub and_right : (a b : Bool) → (a && b) ≡ true → b ≡ true
and_right true b e = e
and_right false b e = never e

-- no symbol of the table is a longer one that begins with this text
abbrev none_longer : Text → Table → Bool
none_longer e [] = true
none_longer e (f ∷ fs) = not (bytes_eq e (take (length e) f.0) && nat_lt (length e) (length f.0)) && none_longer e fs

abbrev longest_first : Table → Bool
longest_first [] = true
longest_first (e ∷ es) = none_longer e.0 es && longest_first es

abbrev have_some : Table → Bool
have_some [] = true
have_some (e ∷ es) = nat_lt 0 (length e.0) && have_some es

equal : (a b : Text) → bytes_eq a b ≡ true → a ≡ b
equal a b e = (bytes_eq-Decides a b).0 e

equal_test : (a b : Text) → a ≡ b → bytes_eq a b ≡ true
equal_test a b e = (bytes_eq-Decides a b).1 e

-- a longer text says no symbol where the shorter front is a symbol before which no longer one stands
no_longer : (e : Text) (fs : Table) (z : Text) (m : ℕ) → none_longer e fs ≡ true → e ≡ take (length e) z → length e < m → m ≤ length z →
    entry_of fs (take m z) ≡ None
no_longer e [] z m ok is lt le = refl
no_longer e (f ∷ fs) z m ok is lt le = by (no_longer e fs z m (and_right _ _ ok) is lt le) (bytes_eq f.0 (take m z)) refl
  where
    long : (f.0 ≡ take m z) → bytes_eq e (take (length e) f.0) ≡ true
    long same = equal_test e (take (length e) f.0) (is ∙ (sym (take-take (length e) m z (omega (arith, lt))) ∙ ap (take (length e)) (sym same)))

    longer : (f.0 ≡ take m z) → nat_lt (length e) (length f.0) ≡ true
    longer same = lt-ltb (length e) (length f.0) (subst (λ k. length e < k) (sym (ap length same ∙ length-take-le m z le)) lt)

    bad : f.0 ≡ take m z → false ≡ true
    bad same = ap not (sym (ap (λ t. t && nat_lt (length e) (length f.0)) (long same) ∙ longer same)) ∙ and_left _ _ ok

    by : entry_of fs (take m z) ≡ None → (t : Bool) → bytes_eq f.0 (take m z) ≡ t → (if t then Some (kind.Symbol f.1) else entry_of fs (take m z)) ≡ None
    by rest true q = never (bad (equal f.0 (take m z) q))
    by rest false q = rest

-- the symbol with this length is the longest of the table that begins the text
pub record IsFirst (es : Table) (z : Text) (s : Symbol) (n : ℕ) : Type 0 where
  pub some : 0 < n
  pub within : n ≤ length z
  pub says : entry_of es (take n z) ≡ Some (kind.Symbol s)
  pub longest : (m : ℕ) → n < m → m ≤ length z → entry_of es (take m z) ≡ None

abbrev pub IsFirstOf : Table → Text → Option (Symbol × ℕ) → Type 0
IsFirstOf es z None = (m : ℕ) → m ≤ length z → entry_of es (take m z) ≡ None
IsFirstOf es z (Some s) = IsFirst es z s.0 s.1

-- an entry that doesn't begin the text is no front of it
skipped : (e : Text × Symbol) (es : Table) (z : Text) (m : ℕ) → bytes_eq e.0 (take (length e.0) z) ≡ false → m ≤ length z →
    entry_of (e ∷ es) (take m z) ≡ entry_of es (take m z)
skipped e es z m differs le = by (bytes_eq e.0 (take m z)) refl
  where
    other : bytes_eq e.0 (take m z) ≡ true → false ≡ true
    other same =
        let size : length e.0 ≡ m = ap length (equal e.0 (take m z) same) ∙ length-take-le m z le in
        sym differs ∙ (ap (λ k. bytes_eq e.0 (take k z)) size ∙ same)

    by : (t : Bool) → bytes_eq e.0 (take m z) ≡ t → (if t then Some (kind.Symbol e.1) else entry_of es (take m z)) ≡ entry_of es (take m z)
    by true q = never (other q)
    by false q = refl

past : (e : Text × Symbol) (es : Table) (z : Text) (o : Option (Symbol × ℕ)) → bytes_eq e.0 (take (length e.0) z) ≡ false → IsFirstOf es z o → IsFirstOf (e ∷ es) z o
past e es z None differs first = λ m le. skipped e es z m differs le ∙ first m le
past e es z (Some s) differs first = record {
  some = first.some;
  within = first.within;
  says = skipped e es z s.1 differs first.within ∙ first.says;
  longest = λ m lt le. skipped e es z m differs le ∙ first.longest m lt le;
}

here : (e : Text × Symbol) (es : Table) (z : Text) → longest_first (e ∷ es) ≡ true → have_some (e ∷ es) ≡ true → e.0 ≡ take (length e.0) z →
    IsFirst (e ∷ es) z e.1 (length e.0)
here e es z order some is = record {
  some = ltb-true 0 (length e.0) (and_left _ _ some);
  within = within;
  says = ap (λ t. if t then Some (kind.Symbol e.1) else entry_of es (take (length e.0) z)) (equal_test e.0 (take (length e.0) z) is);
  longest = λ m lt le. by m lt le (bytes_eq e.0 (take m z)) refl;
}
  where
    within : length e.0 ≤ length z
    within = omega (arith, ap length is ∙ length-take (length e.0) z)

    by : (m : ℕ) → length e.0 < m → m ≤ length z → (t : Bool) → bytes_eq e.0 (take m z) ≡ t → (if t then Some (kind.Symbol e.1) else entry_of es (take m z)) ≡ None
    by m lt le true q = absurd (omega (arith, lt, ap length (equal e.0 (take m z) q) ∙ length-take-le m z le))
    by m lt le false q = no_longer e.0 es z m (and_left _ _ order) is lt le

first_of : (es : Table) (z : Text) → longest_first es ≡ true → have_some es ≡ true → IsFirstOf es z (first_symbol es z)
first_of [] z order some = λ m le. refl
first_of (e ∷ es) z order some = by (first_of es z (and_right _ _ order) (and_right _ _ some)) (bytes_eq e.0 (take (length e.0) z)) refl
  where
    by : IsFirstOf es z (first_symbol es z) → (t : Bool) → bytes_eq e.0 (take (length e.0) z) ≡ t → IsFirstOf (e ∷ es) z (if t then Some (e.1, length e.0) else first_symbol es z)
    by rest true q = here e es z order some (equal e.0 (take (length e.0) z) q)
    by rest false q = past e es z (first_symbol es z) q rest

pub symbol_is_first : (z : Text) → IsFirstOf symbols z (symbol_of z)
unfolding symbol_of
symbol_is_first z = first_of symbols z refl refl
