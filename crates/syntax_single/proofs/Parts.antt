-- Names, bounds, blocks and lists in brackets, as pieces of a text.
use Rattle.std.proofs.Common.{◌≡◌, ◌⊎◌, inl, inr, ℕ, Bool, true, false, not, ◌&&◌, ◌||◌, ◌==◌, List, [], ◌∷◌, ◌++◌, Option, Some, None, map, refl, sym, ap, ◌∙◌, true≢false, append_assoc}
use Rattle.std.proofs.lemmas.List.{map-id}
use Rattle.syntax_tree.specs.declared.token.TokenKind.{TokenKind}
use Rattle.syntax_tree.specs.declared.token.TokenKind.TheVariants as kind
use Rattle.syntax_tree.specs.declared.token.Word.{Word}
use Rattle.syntax_tree.specs.declared.token.Word.TheVariants as w
use Rattle.syntax_tree.specs.declared.token.Symbol.{Symbol}
use Rattle.syntax_tree.specs.declared.token.Symbol.TheVariants as mark
use Rattle.syntax_tree.specs.declared.operator.Multiplicity.{Multiplicity}
use Rattle.syntax_tree.specs.declared.operator.Multiplicity.TheVariants as multiplicity
use Rattle.syntax_tree.specs.declared.expr.QualName.{QualName}
use Rattle.syntax_tree.specs.declared.expr.Named.{Named}
use Rattle.syntax_tree.specs.declared.expr.Expr.{Expr}
use Rattle.syntax_tree.specs.declared.module.SigName.{SigName}
use Rattle.syntax_tree.specs.declared.module.SigName.TheVariants as sig_of
use Rattle.syntax_tree.specs.Words.{Spelled, word, symbol, multiplicity_words}
use Rattle.syntax_tree.specs.Spelling.{separated, after_each, optional, one_name, own_words, name_words, spelling}
use Rattle.syntax_tree.specs.Levels.{has_some, name_right, shape, is_bound, is_level_right, is_right_block}
use Rattle.syntax_tree.specs.ModuleWords.{sig_name_words, in_brackets, in_braces}
use Rattle.syntax_tree.specs.ModuleRules.{sig_name_right, comma_right}
use Rattle.syntax_single.specs.Placeless.{nowhere, placeless, placeless_name, placeless_named}
use Rattle.syntax_single.specs.PlacelessModule.{placeless_sig_name}
use Rattle.syntax_single.proofs.Reader.{Stop, closing, other, sign_at, is_disj, looks, named, word_at, rest}
use Rattle.syntax_single.proofs.Fits.{both_left, both_right}
use Rattle.syntax_single.proofs.Forms.{Part}
use Rattle.syntax_single.proofs.Operators.{word_found}
use Rattle.syntax_single.proofs.Variables.{bound_right, bound_wordless}
use Rattle.syntax_single.proofs.Law.{tree_read}
use Rattle.syntax_single.proofs.Cut.{Ends, Quiet, Shut, Halts, cut, bound_ends, value_ends, block_ends}
use Rattle.syntax_single.proofs.Pieces.{Piece, Any, token, one, flag, paired, both, either, maybe, seen, Each, Some_, listed}

-- Which token a text begins with, of those that tell how a part goes on.

abbrev pub symbol_going : Symbol → ℕ
symbol_going mark.Slash = 1
symbol_going mark.OpenBracket = 2
symbol_going mark.OpenBrace = 3
symbol_going mark.Comma = 4
symbol_going mark.Colon = 5
symbol_going mark.CloseBrace = 6
symbol_going mark.OpenParenthesis = 7
symbol_going mark.Plus = 8
symbol_going _ = 0

abbrev pub word_going : Word → ℕ
word_going w.As = 9
word_going w.For = 10
word_going w.Expect = 11
word_going w.But = 12
word_going w.Module = 13
word_going w.Extends = 14
word_going w.In = 15
word_going w.This = 16
word_going w.Int = 17
word_going w.Exactly = 18
word_going w.IntScope = 19
word_going _ = 0

abbrev pub going : Spelled → ℕ
going [] = 0
going (kind.Word a ∷ ts) = word_going a
going (kind.Symbol a ∷ ts) = symbol_going a
going (_ ∷ ts) = 0

abbrev pub at_slash : Spelled → Bool
at_slash ts = going ts == 1

abbrev pub at_bracket : Spelled → Bool
at_bracket ts = going ts == 2

abbrev pub at_brace : Spelled → Bool
at_brace ts = going ts == 3

abbrev pub at_comma : Spelled → Bool
at_comma ts = going ts == 4

abbrev pub at_colon : Spelled → Bool
at_colon ts = going ts == 5

abbrev pub at_close : Spelled → Bool
at_close ts = going ts == 6

abbrev pub at_plus : Spelled → Bool
at_plus ts = going ts == 8

abbrev pub at_this : Spelled → Bool
at_this ts = going ts == 16

abbrev pub at_int : Spelled → Bool
at_int ts = going ts == 17

abbrev pub at_disj : Spelled → Bool
at_disj [] = false
at_disj (t ∷ ts) = is_disj t

-- a comma with one more part behind it
abbrev pub more_items : Spelled → Bool
more_items ts = at_comma ts && not (at_close (rest ts))

-- Small facts.

pub units : {A : Type 0} (xs : List A) → Each (λ x. Unit {0}) xs
units [] = tt
units (x ∷ xs) = (tt, units xs)

pub some_units : {A : Type 0} (xs : List A) → has_some xs ≡ true → Some_ (λ x. Unit {0}) xs
some_units [] h = absurd (true≢false (sym h))
some_units (x ∷ xs) h = (tt, units xs)

pub some_each : {A : Type 0} (Ok : A → Type 0) (xs : List A) → has_some xs ≡ true → Each Ok xs → Some_ Ok xs
some_each Ok [] h p = absurd (true≢false (sym h))
some_each Ok (x ∷ xs) h p = p

none_left : (a b : Bool) → (a || b) ≡ false → a ≡ false
none_left true b h = h
none_left false b h = refl

same_some : {A : Type 0} (a b : A) → Some a ≡ Some b → a ≡ b
same_some a b h = cc

-- what a token stands for is known from it
pub from_token : {A : Type 0} (token_of : A → TokenKind) (back : TokenKind → Option A) → ((a : A) → back (token_of a) ≡ Some a) → (a b : A) → token_of a ≡ token_of b → a ≡ b
from_token token_of back is a b h = same_some a b (sym (is a) ∙ (ap back h ∙ is b))

-- Names.

pub same_name : (a b : List ℕ) → kind.Name a ≡ kind.Name b → a ≡ b
same_name a b h = cc

pub same_named : (a b : Named) → kind.Name a.name ≡ kind.Name b.name → placeless_named a ≡ placeless_named b
same_named a b h = ap (λ n. record { place = nowhere; name = n }) (same_name a.name b.name h)

abbrev pub a_part : Piece (List ℕ) (List ℕ)
a_part = one (λ n. kind.Name n) (λ n. n) same_name

abbrev pub a_named : Piece Named Named
a_named = one (λ n. kind.Name n.name) placeless_named same_named

abbrev pub names : Piece (List Named) (List Named)
names = listed a_named (λ r. more_items r ≡ false) more_items (λ r f. tt) (λ r f. f) mark.Comma (λ x ts p. refl) (λ ts. tt)

pub own_peels : (a b : Bool) (r s : Spelled) → at_this r ≡ false → at_this s ≡ false → own_words a ++ r ≡ own_words b ++ s → (a ≡ b) × (r ≡ s)
own_peels true true r s f g h = (refl, cc)
own_peels true false r s f g h = absurd (true≢false (ap at_this h ∙ g))
own_peels false true r s f g h = absurd (true≢false (ap at_this (sym h) ∙ f))
own_peels false false r s f g h = (refl, h)

abbrev pub is_own : Piece Bool Bool
is_own = record { words = own_words; plain = λ b. b; Ok = λ b. Unit {0}; Follow = λ r. at_this r ≡ false; peels = λ a b r s p q f g h. own_peels a b r s f g h }

abbrev pub path : Piece (List (List ℕ)) (List (List ℕ))
path = listed a_part (λ r. at_slash r ≡ false) at_slash (λ r f. tt) (λ r f. f) mark.Slash (λ x ts p. refl) (λ ts. tt)

pub path_begins : (ps : List (List ℕ)) (r : Spelled) → Some_ (λ n. Unit {0}) ps → at_this (separated mark.Slash (map one_name ps) ++ r) ≡ false
path_begins [] r p = absurd p
path_begins (n ∷ ps) r p = refl

abbrev pub qual_name : Piece QualName QualName
qual_name = seen (both is_own path (λ ps r p f. path_begins ps r p)) name_words placeless_name (λ q. name_right q ≡ true) (λ r. at_slash r ≡ false) (λ q. (q.is_own, q.parts)) (λ v. record { place = nowhere; is_own = v.0; parts = v.1 })
    (λ q p. (tt, some_units q.parts p)) (λ r f. f) (λ q p. refl) (λ q p. ap (λ ps. record { place = nowhere; is_own = q.is_own; parts = ps }) (sym (map-id q.parts)))

pub name_begins : (is_own : Bool) (ps : List (List ℕ)) (r : Spelled) → has_some ps ≡ true → at_int ((own_words is_own ++ separated mark.Slash (map one_name ps)) ++ r) ≡ false
name_begins true ps r h = refl
name_begins false [] r h = absurd (true≢false (sym h))
name_begins false (n ∷ ps) r h = refl

abbrev pub sig_name_to : SigName → QualName ⊎ Unit {0}
sig_name_to (sig_of.Name q) = inl q
sig_name_to (sig_of.Int place) = inr tt

abbrev pub sig_name_back : QualName ⊎ Unit {0} → SigName
sig_name_back (inl q) = sig_of.Name q
sig_name_back (inr x) = sig_of.Int nowhere

abbrev pub name_or_int : Piece (QualName ⊎ Unit {0}) (QualName ⊎ Unit {0})
name_or_int = either qual_name (token (word w.Int)) (λ ts. not (at_int ts)) (λ q r p f g. ap (λ b. not b) (name_begins q.is_own q.parts r p)) (λ x r p f g. refl)

pub sig_name_ok : (n : SigName) → sig_name_right n ≡ true → name_or_int.Ok (sig_name_to n)
sig_name_ok (sig_of.Name q) p = p
sig_name_ok (sig_of.Int place) p = tt

pub sig_name_spelled : (n : SigName) → sig_name_words n ≡ name_or_int.words (sig_name_to n)
sig_name_spelled (sig_of.Name q) = refl
sig_name_spelled (sig_of.Int place) = refl

pub sig_name_plain : (n : SigName) → placeless_sig_name n ≡ sig_name_back (name_or_int.plain (sig_name_to n))
sig_name_plain (sig_of.Name q) = refl
sig_name_plain (sig_of.Int place) = refl

abbrev pub a_sig_name : Piece SigName SigName
a_sig_name = seen name_or_int sig_name_words placeless_sig_name (λ n. sig_name_right n ≡ true) (λ r. at_slash r ≡ false) sig_name_to sig_name_back sig_name_ok (λ r f. (f, tt)) (λ n p. sig_name_spelled n) (λ n p. sig_name_plain n)

-- Expressions.

abbrev pub tree_part : Expr → Part
tree_part e = record { words = spelling e; shape = shape e; value = placeless e; reads = (tree_read e).reads; front = (tree_read e).front }

found : (v : Option Multiplicity) (e : Expr) (more : Spelled) → is_bound e ≡ true → word_at false (multiplicity_words v ++ (spelling e ++ more)) ≡ v
found None e more h = bound_wordless (tree_part e) more h
found (Some m) e more h = word_found m (spelling e ++ more)

behind_word : (v : Option Multiplicity) (a b : Spelled) → multiplicity_words v ++ a ≡ multiplicity_words v ++ b → a ≡ b
behind_word None a b h = h
behind_word (Some m) a b h = cc

pub bound_peels : (a b : Option Multiplicity × Expr) (r s : Spelled) → is_bound a.1 ≡ true → is_bound b.1 ≡ true → Quiet r → Quiet s → (multiplicity_words a.0 ++ spelling a.1) ++ r ≡ (multiplicity_words b.0 ++ spelling b.1) ++ s →
    (◌≡◌ {A = Option Multiplicity × Expr} (a.0, placeless a.1) (b.0, placeless b.1)) × (r ≡ s)
bound_peels a b r s p q f g h =
    let same : multiplicity_words a.0 ++ (spelling a.1 ++ r) ≡ multiplicity_words b.0 ++ (spelling b.1 ++ s) = sym (append_assoc (multiplicity_words a.0) (spelling a.1) r) ∙ (h ∙ append_assoc (multiplicity_words b.0) (spelling b.1) s) in
    let is : a.0 ≡ b.0 = sym (found a.0 a.1 r p) ∙ (ap (λ ts. word_at false ts) same ∙ found b.0 b.1 s q) in
    let trees : (placeless a.1 ≡ placeless b.1) × (r ≡ s) = cut (Stop ∷ []) (λ x. refl) (tree_part a.1) (tree_part b.1) r s (bound_ends (tree_part a.1) p r f) (bound_ends (tree_part b.1) q s g)
    (behind_word a.0 (spelling a.1 ++ r) (spelling b.1 ++ s) (same ∙ ap (λ o. multiplicity_words o ++ (spelling b.1 ++ s)) (sym is))) in
    (paired a.0 b.0 (placeless a.1) (placeless b.1) is trees.0, trees.1)

-- a bound with the word before it
abbrev pub a_bound : Piece (Option Multiplicity × Expr) (Option Multiplicity × Expr)
a_bound = record { words = λ b. multiplicity_words b.0 ++ spelling b.1; plain = λ b. (b.0, placeless b.1); Ok = λ b. is_bound b.1 ≡ true; Follow = Quiet; peels = bound_peels }

first_no_disj : (ws r : Spelled) → sign_at ws ≡ other → looks (ws ++ []) ≡ false → at_disj (ws ++ r) ≡ false
first_no_disj [] r starts h = absurd (never starts)
  where
    never : closing ≡ other → ⊥
    never e = cc
first_no_disj (t ∷ ts) r starts h = none_left (is_disj t) (named false (t ∷ (ts ++ []))) h

-- no bound begins with `disj`
pub bound_begins : (v : Option Multiplicity) (e : Expr) (r : Spelled) → is_bound e ≡ true → at_disj ((multiplicity_words v ++ spelling e) ++ r) ≡ false
bound_begins None e r h = let front = (tree_read e).front (bound_right (tree_part e) h) in first_no_disj (spelling e) r front.starts (front.nameless [] refl)
bound_begins (Some multiplicity.Set) e r h = refl
bound_begins (Some multiplicity.One) e r h = refl
bound_begins (Some multiplicity.Lone) e r h = refl
bound_begins (Some multiplicity.Some) e r h = refl

pub value_peels : (a b : Expr) (r s : Spelled) → is_level_right a ≡ true → is_level_right b ≡ true → Shut r → Shut s → spelling a ++ r ≡ spelling b ++ s → (placeless a ≡ placeless b) × (r ≡ s)
value_peels a b r s p q f g h = cut [] (λ x. refl) (tree_part a) (tree_part b) r s (value_ends (tree_part a) p r f) (value_ends (tree_part b) q s g) h

abbrev pub a_value : Piece Expr Expr
a_value = record { words = spelling; plain = placeless; Ok = λ e. is_level_right e ≡ true; Follow = Shut; peels = value_peels }

abbrev Opened : Expr → Type 0
Opened e = (rest : Spelled) × (spelling e ≡ symbol mark.OpenBrace ∷ rest) × ((shape e).level ≡ 19) × ((shape e).is_open ≡ false)

opened : (e : Expr) → is_right_block e ≡ true → Opened e
opened e h = ((tree_read e).front (both_left (shape e).right (shape e).is_block h)).opened (both_right (shape e).right (shape e).is_block h)

pub block_peels : (a b : Expr) (r s : Spelled) → is_right_block a ≡ true → is_right_block b ≡ true → Halts r → Halts s → spelling a ++ r ≡ spelling b ++ s → (placeless a ≡ placeless b) × (r ≡ s)
block_peels a b r s p q f g h = cut [] (λ x. refl) (tree_part a) (tree_part b) r s (ends a p r f) (ends b q s g) h
  where
    ends : (e : Expr) → is_right_block e ≡ true → (s : Spelled) → Halts s → Ends [] (tree_part e) s
    ends e h s halts = let it : Opened e = opened e h in block_ends (tree_part e) (both_left (shape e).right (shape e).is_block h) it.2 it.3 s halts

abbrev pub a_block : Piece Expr Expr
a_block = record { words = spelling; plain = placeless; Ok = λ e. is_right_block e ≡ true; Follow = Halts; peels = block_peels }

-- a block begins with a brace, whatever a test makes of what is behind it
pub block_begins : {V : Type 0} (test : Spelled → V) (v : V) → ((ts : Spelled) → test (symbol mark.OpenBrace ∷ ts) ≡ v) → (e : Expr) (r : Spelled) → is_right_block e ≡ true → test (spelling e ++ r) ≡ v
block_begins test v is e r h = let it : Opened e = opened e h in ap (λ ws. test (ws ++ r)) it.1 ∙ is (it.0 ++ r)

-- Lists in brackets.

module _ {A V : Type 0} (P : Piece A V) (begins : (x : A) (ts : Spelled) → P.Ok x → at_close (P.words x ++ ts) ≡ false) (at_mark : (ts : Spelled) → P.Follow (symbol mark.Comma ∷ ts)) where
  abbrev pub ItemFollow : Spelled → Type 0
  ItemFollow r = (more_items r ≡ false) × P.Follow r

  abbrev pub items : Piece (List A) (List V)
  items = listed P ItemFollow more_items (λ r f. f.1) (λ r f. f.0) mark.Comma (λ x ts p. ap (λ b. not b) (begins x ts p)) at_mark

  module _ (at_end : (ts : Spelled) → P.Follow (symbol mark.CloseBracket ∷ ts)) where
    abbrev pub bracketed : Piece (Unit {0} × (List A × Unit {0})) (Unit {0} × (List V × Unit {0}))
    bracketed = both (token (symbol mark.OpenBracket)) (both items (token (symbol mark.CloseBracket)) (λ x r p f. (refl, at_end r))) (λ x r p f. tt)

    abbrev pub brackets_to : List A → Option (Unit {0} × (List A × Unit {0}))
    brackets_to [] = None
    brackets_to (x ∷ xs) = Some (tt, (x ∷ xs, tt))

    abbrev pub brackets_back : Option (Unit {0} × (List V × Unit {0})) → List V
    brackets_back None = []
    brackets_back (Some v) = v.1.0

    abbrev pub brackets_or_none : Piece (Option (Unit {0} × (List A × Unit {0}))) (Option (Unit {0} × (List V × Unit {0})))
    brackets_or_none = maybe bracketed at_bracket (λ x r p f. refl)

    pub brackets_ok : (xs : List A) → Each P.Ok xs → brackets_or_none.Ok (brackets_to xs)
    brackets_ok [] p = tt
    brackets_ok (x ∷ xs) p = (tt, (p, tt))

    pub brackets_spelled : (xs : List A) → in_brackets (map P.words xs) ≡ brackets_or_none.words (brackets_to xs)
    brackets_spelled [] = refl
    brackets_spelled (x ∷ xs) = refl

    pub brackets_plain : (xs : List A) → map P.plain xs ≡ brackets_back (brackets_or_none.plain (brackets_to xs))
    brackets_plain [] = refl
    brackets_plain (x ∷ xs) = refl

    -- in square brackets, or nothing
    abbrev pub brackets : Piece (List A) (List V)
    brackets = seen brackets_or_none (λ xs. in_brackets (map P.words xs)) (map P.plain) (Each P.Ok) (λ r. at_bracket r ≡ false) brackets_to brackets_back brackets_ok (λ r f. (tt, f)) (λ xs p. brackets_spelled xs) (λ xs p. brackets_plain xs)

  module _ (at_end : (ts : Spelled) → P.Follow (symbol mark.CloseBrace ∷ ts)) where
    pub comma_follow : (c : Bool) (r : Spelled) → ItemFollow ((optional c (symbol mark.Comma) ++ symbol mark.CloseBrace ∷ []) ++ r)
    comma_follow true r = (refl, at_mark (symbol mark.CloseBrace ∷ r))
    comma_follow false r = (refl, at_end r)

    abbrev pub Listed : Type 0 → Type 0
    Listed X = List X × (Bool × Unit {0})

    abbrev pub some_items : Piece (Listed A) (Listed V)
    some_items = both items (both (flag (symbol mark.Comma) at_comma (λ ts. refl)) (token (symbol mark.CloseBrace)) (λ x r p f. refl)) (λ x r p f. comma_follow x.0 r)

    pub items_begin : (xs : List A) (rest r : Spelled) → Some_ P.Ok xs → at_close ((separated mark.Comma (map P.words xs) ++ rest) ++ r) ≡ false
    items_begin [] rest r p = absurd p
    items_begin (x ∷ xs) rest r p = ap at_close (append_assoc (P.words x ++ after_each mark.Comma (map P.words xs)) rest r ∙ append_assoc (P.words x) (after_each mark.Comma (map P.words xs)) (rest ++ r)) ∙ begins x (after_each mark.Comma (map P.words xs) ++ (rest ++ r)) p.0

    abbrev pub braced : Piece (Unit {0} × (Unit {0} ⊎ Listed A)) (Unit {0} × (Unit {0} ⊎ Listed V))
    braced = both (token (symbol mark.OpenBrace)) (either (token (symbol mark.CloseBrace)) some_items at_close (λ x r p f g. refl) (λ x r p f g. items_begin x.0 (optional x.1.0 (symbol mark.Comma) ++ symbol mark.CloseBrace ∷ []) r p.0)) (λ x r p f. tt)

    abbrev pub braces_to : List A × Bool → Unit {0} × (Unit {0} ⊎ Listed A)
    braces_to ([], c) = (tt, inl tt)
    braces_to (x ∷ xs, c) = (tt, inr (x ∷ xs, (c, tt)))

    abbrev pub braces_back : Unit {0} × (Unit {0} ⊎ Listed V) → List V × Bool
    braces_back (u, inl x) = ([], false)
    braces_back (u, inr x) = (x.0, x.1.0)

    abbrev pub BracesOk : List A × Bool → Type 0
    BracesOk x = Each P.Ok x.0 × (comma_right x.0 x.1 ≡ true)

    pub braces_ok : (x : List A × Bool) → BracesOk x → braced.Ok (braces_to x)
    braces_ok ([], c) p = (tt, tt)
    braces_ok (x ∷ xs, c) p = (tt, (p.0, (tt, tt)))

    pub braces_spelled : (x : List A × Bool) → BracesOk x → in_braces (map P.words x.0) x.1 ≡ braced.words (braces_to x)
    braces_spelled ([], true) p = absurd (true≢false (sym p.1))
    braces_spelled ([], false) p = refl
    braces_spelled (x ∷ xs, c) p = refl

    pub braces_plain : (x : List A × Bool) → BracesOk x → ◌≡◌ {A = List V × Bool} (map P.plain x.0, x.1) (braces_back (braced.plain (braces_to x)))
    braces_plain ([], true) p = absurd (true≢false (sym p.1))
    braces_plain ([], false) p = refl
    braces_plain (x ∷ xs, c) p = refl

    -- in braces, with a comma after the last one or not
    abbrev pub braces : Piece (List A × Bool) (List V × Bool)
    braces = seen braced (λ x. in_braces (map P.words x.0) x.1) (λ x. (map P.plain x.0, x.1)) BracesOk Any braces_to braces_back braces_ok (λ r f. (tt, tt)) braces_spelled braces_plain
