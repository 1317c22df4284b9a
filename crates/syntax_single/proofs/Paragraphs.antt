-- The paragraphs of a module, as pieces of a text.
use Rattle.std.proofs.Common.{◌≡◌, ◌⊎◌, inl, inr, ℕ, Bool, true, false, not, ◌&&◌, ◌||◌, ◌==◌, nat_le, List, [], ◌∷◌, ◌++◌, Option, Some, None, map, fold, is_some, refl, sym, ap, ◌∙◌, true≢false, append_assoc}
use Rattle.std.proofs.lemmas.List.{map-id}
use Rattle.std.proofs.lemmas.Simd.{map-map}
use Rattle.syntax_tree.specs.declared.token.TokenKind.{TokenKind}
use Rattle.syntax_tree.specs.declared.token.TokenKind.TheVariants as kind
use Rattle.syntax_tree.specs.declared.token.Word.{Word}
use Rattle.syntax_tree.specs.declared.token.Word.TheVariants as w
use Rattle.syntax_tree.specs.declared.token.Symbol.TheVariants as mark
use Rattle.syntax_tree.specs.declared.operator.Multiplicity.{Multiplicity}
use Rattle.syntax_tree.specs.declared.expr.Named.{Named}
use Rattle.syntax_tree.specs.declared.expr.Decl.{Decl}
use Rattle.syntax_tree.specs.declared.expr.Expr.{Expr}
use Rattle.syntax_tree.specs.declared.module.SigName.{SigName}
use Rattle.syntax_tree.specs.declared.module.SigName.TheVariants as sig_of
use Rattle.syntax_tree.specs.declared.module.Qualifier.{Qualifier}
use Rattle.syntax_tree.specs.declared.module.Qualifier.TheVariants as qualifier
use Rattle.syntax_tree.specs.declared.module.FieldWord.{FieldWord}
use Rattle.syntax_tree.specs.declared.module.FieldWord.TheVariants as field_word
use Rattle.syntax_tree.specs.declared.module.Field.{Field}
use Rattle.syntax_tree.specs.declared.module.Parents.{Parents}
use Rattle.syntax_tree.specs.declared.module.Parents.TheVariants as parents
use Rattle.syntax_tree.specs.declared.module.Sig.{Sig}
use Rattle.syntax_tree.specs.declared.module.Enumeration.{Enumeration}
use Rattle.syntax_tree.specs.declared.module.Claim.{Claim}
use Rattle.syntax_tree.specs.declared.module.Bracket.{Bracket}
use Rattle.syntax_tree.specs.declared.module.Bracket.TheVariants as bracket
use Rattle.syntax_tree.specs.declared.module.Parameters.{Parameters}
use Rattle.syntax_tree.specs.declared.module.Pred.{Pred}
use Rattle.syntax_tree.specs.declared.module.Fun.{Fun}
use Rattle.syntax_tree.specs.Words.{Spelled, word, symbol}
use Rattle.syntax_tree.specs.Spelling.{after_each, separated, declared_name, decl_words, spelled_decl, decls_spelling, spelling}
use Rattle.syntax_tree.specs.Levels.{has_some, every, may_bound, decl_right, shaped_decl, shape, is_bound, is_level_right, is_right_block}
use Rattle.syntax_tree.specs.Depth.{depth_of, deepest}
use Rattle.syntax_tree.specs.ModuleWords.{field_word_word, field_words, qualifier_word, parents_words, in_braces, block_words, sig_words, enum_words, title_words, claim_words, opening, closing, parameters_words, receiver_words, pred_words, fun_words}
use Rattle.syntax_tree.specs.ModuleRules.{on, qualifiers_right, comma_right, sig_name_right, bound_right, block_right, value_right, field_right, parents_right, sig_right, enum_right, claim_right, parameters_right, pred_right, fun_right}
use Rattle.syntax_single.specs.Placeless.{nowhere}
use Rattle.syntax_single.specs.PlacelessModule.{placeless_field, placeless_parents, placeless_sig, placeless_enum, placeless_claim, placeless_variables, placeless_parameters, placeless_pred, placeless_fun}
use Rattle.syntax_single.proofs.Fits.{both_left, both_right, or_true}
use Rattle.syntax_single.proofs.Cut.{Quiet, Halts}
use Rattle.syntax_single.proofs.Pieces.{Piece, Any, one, flag, both, either, maybe, seen, worded, led, ended, Each, Some_, listed, row, part_ok, part_words}
use Rattle.syntax_single.proofs.Parts.{going, at_slash, at_brace, at_plus, at_disj, at_close, more_items, units, some_units, some_each, from_token, a_named, names, a_sig_name, a_bound, bound_begins, a_value, a_block, block_begins, items, braces}

-- From tests of lists to facts.

every_fact : {A : Type 0} (test : A → Bool) (start : Bool) (xs : List A) → fold (λ passed x. passed && test x) start xs ≡ true → (start ≡ true) × Each (λ x. test x ≡ true) xs
every_fact test start [] h = (h, tt)
every_fact test start (x ∷ xs) h = let it : ((start && test x) ≡ true) × Each (λ x. test x ≡ true) xs = every_fact test (start && test x) xs h in (both_left start (test x) it.0, (both_right start (test x) it.0, it.1))

pub each_passed : {A : Type 0} (test : A → Bool) (xs : List A) → every test xs ≡ true → Each (λ x. test x ≡ true) xs
each_passed test xs h = (every_fact test true xs h).1

pub each_before : {A B : Type 0} (Ok : B → Type 0) (f : A → B) (xs : List A) → Each Ok (map f xs) → Each (λ x. Ok (f x)) xs
each_before Ok f [] p = tt
each_before Ok f (x ∷ xs) p = (p.0, each_before Ok f xs p.1)

pub part_passed : {A : Type 0} (test : A → Bool) (o : Option A) → on test o ≡ true → part_ok (λ x. test x ≡ true) o
part_passed test None h = tt
part_passed test (Some x) h = h

pub names_begin : {V : Type 0} (test : Spelled → V) (v : V) → ((n : List ℕ) (ts : Spelled) → test (kind.Name n ∷ ts) ≡ v) → (ns : List Named) (rest r : Spelled) → Some_ (λ n. Unit {0}) ns → test ((separated mark.Comma (map declared_name ns) ++ rest) ++ r) ≡ v
names_begin test v is [] rest r p = absurd p
names_begin test v is (n ∷ ns) rest r p = is n.name ((after_each mark.Comma (map declared_name ns) ++ rest) ++ r)

-- Fields.

abbrev pub field_word_of : TokenKind → Option FieldWord
field_word_of (kind.Word w.Private) = Some field_word.Private
field_word_of (kind.Word w.Var) = Some field_word.Var
field_word_of (kind.Word w.Disj) = Some field_word.Disj
field_word_of _ = None

pub field_word_known : (f : FieldWord) → field_word_of (word (field_word_word f)) ≡ Some f
field_word_known field_word.Private = refl
field_word_known field_word.Var = refl
field_word_known field_word.Disj = refl

abbrev pub at_field_word : Spelled → Bool
at_field_word [] = false
at_field_word (t ∷ ts) = is_some (field_word_of t)

abbrev pub a_field_word : Piece FieldWord FieldWord
a_field_word = one (λ f. word (field_word_word f)) (λ f. f) (from_token (λ f. word (field_word_word f)) field_word_of field_word_known)

abbrev pub words_of_fields : Piece (List FieldWord) (List FieldWord)
words_of_fields = row a_field_word (λ r. at_field_word r ≡ false) at_field_word (λ r f. tt) (λ r f. f) (λ x ts p. (ap is_some (field_word_known x), tt))

abbrev pub Bounded : Type 0
Bounded = Bool × (Option Multiplicity × Expr)

abbrev pub FieldParts : Type 0
FieldParts = List FieldWord × (List Named × Bounded)

abbrev pub disjoint_bound : Piece Bounded Bounded
disjoint_bound = both (flag (word w.Disj) at_disj (λ ts. refl)) a_bound (λ b r p f. bound_begins b.0 b.1 r p)

abbrev pub field_parts : Piece FieldParts FieldParts
field_parts = both words_of_fields (both names (led (symbol mark.Colon) disjoint_bound) (λ b r p f. refl)) (λ x r p f. names_begin at_field_word false (λ n ts. refl) x.0 (symbol mark.Colon ∷ disjoint_bound.words x.1) r p.0)

abbrev pub field_to : Field → FieldParts
field_to f = (f.words, (f.names, (f.is_disjoint, (f.bound.word, f.bound.tree))))

abbrev pub field_back : FieldParts → Field
field_back v = record { place = nowhere; words = v.0; names = v.1.0; is_disjoint = v.1.1.0; bound = record { place = nowhere; word = v.1.1.1.0; tree = v.1.1.1.1 } }

abbrev pub a_field : ℕ → Piece Field Field
a_field depth = seen field_parts field_words placeless_field (λ f. field_right depth f ≡ true) Quiet field_to field_back
    (λ f p. (units f.words, (some_units f.names (both_left (has_some f.names) (bound_right depth f.bound) p), (tt, both_left (is_bound f.bound.tree) (nat_le (depth_of f.bound.tree) depth) (both_right (has_some f.names) (bound_right depth f.bound) p)))))
    (λ r f. f) (λ f p. refl) (λ f p. ap (λ ws. record (placeless_field f) { words = ws }) (sym (map-id f.words)))

pub field_begins : (f : Field) (ts : Spelled) → has_some f.names ≡ true → at_close (field_words f ++ ts) ≡ false
field_begins f ts h = by f.words f.names h
  where
    by : (ws : List FieldWord) (ns : List Named) → has_some ns ≡ true → at_close (field_words (record f { words = ws; names = ns }) ++ ts) ≡ false
    by [] [] h = absurd (true≢false (sym h))
    by [] (n ∷ ns) h = refl
    by (field_word.Private ∷ ws) ns h = refl
    by (field_word.Var ∷ ws) ns h = refl
    by (field_word.Disj ∷ ws) ns h = refl

-- Sigs.

abbrev pub qualifier_of : TokenKind → Option Qualifier
qualifier_of (kind.Word w.Private) = Some qualifier.Private
qualifier_of (kind.Word w.Var) = Some qualifier.Var
qualifier_of (kind.Word w.Abstract) = Some qualifier.Abstract
qualifier_of (kind.Word w.Lone) = Some qualifier.Lone
qualifier_of (kind.Word w.One) = Some qualifier.One
qualifier_of (kind.Word w.Some) = Some qualifier.Some
qualifier_of _ = None

pub qualifier_known : (q : Qualifier) → qualifier_of (word (qualifier_word q)) ≡ Some q
qualifier_known qualifier.Private = refl
qualifier_known qualifier.Var = refl
qualifier_known qualifier.Abstract = refl
qualifier_known qualifier.Lone = refl
qualifier_known qualifier.One = refl
qualifier_known qualifier.Some = refl

abbrev pub at_qualifier : Spelled → Bool
at_qualifier [] = false
at_qualifier (t ∷ ts) = is_some (qualifier_of t)

abbrev pub a_qualifier : Piece Qualifier Qualifier
a_qualifier = one (λ q. word (qualifier_word q)) (λ q. q) (from_token (λ q. word (qualifier_word q)) qualifier_of qualifier_known)

abbrev pub qualifiers : Piece (List Qualifier) (List Qualifier)
qualifiers = row a_qualifier (λ r. at_qualifier r ≡ false) at_qualifier (λ r f. tt) (λ r f. f) (λ x ts p. (ap is_some (qualifier_known x), tt))

abbrev pub sig_names : Piece (List SigName) (List SigName)
sig_names = listed a_sig_name (λ r. (at_slash r ≡ false) × (at_plus r ≡ false)) at_plus (λ r f. f.0) (λ r f. f.1) mark.Plus (λ x ts p. refl) (λ ts. refl)

abbrev pub Above : Type 0
Above = SigName ⊎ List SigName

abbrev pub at_extends : Spelled → Bool
at_extends ts = going ts == 14

abbrev pub at_parents : Spelled → Bool
at_parents ts = at_extends ts || (going ts == 15)

abbrev pub above : Piece Above Above
above = either (led (word w.Extends) a_sig_name) (led (word w.In) sig_names) at_extends (λ a r p f g. refl) (λ b r p f g. refl)

pub above_begins : (x : Above) (r : Spelled) → at_parents (above.words x ++ r) ≡ true
above_begins (inl n) r = refl
above_begins (inr ns) r = refl

abbrev pub parents_to : Parents → Option Above
parents_to parents.Top = None
parents_to (parents.Extends n) = Some (inl n)
parents_to (parents.Subset ns) = Some (inr ns)

abbrev pub parents_back : Option Above → Parents
parents_back None = parents.Top
parents_back (Some (inl n)) = parents.Extends n
parents_back (Some (inr ns)) = parents.Subset ns

abbrev pub above_or_none : Piece (Option Above) (Option Above)
above_or_none = maybe above at_parents (λ x r p f. above_begins x r)

pub parents_ok : (p : Parents) → parents_right p ≡ true → above_or_none.Ok (parents_to p)
parents_ok parents.Top h = tt
parents_ok (parents.Extends n) h = h
parents_ok (parents.Subset ns) h = some_each (λ n. sig_name_right n ≡ true) ns (both_left (has_some ns) (every sig_name_right ns) h) (each_passed sig_name_right ns (both_right (has_some ns) (every sig_name_right ns) h))

pub parents_spelled : (p : Parents) → parents_words p ≡ above_or_none.words (parents_to p)
parents_spelled parents.Top = refl
parents_spelled (parents.Extends n) = refl
parents_spelled (parents.Subset ns) = refl

pub parents_plain : (p : Parents) → placeless_parents p ≡ parents_back (above_or_none.plain (parents_to p))
parents_plain parents.Top = refl
parents_plain (parents.Extends n) = refl
parents_plain (parents.Subset ns) = refl

pub parents_end : (r : Spelled) → going r ≡ 3 → above_or_none.Follow r
parents_end r g = ((ap (λ n. n == 1) g, (ap (λ n. n == 1) g, ap (λ n. n == 8) g)), ap (λ n. (n == 14) || (n == 15)) g)

abbrev pub a_parents : Piece Parents Parents
a_parents = seen above_or_none parents_words placeless_parents (λ p. parents_right p ≡ true) (λ r. going r ≡ 3) parents_to parents_back parents_ok parents_end (λ p h. parents_spelled p) (λ p h. parents_plain p)

abbrev pub block_or_none : Piece (Option Expr) (Option Expr)
block_or_none = maybe a_block at_brace (λ e r p f. block_begins at_brace true (λ ts. refl) e r p)

pub block_spelled : (o : Option Expr) → block_words o ≡ part_words spelling o
block_spelled None = refl
block_spelled (Some e) = refl

abbrev pub SigParts : Type 0
SigParts = List Qualifier × (List Named × (Parents × ((List Field × Bool) × Option Expr)))

abbrev pub fields_of : ℕ → Piece (List Field × Bool) (List Field × Bool)
fields_of depth = braces (a_field depth) (λ f ts p. field_begins f ts (both_left (has_some f.names) (bound_right depth f.bound) p)) (λ ts us. refl) (λ ts us. refl)

pub parents_begin : (p : Parents) (parts : List Spelled) (has_comma : Bool) (rest r : Spelled) → more_items ((parents_words p ++ (in_braces parts has_comma ++ rest)) ++ r) ≡ false
parents_begin parents.Top parts has_comma rest r = refl
parents_begin (parents.Extends n) parts has_comma rest r = refl
parents_begin (parents.Subset ns) parts has_comma rest r = refl

abbrev pub a_last_block : Piece (Option Expr) (Option Expr)
a_last_block = worded block_or_none block_words block_spelled

abbrev pub sig_parts : ℕ → Piece SigParts SigParts
sig_parts depth = both qualifiers (led (word w.Sig) (both names (both a_parents (both (fields_of depth) a_last_block (λ b r p f. tt)) (λ b r p f. refl))
    (λ x r p f. parents_begin x.0 (map field_words x.1.0.0) x.1.0.1 (block_words x.1.1) r))) (λ x r p f. refl)

abbrev pub sig_to : Sig → SigParts
sig_to g = (g.qualifiers, (g.names, (g.parents, ((g.fields, g.has_comma), g.block))))

abbrev pub sig_back : SigParts → Sig
sig_back v = record { place = nowhere; qualifiers = v.0; names = v.1.0; parents = v.1.1.0; fields = v.1.1.1.0.0; has_comma = v.1.1.1.0.1; block = v.1.1.1.1 }

pub part_block : (depth : ℕ) (o : Option Expr) → on (block_right depth) o ≡ true → block_or_none.Ok o
part_block depth None h = tt
part_block depth (Some e) h = both_left (is_right_block e) (nat_le (depth_of e) depth) h

pub sig_ok : (depth : ℕ) (g : Sig) → sig_right depth g ≡ true → (sig_parts depth).Ok (sig_to g)
sig_ok depth g h =
    let block_ : on (block_right depth) g.block ≡ true = both_right (qualifiers_right g.qualifiers && has_some g.names && parents_right g.parents && every (field_right depth) g.fields && comma_right g.fields g.has_comma) (on (block_right depth) g.block) h in
    let five : (qualifiers_right g.qualifiers && has_some g.names && parents_right g.parents && every (field_right depth) g.fields && comma_right g.fields g.has_comma) ≡ true =
    both_left (qualifiers_right g.qualifiers && has_some g.names && parents_right g.parents && every (field_right depth) g.fields && comma_right g.fields g.has_comma) (on (block_right depth) g.block) h in
    let four : (qualifiers_right g.qualifiers && has_some g.names && parents_right g.parents && every (field_right depth) g.fields) ≡ true =
    both_left (qualifiers_right g.qualifiers && has_some g.names && parents_right g.parents && every (field_right depth) g.fields) (comma_right g.fields g.has_comma) five in
    let three : (qualifiers_right g.qualifiers && has_some g.names && parents_right g.parents) ≡ true = both_left (qualifiers_right g.qualifiers && has_some g.names && parents_right g.parents) (every (field_right depth) g.fields) four in
    let two : (qualifiers_right g.qualifiers && has_some g.names) ≡ true = both_left (qualifiers_right g.qualifiers && has_some g.names) (parents_right g.parents) three in (
      units g.qualifiers,
      (
        some_units g.names (both_right (qualifiers_right g.qualifiers) (has_some g.names) two),
        (
          both_right (qualifiers_right g.qualifiers && has_some g.names) (parents_right g.parents) three,
          (
            (
              each_passed (field_right depth) g.fields (both_right (qualifiers_right g.qualifiers && has_some g.names && parents_right g.parents) (every (field_right depth) g.fields) four),
              both_right (qualifiers_right g.qualifiers && has_some g.names && parents_right g.parents && every (field_right depth) g.fields) (comma_right g.fields g.has_comma) five,
            ),
            part_block depth g.block block_,
          ),
        ),
      ),
    )

abbrev pub a_sig : ℕ → Piece Sig Sig
a_sig depth = seen (sig_parts depth) sig_words placeless_sig (λ g. sig_right depth g ≡ true) (λ r. Halts r × (at_brace r ≡ false)) sig_to sig_back (sig_ok depth) (λ r f. f) (λ g p. refl)
    (λ g p. ap (λ qs. record (placeless_sig g) { qualifiers = qs }) (sym (map-id g.qualifiers)))

-- Enumerations.

abbrev pub members : Piece (List Named × Bool) (List Named × Bool)
members = braces a_named (λ x ts p. refl) (λ ts. tt) (λ ts. tt)

abbrev pub enum_parts : Piece (Named × (List Named × Bool)) (Named × (List Named × Bool))
enum_parts = led (word w.Enum) (both a_named members (λ b r p f. tt))

abbrev pub an_enum : Piece Enumeration Enumeration
an_enum = seen enum_parts enum_words placeless_enum (λ e. enum_right e ≡ true) Any (λ e. (e.name, (e.members, e.has_comma))) (λ v. record { place = nowhere; name = v.0; members = v.1.0; has_comma = v.1.1 })
    (λ e p. (tt, (units e.members, or_true (has_some e.members) (not e.has_comma) p))) (λ r f. f) (λ e p. refl) (λ e p. refl)

-- Facts and assertions.

abbrev pub first_name : Spelled → Bool
first_name (kind.Name n ∷ ts) = true
first_name _ = false

abbrev pub name_or_none : Piece (Option Named) (Option Named)
name_or_none = maybe a_named first_name (λ n r p f. refl)

pub title_spelled : (o : Option Named) → title_words o ≡ name_or_none.words o
title_spelled None = refl
title_spelled (Some n) = refl

pub named_ok : (o : Option Named) → name_or_none.Ok o
named_ok None = tt
named_ok (Some n) = tt

abbrev pub claim_parts : Word → Piece (Option Named × Expr) (Option Named × Expr)
claim_parts keyword = led (word keyword) (both (worded name_or_none title_words title_spelled) a_block (λ e r p f. (tt, block_begins first_name false (λ ts. refl) e r p)))

abbrev pub a_claim : Word → ℕ → Piece Claim Claim
a_claim keyword depth = seen (claim_parts keyword) (claim_words keyword) placeless_claim (λ c. claim_right depth c ≡ true) Halts (λ c. (c.name, c.block)) (λ v. record { place = nowhere; name = v.0; block = v.1 })
    (λ c p. (named_ok c.name, both_left (is_right_block c.block) (nat_le (depth_of c.block) depth) p)) (λ r f. f) (λ c p. refl) (λ c p. refl)

-- Parameters.

abbrev pub DeclParts : Type 0
DeclParts = Bool × (List Named × (Option Multiplicity × Expr))

abbrev pub decl_parts : Piece DeclParts DeclParts
decl_parts = both (flag (word w.Disj) at_disj (λ ts. refl)) (both names (led (symbol mark.Colon) a_bound) (λ b r p f. refl)) (λ x r p f. names_begin at_disj false (λ n ts. refl) x.0 (symbol mark.Colon ∷ a_bound.words x.1) r p.0)

abbrev pub words_of_decl : Decl Expr → Spelled
words_of_decl d = decl_words (spelled_decl d)

abbrev pub a_decl : Piece (Decl Expr) (Decl Expr)
a_decl = seen decl_parts words_of_decl placeless_variables (λ d. decl_right (shaped_decl d) ≡ true) Quiet (λ d. (d.is_disjoint, (d.names, (d.word, d.bound))))
    (λ v. record { place = nowhere; is_disjoint = v.0; names = v.1.0; bound_place = nowhere; word = v.1.1.0; bound = v.1.1.1 })
    (λ d p. (tt, (some_units d.names (both_left (has_some d.names) (may_bound (shape d.bound)) p), both_right (has_some d.names) (may_bound (shape d.bound)) p))) (λ r f. f) (λ d p. refl) (λ d p. refl)

abbrev pub at_decl : Spelled → Bool
at_decl ts = at_disj ts || first_name ts

pub decl_begins : {V : Type 0} (test : Spelled → V) (v : V) → ((ts : Spelled) → test (word w.Disj ∷ ts) ≡ v) → ((n : List ℕ) (ts : Spelled) → test (kind.Name n ∷ ts) ≡ v) → (d : Decl Expr) (ts : Spelled) → has_some d.names ≡ true → test (words_of_decl d ++ ts) ≡ v
decl_begins test v disj name d ts h = by d.is_disjoint d.names h
  where
    by : (is_disjoint : Bool) (ns : List Named) → has_some ns ≡ true → test (words_of_decl (record d { is_disjoint = is_disjoint; names = ns }) ++ ts) ≡ v
    by true ns h = disj _
    by false [] h = absurd (true≢false (sym h))
    by false (n ∷ ns) h = name n.name _

abbrev pub some_decls : Piece (List (Decl Expr)) (List (Decl Expr))
some_decls = items a_decl (λ d ts p. decl_begins at_close false (λ ts. refl) (λ n ts. refl) d ts (both_left (has_some d.names) (may_bound (shape d.bound)) p)) (λ ts us. refl)

abbrev pub decls_to : List (Decl Expr) → Option (List (Decl Expr))
decls_to [] = None
decls_to (d ∷ ds) = Some (d ∷ ds)

abbrev pub decls_back : Option (List (Decl Expr)) → List (Decl Expr)
decls_back None = []
decls_back (Some ds) = ds

pub decls_begin : (ds : List (Decl Expr)) (r : Spelled) → Some_ a_decl.Ok ds → at_decl (separated mark.Comma (map words_of_decl ds) ++ r) ≡ true
decls_begin [] r p = absurd p
decls_begin (d ∷ ds) r p = ap at_decl (append_assoc (words_of_decl d) (after_each mark.Comma (map words_of_decl ds)) r)
    ∙ decl_begins at_decl true (λ ts. refl) (λ n ts. refl) d (after_each mark.Comma (map words_of_decl ds) ++ r) (both_left (has_some d.names) (may_bound (shape d.bound)) p.0)

abbrev pub decls_or_none : Piece (Option (List (Decl Expr))) (Option (List (Decl Expr)))
decls_or_none = maybe some_decls at_decl (λ ds r p f. decls_begin ds r p)

pub decls_ok : (ds : List (Decl Expr)) → Each a_decl.Ok ds → decls_or_none.Ok (decls_to ds)
decls_ok [] p = tt
decls_ok (d ∷ ds) p = p

pub decls_spelled : (ds : List (Decl Expr)) → decls_spelling ds ≡ decls_or_none.words (decls_to ds)
decls_spelled [] = refl
decls_spelled (d ∷ ds) = ap (separated mark.Comma) (map-map decl_words spelled_decl (d ∷ ds))

pub decls_plain : (ds : List (Decl Expr)) → map placeless_variables ds ≡ decls_back (decls_or_none.plain (decls_to ds))
decls_plain [] = refl
decls_plain (d ∷ ds) = refl

abbrev pub DeclsEnd : Spelled → Type 0
DeclsEnd r = ((more_items r ≡ false) × Quiet r) × (at_decl r ≡ false)

abbrev pub the_decls : Piece (List (Decl Expr)) (List (Decl Expr))
the_decls = seen decls_or_none decls_spelling (map placeless_variables) (Each a_decl.Ok) DeclsEnd decls_to decls_back decls_ok (λ r f. f) (λ ds p. decls_spelled ds) (λ ds p. decls_plain ds)

abbrev pub opening_of : TokenKind → Option Bracket
opening_of (kind.Symbol mark.OpenBracket) = Some bracket.Square
opening_of (kind.Symbol mark.OpenParenthesis) = Some bracket.Round
opening_of _ = None

pub opening_known : (b : Bracket) → opening_of (opening b) ≡ Some b
opening_known bracket.Square = refl
opening_known bracket.Round = refl

abbrev pub closing_of : TokenKind → Option Bracket
closing_of (kind.Symbol mark.CloseBracket) = Some bracket.Square
closing_of (kind.Symbol mark.CloseParenthesis) = Some bracket.Round
closing_of _ = None

pub closing_known : (b : Bracket) → closing_of (closing b) ≡ Some b
closing_known bracket.Square = refl
closing_known bracket.Round = refl

abbrev pub open_bracket : Piece Bracket Bracket
open_bracket = one opening (λ b. b) (from_token opening opening_of opening_known)

abbrev pub close_bracket : Piece Bracket Bracket
close_bracket = one closing (λ b. b) (from_token closing closing_of closing_known)

pub decls_end : (b : Bracket) (r : Spelled) → DeclsEnd (closing b ∷ r)
decls_end bracket.Square r = ((refl, λ us. refl), refl)
decls_end bracket.Round r = ((refl, λ us. refl), refl)

abbrev pub ParameterParts : Type 0
ParameterParts = Bracket × (List (Decl Expr) × Bracket)

abbrev pub parameter_parts : Piece ParameterParts ParameterParts
parameter_parts = both open_bracket (both the_decls close_bracket (λ b r p f. decls_end b r)) (λ b r p f. tt)

abbrev pub words_of_parameters : Parameters → Spelled
words_of_parameters p = opening p.bracket ∷ (decls_spelling p.decls ++ closing p.bracket ∷ [])

abbrev pub some_parameters : ℕ → Piece Parameters Parameters
some_parameters depth = seen parameter_parts words_of_parameters placeless_parameters (λ p. parameters_right depth p ≡ true) Any (λ p. (p.bracket, (p.decls, p.bracket))) (λ v. record { bracket = v.0; decls = v.1.0 })
    (λ p h. (tt, (each_before (λ s. decl_right s ≡ true) shaped_decl p.decls (each_passed decl_right (map shaped_decl p.decls) (both_left (every decl_right (map shaped_decl p.decls)) (nat_le (deepest (map (λ d. depth_of d.bound) p.decls)) depth) h)), tt)))
    (λ r f. f) (λ p h. refl) (λ p h. refl)

abbrev pub at_opening : Spelled → Bool
at_opening ts = (going ts == 2) || (going ts == 7)

pub parameters_begin : {V : Type 0} (test : Spelled → V) (v : V) → ((ts : Spelled) → test (symbol mark.OpenBracket ∷ ts) ≡ v) → ((ts : Spelled) → test (symbol mark.OpenParenthesis ∷ ts) ≡ v) → (p : Parameters) (rest : Spelled) → test (words_of_parameters p ++ rest) ≡ v
parameters_begin test v square round p rest = by p.bracket
  where
    by : (b : Bracket) → test (words_of_parameters (record p { bracket = b }) ++ rest) ≡ v
    by bracket.Square = square _
    by bracket.Round = round _

abbrev pub parameters_or_none : ℕ → Piece (Option Parameters) (Option Parameters)
parameters_or_none depth = maybe (some_parameters depth) at_opening (λ p r h f. parameters_begin at_opening true (λ ts. refl) (λ ts. refl) p r)

pub parameters_spelled : (o : Option Parameters) → parameters_words o ≡ part_words words_of_parameters o
parameters_spelled None = refl
parameters_spelled (Some p) = refl

abbrev pub the_parameters : ℕ → Piece (Option Parameters) (Option Parameters)
the_parameters depth = worded (parameters_or_none depth) parameters_words parameters_spelled

-- Receivers.

abbrev pub slash_or_dot : Spelled → Bool
slash_or_dot (kind.Symbol mark.Slash ∷ ts) = true
slash_or_dot (kind.Symbol mark.Dot ∷ ts) = true
slash_or_dot _ = false

abbrev pub at_receiver : Spelled → Bool
at_receiver (kind.Word w.This ∷ ts) = true
at_receiver (kind.Word w.Int ∷ ts) = true
at_receiver (kind.Name n ∷ ts) = slash_or_dot ts
at_receiver _ = false

abbrev pub some_receiver : Piece SigName SigName
some_receiver = ended a_sig_name (symbol mark.Dot) (λ r. refl)

pub receiver_begins : (n : SigName) (r : Spelled) → sig_name_right n ≡ true → at_receiver (some_receiver.words n ++ r) ≡ true
receiver_begins (sig_of.Int place) r h = refl
receiver_begins (sig_of.Name q) r h = by q.is_own q.parts h
  where
    by : (is_own : Bool) (ps : List (List ℕ)) → has_some ps ≡ true → at_receiver (some_receiver.words (sig_of.Name (record q { is_own = is_own; parts = ps })) ++ r) ≡ true
    by true ps h = refl
    by false [] h = absurd (true≢false (sym h))
    by false (n ∷ []) h = refl
    by false (n ∷ m ∷ ps) h = refl

abbrev pub receiver_or_none : Piece (Option SigName) (Option SigName)
receiver_or_none = maybe some_receiver at_receiver (λ n r p f. receiver_begins n r p)

pub receiver_spelled : (o : Option SigName) → receiver_words o ≡ receiver_or_none.words o
receiver_spelled None = refl
receiver_spelled (Some n) = refl

abbrev pub the_receiver : Piece (Option SigName) (Option SigName)
the_receiver = worded receiver_or_none receiver_words receiver_spelled

-- what stands behind the name of a predicate or a function
pub parameters_dotless : (o : Option Parameters) (rest : Spelled) → slash_or_dot rest ≡ false → slash_or_dot (parameters_words o ++ rest) ≡ false
parameters_dotless None rest h = h
parameters_dotless (Some p) rest h = parameters_begin slash_or_dot false (λ ts. refl) (λ ts. refl) p rest

-- Predicates and functions.

abbrev pub at_private : Spelled → Bool
at_private (kind.Word w.Private ∷ ts) = true
at_private _ = false

abbrev pub is_private : Piece Bool Bool
is_private = flag (word w.Private) at_private (λ ts. refl)

abbrev pub PredParts : Type 0
PredParts = Bool × (Option SigName × (Named × (Option Parameters × Expr)))

abbrev pub pred_parts : ℕ → Piece PredParts PredParts
pred_parts depth = both is_private (led (word w.Pred) (both the_receiver (both a_named (both (the_parameters depth) a_block (λ e r p f. (tt, block_begins at_opening false (λ ts. refl) e r p))) (λ b r p f. tt))
    (λ x r p f. (tt, ap slash_or_dot (append_assoc (parameters_words x.1.0) (spelling x.1.1) r) ∙ parameters_dotless x.1.0 (spelling x.1.1 ++ r) (block_begins slash_or_dot false (λ ts. refl) x.1.1 r p.1.1))))) (λ x r p f. refl)

abbrev pub a_pred : ℕ → Piece Pred Pred
a_pred depth = seen (pred_parts depth) pred_words placeless_pred (λ p. pred_right depth p ≡ true) Halts (λ p. (p.is_private, (p.receiver, (p.name, (p.parameters, p.block)))))
    (λ v. record { place = nowhere; is_private = v.0; receiver = v.1.0; name = v.1.1.0; parameters = v.1.1.1.0; block = v.1.1.1.1 })
    (λ p h. let two : (on sig_name_right p.receiver && on (parameters_right depth) p.parameters) ≡ true = both_left (on sig_name_right p.receiver && on (parameters_right depth) p.parameters) (block_right depth p.block) h in (
      tt,
      (
        part_passed sig_name_right p.receiver (both_left (on sig_name_right p.receiver) (on (parameters_right depth) p.parameters) two),
        (
          tt,
          (
            part_passed (parameters_right depth) p.parameters (both_right (on sig_name_right p.receiver) (on (parameters_right depth) p.parameters) two),
            both_left (is_right_block p.block) (nat_le (depth_of p.block) depth) (both_right (on sig_name_right p.receiver && on (parameters_right depth) p.parameters) (block_right depth p.block) h),
          ),
        ),
      ),
    ))
    (λ r f. f) (λ p h. refl) (λ p h. refl)

abbrev pub Result : Type 0
Result = (Option Multiplicity × Expr) × Expr

abbrev pub FunParts : Type 0
FunParts = Bool × (Option SigName × (Named × (Option Parameters × Result)))

abbrev pub the_result : Piece Result Result
the_result = led (symbol mark.Colon) (both a_bound (led (symbol mark.OpenBrace) (ended a_value (symbol mark.CloseBrace) (λ r us. (refl, refl)))) (λ e r p f us. refl))

abbrev pub fun_parts : ℕ → Piece FunParts FunParts
fun_parts depth = both is_private (led (word w.Fun) (both the_receiver (both a_named (both (the_parameters depth) the_result (λ e r p f. (tt, refl))) (λ b r p f. tt))
    (λ x r p f. (tt, ap slash_or_dot (append_assoc (parameters_words x.1.0) (the_result.words x.1.1) r) ∙ parameters_dotless x.1.0 (the_result.words x.1.1 ++ r) refl)))) (λ x r p f. refl)

abbrev pub a_fun : ℕ → Piece Fun Fun
a_fun depth = seen (fun_parts depth) fun_words placeless_fun (λ f. fun_right depth f ≡ true) Any (λ f. (f.is_private, (f.receiver, (f.name, (f.parameters, ((f.result.word, f.result.tree), f.value))))))
    (λ v. record { place = nowhere; is_private = v.0; receiver = v.1.0; name = v.1.1.0; parameters = v.1.1.1.0; result = record { place = nowhere; word = v.1.1.1.1.0.0; tree = v.1.1.1.1.0.1 }; value = v.1.1.1.1.1 })
    (λ f h. let three : (on sig_name_right f.receiver && on (parameters_right depth) f.parameters && bound_right depth f.result) ≡ true = both_left (on sig_name_right f.receiver && on (parameters_right depth) f.parameters && bound_right depth f.result) (value_right depth f.value) h in
    let two : (on sig_name_right f.receiver && on (parameters_right depth) f.parameters) ≡ true = both_left (on sig_name_right f.receiver && on (parameters_right depth) f.parameters) (bound_right depth f.result) three in (
      tt,
      (
        part_passed sig_name_right f.receiver (both_left (on sig_name_right f.receiver) (on (parameters_right depth) f.parameters) two),
        (
          tt,
          (
            part_passed (parameters_right depth) f.parameters (both_right (on sig_name_right f.receiver) (on (parameters_right depth) f.parameters) two),
            (
              both_left (is_bound f.result.tree) (nat_le (depth_of f.result.tree) depth) (both_right (on sig_name_right f.receiver && on (parameters_right depth) f.parameters) (bound_right depth f.result) three),
              both_left (is_level_right f.value) (nat_le (depth_of f.value) depth) (both_right (on sig_name_right f.receiver && on (parameters_right depth) f.parameters && bound_right depth f.result) (value_right depth f.value) h),
            ),
          ),
        ),
      ),
    ))
    (λ r f. f) (λ f h. refl) (λ f h. refl)
