-- Trees that are the same but for their places ask for the same: they have the same sigs and parameters, and the same opens but for places.
use Rattle.std.proofs.Common.{◌≡◌, ℕ, zero, suc, ◌+◌, ◌-◌, Bool, false, List, [], ◌∷◌, ◌++◌, map, slice_get, Option, Some, None, option_map, refl, sym, ap, ap₂, ◌∙◌}
use Rattle.std.proofs.lemmas.List.{length-map}
use Rattle.std.proofs.lemmas.List.Concat.{flat_map-cons}
use Rattle.std.proofs.lemmas.Option.{none-some, same_Some, slice_get-map}
use Rattle.std.specs.List.{flat_map, list_any}
use Rattle.std.specs.Prelude.{Ok, Err}
use Rattle.base_types.specs.declared.place.Position.{Position}
use Rattle.base_types.specs.declared.limits.TheConstants.{TREE_DEPTH}
use Rattle.syntax_tree.specs.Instances.{sigs_in}
use Rattle.syntax_tree.specs.Spelling.{kinds}
use Rattle.syntax_tree.specs.declared.expr.Named.{Named}
use Rattle.syntax_tree.specs.declared.module.Header.{Header}
use Rattle.syntax_tree.specs.declared.module.Module.{Module}
use Rattle.syntax_tree.specs.declared.module.Open.{Open}
use Rattle.syntax_tree.specs.declared.module.Paragraph.{Paragraph}
use Rattle.syntax_tree.specs.declared.module.Paragraph.TheVariants as paragraph
use Rattle.syntax_tree.specs.declared.module.Parameter.{Parameter}
use Rattle.syntax_tree.specs.declared.module.SigName.{SigName}
use Rattle.syntax_tree.specs.declared.token.Token.{Token}
use Rattle.syntax_tree.specs.declared.token.TokenKind.{TokenKind}
use Rattle.syntax_lexer.specs.declared.piece.Piece.{Piece}
use Rattle.syntax_lexer.specs.declared.piece.Piece.TheVariants as p
use Rattle.syntax_lexer.specs.Piece.{piece}
use Rattle.syntax_lexer.specs.Tokens.{Tokens, after, with_front, taken, tokens_after, tokens_of}
use Rattle.syntax_single.specs.Placeless.{nowhere, placeless_named}
use Rattle.syntax_single.specs.PlacelessModule.{each_part, placeless_sig_name, placeless_parameter, placeless_header, placeless_open, placeless_paragraph, placeless_module}
use Rattle.syntax_single.specs.Single.{ModulesAreSingle}
use Rattle.load_state.specs.Names.{last_part}
use Rattle.load_state.specs.Opens.{Opening, written, implied, enum_in, enums_from, enums_of, openings_of, path_of, alias_or, alias_of, is_hidden}
use Rattle.load_state.specs.Sigs.{is_private, declared_as, declared_in, sigs_of, header_names, parameters_of}
use Rattle.load_state.specs.declared.table.DeclaredSig.{DeclaredSig}
use Rattle.load_state.specs.declared.table.Enumerated.{Enumerated}
use Rattle.load_modules.specs.Reading.{IsModuleOf}

-- The tokens of a text say the same, wherever it stands.

abbrev kinds_in : Tokens → Option (List TokenKind)
kinds_in (Ok tokens) = Some (kinds tokens)
kinds_in (Err refusal) = None

front_kinds : (k : TokenKind) (a b : Position) (r s : Tokens) → kinds_in r ≡ kinds_in s →
    kinds_in (with_front (record { kind = k; place = a } ∷ []) r) ≡ kinds_in (with_front (record { kind = k; place = b } ∷ []) s)
front_kinds k a b (Ok x) (Ok y) same =
    let same_kinds : kinds x ≡ kinds y = same_Some (kinds x) (kinds y) same in
    ap (λ (ks : List TokenKind). Some (k ∷ ks)) same_kinds
front_kinds k a b (Ok x) (Err y) same = absurd (none-some (kinds x) (sym same))
front_kinds k a b (Err x) (Ok y) same = absurd (none-some (kinds y) same)
front_kinds k a b (Err x) (Err y) same = refl

taken_kinds : (q : Piece) (a b : Position) (f g : ℕ → Tokens) → ((n : ℕ) → kinds_in (f n) ≡ kinds_in (g n)) → kinds_in (taken a q f) ≡ kinds_in (taken b q g)
taken_kinds (p.Gap n) a b f g same = same n
taken_kinds (p.Token kind n) a b f g same = front_kinds kind a b (f n) (g n) (same n)
taken_kinds (p.Wrong rule) a b f g same = refl

after_kinds : (z : List ℕ) (n : ℕ) (a b : Position) → kinds_in (tokens_after n a z) ≡ kinds_in (tokens_after n b z)
after_kinds [] zero a b = refl
after_kinds [] (suc n) a b = refl
after_kinds (x ∷ z) zero a b =
    taken_kinds (piece (x ∷ z)) a b (λ n. tokens_after (n - 1) (after a x) z) (λ n. tokens_after (n - 1) (after b x) z) (λ n. after_kinds z (n - 1) (after a x) (after b x))
after_kinds (x ∷ z) (suc n) a b = after_kinds z n (after a x) (after b x)

same_kinds : (m n : ℕ) (z : List ℕ) (xs ys : List Token) → tokens_of m z ≡ Ok xs → tokens_of n z ≡ Ok ys → kinds xs ≡ kinds ys
unfolding tokens_of
same_kinds m n z xs ys is was =
    let a : Position = record { «module» = m; line = 1; column = 1 } in
    let b : Position = record { «module» = n; line = 1; column = 1 } in
    same_Some (kinds xs) (kinds ys) (sym (ap kinds_in is) ∙ (after_kinds z 0 a b ∙ ap kinds_in was))

-- A text has one module, but for places.
pub alike_modules : ModulesAreSingle → (bytes : List ℕ) (m n : ℕ) (a b : Module) → IsModuleOf bytes m a → IsModuleOf bytes n b → placeless_module a ≡ placeless_module b
alike_modules law bytes m n a b is was = law TREE_DEPTH a b is.right was.right (sym is.spelled ∙ (same_kinds m n bytes is.tokens was.tokens is.cut was.cut ∙ was.spelled))

-- Its parameters and sigs.

parameter_names : (ps : List Parameter) → map (λ (q : Parameter). q.name.name) (map placeless_parameter ps) ≡ map (λ (q : Parameter). q.name.name) ps
parameter_names [] = refl
parameter_names (q ∷ ps) = ap (λ (names : List (List ℕ)). q.name.name ∷ names) (parameter_names ps)

placeless_header_names : (h : Option Header) → header_names (each_part placeless_header h) ≡ header_names h
placeless_header_names None = refl
placeless_header_names (Some h) = parameter_names h.parameters

pub same_parameters : (m n : Module) → placeless_module m ≡ placeless_module n → parameters_of m ≡ parameters_of n
same_parameters m n same = sym (placeless_header_names m.header) ∙ (ap parameters_of same ∙ placeless_header_names n.header)

declared_names : (b : Bool) (names : List Named) → map (declared_as b) (map placeless_named names) ≡ map (declared_as b) names
declared_names b [] = refl
declared_names b (name ∷ names) = ap (λ (ds : List DeclaredSig). declared_as b name ∷ ds) (declared_names b names)

placeless_declared : (q : Paragraph) → declared_in (placeless_paragraph q) ≡ declared_in q
placeless_declared (paragraph.Sig g) = declared_names (list_any is_private g.qualifiers) g.names
placeless_declared (paragraph.Enum e) = ap (λ (ds : List DeclaredSig). declared_as false e.name ∷ ds) (declared_names false e.members)
placeless_declared (paragraph.Fact c) = refl
placeless_declared (paragraph.Assert c) = refl
placeless_declared (paragraph.Pred c) = refl
placeless_declared (paragraph.Fun c) = refl
placeless_declared (paragraph.Command c) = refl

placeless_sigs : (ps : List Paragraph) → flat_map declared_in (map placeless_paragraph ps) ≡ flat_map declared_in ps
placeless_sigs [] = refl
placeless_sigs (q ∷ ps) =
    flat_map-cons declared_in (placeless_paragraph q) (map placeless_paragraph ps)
    ∙ (ap₂ (λ (xs ys : List DeclaredSig). xs ++ ys) (placeless_declared q) (placeless_sigs ps) ∙ sym (flat_map-cons declared_in q ps))

pub same_sigs : (m n : Module) → placeless_module m ≡ placeless_module n → sigs_of m ≡ sigs_of n
same_sigs m n same = sym (placeless_sigs m.paragraphs) ∙ (ap sigs_of same ∙ placeless_sigs n.paragraphs)

-- Its opens.

abbrev placeless_enumerated : Enumerated → Enumerated
placeless_enumerated e = record { place = nowhere; sig = e.sig }

abbrev pub placeless_opening : Opening → Opening
placeless_opening (written o) = written (placeless_open o)
placeless_opening (implied e) = implied (placeless_enumerated e)

map_append : {A B : Type 0} (f : A → B) (xs ys : List A) → map f (xs ++ ys) ≡ map f xs ++ map f ys
map_append f [] ys = refl
map_append f (x ∷ xs) ys = ap (λ zs. f x ∷ zs) (map_append f xs ys)

placeless_count : (q : Paragraph) → sigs_in (placeless_paragraph q) ≡ sigs_in q
placeless_count (paragraph.Sig g) = length-map g.names placeless_named
placeless_count (paragraph.Enum e) = ap (λ (n : ℕ). 1 + n) (length-map e.members placeless_named)
placeless_count (paragraph.Fact c) = refl
placeless_count (paragraph.Assert c) = refl
placeless_count (paragraph.Pred c) = refl
placeless_count (paragraph.Fun c) = refl
placeless_count (paragraph.Command c) = refl

placeless_enum_in : (n : ℕ) (q : Paragraph) → enum_in n (placeless_paragraph q) ≡ map placeless_enumerated (enum_in n q)
placeless_enum_in n (paragraph.Sig g) = refl
placeless_enum_in n (paragraph.Enum e) = refl
placeless_enum_in n (paragraph.Fact c) = refl
placeless_enum_in n (paragraph.Assert c) = refl
placeless_enum_in n (paragraph.Pred c) = refl
placeless_enum_in n (paragraph.Fun c) = refl
placeless_enum_in n (paragraph.Command c) = refl

placeless_enums : (n : ℕ) (ps : List Paragraph) → enums_from n (map placeless_paragraph ps) ≡ map placeless_enumerated (enums_from n ps)
placeless_enums n [] = refl
placeless_enums n (q ∷ ps) =
    ap₂ (λ (xs ys : List Enumerated). xs ++ ys) (placeless_enum_in n q) (ap (λ (k : ℕ). enums_from (n + k) (map placeless_paragraph ps)) (placeless_count q) ∙ placeless_enums (n + sigs_in q) ps)
    ∙ sym (map_append placeless_enumerated (enum_in n q) (enums_from (n + sigs_in q) ps))

placeless_written : (os : List Open) → map written (map placeless_open os) ≡ map placeless_opening (map written os)
placeless_written [] = refl
placeless_written (o ∷ os) = ap (λ (xs : List Opening). written (placeless_open o) ∷ xs) (placeless_written os)

placeless_implied : (es : List Enumerated) → map implied (map placeless_enumerated es) ≡ map placeless_opening (map implied es)
placeless_implied [] = refl
placeless_implied (e ∷ es) = ap (λ (xs : List Opening). implied (placeless_enumerated e) ∷ xs) (placeless_implied es)

placeless_openings : (m : Module) → openings_of (placeless_module m) ≡ map placeless_opening (openings_of m)
placeless_openings m =
    ap₂ (λ (xs ys : List Opening). xs ++ ys) (placeless_written m.opens) (ap (map implied) (placeless_enums 0 m.paragraphs) ∙ placeless_implied (enums_of m))
    ∙ sym (map_append placeless_opening (map written m.opens) (map implied (enums_of m)))

-- two opens are the same, but for places
pub record AreAlike (a b : Opening) : Type 0 where
  pub same : placeless_opening a ≡ placeless_opening b

-- the open of this number in the other tree
pub record HasAlike (m : Module) (k : ℕ) (a : Opening) : Type 0 where
  pub other : Opening
  pub at : slice_get (openings_of m) k ≡ Some other
  pub alike : AreAlike a other

alike_at : (m : Module) (k : ℕ) (a : Opening) → slice_get (openings_of m) k ≡ Some a → slice_get (openings_of (placeless_module m)) k ≡ Some (placeless_opening a)
alike_at m k a is =
    ap (λ (xs : List Opening). slice_get xs k) (placeless_openings m) ∙ (slice_get-map placeless_opening (openings_of m) k ∙ ap (option_map placeless_opening) is)

found_alike : (m : Module) (k : ℕ) (a : Opening) (found : Option Opening) → slice_get (openings_of m) k ≡ found → option_map placeless_opening found ≡ Some (placeless_opening a) → HasAlike m k a
found_alike m k a None at same = absurd (none-some (placeless_opening a) same)
found_alike m k a (Some b) at same = record { other = b; at = at; alike = record { same = sym (same_Some (placeless_opening b) (placeless_opening a) same) } }

pub alike_opening : (m n : Module) (k : ℕ) (a : Opening) → placeless_module m ≡ placeless_module n → slice_get (openings_of m) k ≡ Some a → HasAlike n k a
alike_opening m n k a same is = found_alike n k a (slice_get (openings_of n) k) refl there
  where
    there : option_map placeless_opening (slice_get (openings_of n) k) ≡ Some (placeless_opening a)
    there =
        sym (slice_get-map placeless_opening (openings_of n) k)
        ∙ (sym (ap (λ (xs : List Opening). slice_get xs k) (placeless_openings n)) ∙ (ap (λ (x : Module). slice_get (openings_of x) k) (sym same) ∙ alike_at m k a is))

pub both_alike : (m n : Module) (k : ℕ) (a b : Opening) → placeless_module m ≡ placeless_module n → slice_get (openings_of m) k ≡ Some a → slice_get (openings_of n) k ≡ Some b → AreAlike a b
both_alike m n k a b same is was =
    record { same = same_Some (placeless_opening a) (placeless_opening b) (sym (alike_at m k a is) ∙ (ap (λ (x : Module). slice_get (openings_of x) k) same ∙ alike_at n k b was)) }

-- what opens that are alike have in common
placeless_path : (a : Opening) → path_of (placeless_opening a) ≡ path_of a
placeless_path (written o) = refl
placeless_path (implied e) = refl

pub same_path_of : (a b : Opening) → AreAlike a b → path_of a ≡ path_of b
same_path_of a b alike = sym (placeless_path a) ∙ (ap path_of alike.same ∙ placeless_path b)

placeless_alias_or : (alias : Option Named) (default : List ℕ) → alias_or (each_part placeless_named alias) default ≡ alias_or alias default
placeless_alias_or None default = refl
placeless_alias_or (Some alias) default = refl

placeless_alias : (a : Opening) → alias_of (placeless_opening a) ≡ alias_of a
placeless_alias (written o) = placeless_alias_or o.alias (last_part o.path.parts)
placeless_alias (implied e) = refl

pub same_alias_of : (a b : Opening) → AreAlike a b → alias_of a ≡ alias_of b
same_alias_of a b alike = sym (placeless_alias a) ∙ (ap alias_of alike.same ∙ placeless_alias b)

placeless_hidden : (a : Opening) → is_hidden (placeless_opening a) ≡ is_hidden a
placeless_hidden (written o) = refl
placeless_hidden (implied e) = refl

pub same_hidden : (a b : Opening) → AreAlike a b → is_hidden a ≡ is_hidden b
same_hidden a b alike = sym (placeless_hidden a) ∙ (ap is_hidden alike.same ∙ placeless_hidden b)

-- an open that is as a written one is written, with such arguments
abbrev arguments_in : Opening → Option (List SigName)
arguments_in (written o) = Some o.arguments
arguments_in (implied e) = None

abbrev sig_in : Opening → Option ℕ
sig_in (written o) = None
sig_in (implied e) = Some e.sig

pub record IsAsWritten (a : Opening) (o : Open) : Type 0 where
  pub open_there : Open
  pub is : a ≡ written open_there
  pub arguments : map placeless_sig_name o.arguments ≡ map placeless_sig_name open_there.arguments

pub as_written : (a : Opening) (o : Open) → AreAlike a (written o) → IsAsWritten a o
as_written (written q) o alike =
    record { open_there = q; is = refl; arguments = same_Some (map placeless_sig_name o.arguments) (map placeless_sig_name q.arguments) (sym (ap arguments_in alike.same)) }
as_written (implied e) o alike = absurd (none-some (map placeless_sig_name o.arguments) (ap arguments_in alike.same))

-- and so is one that an enum implies
pub record IsAsImplied (a : Opening) (sig : ℕ) : Type 0 where
  pub enum_there : Enumerated
  pub is : a ≡ implied enum_there
  pub sig_is : enum_there.sig ≡ sig

pub as_implied : (a : Opening) (e : Enumerated) → AreAlike a (implied e) → IsAsImplied a e.sig
as_implied (written q) e alike = absurd (none-some e.sig (ap sig_in alike.same))
as_implied (implied d) e alike = record { enum_there = d; is = refl; sig_is = same_Some d.sig e.sig (ap sig_in alike.same) }
