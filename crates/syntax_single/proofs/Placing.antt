-- The places of a tree are those of its tokens: what puts the places of tokens into a tree without places gives the tree.
use Rattle.std.proofs.Common.{◌≡◌, ℕ, Bool, true, false, ◌&&◌, List, [], ◌∷◌, ◌++◌, Option, Some, None, map, refl, sym, ap, subst, ◌∙◌, true≢false, append_assoc, append-nil, eqb-true}
use Rattle.std.proofs.lemmas.List.{map-id}
use Rattle.std.proofs.lemmas.Simd.{map-map}
use Rattle.std.specs.Prelude.{nat_eq}
use Rattle.base_types.specs.declared.place.Position.{Position}
use Rattle.syntax_tree.specs.declared.token.Token.{Token}
use Rattle.syntax_tree.specs.declared.token.TokenKind.{TokenKind}
use Rattle.syntax_tree.specs.declared.token.TokenKind.TheVariants as kind
use Rattle.syntax_tree.specs.declared.token.Symbol.{Symbol}
use Rattle.syntax_tree.specs.declared.token.Symbol.TheVariants as mark
use Rattle.syntax_tree.specs.declared.operator.Infix.{Infix}
use Rattle.syntax_tree.specs.declared.operator.Comparison.{Comparison}
use Rattle.syntax_tree.specs.declared.operator.Multiplicity.{Multiplicity}
use Rattle.syntax_tree.specs.declared.expr.QualName.{QualName}
use Rattle.syntax_tree.specs.declared.expr.Named.{Named}
use Rattle.syntax_tree.specs.declared.expr.Decl.{Decl}
use Rattle.syntax_tree.specs.declared.expr.Binding.{Binding}
use Rattle.syntax_tree.specs.declared.expr.Access.{Access}
use Rattle.syntax_tree.specs.declared.expr.Access.TheVariants as access
use Rattle.syntax_tree.specs.declared.expr.Expr.{Expr}
use Rattle.syntax_tree.specs.declared.expr.Expr.TheOpen.{Expr-F}
use Rattle.syntax_tree.specs.declared.expr.Expr.TheViews.{roll-Expr}
use Rattle.syntax_tree.specs.declared.expr.Expr.TheFolds.{fold-Expr, fold-roll-Expr, ind-Expr, map-Expr}
use Rattle.syntax_tree.specs.Words.{Spelled, word, symbol, multiplicity_words, infix_words, negation_words, comparator_token}
use Rattle.syntax_tree.specs.Spelling.{own_words}
use Rattle.syntax_tree.specs.Words.{comparison_words}
use Rattle.syntax_places.specs.Pieces.{Pieces, Says, Here, says, same_place, begins_at, at_places, after_each, separated, joined, optional, one_name, declared_name, name_pieces, decl_pieces, binding_pieces, link_pieces, access_pieces, comparison_pieces, layer_pieces, pieces}
use Rattle.syntax_single.specs.Placeless.{nowhere, placeless, placeless_layer, placeless_name, placeless_named}
use Rattle.syntax_single.proofs.Fits.{both_left, both_right}

-- A value with places from tokens, and the tokens that are left.
abbrev pub Put : Type 0 → Type 0
Put A = List Token → A × List Token

unfoldable pub pure : {A : Type 0} → A → Put A
pure a ts = (a, ts)

unfoldable pub skip : {A : Type 0} → Put A → Put A
skip f [] = f []
skip f (t ∷ ts) = f ts

unfoldable pub skips : {A : Type 0} → Spelled → Put A → Put A
skips [] f = f
skips (k ∷ ks) f = skip (skips ks f)

unfoldable pub skip_if : {A : Type 0} → Bool → Put A → Put A
skip_if true f = skip f
skip_if false f = f

abbrev pub place_of : List Token → Position
place_of [] = nowhere
place_of (t ∷ ts) = t.place

unfoldable pub here : {A : Type 0} → (Position → Put A) → Put A
here g ts = g (place_of ts) ts

unfoldable pub bind : {A B : Type 0} → Put A → (A → Put B) → Put B
bind f g ts = g (f ts).0 (f ts).1

unfoldable pub mapped : {A B : Type 0} → (A → B) → Put A → Put B
mapped h f ts = (h (f ts).0, (f ts).1)

-- What gives this value at the tokens of these pieces, whatever follows.
unfoldable pub Puts : {A : Type 0} → Put A → Pieces → A → Type 0
Puts {A} f ps a = (q : Pieces) (ts : List Token) → at_places (ps ++ q) ts ≡ true → (left : List Token) × (◌≡◌ {A = A × List Token} (f ts) (a, left)) × (at_places q left ≡ true)

pub pure_puts : {A : Type 0} (a : A) → Puts (pure a) [] a
unfolding Puts pure
pure_puts a q ts h = (ts, refl, h)

pub skip_puts : {A : Type 0} (k : TokenKind) (f : Put A) (ps : Pieces) (a : A) → Puts f ps a → Puts (skip f) (Says k ∷ ps) a
unfolding Puts skip
skip_puts k f ps a it q [] h = absurd (true≢false (sym h))
skip_puts k f ps a it q (t ∷ ts) h = it q ts h

pub skips_puts : {A : Type 0} (ks : Spelled) (f : Put A) (ps : Pieces) (a : A) → Puts f ps a → Puts (skips ks f) (says ks ++ ps) a
unfolding skips
skips_puts [] f ps a it = it
skips_puts (k ∷ ks) f ps a it = skip_puts k (skips ks f) (says ks ++ ps) a (skips_puts ks f ps a it)

pub skip_if_puts : {A : Type 0} (b : Bool) (k : TokenKind) (f : Put A) (ps : Pieces) (a : A) → Puts f ps a → Puts (skip_if b f) (optional b k ++ ps) a
unfolding skip_if
skip_if_puts true k f ps a it = skip_puts k f ps a it
skip_if_puts false k f ps a it = it

equal : (a b : ℕ) → nat_eq a b ≡ true → a ≡ b
equal a b h = eqb-true a b h

is_place : (p q : Position) → same_place p q ≡ true → p ≡ q
is_place p q h = by p q (equal p.module q.module (both_left (nat_eq p.module q.module) (nat_eq p.line q.line && nat_eq p.column q.column) h))
    (equal p.line q.line (both_left (nat_eq p.line q.line) (nat_eq p.column q.column) (both_right (nat_eq p.module q.module) (nat_eq p.line q.line && nat_eq p.column q.column) h)))
    (equal p.column q.column (both_right (nat_eq p.line q.line) (nat_eq p.column q.column) (both_right (nat_eq p.module q.module) (nat_eq p.line q.line && nat_eq p.column q.column) h)))
  where
    by : (p q : Position) → p.module ≡ q.module → p.line ≡ q.line → p.column ≡ q.column → p ≡ q
    by p q a b c = ap (λ n. record { «module» = n; line = p.line; column = p.column }) a ∙ (ap (λ n. record { «module» = q.module; line = n; column = p.column }) b ∙ ap (λ n. record { «module» = q.module; line = q.line; column = n }) c)

begins : (p : Position) (ts : List Token) → begins_at p ts ≡ true → place_of ts ≡ p
begins p [] h = absurd (true≢false (sym h))
begins p (t ∷ ts) h = sym (is_place p t.place h)

pub here_puts : {A : Type 0} (p : Position) (g : Position → Put A) (ps : Pieces) (a : A) → Puts (g p) ps a → Puts (here g) (Here p ∷ ps) a
unfolding Puts here
here_puts {A} p g ps a it q ts h =
    let found : (left : List Token) × (◌≡◌ {A = A × List Token} (g p ts) (a, left)) × (at_places q left ≡ true) = it q ts (both_right (begins_at p ts) (at_places (ps ++ q) ts) h) in
    (found.0, ap (λ z. g z ts) (begins p ts (both_left (begins_at p ts) (at_places (ps ++ q) ts) h)) ∙ found.1, found.2)

pub bind_puts : {A B : Type 0} (f : Put A) (g : A → Put B) (ps qs : Pieces) (a : A) (b : B) → Puts f ps a → Puts (g a) qs b → Puts (bind f g) (ps ++ qs) b
unfolding Puts bind
bind_puts {A} {B} f g ps qs a b first second q ts h =
    let one : (left : List Token) × (◌≡◌ {A = A × List Token} (f ts) (a, left)) × (at_places (qs ++ q) left ≡ true) = first (qs ++ q) ts (subst (λ z. at_places z ts ≡ true) (append_assoc ps qs q) h) in
    let two : (left : List Token) × (◌≡◌ {A = B × List Token} (g a one.0) (b, left)) × (at_places q left ≡ true) = second q one.0 one.2 in
    (two.0, ap (λ (z : A × List Token). g z.0 z.1) one.1 ∙ two.1, two.2)

pub mapped_puts : {A B : Type 0} (h : A → B) (f : Put A) (ps : Pieces) (a : A) → Puts f ps a → Puts (mapped h f) ps (h a)
unfolding Puts mapped
mapped_puts {A} {B} h f ps a it q ts at =
    let found : (left : List Token) × (◌≡◌ {A = A × List Token} (f ts) (a, left)) × (at_places q left ≡ true) = it q ts at in
    (found.0, ap (λ (z : A × List Token). given z) found.1, found.2)
  where
    given : A × List Token → B × List Token
    given z = (h z.0, z.1)

-- Lists.

abbrev pub consed : {A : Type 0} → A → List A → List A
consed x xs = x ∷ xs

unfoldable pub put_each : {A : Type 0} → List (Put A) → Put (List A)
put_each [] = pure []
put_each (f ∷ fs) = bind f (λ x. mapped (consed x) (put_each fs))

unfoldable pub put_after : {A : Type 0} → List (Put A) → Put (List A)
put_after [] = pure []
put_after (f ∷ fs) = skip (bind f (λ x. mapped (consed x) (put_after fs)))

unfoldable pub put_separated : {A : Type 0} → List (Put A) → Put (List A)
put_separated [] = pure []
put_separated (f ∷ fs) = bind f (λ x. mapped (consed x) (put_after fs))

module _ {X A : Type 0} (put : X → Put A) (at : X → Pieces) (value : X → A) (puts : (x : X) → Puts (put x) (at x) (value x)) where
  pub each_puts : (xs : List X) → Puts (put_each (map put xs)) (joined (map at xs)) (map value xs)
  unfolding put_each
  each_puts [] = pure_puts []
  each_puts (x ∷ xs) = bind_puts (put x) (λ a. mapped (consed a) (put_each (map put xs))) (at x) (joined (map at xs)) (value x) (map value (x ∷ xs)) (puts x)
      (mapped_puts (consed (value x)) (put_each (map put xs)) (joined (map at xs)) (map value xs) (each_puts xs))

  after_puts : (m : Symbol) (xs : List X) → Puts (put_after (map put xs)) (after_each m (map at xs)) (map value xs)
  unfolding put_after
  after_puts m [] = pure_puts []
  after_puts m (x ∷ xs) = skip_puts (symbol m) (bind (put x) (λ a. mapped (consed a) (put_after (map put xs)))) (at x ++ after_each m (map at xs)) (map value (x ∷ xs))
      (bind_puts (put x) (λ a. mapped (consed a) (put_after (map put xs))) (at x) (after_each m (map at xs)) (value x) (map value (x ∷ xs)) (puts x)
      (mapped_puts (consed (value x)) (put_after (map put xs)) (after_each m (map at xs)) (map value xs) (after_puts m xs)))

  pub separated_puts : (m : Symbol) (xs : List X) → Puts (put_separated (map put xs)) (separated m (map at xs)) (map value xs)
  unfolding put_separated
  separated_puts m [] = pure_puts []
  separated_puts m (x ∷ xs) = bind_puts (put x) (λ a. mapped (consed a) (put_after (map put xs))) (at x) (after_each m (map at xs)) (value x) (map value (x ∷ xs)) (puts x)
      (mapped_puts (consed (value x)) (put_after (map put xs)) (after_each m (map at xs)) (map value xs) (after_puts m xs))

-- Parts of trees.

abbrev pub put_named : Named → Put Named
put_named n = here (λ p. skip (pure (record { place = p; name = n.name })))

pub named_puts : (n : Named) → Puts (put_named (placeless_named n)) (declared_name n) n
named_puts n = here_puts n.place (λ p. skip (pure (record { place = p; name = n.name }))) (Says (kind.Name n.name) ∷ []) n (skip_puts (kind.Name n.name) (pure n) [] n (pure_puts n))

abbrev pub put_names : List Named → Put (List Named)
put_names ns = put_separated (map put_named ns)

-- a list of parts without places, from the parts
pub list_puts : {A B : Type 0} (m : Symbol) (put : B → Put A) (plain : A → B) (at : A → Pieces) → ((x : A) → Puts (put (plain x)) (at x) x) → (xs : List A) → Puts (put_separated (map put (map plain xs))) (separated m (map at xs)) xs
list_puts {A} m put plain at puts xs = subst (λ z. Puts (put_separated z) (separated m (map at xs)) xs) (sym (map-map put plain xs))
    (subst (λ z. Puts (put_separated (map (λ x. put (plain x)) xs)) (separated m (map at xs)) z) (map-id xs) (separated_puts (λ x. put (plain x)) at (λ x. x) puts m xs))

pub row_puts : {A B : Type 0} (put : B → Put A) (plain : A → B) (at : A → Pieces) → ((x : A) → Puts (put (plain x)) (at x) x) → (xs : List A) → Puts (put_each (map put (map plain xs))) (joined (map at xs)) xs
row_puts {A} put plain at puts xs = subst (λ z. Puts (put_each z) (joined (map at xs)) xs) (sym (map-map put plain xs))
    (subst (λ z. Puts (put_each (map (λ x. put (plain x)) xs)) (joined (map at xs)) z) (map-id xs) (each_puts (λ x. put (plain x)) at (λ x. x) puts xs))

pub names_put : (ns : List Named) → Puts (put_names (map placeless_named ns)) (separated mark.Comma (map declared_name ns)) ns
names_put ns = list_puts mark.Comma put_named placeless_named declared_name named_puts ns

abbrev pub put_part : List ℕ → Put (List ℕ)
put_part n = skip (pure n)

part_puts : (n : List ℕ) → Puts (put_part n) (one_name n) n
part_puts n = skip_puts (kind.Name n) (pure n) [] n (pure_puts n)

abbrev pub named_by : Position → Bool → List (List ℕ) → QualName
named_by p is_own parts = record { place = p; is_own = is_own; parts = parts }

abbrev pub put_name : QualName → Put QualName
put_name q = here (λ p. skips (own_words q.is_own) (mapped (named_by p q.is_own) (put_separated (map put_part q.parts))))

pub name_puts : (q : QualName) → Puts (put_name (placeless_name q)) (name_pieces q) q
name_puts q = here_puts q.place (λ p. skips (own_words q.is_own) (mapped (named_by p q.is_own) (put_separated (map put_part q.parts)))) (says (own_words q.is_own) ++ separated mark.Slash (map one_name q.parts)) q
    (skips_puts (own_words q.is_own) (mapped (named_by q.place q.is_own) (put_separated (map put_part q.parts))) (separated mark.Slash (map one_name q.parts)) q
    (mapped_puts (named_by q.place q.is_own) (put_separated (map put_part q.parts)) (separated mark.Slash (map one_name q.parts)) q.parts
    (subst (λ z. Puts (put_separated (map put_part q.parts)) (separated mark.Slash (map one_name q.parts)) z) (map-id q.parts) (separated_puts put_part one_name (λ n. n) part_puts mark.Slash q.parts))))

-- Layers of trees.

abbrev pub decl_of : Position → Bool → List Named → Position → Option Multiplicity → Expr → Decl Expr
decl_of p is_disjoint ns b word e = record { place = p; is_disjoint = is_disjoint; names = ns; bound_place = b; word = word; bound = e }

abbrev pub put_bound : Position → Bool → Option Multiplicity → Put Expr → List Named → Put (Decl Expr)
put_bound p is_disjoint word bound ns = skip (here (λ b. skips (multiplicity_words word) (mapped (decl_of p is_disjoint ns b word) bound)))

abbrev pub put_decl : Decl (Put Expr) → Put (Decl Expr)
put_decl d = here (λ p. skip_if d.is_disjoint (bind (put_names d.names) (put_bound p d.is_disjoint d.word d.bound)))

abbrev pub binding_of : Position → List ℕ → Expr → Binding Expr
binding_of p n e = record { place = p; name = n; value = e }

abbrev pub put_binding : Binding (Put Expr) → Put (Binding Expr)
put_binding b = here (λ p. skip (skip (mapped (binding_of p b.name) b.value)))

abbrev pub link_of : Infix → Expr → Infix × Expr
link_of o e = (o, e)

abbrev pub put_link : Infix × Put Expr → Put (Infix × Expr)
put_link l = skips (infix_words l.0) (mapped (link_of l.0) l.1)

abbrev pub box_of : List Expr → Put (Access Expr)
box_of es = skip (pure (access.Bracket es))

abbrev pub put_step : Access (Put Expr) → Put (Access Expr)
put_step (access.Dot f) = skip (mapped (λ e. access.Dot e) f)
put_step (access.Bracket fs) = skip (bind (put_separated fs) box_of)

abbrev pub rolled : Expr-F Expr → Expr
rolled z = roll-Expr z

abbrev pub layer_put : Expr-F (Put Expr) → Put Expr
layer_put (Expr-F.Name q) = mapped (λ n. rolled (Expr-F.Name n)) (put_name q)
layer_put (Expr-F.At place q) = here (λ p. skip (mapped (λ n. rolled (Expr-F.At p n)) (put_name q)))
layer_put (Expr-F.Constant place c) = here (λ p. skip (pure (rolled (Expr-F.Constant p c))))
layer_put (Expr-F.Number place n) = here (λ p. skip (pure (rolled (Expr-F.Number p n))))
layer_put (Expr-F.Negative place n) = here (λ p. skip (skip (pure (rolled (Expr-F.Negative p n)))))
layer_put (Expr-F.Literal place text) = here (λ p. skip (pure (rolled (Expr-F.Literal p text))))
layer_put (Expr-F.Parenthesis place f) = here (λ p. skip (bind f (λ e. skip (pure (rolled (Expr-F.Parenthesis p e))))))
layer_put (Expr-F.Block place fs) = here (λ p. skip (bind (put_each fs) (λ es. skip (pure (rolled (Expr-F.Block p es))))))
layer_put (Expr-F.Comprehension place ds has_bar f) = here (λ p. skip (bind (put_separated (map put_decl ds)) (λ xs. skip_if has_bar (bind f (λ e. skip (pure (rolled (Expr-F.Comprehension p xs has_bar e))))))))
layer_put (Expr-F.Quantified place q ds has_bar f) = here (λ p. skip (bind (put_separated (map put_decl ds)) (λ xs. skip_if has_bar (mapped (λ e. rolled (Expr-F.Quantified p q xs has_bar e)) f))))
layer_put (Expr-F.Let place bs has_bar f) = here (λ p. skip (bind (put_separated (map put_binding bs)) (λ xs. skip_if has_bar (mapped (λ e. rolled (Expr-F.Let p xs has_bar e)) f))))
layer_put (Expr-F.Sequence f g) = bind f (λ a. skip (mapped (λ b. rolled (Expr-F.Sequence a b)) g))
layer_put (Expr-F.Implication is_word f g None) = bind f (λ a. skip (bind g (λ b. pure (rolled (Expr-F.Implication is_word a b None)))))
layer_put (Expr-F.Implication is_word f g (Some h)) = bind f (λ a. skip (bind g (λ b. skip (mapped (λ c. rolled (Expr-F.Implication is_word a b (Some c))) h))))
layer_put (Expr-F.Compare c f g) = bind f (λ a. skips (comparison_words c) (mapped (λ b. rolled (Expr-F.Compare c a b)) g))
layer_put (Expr-F.Prefix place o f) = here (λ p. skip (mapped (λ e. rolled (Expr-F.Prefix p o e)) f))
layer_put (Expr-F.Infix f ls) = bind f (λ a. mapped (λ xs. rolled (Expr-F.Infix a xs)) (put_each (map put_link ls)))
layer_put (Expr-F.Join f xs) = bind f (λ a. mapped (λ ys. rolled (Expr-F.Join a ys)) (put_each (map put_step xs)))
layer_put (Expr-F.Prime f) = bind f (λ a. skip (pure (rolled (Expr-F.Prime a))))

unfoldable pub put : Expr → Put Expr
put = fold-Expr (Put Expr) layer_put

-- the tree with the places of its tokens
abbrev pub TreePut : Expr → Type 0
TreePut e = Puts (put (placeless e)) (pieces e) e

abbrev Known : Type 0
Known = (e : Expr) × TreePut e

abbrev bare : Known → Expr
bare k = k.0

abbrev bare_decl : Decl Known → Decl Expr
bare_decl d = record { place = d.place; is_disjoint = d.is_disjoint; names = d.names; bound_place = d.bound_place; word = d.word; bound = d.bound.0 }

abbrev bare_binding : Binding Known → Binding Expr
bare_binding b = record { place = b.place; name = b.name; value = b.value.0 }

abbrev bare_link : Infix × Known → Infix × Expr
bare_link l = (l.0, l.1.0)

abbrev bare_access : Access Known → Access Expr
bare_access (access.Dot k) = access.Dot k.0
bare_access (access.Bracket ks) = access.Bracket (map bare ks)

-- what each of them is put with, and at
abbrev the_put : Known → Put Expr
the_put k = put (placeless k.0)

abbrev the_pieces : Known → Pieces
the_pieces k = pieces k.0

-- Lists of parts in layers, through what each layer makes of them.

module _ {X A C D E G : Type 0} (j : X → A) (i : A → C) (h : C → D) (g : D → E) (f : E → Put A) (k : G → Pieces) (l : A → G) (puts : (x : X) → Puts (f (g (h (i (j x))))) (k (l (j x))) (j x)) where
  after_five : (m : Symbol) (xs : List X) → Puts (put_after (map f (map g (map h (map i (map j xs)))))) (after_each m (map k (map l (map j xs)))) (map j xs)
  unfolding put_after
  after_five m [] = pure_puts []
  after_five m (x ∷ xs) = skip_puts _ _ _ _ (bind_puts _ _ _ _ _ _ (puts x) (mapped_puts _ _ _ _ (after_five m xs)))

  separated_five : (m : Symbol) (xs : List X) → Puts (put_separated (map f (map g (map h (map i (map j xs)))))) (separated m (map k (map l (map j xs)))) (map j xs)
  unfolding put_separated
  separated_five m [] = pure_puts []
  separated_five m (x ∷ xs) = bind_puts _ _ _ _ _ _ (puts x) (mapped_puts _ _ _ _ (after_five m xs))

module _ {X A C D G : Type 0} (j : X → A) (i : A → C) (h : C → D) (f : D → Put A) (k : G → Pieces) (l : A → G) (puts : (x : X) → Puts (f (h (i (j x)))) (k (l (j x))) (j x)) where
  each_four : (xs : List X) → Puts (put_each (map f (map h (map i (map j xs))))) (joined (map k (map l (map j xs)))) (map j xs)
  unfolding put_each
  each_four [] = pure_puts []
  each_four (x ∷ xs) = bind_puts _ _ _ _ _ _ (puts x) (mapped_puts _ _ _ _ (each_four xs))

each_known : (ks : List Known) → Puts (put_each (map put (map placeless (map bare ks)))) (joined (map pieces (map bare ks))) (map bare ks)
unfolding put_each
each_known [] = pure_puts []
each_known (k ∷ ks) = bind_puts _ _ _ _ _ _ k.1 (mapped_puts _ _ _ _ (each_known ks))

after_known : (m : Symbol) (ks : List Known) → Puts (put_after (map put (map placeless (map bare ks)))) (after_each m (map pieces (map bare ks))) (map bare ks)
unfolding put_after
after_known m [] = pure_puts []
after_known m (k ∷ ks) = skip_puts _ _ _ _ (bind_puts _ _ _ _ _ _ k.1 (mapped_puts _ _ _ _ (after_known m ks)))

separated_known : (m : Symbol) (ks : List Known) → Puts (put_separated (map put (map placeless (map bare ks)))) (separated m (map pieces (map bare ks))) (map bare ks)
unfolding put_separated
separated_known m [] = pure_puts []
separated_known m (k ∷ ks) = bind_puts _ _ _ _ _ _ k.1 (mapped_puts _ _ _ _ (after_known m ks))

decl_puts : (d : Decl Known) → Puts (put_decl (record { place = nowhere; is_disjoint = d.is_disjoint; names = map placeless_named d.names; bound_place = nowhere; word = d.word; bound = the_put d.bound })) (decl_pieces (record { place = d.place; is_disjoint = d.is_disjoint; names = d.names; bound_place = d.bound_place; word = d.word; bound = the_pieces d.bound })) (bare_decl d)
decl_puts d = here_puts _ _ _ _ (skip_if_puts _ _ _ _ _ (bind_puts _ _ _ _ _ _ (names_put d.names) (skip_puts _ _ _ _ (here_puts _ _ _ _ (skips_puts _ _ _ _ (mapped_puts _ _ _ _ d.bound.1))))))

binding_puts : (b : Binding Known) → Puts (put_binding (record { place = nowhere; name = b.name; value = the_put b.value })) (binding_pieces (record { place = b.place; name = b.name; value = the_pieces b.value })) (bare_binding b)
binding_puts b = here_puts _ _ _ _ (skip_puts _ _ _ _ (skip_puts _ _ _ _ (mapped_puts _ _ _ _ b.value.1)))

link_puts : (l : Infix × Known) → Puts (put_link (l.0, the_put l.1)) (link_pieces (l.0, the_pieces l.1)) (bare_link l)
link_puts l = skips_puts _ _ _ _ (mapped_puts _ _ _ _ l.1.1)

dot_puts : (k : Known) → Puts (put_step (access.Dot (the_put k))) (access_pieces (access.Dot (the_pieces k))) (access.Dot k.0)
dot_puts k = skip_puts _ _ _ _ (mapped_puts _ _ _ _ k.1)

box_puts : (ks : List Known) → Puts (put_step (access.Bracket (map put (map placeless (map bare ks))))) (access_pieces (access.Bracket (map pieces (map bare ks)))) (access.Bracket (map bare ks))
box_puts ks = skip_puts _ _ _ _ (bind_puts _ _ _ _ _ _ (separated_known mark.Comma ks) (skip_puts _ _ _ _ (pure_puts _)))

-- The steps of a join, whatever a layer makes of them.
module _ (j : Access Known → Access Expr) (i : Access Expr → Access Expr) (h : Access Expr → Access (Put Expr)) (l : Access Expr → Access Pieces)
    (dot : (k : Known) → Puts (put_step (h (i (j (access.Dot k))))) (access_pieces (l (j (access.Dot k)))) (j (access.Dot k)))
    (box : (ks : List Known) → Puts (put_step (h (i (j (access.Bracket ks))))) (access_pieces (l (j (access.Bracket ks)))) (j (access.Bracket ks))) where
  steps_put : (xs : List (Access Known)) → Puts (put_each (map put_step (map h (map i (map j xs))))) (joined (map access_pieces (map l (map j xs)))) (map j xs)
  steps_put xs = each_four j i h put_step access_pieces l step xs
    where
      step : (x : Access Known) → Puts (put_step (h (i (j x)))) (access_pieces (l (j x))) (j x)
      step (access.Dot k) = dot k
      step (access.Bracket ks) = box ks

comparison_puts : (c : Comparison) (f : Put Expr) (ps : Pieces) (a : Expr) → Puts f ps a → Puts (skips (comparison_words c) f) (comparison_pieces c ++ ps) a
comparison_puts c f ps a it = subst (λ z. Puts (skips (comparison_words c) f) (z ++ ps) a) (says_both (negation_words c.negation) (comparator_token c.comparator ∷ multiplicity_words c.word)) (skips_puts (comparison_words c) f ps a it)
  where
    says_both : (xs ys : Spelled) → says (xs ++ ys) ≡ says xs ++ says ys
    says_both [] ys = refl
    says_both (x ∷ xs) ys = ap (λ z. Says x ∷ z) (says_both xs ys)

layer_puts : (y : Expr-F Known) → Puts (layer_put (map-Expr Expr (Put Expr) put (placeless_layer (map-Expr Expr Expr placeless (map-Expr Known Expr bare y))))) (layer_pieces (map-Expr Expr Pieces pieces (map-Expr Known Expr bare y))) (rolled (map-Expr Known Expr bare y))
layer_puts (Expr-F.Name q) = mapped_puts _ _ _ _ (name_puts q)
layer_puts (Expr-F.At place q) = here_puts _ _ _ _ (skip_puts _ _ _ _ (mapped_puts _ _ _ _ (name_puts q)))
layer_puts (Expr-F.Constant place c) = here_puts _ _ _ _ (skip_puts _ _ _ _ (pure_puts _))
layer_puts (Expr-F.Number place n) = here_puts _ _ _ _ (skip_puts _ _ _ _ (pure_puts _))
layer_puts (Expr-F.Negative place n) = here_puts _ _ _ _ (skip_puts _ _ _ _ (skip_puts _ _ _ _ (pure_puts _)))
layer_puts (Expr-F.Literal place text) = here_puts _ _ _ _ (skip_puts _ _ _ _ (pure_puts _))
layer_puts (Expr-F.Parenthesis place k) = here_puts _ _ _ _ (skip_puts _ _ _ _ (bind_puts _ _ _ _ _ _ k.1 (skip_puts _ _ _ _ (pure_puts _))))
layer_puts (Expr-F.Block place ks) = here_puts _ _ _ _ (skip_puts _ _ _ _ (bind_puts _ _ _ _ _ _ (each_known ks) (skip_puts _ _ _ _ (pure_puts _))))
layer_puts (Expr-F.Comprehension place ds has_bar k) = here_puts _ _ _ _ (skip_puts _ _ _ _ (bind_puts _ _ _ _ _ _ (separated_five bare_decl _ _ _ put_decl decl_pieces _ decl_puts mark.Comma ds)
    (skip_if_puts _ _ _ _ _ (bind_puts _ _ _ _ _ _ k.1 (skip_puts _ _ _ _ (pure_puts _))))))
layer_puts (Expr-F.Quantified place q ds has_bar k) = here_puts _ _ _ _ (skip_puts _ _ _ _ (bind_puts _ _ _ _ _ _ (separated_five bare_decl _ _ _ put_decl decl_pieces _ decl_puts mark.Comma ds) (skip_if_puts _ _ _ _ _ (mapped_puts _ _ _ _ k.1))))
layer_puts (Expr-F.Let place bs has_bar k) = here_puts _ _ _ _ (skip_puts _ _ _ _ (bind_puts _ _ _ _ _ _ (separated_five bare_binding _ _ _ put_binding binding_pieces _ binding_puts mark.Comma bs) (skip_if_puts _ _ _ _ _ (mapped_puts _ _ _ _ k.1))))
layer_puts (Expr-F.Sequence a b) = bind_puts _ _ _ _ _ _ a.1 (skip_puts _ _ _ _ (mapped_puts _ _ _ _ b.1))
layer_puts (Expr-F.Implication is_word a b None) = bind_puts _ _ _ _ _ _ a.1 (skip_puts _ _ _ _ (bind_puts _ _ _ _ _ _ b.1 (pure_puts _)))
layer_puts (Expr-F.Implication is_word a b (Some c)) = bind_puts _ _ _ _ _ _ a.1 (skip_puts _ _ _ _ (bind_puts _ _ _ _ _ _ b.1 (skip_puts _ _ _ _ (mapped_puts _ _ _ _ c.1))))
layer_puts (Expr-F.Compare c a b) = bind_puts _ _ _ _ _ _ a.1 (comparison_puts c _ _ _ (mapped_puts _ _ _ _ b.1))
layer_puts (Expr-F.Prefix place o k) = here_puts _ _ _ _ (skip_puts _ _ _ _ (mapped_puts _ _ _ _ k.1))
layer_puts (Expr-F.Infix k ls) = bind_puts _ _ _ _ _ _ k.1 (mapped_puts _ _ _ _ (each_four bare_link _ _ put_link link_pieces _ link_puts ls))
layer_puts (Expr-F.Join k xs) = bind_puts _ _ _ _ _ _ k.1 (mapped_puts _ _ _ _ (steps_put _ _ _ _ dot_puts box_puts xs))
layer_puts (Expr-F.Prime k) = bind_puts _ _ _ _ _ _ k.1 (skip_puts _ _ _ _ (pure_puts _))

put_rolled : (z : Expr-F Expr) → put (roll-Expr z) ≡ layer_put (map-Expr Expr (Put Expr) put z)
unfolding put
put_rolled z = fold-roll-Expr (Put Expr) layer_put z

pieces_rolled : (z : Expr-F Expr) → pieces (roll-Expr z) ≡ layer_pieces (map-Expr Expr Pieces pieces z)
unfolding pieces
pieces_rolled z = fold-roll-Expr Pieces layer_pieces z

placeless_rolled : (z : Expr-F Expr) → placeless (roll-Expr z) ≡ roll-Expr (placeless_layer (map-Expr Expr Expr placeless z))
unfolding placeless
placeless_rolled z = fold-roll-Expr Expr (λ layer. roll-Expr (placeless_layer layer)) z

changed : {A : Type 0} {f g : Put A} {ps qs : Pieces} (a : A) → f ≡ g → ps ≡ qs → Puts f ps a → Puts g qs a
changed {A} {f} {g} {ps} {qs} a p q it = subst (λ z. Puts g z a) q (subst (λ z. Puts z ps a) p it)

rolled_put : (z : Expr-F Expr) → Puts (layer_put (map-Expr Expr (Put Expr) put (placeless_layer (map-Expr Expr Expr placeless z)))) (layer_pieces (map-Expr Expr Pieces pieces z)) (roll-Expr z) → TreePut (roll-Expr z)
rolled_put z it = changed (roll-Expr z) (sym (ap put (placeless_rolled z) ∙ put_rolled (placeless_layer (map-Expr Expr Expr placeless z)))) (sym (pieces_rolled z)) it

pub tree_put : (e : Expr) → TreePut e
tree_put = ind-Expr TreePut (λ x y is. subst (λ z. TreePut (roll-Expr z)) is (rolled_put (map-Expr Known Expr bare y) (layer_puts y)))

-- what is put at all of the tokens
pub the_tokens : {A : Type 0} (f : Put A) (ps : Pieces) (a : A) (ts : List Token) → Puts f ps a → at_places ps ts ≡ true → (f ts).0 ≡ a
unfolding Puts
the_tokens {A} f ps a ts it h = let found : (left : List Token) × (◌≡◌ {A = A × List Token} (f ts) (a, left)) × (at_places [] left ≡ true) = it [] ts (ap (λ z. at_places z ts) (append-nil ps) ∙ h) in ap (λ (z : A × List Token). z.0) found.1

pub trees_agree : (e u : Expr) (ts : List Token) → placeless e ≡ placeless u → at_places (pieces e) ts ≡ true → at_places (pieces u) ts ≡ true → e ≡ u
trees_agree e u ts same a b = sym (the_tokens (put (placeless e)) (pieces e) e ts (tree_put e) a) ∙ (ap (λ z. (put z ts).0) same ∙ the_tokens (put (placeless u)) (pieces u) u ts (tree_put u) b)
