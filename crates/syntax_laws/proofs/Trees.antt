-- What the pieces of a tree say is its spelling: an induction over trees.
use Rattle.std.proofs.Common.{◌≡◌, Bool, true, false, List, [], ◌∷◌, ◌++◌, None, Some, map, refl, sym, ap, ◌∙◌, subst}
use Rattle.syntax_tree.specs.declared.token.TokenKind.TheVariants as kind
use Rattle.syntax_tree.specs.declared.token.Word.TheVariants as w
use Rattle.syntax_tree.specs.declared.token.Symbol.TheVariants as s
use Rattle.syntax_tree.specs.declared.operator.Infix.{Infix}
use Rattle.syntax_tree.specs.declared.operator.Comparison.{Comparison}
use Rattle.syntax_tree.specs.declared.expr.Decl.{Decl}
use Rattle.syntax_tree.specs.declared.expr.Binding.{Binding}
use Rattle.syntax_tree.specs.declared.expr.Access.{Access}
use Rattle.syntax_tree.specs.declared.expr.Access.TheVariants as access
use Rattle.syntax_tree.specs.declared.expr.Expr.{Expr}
use Rattle.syntax_tree.specs.declared.expr.Expr.TheOpen.{Expr-F}
use Rattle.syntax_tree.specs.declared.expr.Expr.TheViews.{roll-Expr}
use Rattle.syntax_tree.specs.declared.expr.Expr.TheFolds.{fold-roll-Expr, ind-Expr, map-Expr}
use Rattle.syntax_tree.specs.Words.{Spelled, word, symbol, multiplicity_words, quantifier_word, infix_words, prefix_token, negation_words, comparator_token, comparison_words}
use Rattle.syntax_tree.specs.Spelling as sp
use Rattle.syntax_tree.specs.Spelling.{spelling, layer_words, decl_words, binding_words, link_words, access_words, body_words, implies_token, spelled_decl, spelled_binding, spelled_link}
use Rattle.syntax_places.specs.Pieces.{Pieces, Says, says, said, separated, joined, optional, declared_name, decl_pieces, binding_pieces, link_pieces, access_pieces, comparison_pieces, layer_pieces, pieces, pieced_decl, pieced_binding, pieced_link}
use Rattle.syntax_laws.proofs.Lists.{both, said_says, first_says, if_first, said_separated, said_joined, separated_of, joined_of, declared_said, name_said}

-- a tree whose pieces say its spelling
abbrev pub Said : Expr → Type 0
Said e = said (pieces e) ≡ spelling e

abbrev Known : Type 0
Known = (e : Expr) × Said e

abbrev bare : Known → Expr
bare k = k.0

each_known : (ks : List Known) → map said (map pieces (map bare ks)) ≡ map spelling (map bare ks)
each_known [] = refl
each_known (k ∷ ks) = ap (λ w. w ∷ map said (map pieces (map bare ks))) k.1 ∙ ap (λ ws. spelling k.0 ∷ ws) (each_known ks)

items_said : (ks : List Known) → said (joined (map pieces (map bare ks))) ≡ sp.joined (map spelling (map bare ks))
items_said ks = said_joined (map pieces (map bare ks)) ∙ ap sp.joined (each_known ks)

arguments_said : (ks : List Known) → said (separated s.Comma (map pieces (map bare ks))) ≡ sp.separated s.Comma (map spelling (map bare ks))
arguments_said ks = said_separated s.Comma (map pieces (map bare ks)) ∙ ap (sp.separated s.Comma) (each_known ks)

abbrev bare_decl : Decl Known → Decl Expr
bare_decl d = record { place = d.place; is_disjoint = d.is_disjoint; names = d.names; bound_place = d.bound_place; word = d.word; bound = d.bound.0 }

abbrev bare_binding : Binding Known → Binding Expr
bare_binding b = record { place = b.place; name = b.name; value = b.value.0 }

abbrev bare_link : Infix × Known → Infix × Expr
bare_link l = (l.0, l.1.0)

pub decl_said : (d : Decl Expr) → Said d.bound → said (decl_pieces (pieced_decl d)) ≡ decl_words (spelled_decl d)
decl_said d bound = if_first d.is_disjoint (word w.Disj) _ _ (both (separated s.Comma (map declared_name d.names)) _ _ _ (declared_said d.names)
    (ap (λ ws. symbol s.Colon ∷ ws) (first_says (multiplicity_words d.word) (pieces d.bound) (spelling d.bound) bound)))

decls_said : (ds : List (Decl Known)) → said (separated s.Comma (map decl_pieces (map pieced_decl (map bare_decl ds)))) ≡ sp.separated s.Comma (map decl_words (map spelled_decl (map bare_decl ds)))
decls_said ds = separated_of bare_decl pieced_decl decl_pieces spelled_decl decl_words (λ d. decl_said (bare_decl d) d.bound.1) s.Comma ds

binding_said : (b : Binding Known) → said (binding_pieces (pieced_binding (bare_binding b))) ≡ binding_words (spelled_binding (bare_binding b))
binding_said b = ap (λ ws. kind.Name b.name ∷ symbol s.Equal ∷ ws) b.value.1

bindings_said : (bs : List (Binding Known)) → said (separated s.Comma (map binding_pieces (map pieced_binding (map bare_binding bs)))) ≡ sp.separated s.Comma (map binding_words (map spelled_binding (map bare_binding bs)))
bindings_said bs = separated_of bare_binding pieced_binding binding_pieces spelled_binding binding_words binding_said s.Comma bs

link_said : (l : Infix × Known) → said (link_pieces (pieced_link (bare_link l))) ≡ link_words (spelled_link (bare_link l))
link_said l = first_says (infix_words l.0) (pieces l.1.0) (spelling l.1.0) l.1.1

links_said : (ls : List (Infix × Known)) → said (joined (map link_pieces (map pieced_link (map bare_link ls)))) ≡ sp.joined (map link_words (map spelled_link (map bare_link ls)))
links_said ls = joined_of bare_link pieced_link link_pieces spelled_link link_words link_said ls

-- The steps of a join, whatever leaves the fact away and puts pieces and words in place of each expression.
module _ (m : Access Known → Access Expr) (f : Access Expr → Access Pieces) (h : Access Expr → Access Spelled)
    (dot : (k : Known) → said (access_pieces (f (m (access.Dot k)))) ≡ access_words (h (m (access.Dot k))))
    (bracket : (ks : List Known) → said (access_pieces (f (m (access.Bracket ks)))) ≡ access_words (h (m (access.Bracket ks)))) where
  step_said : (a : Access Known) → said (access_pieces (f (m a))) ≡ access_words (h (m a))
  step_said (access.Dot k) = dot k
  step_said (access.Bracket ks) = bracket ks

  steps_said : (xs : List (Access Known)) → said (joined (map access_pieces (map f (map m xs)))) ≡ sp.joined (map access_words (map h (map m xs)))
  steps_said xs = joined_of m f access_pieces h access_words step_said xs

comparison_said : (c : Comparison) → said (comparison_pieces c) ≡ comparison_words c
comparison_said c = first_says (negation_words c.negation) (Says (comparator_token c.comparator) ∷ says (multiplicity_words c.word)) (comparator_token c.comparator ∷ multiplicity_words c.word)
    (ap (λ ws. comparator_token c.comparator ∷ ws) (said_says (multiplicity_words c.word)))

closed_said : (has_bar : Bool) (k : Known) → said (optional has_bar (symbol s.Bar) ++ (pieces k.0 ++ Says (symbol s.CloseBrace) ∷ [])) ≡ body_words has_bar (spelling k.0) ++ symbol s.CloseBrace ∷ []
closed_said true k = ap (λ ws. symbol s.Bar ∷ ws) (both (pieces k.0) (Says (symbol s.CloseBrace) ∷ []) (spelling k.0) (symbol s.CloseBrace ∷ []) k.1 refl)
closed_said false k = both (pieces k.0) (Says (symbol s.CloseBrace) ∷ []) (spelling k.0) (symbol s.CloseBrace ∷ []) k.1 refl

layer_said : (y : Expr-F Known) → said (layer_pieces (map-Expr Expr Pieces pieces (map-Expr Known Expr bare y))) ≡ layer_words (map-Expr Expr Spelled spelling (map-Expr Known Expr bare y))
layer_said (Expr-F.Name name) = name_said name
layer_said (Expr-F.At place name) = ap (λ ws. symbol s.At ∷ ws) (name_said name)
layer_said (Expr-F.Constant place constant) = refl
layer_said (Expr-F.Number place number) = refl
layer_said (Expr-F.Negative place number) = refl
layer_said (Expr-F.Literal place text) = refl
layer_said (Expr-F.Parenthesis place k) =
    ap (λ ws. symbol s.OpenParenthesis ∷ ws) (both (pieces k.0) (Says (symbol s.CloseParenthesis) ∷ []) (spelling k.0) (symbol s.CloseParenthesis ∷ []) k.1 refl)
layer_said (Expr-F.Block place ks) =
    ap (λ ws. symbol s.OpenBrace ∷ ws) (both (joined (map pieces (map bare ks))) (Says (symbol s.CloseBrace) ∷ []) (sp.joined (map spelling (map bare ks))) (symbol s.CloseBrace ∷ []) (items_said ks) refl)
layer_said (Expr-F.Comprehension place ds has_bar k) =
    ap (λ ws. symbol s.OpenBrace ∷ ws) (both (separated s.Comma (map decl_pieces (map pieced_decl (map bare_decl ds)))) _
    (sp.separated s.Comma (map decl_words (map spelled_decl (map bare_decl ds)))) _ (decls_said ds) (closed_said has_bar k))
layer_said (Expr-F.Quantified place quantifier ds has_bar k) =
    ap (λ ws. word (quantifier_word quantifier) ∷ ws) (both (separated s.Comma (map decl_pieces (map pieced_decl (map bare_decl ds)))) _
    (sp.separated s.Comma (map decl_words (map spelled_decl (map bare_decl ds)))) _ (decls_said ds) (if_first has_bar (symbol s.Bar) (pieces k.0) (spelling k.0) k.1))
layer_said (Expr-F.Let place bs has_bar k) =
    ap (λ ws. word w.Let ∷ ws) (both (separated s.Comma (map binding_pieces (map pieced_binding (map bare_binding bs)))) _
    (sp.separated s.Comma (map binding_words (map spelled_binding (map bare_binding bs)))) _ (bindings_said bs) (if_first has_bar (symbol s.Bar) (pieces k.0) (spelling k.0) k.1))
layer_said (Expr-F.Sequence a b) =
    both (pieces a.0) (Says (symbol s.Semicolon) ∷ pieces b.0) (spelling a.0) (symbol s.Semicolon ∷ spelling b.0) a.1 (ap (λ ws. symbol s.Semicolon ∷ ws) b.1)
layer_said (Expr-F.Implication is_word a b None) =
    both (pieces a.0) _ (spelling a.0) _ a.1 (ap (λ ws. implies_token is_word ∷ ws) (both (pieces b.0) [] (spelling b.0) [] b.1 refl))
layer_said (Expr-F.Implication is_word a b (Some c)) =
    both (pieces a.0) _ (spelling a.0) _ a.1 (ap (λ ws. implies_token is_word ∷ ws)
    (both (pieces b.0) (Says (word w.Else) ∷ pieces c.0) (spelling b.0) (word w.Else ∷ spelling c.0) b.1 (ap (λ ws. word w.Else ∷ ws) c.1)))
layer_said (Expr-F.Compare c a b) =
    both (pieces a.0) (comparison_pieces c ++ pieces b.0) (spelling a.0) (comparison_words c ++ spelling b.0) a.1
    (both (comparison_pieces c) (pieces b.0) (comparison_words c) (spelling b.0) (comparison_said c) b.1)
layer_said (Expr-F.Prefix place operator k) = ap (λ ws. prefix_token operator ∷ ws) k.1
layer_said (Expr-F.Infix k ls) = both (pieces k.0) _ (spelling k.0) _ k.1 (links_said ls)
layer_said (Expr-F.Join k xs) = both (pieces k.0) _ (spelling k.0) _ k.1 (steps_said _ _ _ (λ x. ap (λ ws. symbol s.Dot ∷ ws) x.1)
    (λ ks. ap (λ ws. symbol s.OpenBracket ∷ ws) (both (separated s.Comma (map pieces (map bare ks))) (Says (symbol s.CloseBracket) ∷ [])
    (sp.separated s.Comma (map spelling (map bare ks))) (symbol s.CloseBracket ∷ []) (arguments_said ks) refl)) xs)
layer_said (Expr-F.Prime k) = both (pieces k.0) (Says (symbol s.Prime) ∷ []) (spelling k.0) (symbol s.Prime ∷ []) k.1 refl

pieces_rolled : (z : Expr-F Expr) → pieces (roll-Expr z) ≡ layer_pieces (map-Expr Expr Pieces pieces z)
unfolding pieces
pieces_rolled z = fold-roll-Expr Pieces layer_pieces z

spelling_rolled : (z : Expr-F Expr) → spelling (roll-Expr z) ≡ layer_words (map-Expr Expr Spelled spelling z)
unfolding spelling
spelling_rolled z = fold-roll-Expr Spelled layer_words z

-- a node, from its layer
rolled_said : (z : Expr-F Expr) → said (layer_pieces (map-Expr Expr Pieces pieces z)) ≡ layer_words (map-Expr Expr Spelled spelling z) → Said (roll-Expr z)
rolled_said z layer = ap said (pieces_rolled z) ∙ (layer ∙ sym (spelling_rolled z))

-- y is x with what is known beside each part
pub tree_said : (e : Expr) → Said e
tree_said = ind-Expr Said (λ x y is. subst (λ z. Said (roll-Expr z)) is (rolled_said (map-Expr Known Expr bare y) (layer_said y)))
