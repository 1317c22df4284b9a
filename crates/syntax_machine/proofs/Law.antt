-- No thread is lost that the spelling of a right tree goes along: an induction over trees.
use Rattle.std.proofs.Common.{◌≡◌, ℕ, ◌+◌, max, Bool, true, false, IsTrue, List, [], ◌∷◌, ◌++◌, None, Some, map, refl, sym, ap, subst, ◌∙◌, append-nil, inl}
use Rattle.syntax_tree.specs.declared.token.Word.TheVariants as w
use Rattle.syntax_tree.specs.declared.token.Symbol.TheVariants as s
use Rattle.syntax_tree.specs.declared.operator.Infix.{Infix}
use Rattle.syntax_tree.specs.declared.expr.Decl.{Decl}
use Rattle.syntax_tree.specs.declared.expr.Binding.{Binding}
use Rattle.syntax_tree.specs.declared.expr.Access.{Access}
use Rattle.syntax_tree.specs.declared.expr.Access.TheVariants as access
use Rattle.syntax_tree.specs.declared.expr.Expr.{Expr}
use Rattle.syntax_tree.specs.declared.expr.Expr.TheOpen.{Expr-F}
use Rattle.syntax_tree.specs.declared.expr.Expr.TheViews.{roll-Expr}
use Rattle.syntax_tree.specs.declared.expr.Expr.TheFolds.{fold-roll-Expr, ind-Expr, map-Expr}
use Rattle.syntax_tree.specs.declared.shape.Shape.{Shape}
use Rattle.syntax_tree.specs.Words.{Spelled, word, symbol, quantifier_word}
use Rattle.syntax_tree.specs.Spelling.{spelling, layer_words, joined, separated, decls_words, body_words, binding_words, link_words, access_words, spelled_decl, spelled_binding, spelled_link}
use Rattle.syntax_tree.specs.Levels.{shape, layer_shape, block, items_right, comprehension, quantified, zero_form, decls_right, bindings_right, chain, join, shaped_decl, shaped_binding, shaped_link}
use Rattle.syntax_tree.specs.Depth.{depth_of, layer_depth, block_depth, deepest, bound_depths, value_depths, link_depths, access_depth}
use Rattle.syntax_machine.specs.declared.thread.Item.TheVariants.{Need}
use Rattle.syntax_machine.specs.Machine.{whole}
use Rattle.syntax_machine.specs.Law.{ThreadsFollow, is_within}
use Rattle.syntax_machine.proofs.Lives.{Lives, threads_left, lives_along}
use Rattle.syntax_machine.proofs.Fits.{least_of_all}
use Rattle.syntax_machine.proofs.Forms.{Followed, number, literal, a_constant, minus, a_name, at_name, parenthesis, before, a_sequence, a_prime}
use Rattle.syntax_machine.proofs.Rows.{Part, Link, link_shape, link_spelled, link_depth, a_row}
use Rattle.syntax_machine.proofs.Lists.{a_block}
use Rattle.syntax_machine.proofs.Operators.{a_comparison, an_implication, a_choice, step_shape, step_spelled, part_depth, a_join}
use Rattle.syntax_machine.proofs.Variables.{decl_shape, decl_spelled, decl_depth, binding_shape, binding_spelled, binding_depth, a_quantified, a_comprehension, a_let}

abbrev pub TreeFollowed : Expr → Type 0
TreeFollowed e = Followed (spelling e) (shape e) (depth_of e)

abbrev Known : Type 0
Known = (e : Expr) × TreeFollowed e

abbrev bare : Known → Expr
bare k = k.0

abbrev part_of : Known → Part
part_of k = record { words = spelling k.0; shape = shape k.0; depth = depth_of k.0; followed = k.1 }

abbrev decl_part : Decl Known → Decl Part
decl_part d = record { place = d.place; is_disjoint = d.is_disjoint; names = d.names; bound_place = d.bound_place; word = d.word; bound = part_of d.bound }

abbrev bare_decl : Decl Known → Decl Expr
bare_decl d = record { place = d.place; is_disjoint = d.is_disjoint; names = d.names; bound_place = d.bound_place; word = d.word; bound = d.bound.0 }

abbrev deep_decl : Decl Expr → Decl ℕ
deep_decl d = record { place = d.place; is_disjoint = d.is_disjoint; names = d.names; bound_place = d.bound_place; word = d.word; bound = depth_of d.bound }

abbrev binding_part : Binding Known → Binding Part
binding_part b = record { place = b.place; name = b.name; value = part_of b.value }

abbrev bare_binding : Binding Known → Binding Expr
bare_binding b = record { place = b.place; name = b.name; value = b.value.0 }

abbrev deep_binding : Binding Expr → Binding ℕ
deep_binding b = record { place = b.place; name = b.name; value = depth_of b.value }

abbrev link_part : Infix × Known → Link
link_part l = (l.0, part_of l.1)

abbrev bare_link : Infix × Known → Infix × Expr
bare_link l = (l.0, l.1.0)

abbrev deep_link : Infix × Expr → Infix × ℕ
deep_link l = (l.0, depth_of l.1)

abbrev access_part : Access Known → Access Part
access_part (access.Dot k) = access.Dot (part_of k)
access_part (access.Bracket ks) = access.Bracket (map part_of ks)

-- two ways to the same list
pub ways : {A B C D : Type 0} (f : B → D) (g : A → B) (h : C → D) (i : A → C) → ((x : A) → f (g x) ≡ h (i x)) → (xs : List A) → map f (map g xs) ≡ map h (map i xs)
ways f g h i same [] = refl
ways f g h i same (x ∷ xs) = ap (λ y. y ∷ map f (map g xs)) (same x) ∙ ap (λ ys. h (i x) ∷ ys) (ways f g h i same xs)

-- The steps of a join, whatever leaves the fact away (m) and puts values in place of each expression (f).
module _ {A : Type 0} (of_part : Access Part → Access A) (m : Access Known → Access Expr) (f : Access Expr → Access A)
    (dot : (k : Known) → of_part (access_part (access.Dot k)) ≡ f (m (access.Dot k)))
    (bracket : (ks : List Known) → of_part (access_part (access.Bracket ks)) ≡ f (m (access.Bracket ks))) where
  steps_same : (xs : List (Access Known)) → map of_part (map access_part xs) ≡ map f (map m xs)
  steps_same xs = ways of_part access_part f m each_same xs
    where
      each_same : (x : Access Known) → of_part (access_part x) ≡ f (m x)
      each_same (access.Dot k) = dot k
      each_same (access.Bracket ks) = bracket ks

changed : {u v : Spelled} {a b : Shape} {d e : ℕ} → u ≡ v → a ≡ b → d ≡ e → Followed u a d → Followed v b e
changed {u} {v} {a} {b} {d} {e} p q r h = subst (λ x. Followed v b x) r (subst (λ y. Followed v y d) q (subst (λ z. Followed z a d) p h))

words_of : (ks : List Known) → map (λ (p : Part). p.words) (map part_of ks) ≡ map spelling (map bare ks)
words_of ks = ways (λ (p : Part). p.words) part_of spelling bare (λ k. refl) ks

shapes_of : (ks : List Known) → map (λ (p : Part). p.shape) (map part_of ks) ≡ map shape (map bare ks)
shapes_of ks = ways (λ (p : Part). p.shape) part_of shape bare (λ k. refl) ks

depths_of : (ks : List Known) → map (λ (p : Part). p.depth) (map part_of ks) ≡ map depth_of (map bare ks)
depths_of ks = ways (λ (p : Part). p.depth) part_of depth_of bare (λ k. refl) ks

layer_follows : (y : Expr-F Known) → Followed (layer_words (map-Expr Expr Spelled spelling (map-Expr Known Expr bare y))) (layer_shape (map-Expr Expr Shape shape (map-Expr Known Expr bare y)))
    (layer_depth (map-Expr Expr ℕ depth_of (map-Expr Known Expr bare y)))
layer_follows (Expr-F.Name name) = a_name name
layer_follows (Expr-F.At place name) = at_name name
layer_follows (Expr-F.Constant place constant) = a_constant constant
layer_follows (Expr-F.Number place n) = number n
layer_follows (Expr-F.Negative place n) = minus n
layer_follows (Expr-F.Literal place text) = literal text
layer_follows (Expr-F.Parenthesis place k) = parenthesis (spelling k.0) (shape k.0) (depth_of k.0) k.1
layer_follows (Expr-F.Block place ks) = changed (ap (λ ws. symbol s.OpenBrace ∷ (joined ws ++ symbol s.CloseBrace ∷ [])) (words_of ks)) (ap (λ ss. block (items_right ss)) (shapes_of ks)) (ap block_depth (depths_of ks)) (a_block (map part_of ks))
layer_follows (Expr-F.Comprehension place ds has_bar k) = changed
    (ap (λ ws. symbol s.OpenBrace ∷ (decls_words ws ++ (body_words has_bar (spelling k.0) ++ symbol s.CloseBrace ∷ []))) (ways decl_spelled decl_part spelled_decl bare_decl (λ d. refl) ds))
    (ap (λ ss. comprehension (decls_right ss) has_bar (shape k.0)) (ways decl_shape decl_part shaped_decl bare_decl (λ d. refl) ds))
    (ap (λ ns. max (deepest (bound_depths ns)) (depth_of k.0) + 1) (ways decl_depth decl_part deep_decl bare_decl (λ d. refl) ds))
    (a_comprehension (map decl_part ds) has_bar (part_of k))
layer_follows (Expr-F.Quantified place q ds has_bar k) = changed
    (ap (λ ws. word (quantifier_word q) ∷ (decls_words ws ++ body_words has_bar (spelling k.0))) (ways decl_spelled decl_part spelled_decl bare_decl (λ d. refl) ds))
    (ap (λ ss. quantified q (decls_right ss) has_bar (shape k.0)) (ways decl_shape decl_part shaped_decl bare_decl (λ d. refl) ds))
    (ap (λ ns. max (deepest (bound_depths ns)) (depth_of k.0) + 1) (ways decl_depth decl_part deep_decl bare_decl (λ d. refl) ds))
    (a_quantified q (map decl_part ds) has_bar (part_of k))
layer_follows (Expr-F.Let place bs has_bar k) = changed
    (ap (λ ws. word w.Let ∷ (separated s.Comma (map binding_words ws) ++ body_words has_bar (spelling k.0))) (ways binding_spelled binding_part spelled_binding bare_binding (λ d. refl) bs))
    (ap (λ ss. zero_form (bindings_right ss) has_bar (shape k.0) false) (ways binding_shape binding_part shaped_binding bare_binding (λ d. refl) bs))
    (ap (λ ns. max (deepest (value_depths ns)) (depth_of k.0) + 1) (ways binding_depth binding_part deep_binding bare_binding (λ d. refl) bs))
    (a_let (map binding_part bs) has_bar (part_of k))
layer_follows (Expr-F.Sequence a b) = a_sequence (spelling a.0) (spelling b.0) (shape a.0) (shape b.0) (depth_of a.0) (depth_of b.0) a.1 b.1
layer_follows (Expr-F.Implication is_word a b None) = an_implication is_word (spelling a.0) (spelling b.0) (shape a.0) (shape b.0) (depth_of a.0) (depth_of b.0) a.1 b.1
layer_follows (Expr-F.Implication is_word a b (Some c)) =
    a_choice is_word (spelling a.0) (spelling b.0) (spelling c.0) (shape a.0) (shape b.0) (shape c.0) (depth_of a.0) (depth_of b.0) (depth_of c.0) a.1 b.1 c.1
layer_follows (Expr-F.Compare c a b) = a_comparison c (spelling a.0) (spelling b.0) (shape a.0) (shape b.0) (depth_of a.0) (depth_of b.0) a.1 b.1
layer_follows (Expr-F.Prefix place operator k) = before operator (spelling k.0) (shape k.0) (depth_of k.0) k.1
layer_follows (Expr-F.Infix k ls) = changed
    (ap (λ ws. spelling k.0 ++ joined (map link_words ws)) (ways link_spelled link_part spelled_link bare_link (λ l. refl) ls))
    (ap (λ ss. chain (shape k.0) ss) (ways link_shape link_part shaped_link bare_link (λ l. refl) ls))
    (ap (λ ns. max (depth_of k.0) (deepest (link_depths ns)) + 1) (ways link_depth link_part deep_link bare_link (λ l. refl) ls))
    (a_row (part_of k) (map link_part ls))
layer_follows (Expr-F.Join k xs) = changed
    (ap (λ ws. spelling k.0 ++ joined (map access_words ws)) (steps_same step_spelled _ _ (λ x. refl) (λ ks. ap (λ l. access.Bracket l) (words_of ks)) xs))
    (ap (λ ss. join (shape k.0) ss) (steps_same step_shape _ _ (λ x. refl) (λ ks. ap (λ l. access.Bracket l) (shapes_of ks)) xs))
    (ap (λ ns. max (depth_of k.0) (deepest (map access_depth ns)) + 1) (steps_same part_depth _ _ (λ x. refl) (λ ks. ap (λ l. access.Bracket l) (depths_of ks)) xs))
    (a_join (part_of k) (map access_part xs))
layer_follows (Expr-F.Prime k) = a_prime (spelling k.0) (shape k.0) (depth_of k.0) k.1

spelling_rolled : (z : Expr-F Expr) → spelling (roll-Expr z) ≡ layer_words (map-Expr Expr Spelled spelling z)
unfolding spelling
spelling_rolled z = fold-roll-Expr Spelled layer_words z

shape_rolled : (z : Expr-F Expr) → shape (roll-Expr z) ≡ layer_shape (map-Expr Expr Shape shape z)
unfolding shape
shape_rolled z = fold-roll-Expr Shape layer_shape z

depth_rolled : (z : Expr-F Expr) → depth_of (roll-Expr z) ≡ layer_depth (map-Expr Expr ℕ depth_of z)
unfolding depth_of
depth_rolled z = fold-roll-Expr ℕ layer_depth z

-- a node, from its layer
rolled_follows : (z : Expr-F Expr) → Followed (layer_words (map-Expr Expr Spelled spelling z)) (layer_shape (map-Expr Expr Shape shape z)) (layer_depth (map-Expr Expr ℕ depth_of z)) → TreeFollowed (roll-Expr z)
rolled_follows z h = changed (sym (spelling_rolled z)) (sym (shape_rolled z)) (sym (depth_rolled z)) h

pub tree_follows : (e : Expr) → TreeFollowed e
tree_follows = ind-Expr TreeFollowed (λ x y is. subst (λ z. TreeFollowed (roll-Expr z)) is (rolled_follows (map-Expr Known Expr bare y) (layer_follows y)))

pub is_true : (b : Bool) → IsTrue b → b ≡ true
is_true b h = h

pub follow : ThreadsFollow
follow room tree tokens more right within is dead =
    threads_left tokens ((Need (whole room) ∷ []) ∷ []) (inl (lives_along tokens more (Need (whole room) ∷ [])
    (subst (λ v. Lives v (Need (whole room) ∷ [])) (append-nil (spelling tree) ∙ is)
    (tree_follows tree (whole room) [] []
    (record {
      right = is_true (shape tree).right right;
      tight = least_of_all (shape tree).level;
      forms = refl;
      bars = refl;
      words = refl;
      minus = refl;
      block = refl;
      within = is_true (is_within room (depth_of tree)) within;
    })
    (λ d le. tt))))) dead
