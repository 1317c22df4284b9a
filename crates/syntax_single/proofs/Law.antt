-- Each right tree is read from its spelling: an induction over trees. So no two right trees spell the same tokens.
use Rattle.std.proofs.Common.{◌≡◌, Bool, true, false, ◌||◌, ◌==◌, nat_le, IsTrue, List, [], ◌∷◌, ◌++◌, Option, None, Some, map, refl, sym, ap, subst, ◌∙◌, append-nil}
use Rattle.syntax_tree.specs.declared.token.Word.TheVariants as w
use Rattle.syntax_tree.specs.declared.token.Symbol.TheVariants as mark
use Rattle.syntax_tree.specs.declared.operator.Infix.{Infix}
use Rattle.syntax_tree.specs.declared.operator.Multiplicity.{Multiplicity}
use Rattle.syntax_tree.specs.declared.expr.Decl.{Decl}
use Rattle.syntax_tree.specs.declared.expr.Binding.{Binding}
use Rattle.syntax_tree.specs.declared.expr.Access.{Access}
use Rattle.syntax_tree.specs.declared.expr.Access.TheVariants as access
use Rattle.syntax_tree.specs.declared.expr.Expr.{Expr}
use Rattle.syntax_tree.specs.declared.expr.Expr.TheOpen.{Expr-F}
use Rattle.syntax_tree.specs.declared.expr.Expr.TheViews.{roll-Expr}
use Rattle.syntax_tree.specs.declared.expr.Expr.TheFolds.{fold-roll-Expr, ind-Expr, map-Expr}
use Rattle.syntax_tree.specs.declared.shape.Shape.{Shape}
use Rattle.syntax_tree.specs.Words.{Spelled, word, symbol, quantifier_word, multiplicity_words}
use Rattle.syntax_tree.specs.Spelling.{spelling, layer_words, joined, separated, decls_words, body_words, binding_words, link_words, access_words, spelled_decl, spelled_binding, spelled_link}
use Rattle.syntax_tree.specs.Levels.{shape, layer_shape, block, items_right, comprehension, quantified, zero_form, decls_right, bindings_right, chain, join, may_bound, prefix_level, shaped_decl, shaped_binding, shaped_link}
use Rattle.syntax_single.specs.Placeless.{nowhere, placeless, placeless_layer, placeless_decl, placeless_binding}
use Rattle.syntax_single.specs.Single.{TreesAreSingle, BoundsAreSingle}
use Rattle.syntax_single.proofs.Reader.{Need, Have, word_at, run}
use Rattle.syntax_single.proofs.Fits.{both_left, whole_fits}
use Rattle.syntax_single.proofs.Forms.{Reads, Front, Part, number, number_front, literal, literal_front, a_constant, constant_front, minus, negative_front, a_name, name_front, at_name, at_front, parenthesis, parenthesis_front, a_prefix, prefix_front}
use Rattle.syntax_single.proofs.Operators.{a_sequence, sequence_front, a_prime, prime_front, an_implication, implication_front, a_choice, choice_front, a_comparison, comparison_front, word_found}
use Rattle.syntax_single.proofs.Rows.{Link, link_shape, link_spelled, link_value, a_row, row_front}
use Rattle.syntax_single.proofs.Lists.{words_of, values_of, a_block, block_front, step_shape, step_spelled, step_value, a_join, join_front}
use Rattle.syntax_single.proofs.Variables.{decl_shape, decl_spelled, decl_value, binding_shape, binding_spelled, binding_value, a_quantified, quantified_front, a_comprehension, comprehension_front, a_let, let_front, bound_right, bound_wordless}

-- what is spelled so and shows this is read, and begins well
pub record Both (words : Spelled) (s : Shape) (x : Expr) : Type 0 where
  pub reads : Reads words s x
  pub front : s.right ≡ true → Front words s

abbrev pub TreeRead : Expr → Type 0
TreeRead e = Both (spelling e) (shape e) (placeless e)

abbrev Known : Type 0
Known = (e : Expr) × TreeRead e

abbrev bare : Known → Expr
bare k = k.0

abbrev part_of : Known → Part
part_of k = record { words = spelling k.0; shape = shape k.0; value = placeless k.0; reads = k.1.reads; front = k.1.front }

abbrev decl_part : Decl Known → Decl Part
decl_part d = record { place = d.place; is_disjoint = d.is_disjoint; names = d.names; bound_place = d.bound_place; word = d.word; bound = part_of d.bound }

abbrev bare_decl : Decl Known → Decl Expr
bare_decl d = record { place = d.place; is_disjoint = d.is_disjoint; names = d.names; bound_place = d.bound_place; word = d.word; bound = d.bound.0 }

abbrev valued_decl : Decl Expr → Decl Expr
valued_decl d = record { place = d.place; is_disjoint = d.is_disjoint; names = d.names; bound_place = d.bound_place; word = d.word; bound = placeless d.bound }

abbrev binding_part : Binding Known → Binding Part
binding_part b = record { place = b.place; name = b.name; value = part_of b.value }

abbrev bare_binding : Binding Known → Binding Expr
bare_binding b = record { place = b.place; name = b.name; value = b.value.0 }

abbrev valued_binding : Binding Expr → Binding Expr
valued_binding b = record { place = b.place; name = b.name; value = placeless b.value }

abbrev link_part : Infix × Known → Link
link_part l = (l.0, part_of l.1)

abbrev bare_link : Infix × Known → Infix × Expr
bare_link l = (l.0, l.1.0)

abbrev valued_link : Infix × Expr → Infix × Expr
valued_link l = (l.0, placeless l.1)

abbrev access_part : Access Known → Access Part
access_part (access.Dot k) = access.Dot (part_of k)
access_part (access.Bracket ks) = access.Bracket (map part_of ks)

-- two ways to the same list
ways : {A B C D : Type 0} (f : B → D) (g : A → B) (h : C → D) (i : A → C) → ((x : A) → f (g x) ≡ h (i x)) → (xs : List A) → map f (map g xs) ≡ map h (map i xs)
ways f g h i same [] = refl
ways f g h i same (x ∷ xs) = ap (λ y. y ∷ map f (map g xs)) (same x) ∙ ap (λ ys. h (i x) ∷ ys) (ways f g h i same xs)

-- The steps of a join, whatever leaves the fact away (m) and puts values in place of each expression (f).
module _ {A : Type 0} (of_part : Access Part → Access A) (m : Access Known → Access Expr) (f : Access Expr → Access A)
    (dot : (k : Known) → of_part (access_part (access.Dot k)) ≡ f (m (access.Dot k)))
    (bracket : (ks : List Known) → of_part (access_part (access.Bracket ks)) ≡ f (m (access.Bracket ks))) where
  steps_same : (xs : List (Access Known)) → map of_part (map access_part xs) ≡ map f (map m xs)
  steps_same xs = ways of_part access_part f m each_same xs
    where
      each_same : (x : Access Known) → of_part (access_part x) ≡ f (m x)
      each_same (access.Dot k) = dot k
      each_same (access.Bracket ks) = bracket ks

changed : {u v : Spelled} {a b : Shape} {x y : Expr} → u ≡ v → a ≡ b → x ≡ y → Both u a x → Both v b y
changed {u} {v} {a} {b} {x} {y} p q r h = subst (λ z. Both v b z) r (subst (λ z. Both v z x) q (subst (λ z. Both z a x) p h))

words_same : (ks : List Known) → words_of (map part_of ks) ≡ map spelling (map bare ks)
words_same ks = ways (λ (p : Part). p.words) part_of spelling bare (λ k. refl) ks

shapes_same : (ks : List Known) → map (λ (p : Part). p.shape) (map part_of ks) ≡ map shape (map bare ks)
shapes_same ks = ways (λ (p : Part). p.shape) part_of shape bare (λ k. refl) ks

values_same : (ks : List Known) → values_of (map part_of ks) ≡ map placeless (map bare ks)
values_same ks = ways (λ (p : Part). p.value) part_of placeless bare (λ k. refl) ks

abbrev rolled : Expr-F Expr → Expr
rolled layer = roll-Expr (placeless_layer layer)

layer_read : (y : Expr-F Known) → Both (layer_words (map-Expr Expr Spelled spelling (map-Expr Known Expr bare y))) (layer_shape (map-Expr Expr Shape shape (map-Expr Known Expr bare y)))
    (rolled (map-Expr Expr Expr placeless (map-Expr Known Expr bare y)))
layer_read (Expr-F.Name name) = record { reads = a_name name; front = name_front name }
layer_read (Expr-F.At place name) = record { reads = at_name name; front = λ right. at_front name }
layer_read (Expr-F.Constant place constant) = record { reads = a_constant constant; front = λ right. constant_front constant }
layer_read (Expr-F.Number place n) = record { reads = number n; front = λ right. number_front n }
layer_read (Expr-F.Negative place n) = record { reads = minus n; front = λ right. negative_front n }
layer_read (Expr-F.Literal place text) = record { reads = literal text; front = λ right. literal_front text }
layer_read (Expr-F.Parenthesis place k) = record { reads = parenthesis (part_of k); front = λ right. parenthesis_front (part_of k) }
layer_read (Expr-F.Block place ks) = changed (ap (λ ws. symbol mark.OpenBrace ∷ (joined ws ++ symbol mark.CloseBrace ∷ [])) (words_same ks)) (ap (λ ss. block (items_right ss)) (shapes_same ks))
    (ap (λ (xs : List Expr). roll-Expr (Expr-F.Block nowhere xs)) (values_same ks)) (record { reads = a_block (map part_of ks); front = λ right. block_front (map part_of ks) })
layer_read (Expr-F.Comprehension place ds has_bar k) = changed
    (ap (λ ws. symbol mark.OpenBrace ∷ (decls_words ws ++ (body_words has_bar (spelling k.0) ++ symbol mark.CloseBrace ∷ []))) (ways decl_spelled decl_part spelled_decl bare_decl (λ d. refl) ds))
    (ap (λ ss. comprehension (decls_right ss) has_bar (shape k.0)) (ways decl_shape decl_part shaped_decl bare_decl (λ d. refl) ds))
    (ap (λ (xs : List (Decl Expr)). roll-Expr (Expr-F.Comprehension nowhere (map placeless_decl xs) has_bar (placeless k.0))) (ways decl_value decl_part valued_decl bare_decl (λ d. refl) ds))
    (record { reads = a_comprehension (map decl_part ds) has_bar (part_of k); front = λ right. comprehension_front (map decl_part ds) has_bar (part_of k) })
layer_read (Expr-F.Quantified place q ds has_bar k) = changed
    (ap (λ ws. word (quantifier_word q) ∷ (decls_words ws ++ body_words has_bar (spelling k.0))) (ways decl_spelled decl_part spelled_decl bare_decl (λ d. refl) ds))
    (ap (λ ss. quantified q (decls_right ss) has_bar (shape k.0)) (ways decl_shape decl_part shaped_decl bare_decl (λ d. refl) ds))
    (ap (λ (xs : List (Decl Expr)). roll-Expr (Expr-F.Quantified nowhere q (map placeless_decl xs) has_bar (placeless k.0))) (ways decl_value decl_part valued_decl bare_decl (λ d. refl) ds))
    (record { reads = a_quantified q (map decl_part ds) has_bar (part_of k); front = quantified_front q (map decl_part ds) has_bar (part_of k) })
layer_read (Expr-F.Let place bs has_bar k) = changed
    (ap (λ ws. word w.Let ∷ (separated mark.Comma (map binding_words ws) ++ body_words has_bar (spelling k.0))) (ways binding_spelled binding_part spelled_binding bare_binding (λ d. refl) bs))
    (ap (λ ss. zero_form (bindings_right ss) has_bar (shape k.0) false) (ways binding_shape binding_part shaped_binding bare_binding (λ d. refl) bs))
    (ap (λ (xs : List (Binding Expr)). roll-Expr (Expr-F.Let nowhere (map placeless_binding xs) has_bar (placeless k.0))) (ways binding_value binding_part valued_binding bare_binding (λ d. refl) bs))
    (record { reads = a_let (map binding_part bs) has_bar (part_of k); front = λ right. let_front (map binding_part bs) has_bar (part_of k) })
layer_read (Expr-F.Sequence a b) = record { reads = a_sequence (part_of a) (part_of b); front = sequence_front (part_of a) (part_of b) }
layer_read (Expr-F.Implication is_word a b None) = record { reads = an_implication is_word (part_of a) (part_of b); front = implication_front is_word (part_of a) (part_of b) }
layer_read (Expr-F.Implication is_word a b (Some c)) = record { reads = a_choice is_word (part_of a) (part_of b) (part_of c); front = choice_front is_word (part_of a) (part_of b) (part_of c) }
layer_read (Expr-F.Compare c a b) = record { reads = a_comparison c (part_of a) (part_of b); front = comparison_front c (part_of a) (part_of b) }
layer_read (Expr-F.Prefix place o k) = record { reads = a_prefix o (part_of k); front = λ right. prefix_front o (part_of k) (both_left (shape k.0).right (nat_le (prefix_level o) (shape k.0).level || (shape k.0).level == 0) right) }
layer_read (Expr-F.Infix k ls) = changed
    (ap (λ ws. spelling k.0 ++ joined (map link_words ws)) (ways link_spelled link_part spelled_link bare_link (λ l. refl) ls))
    (ap (λ ss. chain (shape k.0) ss) (ways link_shape link_part shaped_link bare_link (λ l. refl) ls))
    (ap (λ (xs : List (Infix × Expr)). roll-Expr (Expr-F.Infix (placeless k.0) xs)) (ways link_value link_part valued_link bare_link (λ l. refl) ls))
    (record { reads = a_row (part_of k) (map link_part ls); front = row_front (part_of k) (map link_part ls) })
layer_read (Expr-F.Join k xs) = changed
    (ap (λ ws. spelling k.0 ++ joined (map access_words ws)) (steps_same step_spelled _ _ (λ x. refl) (λ ks. ap (λ l. access.Bracket l) (words_same ks)) xs))
    (ap (λ ss. join (shape k.0) ss) (steps_same step_shape _ _ (λ x. refl) (λ ks. ap (λ l. access.Bracket l) (shapes_same ks)) xs))
    (ap (λ (ys : List (Access Expr)). roll-Expr (Expr-F.Join (placeless k.0) ys)) (steps_same step_value _ _ (λ x. refl) (λ ks. ap (λ l. access.Bracket l) (values_same ks)) xs))
    (record { reads = a_join (part_of k) (map access_part xs); front = join_front (part_of k) (map access_part xs) })
layer_read (Expr-F.Prime k) = record { reads = a_prime (part_of k); front = prime_front (part_of k) }

spelling_rolled : (z : Expr-F Expr) → spelling (roll-Expr z) ≡ layer_words (map-Expr Expr Spelled spelling z)
unfolding spelling
spelling_rolled z = fold-roll-Expr Spelled layer_words z

shape_rolled : (z : Expr-F Expr) → shape (roll-Expr z) ≡ layer_shape (map-Expr Expr Shape shape z)
unfolding shape
shape_rolled z = fold-roll-Expr Shape layer_shape z

placeless_rolled : (z : Expr-F Expr) → placeless (roll-Expr z) ≡ rolled (map-Expr Expr Expr placeless z)
unfolding placeless
placeless_rolled z = fold-roll-Expr Expr rolled z

-- a node, from its layer
rolled_read : (z : Expr-F Expr) → Both (layer_words (map-Expr Expr Spelled spelling z)) (layer_shape (map-Expr Expr Shape shape z)) (rolled (map-Expr Expr Expr placeless z)) → TreeRead (roll-Expr z)
rolled_read z h = changed (sym (spelling_rolled z)) (sym (shape_rolled z)) (sym (placeless_rolled z)) h

pub tree_read : (e : Expr) → TreeRead e
tree_read = ind-Expr TreeRead (λ x y is. subst (λ z. TreeRead (roll-Expr z)) is (rolled_read (map-Expr Known Expr bare y) (layer_read y)))

is_true : (b : Bool) → IsTrue b → b ≡ true
is_true b h = h

-- a whole text
whole : (e : Expr) → (shape e).right ≡ true → run (spelling e) (Need []) ≡ Have (placeless e) []
whole e right = ap (λ ts. run ts (Need [])) (sym (append-nil (spelling e))) ∙ (tree_read e).reads [] [] (whole_fits [] (shape e) [] refl refl refl refl right)

same_value : (x y : Expr) → Have x [] ≡ Have y [] → x ≡ y
same_value x y h = cc

pub single : TreesAreSingle
single t u right other same = same_value (placeless t) (placeless u)
    (sym (whole t (is_true (shape t).right right)) ∙ (ap (λ ts. run ts (Need [])) same ∙ whole u (is_true (shape u).right other)))

-- the word of a bound
found : (v : Option Multiplicity) (e : Expr) → may_bound (shape e) ≡ true → word_at false (multiplicity_words v ++ spelling e) ≡ v
found None e bound = ap (λ ts. word_at false ts) (sym (append-nil (spelling e))) ∙ bound_wordless (part_of (e, tree_read e)) [] bound
found (Some m) e bound = word_found m (spelling e)

behind : (v : Option Multiplicity) (a b : Spelled) → multiplicity_words v ++ a ≡ multiplicity_words v ++ b → a ≡ b
behind None a b h = h
behind (Some m) a b h = cc

pub bounds_single : BoundsAreSingle
bounds_single v x t u bound other same =
    let is : v ≡ x = sym (found v t (is_true (may_bound (shape t)) bound)) ∙ (ap (λ ts. word_at false ts) same ∙ found x u (is_true (may_bound (shape u)) other)) in
    (is, single t u (right t bound) (right u other) (behind v (spelling t) (spelling u) (same ∙ ap (λ o. multiplicity_words o ++ spelling u) (sym is))))
  where
    right : (e : Expr) → IsTrue (may_bound (shape e)) → IsTrue (shape e).right
    right e h = bound_right (part_of (e, tree_read e)) h
