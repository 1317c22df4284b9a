-- The parts of a right layer are right.
use Rattle.std.proofs.Common.{◌≡◌, inl, inr, ℕ, ◌+◌, Bool, true, not, ◌&&◌, ◌||◌, ◌==◌, nat_le, List, [], ◌∷◌, Contains, Some, None, is_some, fold, map, refl, sym, ap, ◌∙◌}
use Rattle.syntax_tree.specs.declared.operator.Infix.{Infix}
use Rattle.syntax_tree.specs.declared.operator.Comparison.{Comparison}
use Rattle.syntax_tree.specs.declared.expr.Decl.{Decl}
use Rattle.syntax_tree.specs.declared.expr.Binding.{Binding}
use Rattle.syntax_tree.specs.declared.expr.Access.{Access}
use Rattle.syntax_tree.specs.declared.expr.Access.TheVariants as access
use Rattle.syntax_tree.specs.declared.expr.Expr.{Expr}
use Rattle.syntax_tree.specs.declared.expr.Expr.TheOpen.{Expr-F}
use Rattle.syntax_tree.specs.declared.expr.Expr.TheFolds.{map-Expr}
use Rattle.syntax_tree.specs.declared.shape.Shape.{Shape}
use Rattle.syntax_tree.specs.Levels.{has_some, every, may_lead, may_end, may_bound, decl_right, decls_right, bindings_right, with_item, items_right, is_sum, is_in, may_compare, infix_level, prefix_level, begun, linked, links_level, chain, stepped, join, layer_shape, shape, shaped_decl, shaped_binding, shaped_link, shaped_access}
use Rattle.resolve_laws.specs.Linked.{IsPart}
use Rattle.resolve_laws.proofs.LinkBools.{both_left, both_right, chosen, fold_fine}

-- ------------------------------------------------------------------ operands

lead_right : (least : ℕ) (x : Shape) → may_lead least x ≡ true → x.right ≡ true
lead_right least x h = both_left x.right (nat_le least x.level) (both_left (x.right && nat_le least x.level) (not x.is_open) h)

end_right : (least : ℕ) (x : Shape) → may_end least x ≡ true → x.right ≡ true
end_right least x h = both_left x.right (nat_le least x.level || x.level == 0) h

bound_right : (x : Shape) → may_bound x ≡ true → x.right ≡ true
bound_right x h = both_left x.right (nat_le 10 x.level) (both_left (x.right && nat_le 10 x.level) (not x.has_zero) h)

compare_right : (c : Comparison) (x : Shape) → may_compare c x ≡ true → x.right ≡ true
compare_right c x h = elim (chosen (is_some c.word) (is_in c.comparator && may_bound x) _ h) [
  | inl bound ↦ bound_right x (both_right (is_in c.comparator) (may_bound x) bound)
  | inr plain ↦ elim (chosen (is_in c.comparator) (may_end 10 x && not x.is_worded) (may_end 9 x) plain) [
    | inl inner ↦ end_right 10 x (both_left (may_end 10 x) (not x.is_worded) inner)
    | inr other ↦ end_right 9 x other
  ]
]

begun_right : (level : ℕ) (some : Bool) (x : Shape) → (begun level some x).right ≡ true → x.right ≡ true
begun_right level some x h = both_left x.right (nat_le (level + 1) x.level) (both_left (x.right && nat_le (level + 1) x.level) some h)

-- a row without an operand behind the first is not right
pub begun_some : (level : ℕ) (some : Bool) (x : Shape) → (begun level some x).right ≡ true → some ≡ true
begun_some level some x h = both_right (x.right && nat_le (level + 1) x.level) some h

-- ------------------------------------------------------------------ lists

abbrev AreRight : List Expr → Type 0
AreRight es = (a : Expr) → Contains es a → (shape a).right ≡ true

items_are_right : (items : List Expr) → items_right (map shape items) ≡ true → AreRight items
items_are_right items h = (fold_fine with_item shape (λ (s : Bool × Bool). s.0) (λ (a : Expr). (shape a).right ≡ true) step (true, true) items h).1
  where
    step : (s : Bool × Bool) (a : Expr) → (with_item s (shape a)).0 ≡ true → (s.0 ≡ true) × ((shape a).right ≡ true)
    step s a h =
        let one : ((shape a).right && (s.1 || not (shape a).has_minus)) ≡ true = both_right s.0 ((shape a).right && (s.1 || not (shape a).has_minus)) h in
        (both_left s.0 ((shape a).right && (s.1 || not (shape a).has_minus)) h, both_left (shape a).right (s.1 || not (shape a).has_minus) one)

-- where all pass a test, each one passes it
every_passes : {X Y : Type 0} (test : Y → Bool) (f : X → Y) (xs : List X) → every test (map f xs) ≡ true → (x : X) → Contains xs x → test (f x) ≡ true
every_passes {X} {Y} test f xs h = (fold_fine (λ (passed : Bool) (y : Y). passed && test y) f (λ (b : Bool). b) (λ (x : X). test (f x) ≡ true)
    (λ s x passed. (both_left s (test (f x)) passed, both_right s (test (f x)) passed)) true xs h).1

decls_are_right : (ds : List (Decl Expr)) → decls_right (map shaped_decl ds) ≡ true → (d : Decl Expr) → Contains ds d → (shape d.bound).right ≡ true
decls_are_right ds h d there = bound_right (shape d.bound) (both_right (has_some d.names) (may_bound (shape d.bound))
    (every_passes decl_right shaped_decl ds (both_right (has_some (map shaped_decl ds)) (every decl_right (map shaped_decl ds)) h) d there))

bindings_are_right : (bs : List (Binding Expr)) → bindings_right (map shaped_binding bs) ≡ true → (b : Binding Expr) → Contains bs b → (shape b.value).right ≡ true
bindings_are_right bs h b there = lead_right 0 (shape b.value)
    (every_passes (λ (v : Binding Shape). may_lead 0 v.value) shaped_binding bs
    (both_right (has_some (map shaped_binding bs)) (every (λ (v : Binding Shape). may_lead 0 v.value) (map shaped_binding bs)) h) b there)

-- the operands of a row
links_are_right : (level : ℕ) (start : Shape) (links : List (Infix × Expr)) → (fold (linked level) start (map shaped_link links)).right ≡ true →
    (start.right ≡ true) × ((l : Infix × Expr) → Contains links l → (shape l.1).right ≡ true)
links_are_right level start links h = fold_fine (linked level) shaped_link (λ (s : Shape). s.right) (λ (l : Infix × Expr). (shape l.1).right ≡ true) step start links h
  where
    step : (s : Shape) (l : Infix × Expr) → (linked level s (shaped_link l)).right ≡ true → (s.right ≡ true) × ((shape l.1).right ≡ true)
    step s l h =
        let two : ((s.right && not s.is_open) && (infix_level l.0 == level)) ≡ true = both_left ((s.right && not s.is_open) && (infix_level l.0 == level)) (may_end (level + 1) (shape l.1)) h in (
          both_left s.right (not s.is_open) (both_left (s.right && not s.is_open) (infix_level l.0 == level) two),
          end_right (level + 1) (shape l.1) (both_right ((s.right && not s.is_open) && (infix_level l.0 == level)) (may_end (level + 1) (shape l.1)) h),
        )

-- the operands of a step are right
abbrev IsStepRight : Access Expr → Type 0
IsStepRight (access.Dot a) = (shape a).right ≡ true
IsStepRight (access.Bracket es) = AreRight es

steps_are_right : (start : Shape) (steps : List (Access Expr)) → (fold stepped start (map shaped_access steps)).right ≡ true →
    (start.right ≡ true) × ((s : Access Expr) → Contains steps s → IsStepRight s)
steps_are_right start steps h = fold_fine stepped shaped_access (λ (s : Shape). s.right) IsStepRight step start steps h
  where
    step : (s : Shape) (x : Access Expr) → (stepped s (shaped_access x)).right ≡ true → (s.right ≡ true) × IsStepRight x
    step s (access.Dot a) h = (
      both_left s.right (not s.is_open) (both_left (s.right && not s.is_open) (may_end 17 (shape a)) h),
      end_right 17 (shape a) (both_right (s.right && not s.is_open) (may_end 17 (shape a)) h),
    )
    step s (access.Bracket es) h = (
      both_left s.right (not s.is_open) (both_left (s.right && not s.is_open) (every (λ (x : Shape). x.right) (map shape es)) h),
      every_passes (λ (x : Shape). x.right) shape es (both_right (s.right && not s.is_open) (every (λ (x : Shape). x.right) (map shape es)) h),
    )

steps_shapes : (f : Access Expr → Access Shape) → ((x : Expr) → f (access.Dot x) ≡ access.Dot (shape x)) →
    ((xs : List Expr) → f (access.Bracket xs) ≡ access.Bracket (map shape xs)) →
    (steps : List (Access Expr)) → map f steps ≡ map shaped_access steps
steps_shapes f dot bracket [] = refl
steps_shapes f dot bracket (access.Dot x ∷ steps) =
    ap (λ a. a ∷ map f steps) (dot x) ∙ ap (λ r. access.Dot (shape x) ∷ r) (steps_shapes f dot bracket steps)
steps_shapes f dot bracket (access.Bracket xs ∷ steps) =
    ap (λ a. a ∷ map f steps) (bracket xs) ∙ ap (λ r. access.Bracket (map shape xs) ∷ r) (steps_shapes f dot bracket steps)

-- ------------------------------------------------------------------ layers

moved : (b a : Expr) → b ≡ a → (shape b).right ≡ true → (shape a).right ≡ true
moved b a is h = sym (ap (λ (x : Expr). (shape x).right) is) ∙ h

-- the shape of a layer's node
abbrev pub shape_at : Expr-F Expr → Shape
shape_at z = layer_shape (map-Expr Expr Shape shape z)

-- a form with variables, and a body
body_right : (before : Bool) (has_bar : Bool) (b : Shape) → (before && b.right && (has_bar || b.is_block)) ≡ true → (before ≡ true) × (b.right ≡ true)
body_right before has_bar b h =
    let two : (before && b.right) ≡ true = both_left (before && b.right) (has_bar || b.is_block) h in
    (both_left before b.right two, both_right before b.right two)

join_right : (first : Expr) (steps : List (Access Expr)) (a : Expr) → (join (shape first) (map shaped_access steps)).right ≡ true → IsPart (Expr-F.Join first steps) a → (shape a).right ≡ true
join_right first steps a h = by
  where
    all : ((begun 16 (has_some (map shaped_access steps)) (shape first)).right ≡ true) × ((s : Access Expr) → Contains steps s → IsStepRight s)
    all = steps_are_right (begun 16 (has_some (map shaped_access steps)) (shape first)) steps h

    by : IsPart (Expr-F.Join first steps) a → (shape a).right ≡ true
    by (inl is) = moved first a is (begun_right 16 (has_some (map shaped_access steps)) (shape first) all.0)
    by (inr (inl there)) = all.1 (access.Dot a) there
    by (inr (inr (es, there, inside))) = all.1 (access.Bracket es) there a inside

chain_right : (first : Expr) (links : List (Infix × Expr)) (a : Expr) → (chain (shape first) (map shaped_link links)).right ≡ true → IsPart (Expr-F.Infix first links) a → (shape a).right ≡ true
chain_right first links a h = by
  where
    level : ℕ
    level = links_level (map shaped_link links)

    all : ((begun level (has_some (map shaped_link links)) (shape first)).right ≡ true) × ((l : Infix × Expr) → Contains links l → (shape l.1).right ≡ true)
    all = links_are_right level (begun level (has_some (map shaped_link links)) (shape first)) links h

    by : IsPart (Expr-F.Infix first links) a → (shape a).right ≡ true
    by (inl is) = moved first a is (begun_right level (has_some (map shaped_link links)) (shape first) all.0)
    by (inr (op, there)) = all.1 (op, a) there

-- each part of a right layer is right
pub part_right : (z : Expr-F Expr) (a : Expr) → (shape_at z).right ≡ true → IsPart z a → (shape a).right ≡ true
part_right (Expr-F.Name q) a h is = absurd is
part_right (Expr-F.At p q) a h is = absurd is
part_right (Expr-F.Constant p c) a h is = absurd is
part_right (Expr-F.Number p n) a h is = absurd is
part_right (Expr-F.Negative p n) a h is = absurd is
part_right (Expr-F.Literal p text) a h is = absurd is
part_right (Expr-F.Parenthesis p b) a h is = moved b a is h
part_right (Expr-F.Block p items) a h there = items_are_right items h a there
part_right (Expr-F.Comprehension p ds has_bar b) a h (inl is) = moved b a is (body_right (decls_right (map shaped_decl ds)) has_bar (shape b) h).1
part_right (Expr-F.Comprehension p ds has_bar b) a h (inr (d, there, is)) = moved d.bound a is (decls_are_right ds (body_right (decls_right (map shaped_decl ds)) has_bar (shape b) h).0 d there)
part_right (Expr-F.Quantified p w ds has_bar b) a h (inl is) = moved b a is (body_right (decls_right (map shaped_decl ds) && (has_bar || not (is_sum w))) has_bar (shape b) h).1
part_right (Expr-F.Quantified p w ds has_bar b) a h (inr (d, there, is)) = moved d.bound a is
    (decls_are_right ds (both_left (decls_right (map shaped_decl ds)) (has_bar || not (is_sum w)) (body_right (decls_right (map shaped_decl ds) && (has_bar || not (is_sum w))) has_bar (shape b) h).0) d there)
part_right (Expr-F.Let p bs has_bar b) a h (inl is) = moved b a is (body_right (bindings_right (map shaped_binding bs)) has_bar (shape b) h).1
part_right (Expr-F.Let p bs has_bar b) a h (inr (v, there, is)) = moved v.value a is (bindings_are_right bs (body_right (bindings_right (map shaped_binding bs)) has_bar (shape b) h).0 v there)
part_right (Expr-F.Sequence b c) a h (inl is) = moved b a is (lead_right 2 (shape b) (both_left (may_lead 2 (shape b)) (may_end 1 (shape c)) h))
part_right (Expr-F.Sequence b c) a h (inr is) = moved c a is (end_right 1 (shape c) (both_right (may_lead 2 (shape b)) (may_end 1 (shape c)) h))
part_right (Expr-F.Implication is_word b c None) a h (inl is) = moved b a is (lead_right 5 (shape b) (both_left (may_lead 5 (shape b)) (may_end 4 (shape c)) h))
part_right (Expr-F.Implication is_word b c None) a h (inr is) = moved c a is (end_right 4 (shape c) (both_right (may_lead 5 (shape b)) (may_end 4 (shape c)) h))
part_right (Expr-F.Implication is_word b c (Some d)) a h part = by part
  where
    three : (may_lead 5 (shape b) && may_lead 4 (shape c) && not (shape c).is_bare) ≡ true
    three = both_left (may_lead 5 (shape b) && may_lead 4 (shape c) && not (shape c).is_bare) (may_end 4 (shape d)) h

    two : (may_lead 5 (shape b) && may_lead 4 (shape c)) ≡ true
    two = both_left (may_lead 5 (shape b) && may_lead 4 (shape c)) (not (shape c).is_bare) three

    by : IsPart (Expr-F.Implication is_word b c (Some d)) a → (shape a).right ≡ true
    by (inl is) = moved b a is (lead_right 5 (shape b) (both_left (may_lead 5 (shape b)) (may_lead 4 (shape c)) two))
    by (inr (inl is)) = moved c a is (lead_right 4 (shape c) (both_right (may_lead 5 (shape b)) (may_lead 4 (shape c)) two))
    by (inr (inr is)) = moved d a is (end_right 4 (shape d) (both_right (may_lead 5 (shape b) && may_lead 4 (shape c) && not (shape c).is_bare) (may_end 4 (shape d)) h))
part_right (Expr-F.Compare op b c) a h (inl is) = moved b a is (lead_right 9 (shape b) (both_left (may_lead 9 (shape b)) (may_compare op (shape c)) h))
part_right (Expr-F.Compare op b c) a h (inr is) = moved c a is (compare_right op (shape c) (both_right (may_lead 9 (shape b)) (may_compare op (shape c)) h))
part_right (Expr-F.Prefix p op b) a h is = moved b a is (end_right (prefix_level op) (shape b) h)
part_right (Expr-F.Infix first links) a h part = chain_right first links a h part
part_right (Expr-F.Join first steps) a h part = join_right first steps a (sym (ap (λ (ss : List (Access Shape)). (join (shape first) ss).right) (steps_shapes _ (λ x. refl) (λ xs. refl) steps)) ∙ h) part
part_right (Expr-F.Prime b) a h is = moved b a is (lead_right 18 (shape b) h)
