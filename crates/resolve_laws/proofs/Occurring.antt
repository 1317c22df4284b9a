-- Where the names of an expression of each form stand, and when two ways to take names agree on them.
use Rattle.std.proofs.Common.{◌≡◌, ◌⊎◌, true, false, List, ◌∷◌, ◌++◌, Contains, Option, Some, refl, sym, subst, inl, inr}
use Rattle.base_types.specs.declared.place.Position.{Position}
use Rattle.syntax_tree.specs.declared.operator.Infix.{Infix}
use Rattle.syntax_tree.specs.declared.expr.Decl.{Decl}
use Rattle.syntax_tree.specs.declared.expr.Binding.{Binding}
use Rattle.syntax_tree.specs.declared.expr.Access.{Access}
use Rattle.syntax_tree.specs.declared.expr.Access.TheVariants as access
use Rattle.syntax_tree.specs.declared.expr.Expr.{Expr}
use Rattle.syntax_tree.specs.declared.expr.Expr.TheOpen.{Expr-F}
use Rattle.syntax_tree.specs.declared.expr.Expr.TheViews.{out-Expr}
use Rattle.resolve_picks.specs.declared.target.Target.{Target}
use Rattle.resolve_said.specs.Locals.{Scope, under_decls, under_values}
use Rattle.resolve_laws.specs.Occurs.{Occurrence, Occurs, IsPicked, Agree, a_name, a_field, in_parentheses, in_prime, in_prefix, in_first_operand, in_operand, in_first_step, in_dot, in_box, in_condition, in_consequence, in_other, in_first, in_second, in_left, in_right, in_block, in_value, in_let, in_set_bound, in_set, in_bound, in_quantified}
use Rattle.resolve_laws.proofs.Layers.{layer-Name, layer-At, layer-Parenthesis, layer-Block, layer-Comprehension, layer-Quantified, layer-Let, layer-Sequence, layer-Implication, layer-Compare, layer-Prefix, layer-Infix, layer-Join, layer-Prime}

-- ------------------------------------------------------------------ where names stand

-- in a bound of declarations
abbrev pub InDecls : Scope → List (Decl Expr) → Occurrence → Type 0
InDecls scope decls o = (before : List (Decl Expr)) × (behind : List (Decl Expr)) × (d : Decl Expr) × (decls ≡ before ++ d ∷ behind) × Occurs (under_decls scope before) d.bound o

-- in a value of a `let`
abbrev pub InValues : Scope → List (Binding Expr) → Occurrence → Type 0
InValues scope bindings o = (before : List (Binding Expr)) × (behind : List (Binding Expr)) × (b : Binding Expr) × (bindings ≡ before ++ b ∷ behind) × Occurs (under_values scope before) b.value o

abbrev pub InLinks : Scope → List (Infix × Expr) → Occurrence → Type 0
InLinks scope links o = (op : Infix) × (a : Expr) × Contains links (op, a) × Occurs scope a o

abbrev pub InSteps : Scope → List (Access Expr) → Occurrence → Type 0
InSteps scope steps o = ((a : Expr) × Contains steps (access.Dot a) × Occurs scope a o) ⊎ ((es : List Expr) × (a : Expr) × Contains steps (access.Bracket es) × Contains es a × Occurs scope a o)

-- in an expression of this layer
abbrev pub OccursAt : Scope → Expr-F Expr → Occurrence → Type 0
OccursAt scope (Expr-F.Name q) o = o ≡ record { scope = scope; name = q; is_field = false }
OccursAt scope (Expr-F.At p q) o = o ≡ record { scope = scope; name = q; is_field = true }
OccursAt scope (Expr-F.Constant p w) o = ⊥
OccursAt scope (Expr-F.Number p n) o = ⊥
OccursAt scope (Expr-F.Negative p n) o = ⊥
OccursAt scope (Expr-F.Literal p text) o = ⊥
OccursAt scope (Expr-F.Parenthesis p a) o = Occurs scope a o
OccursAt scope (Expr-F.Block p items) o = (a : Expr) × Contains items a × Occurs scope a o
OccursAt scope (Expr-F.Comprehension p decls has_bar body) o = InDecls scope decls o ⊎ Occurs (under_decls scope decls) body o
OccursAt scope (Expr-F.Quantified p w decls has_bar body) o = InDecls scope decls o ⊎ Occurs (under_decls scope decls) body o
OccursAt scope (Expr-F.Let p bindings has_bar body) o = InValues scope bindings o ⊎ Occurs (under_values scope bindings) body o
OccursAt scope (Expr-F.Sequence a b) o = Occurs scope a o ⊎ Occurs scope b o
OccursAt scope (Expr-F.Implication is_word condition a other) o = Occurs scope condition o ⊎ (Occurs scope a o ⊎ ((b : Expr) × (other ≡ Some b) × Occurs scope b o))
OccursAt scope (Expr-F.Compare op a b) o = Occurs scope a o ⊎ Occurs scope b o
OccursAt scope (Expr-F.Prefix p op a) o = Occurs scope a o
OccursAt scope (Expr-F.Infix first links) o = Occurs scope first o ⊎ InLinks scope links o
OccursAt scope (Expr-F.Join first steps) o = Occurs scope first o ⊎ InSteps scope steps o
OccursAt scope (Expr-F.Prime a) o = Occurs scope a o

back : (scope : Scope) (o : Occurrence) (e : Expr) (l : Expr-F Expr) → out-Expr e ≡ l → OccursAt scope l o → OccursAt scope (out-Expr e) o
back scope o e l is at = subst (λ (x : Expr-F Expr). OccursAt scope x o) (sym is) at

occurs_at : {scope : Scope} {e : Expr} {o : Occurrence} → Occurs scope e o → OccursAt scope (out-Expr e) o
occurs_at {scope} {e} (a_name {q = q} is) = back scope _ e _ (layer-Name e q is) refl
occurs_at {scope} {e} (a_field {p = p} {q = q} is) = back scope _ e _ (layer-At e p q is) refl
occurs_at {scope} {e} {o} (in_parentheses {a = a} {p = p} is at) = back scope o e _ (layer-Parenthesis e p a is) at
occurs_at {scope} {e} {o} (in_prime {a = a} is at) = back scope o e _ (layer-Prime e a is) at
occurs_at {scope} {e} {o} (in_prefix {a = a} {p = p} {op = op} is at) = back scope o e _ (layer-Prefix e p op a is) at
occurs_at {scope} {e} {o} (in_first_operand {first = first} links is at) = back scope o e _ (layer-Infix e first links is) (inl at)
occurs_at {scope} {e} {o} (in_operand {a = a} first links op is there at) = back scope o e _ (layer-Infix e first links is) (inr (op, a, there, at))
occurs_at {scope} {e} {o} (in_first_step {first = first} steps is at) = back scope o e _ (layer-Join e first steps is) (inl at)
occurs_at {scope} {e} {o} (in_dot {a = a} first steps is there at) = back scope o e _ (layer-Join e first steps is) (inr (inl (a, there, at)))
occurs_at {scope} {e} {o} (in_box {a = a} first steps es is there inside at) = back scope o e _ (layer-Join e first steps is) (inr (inr (es, a, there, inside, at)))
occurs_at {scope} {e} {o} (in_condition {a = a} b other {is_word = w} is at) = back scope o e _ (layer-Implication e w a b other is) (inl at)
occurs_at {scope} {e} {o} (in_consequence {b = b} a other {is_word = w} is at) = back scope o e _ (layer-Implication e w a b other is) (inr (inl at))
occurs_at {scope} {e} {o} (in_other {c = c} a b {is_word = w} is at) = back scope o e _ (layer-Implication e w a b (Some c) is) (inr (inr (c, refl, at)))
occurs_at {scope} {e} {o} (in_first {a = a} b is at) = back scope o e _ (layer-Sequence e a b is) (inl at)
occurs_at {scope} {e} {o} (in_second {b = b} a is at) = back scope o e _ (layer-Sequence e a b is) (inr at)
occurs_at {scope} {e} {o} (in_left {a = a} b {op = op} is at) = back scope o e _ (layer-Compare e op a b is) (inl at)
occurs_at {scope} {e} {o} (in_right {b = b} a {op = op} is at) = back scope o e _ (layer-Compare e op a b is) (inr at)
occurs_at {scope} {e} {o} (in_block {a = a} {p = p} items is there at) = back scope o e _ (layer-Block e p items is) (a, there, at)
occurs_at {scope} {e} {o} (in_value body {p = p} bindings before behind b {has_bar = h} is parts at) = back scope o e _ (layer-Let e p bindings h body is) (inl (before, behind, b, parts, at))
occurs_at {scope} {e} {o} (in_let {body = body} {p = p} bindings {has_bar = h} is at) = back scope o e _ (layer-Let e p bindings h body is) (inr at)
occurs_at {scope} {e} {o} (in_set_bound body {p = p} decls before behind d {has_bar = h} is parts at) = back scope o e _ (layer-Comprehension e p decls h body is) (inl (before, behind, d, parts, at))
occurs_at {scope} {e} {o} (in_set {body = body} {p = p} decls {has_bar = h} is at) = back scope o e _ (layer-Comprehension e p decls h body is) (inr at)
occurs_at {scope} {e} {o} (in_bound body {p = p} {w = w} decls before behind d {has_bar = h} is parts at) = back scope o e _ (layer-Quantified e p w decls h body is) (inl (before, behind, d, parts, at))
occurs_at {scope} {e} {o} (in_quantified {body = body} {p = p} {w = w} decls {has_bar = h} is at) = back scope o e _ (layer-Quantified e p w decls h body is) (inr at)

-- ------------------------------------------------------------------ agreement on lists

module _ (picks others : Position → Option Target) (scope : Scope) where
  abbrev pub AgreeItems : List Expr → Type 0
  AgreeItems items = (a : Expr) → Contains items a → Agree picks others scope a

  abbrev pub AgreeLinks : List (Infix × Expr) → Type 0
  AgreeLinks links = (op : Infix) (a : Expr) → Contains links (op, a) → Agree picks others scope a

  abbrev pub AgreeSteps : List (Access Expr) → Type 0
  AgreeSteps steps = ((a : Expr) → Contains steps (access.Dot a) → Agree picks others scope a) × ((es : List Expr) → Contains steps (access.Bracket es) → AgreeItems es)

  abbrev pub AgreeDecls : List (Decl Expr) → Type 0
  AgreeDecls decls = (before : List (Decl Expr)) (behind : List (Decl Expr)) (d : Decl Expr) → decls ≡ before ++ d ∷ behind → Agree picks others (under_decls scope before) d.bound

  abbrev pub AgreeValues : List (Binding Expr) → Type 0
  AgreeValues bindings = (before : List (Binding Expr)) (behind : List (Binding Expr)) (b : Binding Expr) → bindings ≡ before ++ b ∷ behind → Agree picks others (under_values scope before) b.value

-- ------------------------------------------------------------------ agreement on an expression of each form

module _ (picks others : Position → Option Target) (scope : Scope) (e : Expr) where
  -- on what occurs in its layer
  abbrev pub AgreeAt : Expr-F Expr → Type 0
  AgreeAt l = (o : Occurrence) → OccursAt scope l o → IsPicked o → picks o.name.place ≡ others o.name.place

  pub agree_by : (l : Expr-F Expr) → out-Expr e ≡ l → AgreeAt l → Agree picks others scope e
  agree_by l is h o occurs = h o (subst (λ (x : Expr-F Expr). OccursAt scope x o) is (occurs_at occurs))
