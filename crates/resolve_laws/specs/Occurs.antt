-- Names that stand in an expression, each with the names that are in scope where it stands.
use Rattle.std.specs.Prelude.{◌≡◌, ◌⊎◌, ℕ, Bool, true, false, List, ◌∷◌, ◌++◌, Contains, Option, Some, None}
use Rattle.base_types.specs.declared.place.Position.{Position}
use Rattle.syntax_tree.specs.declared.operator.Infix.{Infix}
use Rattle.syntax_tree.specs.declared.operator.Prefix.{Prefix}
use Rattle.syntax_tree.specs.declared.operator.Quantifier.{Quantifier}
use Rattle.syntax_tree.specs.declared.operator.Comparison.{Comparison as Compared}
use Rattle.syntax_tree.specs.declared.expr.QualName.{QualName}
use Rattle.syntax_tree.specs.declared.expr.Decl.{Decl}
use Rattle.syntax_tree.specs.declared.expr.Binding.{Binding}
use Rattle.syntax_tree.specs.declared.expr.Access.{Access}
use Rattle.syntax_tree.specs.declared.expr.Access.TheVariants as access
use Rattle.syntax_tree.specs.declared.expr.Expr.{Expr}
use Rattle.syntax_tree.specs.declared.expr.Expr.TheVariants as expr
use Rattle.resolve_picks.specs.declared.target.Target.{Target}
use Rattle.resolve_said.specs.Locals.{Scope, number_of, under_decls, under_values}
use Rattle.resolve_said.specs.Said.{text_alone}

-- a name, whether it stands behind `@`, and the names in scope there
pub record Occurrence : Type 0 where
  pub scope : Scope
  pub name : QualName
  pub is_field : Bool

-- the name stands in the expression, in whose scope are these names
pub data Occurs : Scope → Expr → Occurrence → Type 0 where
  a_name : {scope : Scope} {e : Expr} {q : QualName} → e ≡ expr.Name q → Occurs scope e (record { scope = scope; name = q; is_field = false })
  a_field : {scope : Scope} {e : Expr} {p : Position} {q : QualName} → e ≡ expr.At p q → Occurs scope e (record { scope = scope; name = q; is_field = true })
  in_parentheses : {scope : Scope} {e a : Expr} {p : Position} {o : Occurrence} → e ≡ expr.Parenthesis p a → Occurs scope a o → Occurs scope e o
  in_prime : {scope : Scope} {e a : Expr} {o : Occurrence} → e ≡ expr.Prime a → Occurs scope a o → Occurs scope e o
  in_prefix : {scope : Scope} {e a : Expr} {p : Position} {op : Prefix} {o : Occurrence} → e ≡ expr.Prefix p op a → Occurs scope a o → Occurs scope e o
  in_first_operand : {scope : Scope} {e first : Expr} (links : List (Infix × Expr)) {o : Occurrence} → e ≡ expr.Infix first links → Occurs scope first o → Occurs scope e o
  in_operand : {scope : Scope} {e a : Expr} (first : Expr) (links : List (Infix × Expr)) (op : Infix) {o : Occurrence} → e ≡ expr.Infix first links → Contains links (op, a) → Occurs scope a o → Occurs scope e o
  in_first_step : {scope : Scope} {e first : Expr} (steps : List (Access Expr)) {o : Occurrence} → e ≡ expr.Join first steps → Occurs scope first o → Occurs scope e o
  in_dot : {scope : Scope} {e a : Expr} (first : Expr) (steps : List (Access Expr)) {o : Occurrence} → e ≡ expr.Join first steps → Contains steps (access.Dot a) → Occurs scope a o → Occurs scope e o
  in_box : {scope : Scope} {e a : Expr} (first : Expr) (steps : List (Access Expr)) (es : List Expr) {o : Occurrence} → e ≡ expr.Join first steps → Contains steps (access.Bracket es) → Contains es a → Occurs scope a o → Occurs scope e o
  in_condition : {scope : Scope} {e a : Expr} (b : Expr) (other : Option Expr) {is_word : Bool} {o : Occurrence} → e ≡ expr.Implication is_word a b other → Occurs scope a o → Occurs scope e o
  in_consequence : {scope : Scope} {e b : Expr} (a : Expr) (other : Option Expr) {is_word : Bool} {o : Occurrence} → e ≡ expr.Implication is_word a b other → Occurs scope b o → Occurs scope e o
  in_other : {scope : Scope} {e c : Expr} (a b : Expr) {is_word : Bool} {o : Occurrence} → e ≡ expr.Implication is_word a b (Some c) → Occurs scope c o → Occurs scope e o
  in_first : {scope : Scope} {e a : Expr} (b : Expr) {o : Occurrence} → e ≡ expr.Sequence a b → Occurs scope a o → Occurs scope e o
  in_second : {scope : Scope} {e b : Expr} (a : Expr) {o : Occurrence} → e ≡ expr.Sequence a b → Occurs scope b o → Occurs scope e o
  in_left : {scope : Scope} {e a : Expr} (b : Expr) {op : Compared} {o : Occurrence} → e ≡ expr.Compare op a b → Occurs scope a o → Occurs scope e o
  in_right : {scope : Scope} {e b : Expr} (a : Expr) {op : Compared} {o : Occurrence} → e ≡ expr.Compare op a b → Occurs scope b o → Occurs scope e o
  in_block : {scope : Scope} {e a : Expr} {p : Position} (items : List Expr) {o : Occurrence} → e ≡ expr.Block p items → Contains items a → Occurs scope a o → Occurs scope e o
  in_value : {scope : Scope} {e : Expr} (body : Expr) {p : Position} (bindings before behind : List (Binding Expr)) (b : Binding Expr) {has_bar : Bool} {o : Occurrence} → e ≡ expr.Let p bindings has_bar body → bindings ≡ before ++ b ∷ behind → Occurs (under_values scope before) b.value o → Occurs scope e o
  in_let : {scope : Scope} {e body : Expr} {p : Position} (bindings : List (Binding Expr)) {has_bar : Bool} {o : Occurrence} → e ≡ expr.Let p bindings has_bar body → Occurs (under_values scope bindings) body o → Occurs scope e o
  in_set_bound : {scope : Scope} {e : Expr} (body : Expr) {p : Position} (decls before behind : List (Decl Expr)) (d : Decl Expr) {has_bar : Bool} {o : Occurrence} → e ≡ expr.Comprehension p decls has_bar body → decls ≡ before ++ d ∷ behind → Occurs (under_decls scope before) d.bound o → Occurs scope e o
  in_set : {scope : Scope} {e body : Expr} {p : Position} (decls : List (Decl Expr)) {has_bar : Bool} {o : Occurrence} → e ≡ expr.Comprehension p decls has_bar body → Occurs (under_decls scope decls) body o → Occurs scope e o
  in_bound : {scope : Scope} {e : Expr} (body : Expr) {p : Position} {w : Quantifier} (decls before behind : List (Decl Expr)) (d : Decl Expr) {has_bar : Bool} {o : Occurrence} → e ≡ expr.Quantified p w decls has_bar body → decls ≡ before ++ d ∷ behind → Occurs (under_decls scope before) d.bound o → Occurs scope e o
  in_quantified : {scope : Scope} {e body : Expr} {p : Position} {w : Quantifier} (decls : List (Decl Expr)) {has_bar : Bool} {o : Occurrence} → e ≡ expr.Quantified p w decls has_bar body → Occurs (under_decls scope decls) body o → Occurs scope e o

-- the name is none of those in scope
abbrev pub IsOutside : Scope → Option (List ℕ) → Type 0
IsOutside scope None = Unit {0}
IsOutside scope (Some text) = number_of text scope ≡ None

-- it is taken to stand for a declaration: it stands behind `@`, or is none of the names in scope
abbrev pub IsPicked : Occurrence → Type 0
IsPicked o = (o.is_field ≡ true) ⊎ IsOutside o.scope (text_alone o.name)

-- two ways to take names agree on those of an expression
abbrev pub Agree : (Position → Option Target) → (Position → Option Target) → Scope → Expr → Type 0
Agree p q scope e = (o : Occurrence) → Occurs scope e o → IsPicked o → p o.name.place ≡ q o.name.place
