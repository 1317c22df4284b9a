-- An expression whose names are taken alike in two ways, and whose rows have operators: so have its parts.
use Rattle.std.proofs.Common.{◌≡◌, Bool, List, [], ◌∷◌, ◌++◌, Option, Some, None, refl, sym, ap, subst, ◌∙◌, inl, inr, append_assoc}
use Rattle.std.specs.Prelude.{Contains}
use Rattle.base_types.specs.declared.place.Position.{Position}
use Rattle.syntax_tree.specs.declared.operator.Infix.{Infix}
use Rattle.syntax_tree.specs.declared.operator.Prefix.{Prefix}
use Rattle.syntax_tree.specs.declared.operator.Quantifier.{Quantifier}
use Rattle.syntax_tree.specs.declared.operator.Comparison.{Comparison as Compared}
use Rattle.syntax_tree.specs.declared.expr.Decl.{Decl}
use Rattle.syntax_tree.specs.declared.expr.Binding.{Binding}
use Rattle.syntax_tree.specs.declared.expr.Access.{Access}
use Rattle.syntax_tree.specs.declared.expr.Access.TheVariants as access
use Rattle.syntax_tree.specs.declared.expr.Expr.{Expr, out-Expr}
use Rattle.syntax_tree.specs.declared.expr.Expr.TheOpen.{Expr-F}
use Rattle.syntax_tree.specs.declared.expr.Expr.TheVariants as expr
use Rattle.resolve_picks.specs.declared.target.Target.{Target}
use Rattle.resolve_said.specs.Locals.{Scope, under_decls, under_values}
use Rattle.resolve_laws.specs.Occurs.{Occurrence, Occurs, in_parentheses, in_prime, in_prefix, in_first_operand, in_operand, in_first_step, in_dot, in_box, in_condition, in_consequence, in_other, in_first, in_second, in_left, in_right, in_block, in_value, in_let, in_set_bound, in_set, in_bound, in_quantified, Agree}
use Rattle.resolve_laws.specs.Linked.{IsPart, itself, in_part, RowsHaveLinks}
use Rattle.resolve_laws.proofs.Layers.{layer-Parenthesis, layer-Block, layer-Comprehension, layer-Quantified, layer-Let, layer-Sequence, layer-Implication, layer-Compare, layer-Prefix, layer-Infix, layer-Join, layer-Prime}
use Rattle.resolve_laws.proofs.SaidListed.{has_last, has_before, has_middle}

abbrev pub Picks : Type 0
Picks = Position → Option Target

pub record Fine (p q : Picks) (scope : Scope) (e : Expr) : Type 0 where
  pub agree : Agree p q scope e
  pub linked : RowsHaveLinks e

-- a row, a list of items, the steps of a join, the names of a `let`, and declarations
pub record FineRow (p q : Picks) (scope : Scope) (first : Expr) (links : List (Infix × Expr)) : Type 0 where
  pub head : Fine p q scope first
  pub each : (op : Infix) (a : Expr) → Contains links (op, a) → Fine p q scope a

abbrev pub FineItems : Picks → Picks → Scope → List Expr → Type 0
FineItems p q scope items = (a : Expr) → Contains items a → Fine p q scope a

pub record FineSteps (p q : Picks) (scope : Scope) (first : Expr) (steps : List (Access Expr)) : Type 0 where
  pub head : Fine p q scope first
  pub dots : (a : Expr) → Contains steps (access.Dot a) → Fine p q scope a
  pub boxes : (es : List Expr) → Contains steps (access.Bracket es) → FineItems p q scope es

pub record FineLet (p q : Picks) (scope : Scope) (bs : List (Binding Expr)) (body : Expr) : Type 0 where
  pub values : (before behind : List (Binding Expr)) (b : Binding Expr) → bs ≡ before ++ b ∷ behind → Fine p q (under_values scope before) b.value
  pub inner : Fine p q (under_values scope bs) body

abbrev pub FineDecls : Picks → Picks → Scope → List (Decl Expr) → Type 0
FineDecls p q scope ds = (before behind : List (Decl Expr)) (d : Decl Expr) → ds ≡ before ++ d ∷ behind → Fine p q (under_decls scope before) d.bound

module _ (p q : Picks) where
  fine_part : (outer inner : Scope) (e a : Expr) (z : Expr-F Expr) → out-Expr e ≡ z → IsPart z a → ((o : Occurrence) → Occurs inner a o → Occurs outer e o) → Fine p q outer e → Fine p q inner a
  fine_part outer inner e a z is part up fine = record {
    agree = λ o i. fine.agree o (up o i);
    linked = λ first i. fine.linked first (in_part (subst (λ (y : Expr-F Expr). IsPart y a) (sym is) part) i);
  }

  pub fine_parenthesis : (scope : Scope) (e a : Expr) (at : Position) → e ≡ expr.Parenthesis at a → Fine p q scope e → Fine p q scope a
  fine_parenthesis scope e a at is fine = fine_part scope scope e a (Expr-F.Parenthesis at a) (layer-Parenthesis e at a is) refl (λ o i. in_parentheses is i) fine

  pub fine_prime : (scope : Scope) (e a : Expr) → e ≡ expr.Prime a → Fine p q scope e → Fine p q scope a
  fine_prime scope e a is fine = fine_part scope scope e a (Expr-F.Prime a) (layer-Prime e a is) refl (λ o i. in_prime is i) fine

  pub fine_prefix : (scope : Scope) (e a : Expr) (at : Position) (op : Prefix) → e ≡ expr.Prefix at op a → Fine p q scope e → Fine p q scope a
  fine_prefix scope e a at op is fine = fine_part scope scope e a (Expr-F.Prefix at op a) (layer-Prefix e at op a is) refl (λ o i. in_prefix is i) fine

  pub fine_row : (scope : Scope) (e first : Expr) (links : List (Infix × Expr)) → e ≡ expr.Infix first links → Fine p q scope e → FineRow p q scope first links
  fine_row scope e first links is fine = record {
    head = fine_part scope scope e first (Expr-F.Infix first links) (layer-Infix e first links is) (inl refl) (λ o i. in_first_operand links is i) fine;
    each = λ op a has. fine_part scope scope e a (Expr-F.Infix first links) (layer-Infix e first links is) (inr (op, has)) (λ o i. in_operand first links op is has i) fine;
  }

  -- the row has an operand behind the first
  pub some_links : (scope : Scope) (e first : Expr) (links : List (Infix × Expr)) → e ≡ expr.Infix first links → Fine p q scope e → links ≡ [] → ⊥
  some_links scope e first links is fine none = fine.linked first (itself (is ∙ ap (λ (ls : List (Infix × Expr)). expr.Infix first ls) none))

  pub fine_join : (scope : Scope) (e first : Expr) (steps : List (Access Expr)) → e ≡ expr.Join first steps → Fine p q scope e → FineSteps p q scope first steps
  fine_join scope e first steps is fine = record {
    head = fine_part scope scope e first (Expr-F.Join first steps) (layer-Join e first steps is) (inl refl) (λ o i. in_first_step steps is i) fine;
    dots = λ a has. fine_part scope scope e a (Expr-F.Join first steps) (layer-Join e first steps is) (inr (inl has)) (λ o i. in_dot first steps is has i) fine;
    boxes = λ es has a among. fine_part scope scope e a (Expr-F.Join first steps) (layer-Join e first steps is) (inr (inr (es, has, among))) (λ o i. in_box first steps es is has among i) fine;
  }

  pub fine_condition : (scope : Scope) (e a b : Expr) (other : Option Expr) (is_word : Bool) → e ≡ expr.Implication is_word a b other → Fine p q scope e → Fine p q scope a
  fine_condition scope e a b None is_word is fine = fine_part scope scope e a (Expr-F.Implication is_word a b None) (layer-Implication e is_word a b None is) (inl refl) (λ o i. in_condition b None is i) fine
  fine_condition scope e a b (Some c) is_word is fine = fine_part scope scope e a (Expr-F.Implication is_word a b (Some c)) (layer-Implication e is_word a b (Some c) is) (inl refl) (λ o i. in_condition b (Some c) is i) fine

  pub fine_consequence : (scope : Scope) (e a b : Expr) (other : Option Expr) (is_word : Bool) → e ≡ expr.Implication is_word a b other → Fine p q scope e → Fine p q scope b
  fine_consequence scope e a b None is_word is fine = fine_part scope scope e b (Expr-F.Implication is_word a b None) (layer-Implication e is_word a b None is) (inr refl) (λ o i. in_consequence a None is i) fine
  fine_consequence scope e a b (Some c) is_word is fine = fine_part scope scope e b (Expr-F.Implication is_word a b (Some c)) (layer-Implication e is_word a b (Some c) is) (inr (inl refl)) (λ o i. in_consequence a (Some c) is i) fine

  pub fine_other : (scope : Scope) (e a b c : Expr) (is_word : Bool) → e ≡ expr.Implication is_word a b (Some c) → Fine p q scope e → Fine p q scope c
  fine_other scope e a b c is_word is fine = fine_part scope scope e c (Expr-F.Implication is_word a b (Some c)) (layer-Implication e is_word a b (Some c) is) (inr (inr refl)) (λ o i. in_other a b is i) fine

  pub fine_first : (scope : Scope) (e a b : Expr) → e ≡ expr.Sequence a b → Fine p q scope e → Fine p q scope a
  fine_first scope e a b is fine = fine_part scope scope e a (Expr-F.Sequence a b) (layer-Sequence e a b is) (inl refl) (λ o i. in_first b is i) fine

  pub fine_second : (scope : Scope) (e a b : Expr) → e ≡ expr.Sequence a b → Fine p q scope e → Fine p q scope b
  fine_second scope e a b is fine = fine_part scope scope e b (Expr-F.Sequence a b) (layer-Sequence e a b is) (inr refl) (λ o i. in_second a is i) fine

  pub fine_left : (scope : Scope) (e a b : Expr) (op : Compared) → e ≡ expr.Compare op a b → Fine p q scope e → Fine p q scope a
  fine_left scope e a b op is fine = fine_part scope scope e a (Expr-F.Compare op a b) (layer-Compare e op a b is) (inl refl) (λ o i. in_left b is i) fine

  pub fine_right : (scope : Scope) (e a b : Expr) (op : Compared) → e ≡ expr.Compare op a b → Fine p q scope e → Fine p q scope b
  fine_right scope e a b op is fine = fine_part scope scope e b (Expr-F.Compare op a b) (layer-Compare e op a b is) (inr refl) (λ o i. in_right a is i) fine

  pub fine_block : (scope : Scope) (e : Expr) (at : Position) (items : List Expr) → e ≡ expr.Block at items → Fine p q scope e → FineItems p q scope items
  fine_block scope e at items is fine a has = fine_part scope scope e a (Expr-F.Block at items) (layer-Block e at items is) has (λ o i. in_block items is has i) fine

  pub fine_let : (scope : Scope) (e body : Expr) (at : Position) (bs : List (Binding Expr)) (has_bar : Bool) → e ≡ expr.Let at bs has_bar body → Fine p q scope e → FineLet p q scope bs body
  fine_let scope e body at bs has_bar is fine = record {
    values = λ before behind b cut. fine_part scope (under_values scope before) e b.value (Expr-F.Let at bs has_bar body) (layer-Let e at bs has_bar body is) (inr (b, has_middle before behind bs b cut, refl)) (λ o i. in_value body bs before behind b is cut i) fine;
    inner = fine_part scope (under_values scope bs) e body (Expr-F.Let at bs has_bar body) (layer-Let e at bs has_bar body is) (inl refl) (λ o i. in_let bs is i) fine;
  }

  pub fine_set : (scope : Scope) (e body : Expr) (at : Position) (ds : List (Decl Expr)) (has_bar : Bool) → e ≡ expr.Comprehension at ds has_bar body → Fine p q scope e → Fine p q (under_decls scope ds) body
  fine_set scope e body at ds has_bar is fine = fine_part scope (under_decls scope ds) e body (Expr-F.Comprehension at ds has_bar body) (layer-Comprehension e at ds has_bar body is) (inl refl) (λ o i. in_set ds is i) fine

  pub fine_set_bounds : (scope : Scope) (e body : Expr) (at : Position) (ds : List (Decl Expr)) (has_bar : Bool) → e ≡ expr.Comprehension at ds has_bar body → Fine p q scope e → FineDecls p q scope ds
  fine_set_bounds scope e body at ds has_bar is fine before behind d cut = fine_part scope (under_decls scope before) e d.bound (Expr-F.Comprehension at ds has_bar body) (layer-Comprehension e at ds has_bar body is) (inr (d, has_middle before behind ds d cut, refl)) (λ o i. in_set_bound body ds before behind d is cut i) fine

  pub fine_quantified : (scope : Scope) (e body : Expr) (at : Position) (w : Quantifier) (ds : List (Decl Expr)) (has_bar : Bool) → e ≡ expr.Quantified at w ds has_bar body → Fine p q scope e → Fine p q (under_decls scope ds) body
  fine_quantified scope e body at w ds has_bar is fine = fine_part scope (under_decls scope ds) e body (Expr-F.Quantified at w ds has_bar body) (layer-Quantified e at w ds has_bar body is) (inl refl) (λ o i. in_quantified ds is i) fine

  pub fine_bounds : (scope : Scope) (e body : Expr) (at : Position) (w : Quantifier) (ds : List (Decl Expr)) (has_bar : Bool) → e ≡ expr.Quantified at w ds has_bar body → Fine p q scope e → FineDecls p q scope ds
  fine_bounds scope e body at w ds has_bar is fine before behind d cut = fine_part scope (under_decls scope before) e d.bound (Expr-F.Quantified at w ds has_bar body) (layer-Quantified e at w ds has_bar body is) (inr (d, has_middle before behind ds d cut, refl)) (λ o i. in_bound body ds before behind d is cut i) fine

  -- what is fine to the last is fine before it

  pub row_before : (scope : Scope) (first e : Expr) (links all : List (Infix × Expr)) (op : Infix) → all ≡ links ++ (op, e) ∷ [] → FineRow p q scope first all → FineRow p q scope first links
  row_before scope first e links all op cut fine = record { head = fine.head; each = λ o a has. fine.each o a (has_before links all (op, e) (o, a) cut has) }

  pub row_end : (scope : Scope) (first e : Expr) (links all : List (Infix × Expr)) (op : Infix) → all ≡ links ++ (op, e) ∷ [] → FineRow p q scope first all → Fine p q scope e
  row_end scope first e links all op cut fine = fine.each op e (has_last links all (op, e) cut)

  pub items_before : (scope : Scope) (e : Expr) (es all : List Expr) → all ≡ es ++ e ∷ [] → FineItems p q scope all → FineItems p q scope es
  items_before scope e es all cut fine a has = fine a (has_before es all e a cut has)

  pub items_end : (scope : Scope) (e : Expr) (es all : List Expr) → all ≡ es ++ e ∷ [] → FineItems p q scope all → Fine p q scope e
  items_end scope e es all cut fine = fine e (has_last es all e cut)

  pub steps_before : (scope : Scope) (first : Expr) (x : Access Expr) (steps all : List (Access Expr)) → all ≡ steps ++ x ∷ [] → FineSteps p q scope first all → FineSteps p q scope first steps
  steps_before scope first x steps all cut fine = record {
    head = fine.head;
    dots = λ a has. fine.dots a (has_before steps all x (access.Dot a) cut has);
    boxes = λ es has. fine.boxes es (has_before steps all x (access.Bracket es) cut has);
  }

  pub decls_before : (scope : Scope) (d : Decl Expr) (ds all : List (Decl Expr)) → all ≡ ds ++ d ∷ [] → FineDecls p q scope all → FineDecls p q scope ds
  decls_before scope d ds all cut fine before behind c is = fine before (behind ++ d ∷ []) c (cut ∙ (ap (λ (xs : List (Decl Expr)). xs ++ d ∷ []) is ∙ append_assoc before (c ∷ behind) (d ∷ [])))

  pub let_behind : (scope : Scope) (body : Expr) (b : Binding Expr) (bs all : List (Binding Expr)) → all ≡ b ∷ bs → FineLet p q scope all body → FineLet p q (b.name ∷ scope) bs body
  let_behind scope body b bs all cut fine = record {
    values = λ before behind c is. fine.values (b ∷ before) behind c (cut ∙ ap (λ (xs : List (Binding Expr)). b ∷ xs) is);
    inner = subst (λ (xs : List (Binding Expr)). Fine p q (under_values scope xs) body) cut fine.inner;
  }
