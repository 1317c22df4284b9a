-- Two ways to take names agree on an expression where they agree on its parts.
use Rattle.std.proofs.Common.{◌≡◌, ◌∙◌, ℕ, Bool, false, true≢false, List, [], ◌∷◌, ◌++◌, Contains, Option, Some, sym, ap, subst, inl, inr, arith}
use Rattle.std.proofs.lemmas.List.Elements.{Contains-push_cases}
use Rattle.base_types.specs.declared.place.Position.{Position}
use Rattle.syntax_tree.specs.declared.operator.Infix.{Infix}
use Rattle.syntax_tree.specs.declared.operator.Prefix.{Prefix}
use Rattle.syntax_tree.specs.declared.operator.Quantifier.{Quantifier}
use Rattle.syntax_tree.specs.declared.operator.Comparison.{Comparison}
use Rattle.syntax_tree.specs.declared.operator.Constant.{Constant}
use Rattle.syntax_tree.specs.declared.expr.QualName.{QualName}
use Rattle.syntax_tree.specs.declared.expr.Decl.{Decl}
use Rattle.syntax_tree.specs.declared.expr.Binding.{Binding}
use Rattle.syntax_tree.specs.declared.expr.Access.{Access}
use Rattle.syntax_tree.specs.declared.expr.Access.TheVariants as access
use Rattle.syntax_tree.specs.declared.expr.Expr.{Expr}
use Rattle.syntax_tree.specs.declared.expr.Expr.TheVariants as expr
use Rattle.syntax_tree.specs.declared.expr.Expr.TheOpen.{Expr-F}
use Rattle.resolve_picks.specs.declared.target.Target.{Target}
use Rattle.resolve_said.specs.Locals.{Scope, under_decls, under_values}
use Rattle.resolve_said.specs.Said.{text_alone}
use Rattle.resolve_laws.specs.Occurs.{Occurrence, IsOutside, IsPicked, Agree}
use Rattle.resolve_laws.proofs.Layers.{layer-Name, layer-At, layer-Constant, layer-Number, layer-Negative, layer-Literal, layer-Parenthesis, layer-Block, layer-Comprehension, layer-Quantified, layer-Let, layer-Sequence, layer-Implication, layer-Compare, layer-Prefix, layer-Infix, layer-Join, layer-Prime}
use Rattle.resolve_laws.proofs.ReadLists.{no_last, last_cases}
use Rattle.resolve_laws.proofs.Occurring.{OccursAt, AgreeItems, AgreeLinks, AgreeSteps, AgreeDecls, AgreeValues, agree_by}

-- no element of no list
none_in : {X : Type 0} (x : X) → Contains [] x → ⊥
none_in x (k, lt, e) = omega arith

-- what two ways to take the names say of one name
abbrev pub AgreeOn : (Position → Option Target) → (Position → Option Target) → Scope → QualName → Type 0
AgreeOn picks others scope q = IsOutside scope (text_alone q) → picks q.place ≡ others q.place

module _ (picks others : Position → Option Target) (scope : Scope) where
  -- ------------------------------------------------------------------ one more of a list

  pub no_items : AgreeItems picks others scope []
  no_items a h = absurd (none_in a h)

  pub more_items : (items all : List Expr) (a : Expr) → all ≡ items ++ a ∷ [] → AgreeItems picks others scope items → Agree picks others scope a → AgreeItems picks others scope all
  more_items items all a is agree last b h = elim (Contains-push_cases items a b (subst (λ (l : List Expr). Contains l b) is h)) [
    | inl inside ↦ agree b inside
    | inr same ↦ subst (Agree picks others scope) same last
  ]

  pub no_links : AgreeLinks picks others scope []
  no_links op a h = absurd (none_in (op, a) h)

  pub more_links : (links all : List (Infix × Expr)) (op : Infix) (a : Expr) → all ≡ links ++ (op, a) ∷ [] → AgreeLinks picks others scope links → Agree picks others scope a → AgreeLinks picks others scope all
  more_links links all op a is agree last by b h = elim (Contains-push_cases links (op, a) (by, b) (subst (λ (l : List (Infix × Expr)). Contains l (by, b)) is h)) [
    | inl inside ↦ agree by b inside
    | inr same ↦ subst (Agree picks others scope) (ap (λ (l : Infix × Expr). l.1) same) last
  ]

  pub no_steps : AgreeSteps picks others scope []
  no_steps = (λ a h. absurd (none_in (access.Dot a) h), λ es h. absurd (none_in (access.Bracket es) h))

  pub dot_more : (steps all : List (Access Expr)) (a : Expr) → all ≡ steps ++ access.Dot a ∷ [] → AgreeSteps picks others scope steps → Agree picks others scope a → AgreeSteps picks others scope all
  dot_more steps all a is agree last = (dots, boxes)
    where
      dots : (b : Expr) → Contains all (access.Dot b) → Agree picks others scope b
      dots b h = elim (Contains-push_cases steps (access.Dot a) (access.Dot b) (subst (λ (l : List (Access Expr)). Contains l (access.Dot b)) is h)) [
        | inl inside ↦ agree.0 b inside
        | inr same ↦ (let one : a ≡ b = cc in subst (Agree picks others scope) one last)
      ]

      boxes : (es : List Expr) → Contains all (access.Bracket es) → AgreeItems picks others scope es
      boxes es h = elim (Contains-push_cases steps (access.Dot a) (access.Bracket es) (subst (λ (l : List (Access Expr)). Contains l (access.Bracket es)) is h)) [
        | inl inside ↦ agree.1 es inside
        | inr same ↦ absurd cc
      ]

  pub box_more : (steps all : List (Access Expr)) (items : List Expr) → all ≡ steps ++ access.Bracket items ∷ [] → AgreeSteps picks others scope steps → AgreeItems picks others scope items → AgreeSteps picks others scope all
  box_more steps all items is agree last = (dots, boxes)
    where
      dots : (b : Expr) → Contains all (access.Dot b) → Agree picks others scope b
      dots b h = elim (Contains-push_cases steps (access.Bracket items) (access.Dot b) (subst (λ (l : List (Access Expr)). Contains l (access.Dot b)) is h)) [
        | inl inside ↦ agree.0 b inside
        | inr same ↦ absurd cc
      ]

      boxes : (es : List Expr) → Contains all (access.Bracket es) → AgreeItems picks others scope es
      boxes es h = elim (Contains-push_cases steps (access.Bracket items) (access.Bracket es) (subst (λ (l : List (Access Expr)). Contains l (access.Bracket es)) is h)) [
        | inl inside ↦ agree.1 es inside
        | inr same ↦ (let one : items ≡ es = cc in subst (AgreeItems picks others scope) one last)
      ]

  pub no_decls : AgreeDecls picks others scope []
  no_decls before behind d is = absurd (no_last before behind d is)

  pub more_decls : (ds all : List (Decl Expr)) (e : Decl Expr) → all ≡ ds ++ e ∷ [] → AgreeDecls picks others scope ds → Agree picks others (under_decls scope ds) e.bound → AgreeDecls picks others scope all
  more_decls ds all e is agree last before behind d parts = elim (last_cases before behind d ds e (sym is ∙ parts)) [
    | inl here ↦ subst (λ (x : Decl Expr). Agree picks others (under_decls scope before) x.bound) here.1 (subst (λ (l : List (Decl Expr)). Agree picks others (under_decls scope l) e.bound) here.0 last)
    | inr inside ↦ agree before inside.0 d inside.1
  ]

  pub no_values : AgreeValues picks others scope []
  no_values before behind b is = absurd (no_last before behind b is)

  pub more_values : (bs all : List (Binding Expr)) (e : Binding Expr) → all ≡ bs ++ e ∷ [] → AgreeValues picks others scope bs → Agree picks others (under_values scope bs) e.value → AgreeValues picks others scope all
  more_values bs all e is agree last before behind b parts = elim (last_cases before behind b bs e (sym is ∙ parts)) [
    | inl here ↦ subst (λ (x : Binding Expr). Agree picks others (under_values scope before) x.value) here.1 (subst (λ (l : List (Binding Expr)). Agree picks others (under_values scope l) e.value) here.0 last)
    | inr inside ↦ agree before inside.0 b inside.1
  ]
  -- ------------------------------------------------------------------ the forms

module _ (picks others : Position → Option Target) (scope : Scope) (e : Expr) where
  abbrev Both : Scope → Expr → Type 0
  Both s x = Agree picks others s x

  pub agree-Name : (q : QualName) → e ≡ expr.Name q → AgreeOn picks others scope q → Agree picks others scope e
  agree-Name q is h = agree_by picks others scope e (Expr-F.Name q) (layer-Name e q is) by
    where
      named : IsPicked (record { scope = scope; name = q; is_field = false }) → picks q.place ≡ others q.place
      named (inl no_field) = absurd (true≢false (sym no_field))
      named (inr outside) = h outside

      by : (o : Occurrence) → OccursAt scope (Expr-F.Name q) o → IsPicked o → picks o.name.place ≡ others o.name.place
      by o at picked = subst (λ (x : Occurrence). picks x.name.place ≡ others x.name.place) (sym at) (named (subst IsPicked at picked))

  pub agree-At : (p : Position) (q : QualName) → e ≡ expr.At p q → picks q.place ≡ others q.place → Agree picks others scope e
  agree-At p q is h = agree_by picks others scope e (Expr-F.At p q) (layer-At e p q is) (λ o at picked. subst (λ (x : Occurrence). picks x.name.place ≡ others x.name.place) (sym at) h)

  pub agree-Constant : (p : Position) (w : Constant) → e ≡ expr.Constant p w → Agree picks others scope e
  agree-Constant p w is = agree_by picks others scope e (Expr-F.Constant p w) (layer-Constant e p w is) (λ o at picked. absurd at)

  pub agree-Number : (p : Position) (n : ℕ) → e ≡ expr.Number p n → Agree picks others scope e
  agree-Number p n is = agree_by picks others scope e (Expr-F.Number p n) (layer-Number e p n is) (λ o at picked. absurd at)

  pub agree-Negative : (p : Position) (n : ℕ) → e ≡ expr.Negative p n → Agree picks others scope e
  agree-Negative p n is = agree_by picks others scope e (Expr-F.Negative p n) (layer-Negative e p n is) (λ o at picked. absurd at)

  pub agree-Literal : (p : Position) (text : List ℕ) → e ≡ expr.Literal p text → Agree picks others scope e
  agree-Literal p text is = agree_by picks others scope e (Expr-F.Literal p text) (layer-Literal e p text is) (λ o at picked. absurd at)

  pub agree-Parenthesis : (p : Position) (a : Expr) → e ≡ expr.Parenthesis p a → Both scope a → Agree picks others scope e
  agree-Parenthesis p a is h = agree_by picks others scope e (Expr-F.Parenthesis p a) (layer-Parenthesis e p a is) h

  pub agree-Prime : (a : Expr) → e ≡ expr.Prime a → Both scope a → Agree picks others scope e
  agree-Prime a is h = agree_by picks others scope e (Expr-F.Prime a) (layer-Prime e a is) h

  pub agree-Prefix : (p : Position) (op : Prefix) (a : Expr) → e ≡ expr.Prefix p op a → Both scope a → Agree picks others scope e
  agree-Prefix p op a is h = agree_by picks others scope e (Expr-F.Prefix p op a) (layer-Prefix e p op a is) h

  pub agree-Block : (p : Position) (items : List Expr) → e ≡ expr.Block p items → AgreeItems picks others scope items → Agree picks others scope e
  agree-Block p items is h = agree_by picks others scope e (Expr-F.Block p items) (layer-Block e p items is) (λ o at. h at.0 at.1 o at.2)

  pub agree-Sequence : (a b : Expr) → e ≡ expr.Sequence a b → Both scope a → Both scope b → Agree picks others scope e
  agree-Sequence a b is h k = agree_by picks others scope e (Expr-F.Sequence a b) (layer-Sequence e a b is) (λ o at. elim at [ inl x ↦ h o x | inr y ↦ k o y ])

  pub agree-Compare : (op : Comparison) (a b : Expr) → e ≡ expr.Compare op a b → Both scope a → Both scope b → Agree picks others scope e
  agree-Compare op a b is h k = agree_by picks others scope e (Expr-F.Compare op a b) (layer-Compare e op a b is) (λ o at. elim at [ inl x ↦ h o x | inr y ↦ k o y ])

  pub agree-Implication : (is_word : Bool) (c a : Expr) (other : Option Expr) → e ≡ expr.Implication is_word c a other → Both scope c → Both scope a → ((b : Expr) → other ≡ Some b → Both scope b) → Agree picks others scope e
  agree-Implication is_word c a other is f g h = agree_by picks others scope e (Expr-F.Implication is_word c a other) (layer-Implication e is_word c a other is)
      (λ o at. elim at [ inl x ↦ f o x | inr (inl y) ↦ g o y | inr (inr z) ↦ h z.0 z.1 o z.2 ])

  pub agree-Infix : (first : Expr) (links : List (Infix × Expr)) → e ≡ expr.Infix first links → Both scope first → AgreeLinks picks others scope links → Agree picks others scope e
  agree-Infix first links is h k = agree_by picks others scope e (Expr-F.Infix first links) (layer-Infix e first links is) (λ o at. elim at [ inl x ↦ h o x | inr y ↦ k y.0 y.1 y.2 o y.3 ])

  pub agree-Join : (first : Expr) (steps : List (Access Expr)) → e ≡ expr.Join first steps → Both scope first → AgreeSteps picks others scope steps → Agree picks others scope e
  agree-Join first steps is h k = agree_by picks others scope e (Expr-F.Join first steps) (layer-Join e first steps is)
      (λ o at. elim at [ inl x ↦ h o x | inr (inl y) ↦ k.0 y.0 y.1 o y.2 | inr (inr z) ↦ k.1 z.0 z.2 z.1 z.3 o z.4 ])

  pub agree-Let : (p : Position) (bindings : List (Binding Expr)) (has_bar : Bool) (body : Expr) → e ≡ expr.Let p bindings has_bar body → AgreeValues picks others scope bindings → Both (under_values scope bindings) body → Agree picks others scope e
  agree-Let p bindings has_bar body is h k = agree_by picks others scope e (Expr-F.Let p bindings has_bar body) (layer-Let e p bindings has_bar body is)
      (λ o at. elim at [ inl x ↦ h x.0 x.1 x.2 x.3 o x.4 | inr y ↦ k o y ])

  pub agree-Comprehension : (p : Position) (decls : List (Decl Expr)) (has_bar : Bool) (body : Expr) → e ≡ expr.Comprehension p decls has_bar body → AgreeDecls picks others scope decls → Both (under_decls scope decls) body → Agree picks others scope e
  agree-Comprehension p decls has_bar body is h k = agree_by picks others scope e (Expr-F.Comprehension p decls has_bar body) (layer-Comprehension e p decls has_bar body is)
      (λ o at. elim at [ inl x ↦ h x.0 x.1 x.2 x.3 o x.4 | inr y ↦ k o y ])

  pub agree-Quantified : (p : Position) (w : Quantifier) (decls : List (Decl Expr)) (has_bar : Bool) (body : Expr) → e ≡ expr.Quantified p w decls has_bar body → AgreeDecls picks others scope decls → Both (under_decls scope decls) body → Agree picks others scope e
  agree-Quantified p w decls has_bar body is h k = agree_by picks others scope e (Expr-F.Quantified p w decls has_bar body) (layer-Quantified e p w decls has_bar body is)
      (λ o at. elim at [ inl x ↦ h x.0 x.1 x.2 x.3 o x.4 | inr y ↦ k o y ])
