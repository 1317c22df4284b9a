-- What it means that an expression, a row or a list says something, by its form.
use Rattle.std.proofs.Common.{◌≡◌, ◌⊎◌, ℕ, true, List, [], ◌∷◌, ◌++◌, Some, None, codes, refl, sym, subst, ◌∙◌, inl, inr}
use Rattle.std.specs.Prelude.{pos, ◌-ℤ◌}
use Rattle.syntax_tree.specs.declared.operator.Infix.{Infix}
use Rattle.syntax_tree.specs.declared.operator.Constant.{Constant}
use Rattle.syntax_tree.specs.declared.operator.Constant.TheVariants as constant
use Rattle.syntax_tree.specs.declared.expr.Access.{Access}
use Rattle.syntax_tree.specs.declared.expr.Access.TheVariants as access
use Rattle.syntax_tree.specs.declared.expr.Expr.{Expr, out-Expr}
use Rattle.syntax_tree.specs.declared.expr.Expr.TheOpen.{Expr-F}
use Rattle.core_tree.specs.declared.operators.Connective.TheVariants as connective
use Rattle.core_tree.specs.declared.operators.TemporalBinary.TheVariants as times
use Rattle.core_tree.specs.Trees.{Term, Claim, Binder, sig, field, name, number, every, prime, connect, temporal_pair, claim_list, variable_list}
use Rattle.resolve_said.specs.Operators.{Said, a_set, a_formula, Takes, Prefixes, Links, is_and, ComparesBy, Chooses, Collects, Quantifies}
use Rattle.resolve_said.specs.Locals.{Scope, number_of, under_decls}
use Rattle.resolve_said.specs.Said as said
use Rattle.resolve_said.specs.Said.{Standing, NameSays, FieldSays, LiteralSays, constant_of, apart_from, Says, RowSays, ConjunctsSay, ItemsSay, StepsSay, ArgumentsSay, LetSays, DeclsSay, VariablesSay}
use Rattle.resolve_laws.proofs.Layers.{layer-Name, layer-At, layer-Constant, layer-Number, layer-Negative, layer-Literal, layer-Parenthesis, layer-Block, layer-Comprehension, layer-Quantified, layer-Let, layer-Sequence, layer-Implication, layer-Compare, layer-Prefix, layer-Infix, layer-Join, layer-Prime}
use Rattle.resolve_laws.proofs.SaidListed.{no_last, same_last}

module _ (at : Standing) where
  -- `this`, or another constant
  abbrev pub ConstantSays : Scope → Constant → Said → Type 0
  ConstantSays scope w s = ((n : ℕ) × (w ≡ constant.This) × (number_of (codes "this") scope ≡ Some n) × (s ≡ a_set (name n))) ⊎ ((t : Term) × (constant_of at.scopes w ≡ Some t) × (s ≡ a_set t))

  abbrev pub ConjunctionSays : Scope → Expr → List (Infix × Expr) → Said → Type 0
  ConjunctionSays scope first links s = (cs : List Claim) × ConjunctsSay at scope first links cs × (s ≡ a_formula (every (claim_list cs)))

  -- what a node says
  abbrev pub Means : Scope → Expr-F Expr → Said → Type 0
  Means scope (Expr-F.Name q) s = NameSays at scope q s
  Means scope (Expr-F.At p q) s = (f : ℕ) × FieldSays at q f × (s ≡ a_set (field f))
  Means scope (Expr-F.Constant p w) s = ConstantSays scope w s
  Means scope (Expr-F.Number p n) s = s ≡ a_set (number (pos n) p)
  Means scope (Expr-F.Negative p n) s = s ≡ a_set (number (pos 0 -ℤ pos n) p)
  Means scope (Expr-F.Literal p text) s = (n : ℕ) × LiteralSays at text n × (s ≡ a_set (sig n))
  Means scope (Expr-F.Parenthesis p a) s = Says at scope a s
  Means scope (Expr-F.Block p items) s = (cs : List Claim) × ItemsSay at scope items cs × (s ≡ a_formula (every (claim_list cs)))
  Means scope (Expr-F.Comprehension p ds has_bar a) s = (vs : List Binder) × (r : Said) × DeclsSay at scope ds vs × Says at (under_decls scope ds) a r × Collects (variable_list vs) r s
  Means scope (Expr-F.Quantified p w ds has_bar a) s = (vs : List Binder) × (r : Said) × DeclsSay at scope ds vs × Says at (under_decls scope ds) a r × Quantifies (variable_list vs) w r s
  Means scope (Expr-F.Let p bs has_bar a) s = LetSays at scope bs a s
  Means scope (Expr-F.Sequence a b) s = (c : Claim) × (d : Claim) × Says at scope a (a_formula c) × Says at scope b (a_formula d) × (s ≡ a_formula (temporal_pair times.Then c d))
  Means scope (Expr-F.Implication is_word a b None) s = (c : Claim) × (d : Claim) × Says at scope a (a_formula c) × Says at scope b (a_formula d) × (s ≡ a_formula (connect connective.Implies c d))
  Means scope (Expr-F.Implication is_word a b (Some other)) s = (c : Claim) × (r : Said) × (u : Said) × Says at scope a (a_formula c) × Says at scope b r × Says at scope other u × Chooses c r u s
  Means scope (Expr-F.Compare op a b) s = (t : Term) × (u : Term) × Says at scope a (a_set t) × Says at scope b (a_set u) × ComparesBy op t u s
  Means scope (Expr-F.Prefix p op a) s = (r : Said) × Says at scope a r × Prefixes op r s
  Means scope (Expr-F.Infix first links) s = RowSays at scope first links s ⊎ ConjunctionSays scope first links s
  Means scope (Expr-F.Join first steps) s = StepsSay at scope first steps s
  Means scope (Expr-F.Prime a) s = (t : Term) × Says at scope a (a_set t) × (s ≡ a_set (prime t))

  shown : (scope : Scope) (e : Expr) (z : Expr-F Expr) (s : Said) → out-Expr e ≡ z → Means scope z s → Means scope (out-Expr e) s
  shown scope e z s is h = subst (λ (y : Expr-F Expr). Means scope y s) (sym is) h

  seen : {scope : Scope} {e : Expr} {s : Said} → Says at scope e s → Means scope (out-Expr e) s
  seen (said.a_name {scope} {e} {s} {q} is h) = shown scope e (Expr-F.Name q) s (layer-Name e q is) h
  seen (said.a_field {scope} {e} {p} {q} {f} is h) = shown scope e (Expr-F.At p q) (a_set (field f)) (layer-At e p q is) (f, h, refl)
  seen (said.this {scope} {e} {p} {n} is h) = shown scope e (Expr-F.Constant p constant.This) (a_set (name n)) (layer-Constant e p constant.This is) (inl (n, refl, h, refl))
  seen (said.a_constant {scope} {e} {p} {w} {t} is h) = shown scope e (Expr-F.Constant p w) (a_set t) (layer-Constant e p w is) (inr (t, h, refl))
  seen (said.a_number {scope} {e} {p} {n} is) = shown scope e (Expr-F.Number p n) (a_set (number (pos n) p)) (layer-Number e p n is) refl
  seen (said.a_negative {scope} {e} {p} {n} is) = shown scope e (Expr-F.Negative p n) (a_set (number (pos 0 -ℤ pos n) p)) (layer-Negative e p n is) refl
  seen (said.a_literal {scope} {e} {p} {text} {n} is h) = shown scope e (Expr-F.Literal p text) (a_set (sig n)) (layer-Literal e p text is) (n, h, refl)
  seen (said.in_parentheses {scope} {e} {inner = a} {s} {p} is whole d) = shown scope e (Expr-F.Parenthesis p a) s (layer-Parenthesis e p a is) d
  seen (said.primed {scope} {e} {a} {t} is d) = shown scope e (Expr-F.Prime a) (a_set (prime t)) (layer-Prime e a is) (t, d, refl)
  seen (said.prefixed {scope} {e} {a} {r} {s} {p} {op} is d h) = shown scope e (Expr-F.Prefix p op a) s (layer-Prefix e p op a is) (r, d, h)
  seen (said.a_row {scope} {e} {first} {s} {links} is d) = shown scope e (Expr-F.Infix first links) s (layer-Infix e first links is) (inl d)
  seen (said.a_conjunction {scope} {e} {first} {links} {cs} is d) = shown scope e (Expr-F.Infix first links) (a_formula (every (claim_list cs))) (layer-Infix e first links is) (inr (cs, d, refl))
  seen (said.a_join {scope} {e} {first} {s} {steps} is d) = shown scope e (Expr-F.Join first steps) s (layer-Join e first steps is) d
  seen (said.an_implication {scope} {e} {a} {b} {c} {d} {is_word} is one two) = shown scope e (Expr-F.Implication is_word a b None) (a_formula (connect connective.Implies c d)) (layer-Implication e is_word a b None is) (c, d, one, two, refl)
  seen (said.a_choice {scope} {e} {a} {b} {other} {c} {r} {s} {u} {is_word} is one two three h) = shown scope e (Expr-F.Implication is_word a b (Some other)) u (layer-Implication e is_word a b (Some other) is) (c, r, s, one, two, three, h)
  seen (said.a_sequence {scope} {e} {a} {b} {c} {d} is one two) = shown scope e (Expr-F.Sequence a b) (a_formula (temporal_pair times.Then c d)) (layer-Sequence e a b is) (c, d, one, two, refl)
  seen (said.a_comparison {scope} {e} {a} {b} {s} {t} {u} {op} is one two h) = shown scope e (Expr-F.Compare op a b) s (layer-Compare e op a b is) (t, u, one, two, h)
  seen (said.a_block {scope} {e} {p} {items} {cs} is d) = shown scope e (Expr-F.Block p items) (a_formula (every (claim_list cs))) (layer-Block e p items is) (cs, d, refl)
  seen (said.a_let {scope} {e} {body} {s} {p} {bindings = bs} {has_bar} is d) = shown scope e (Expr-F.Let p bs has_bar body) s (layer-Let e p bs has_bar body is) d
  seen (said.a_comprehension {scope} {e} {body} {r} {s} {p} {decls = ds} {has_bar} {vs} is d b h) = shown scope e (Expr-F.Comprehension p ds has_bar body) s (layer-Comprehension e p ds has_bar body is) (vs, r, d, b, h)
  seen (said.a_quantified {scope} {e} {body} {r} {s} {p} {w} {decls = ds} {has_bar} {vs} is d b h) = shown scope e (Expr-F.Quantified p w ds has_bar body) s (layer-Quantified e p w ds has_bar body is) (vs, r, d, b, h)

  -- what an expression says, where its node is known
  pub told : (scope : Scope) (e : Expr) (z : Expr-F Expr) (s : Said) → out-Expr e ≡ z → Says at scope e s → Means scope z s
  told scope e z s is d = subst (λ (y : Expr-F Expr). Means scope y s) is (seen d)

  -- Rows.

  pub row_first : {scope : Scope} {first : Expr} {links : List (Infix × Expr)} {s : Said} → links ≡ [] → RowSays at scope first links s → Says at scope first s
  row_first none (said.first_operand d) = d
  row_first none (said.next_operand {e = e} {links = links} {op = op} is row d h) = absurd (no_last links (op, e) (sym none ∙ is))

  pub record RowEnd (scope : Scope) (first : Expr) (links : List (Infix × Expr)) (op : Infix) (e : Expr) (u : Said) : Type 0 where
    pub before : Said
    pub operand : Said
    pub row : RowSays at scope first links before
    pub says : Says at scope e operand
    pub link : Links op before operand u

  pub row_end : {scope : Scope} {first : Expr} {all : List (Infix × Expr)} {u : Said} (links : List (Infix × Expr)) (op : Infix) (e : Expr) → all ≡ links ++ (op, e) ∷ [] → RowSays at scope first all u → RowEnd scope first links op e u
  row_end links op e cut (said.first_operand d) = absurd (no_last links (op, e) cut)
  row_end links op e cut (said.next_operand {scope} {first} {e = f} {links = ls} {all} {op = o} {r} {s} {u} is row d link) =
      let two = same_last ls links (o, f) (op, e) (sym is ∙ cut) in
      record {
        before = r;
        operand = s;
        row = subst (λ (z : List (Infix × Expr)). RowSays at scope first z r) two.0 row;
        says = subst (λ (z : Infix × Expr). Says at scope z.1 s) two.1 d;
        link = subst (λ (z : Infix × Expr). Links z.0 r s u) two.1 link;
      }

  pub conjunct_first : {scope : Scope} {first : Expr} {links : List (Infix × Expr)} {cs : List Claim} → links ≡ [] → ConjunctsSay at scope first links cs → (c : Claim) × Says at scope first (a_formula c) × (cs ≡ c ∷ [])
  conjunct_first none (said.first_conjunct {c = c} d) = (c, d, refl)
  conjunct_first none (said.next_conjunct {e = e} {links = links} op is ends rest h d) = absurd (no_last links (op, e) (sym none ∙ is))

  pub record ConjunctEnd (scope : Scope) (first : Expr) (links : List (Infix × Expr)) (op : Infix) (e : Expr) (all : List Claim) : Type 0 where
    pub before : List Claim
    pub last : Claim
    pub rest : ConjunctsSay at scope first links before
    pub says : Says at scope e (a_formula last)
    pub joins : is_and op ≡ true
    pub whole : all ≡ before ++ last ∷ []

  pub conjunct_end : {scope : Scope} {first : Expr} {all : List (Infix × Expr)} {ds : List Claim} (links : List (Infix × Expr)) (op : Infix) (e : Expr) → all ≡ links ++ (op, e) ∷ [] → ConjunctsSay at scope first all ds → ConjunctEnd scope first links op e ds
  conjunct_end links op e cut (said.first_conjunct d) = absurd (no_last links (op, e) cut)
  conjunct_end links op e cut (said.next_conjunct {scope} {first} {e = f} {links = ls} {all} o {cs} {ds} {c} is ends rest h d) =
      let two = same_last ls links (o, f) (op, e) (sym is ∙ cut) in
      record {
        before = cs;
        last = c;
        rest = subst (λ (z : List (Infix × Expr)). ConjunctsSay at scope first z cs) two.0 rest;
        says = subst (λ (z : Infix × Expr). Says at scope z.1 (a_formula c)) two.1 d;
        joins = subst (λ (z : Infix × Expr). is_and z.0 ≡ true) two.1 h;
        whole = ends;
      }

  -- Items of a block.

  pub items_first : {scope : Scope} {items : List Expr} {cs : List Claim} → items ≡ [] → ItemsSay at scope items cs → cs ≡ []
  items_first none said.no_item = refl
  items_first none (said.next_item {e = e} {es = es} is ends rest d) = absurd (no_last es e (sym none ∙ is))

  pub record ItemEnd (scope : Scope) (es : List Expr) (e : Expr) (all : List Claim) : Type 0 where
    pub before : List Claim
    pub last : Claim
    pub rest : ItemsSay at scope es before
    pub says : Says at scope e (a_formula last)
    pub whole : all ≡ before ++ last ∷ []

  pub item_end : {scope : Scope} {all : List Expr} {ds : List Claim} (es : List Expr) (e : Expr) → all ≡ es ++ e ∷ [] → ItemsSay at scope all ds → ItemEnd scope es e ds
  item_end es e cut said.no_item = absurd (no_last es e cut)
  item_end es e cut (said.next_item {scope} {e = f} {es = fs} {all} {cs} {ds} {c} is ends rest d) =
      let two = same_last fs es f e (sym is ∙ cut) in
      record {
        before = cs;
        last = c;
        rest = subst (λ (z : List Expr). ItemsSay at scope z cs) two.0 rest;
        says = subst (λ (z : Expr). Says at scope z (a_formula c)) two.1 d;
        whole = ends;
      }

  -- Joins.

  pub steps_first : {scope : Scope} {first : Expr} {steps : List (Access Expr)} {s : Said} → steps ≡ [] → StepsSay at scope first steps s → Says at scope first s
  steps_first none (said.no_step d) = d
  steps_first none (said.dot {e = e} {steps = steps} is rest d h) = absurd (no_last steps (access.Dot e) (sym none ∙ is))
  steps_first none (said.box {steps = steps} {es = es} is rest d) = absurd (no_last steps (access.Bracket es) (sym none ∙ is))

  abbrev pub StepSays : Scope → Expr → List (Access Expr) → Access Expr → Said → Type 0
  StepSays scope first steps (access.Dot e) s = (t : Term) × (r : Said) × StepsSay at scope first steps (a_set t) × Says at scope e r × Takes at.bodies r t s
  StepSays scope first steps (access.Bracket es) s = (r : Said) × StepsSay at scope first steps r × ArgumentsSay at scope r es s

  pub step_end : {scope : Scope} {first : Expr} {all : List (Access Expr)} {s : Said} (steps : List (Access Expr)) (x : Access Expr) → all ≡ steps ++ x ∷ [] → StepsSay at scope first all s → StepSays scope first steps x s
  step_end steps x cut (said.no_step d) = absurd (no_last steps x cut)
  step_end steps x cut (said.dot {scope} {first} {e} {steps = ss} {all} {t} {r} {s} is rest d h) =
      let two = same_last ss steps (access.Dot e) x (sym is ∙ cut) in
      subst (λ (z : Access Expr). StepSays scope first steps z s) two.1 (t, r, subst (λ (z : List (Access Expr)). StepsSay at scope first z (a_set t)) two.0 rest, d, h)
  step_end steps x cut (said.box {scope} {first} {steps = ss} {all} {es} {r} {s} is rest d) =
      let two = same_last ss steps (access.Bracket es) x (sym is ∙ cut) in
      subst (λ (z : Access Expr). StepSays scope first steps z s) two.1 (r, subst (λ (z : List (Access Expr)). StepsSay at scope first z r) two.0 rest, d)

  pub arguments_first : {scope : Scope} {q : Said} {es : List Expr} {s : Said} → es ≡ [] → ArgumentsSay at scope q es s → q ≡ s
  arguments_first none said.no_argument = refl
  arguments_first none (said.next_argument {e = e} {es = es} is rest d h) = absurd (no_last es e (sym none ∙ is))

  pub record ArgumentEnd (scope : Scope) (q : Said) (es : List Expr) (e : Expr) (s : Said) : Type 0 where
    pub before : Said
    pub term : Term
    pub rest : ArgumentsSay at scope q es before
    pub says : Says at scope e (a_set term)
    pub takes : Takes at.bodies before term s

  pub argument_end : {scope : Scope} {q : Said} {all : List Expr} {s : Said} (es : List Expr) (e : Expr) → all ≡ es ++ e ∷ [] → ArgumentsSay at scope q all s → ArgumentEnd scope q es e s
  argument_end es e cut said.no_argument = absurd (no_last es e cut)
  argument_end es e cut (said.next_argument {scope} {e = f} {es = fs} {all} {t} {q} {r} {s} is rest d h) =
      let two = same_last fs es f e (sym is ∙ cut) in
      record {
        before = r;
        term = t;
        rest = subst (λ (z : List Expr). ArgumentsSay at scope q z r) two.0 rest;
        says = subst (λ (z : Expr). Says at scope z (a_set t)) two.1 d;
        takes = h;
      }
