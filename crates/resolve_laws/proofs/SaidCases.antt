-- What each form of an expression says is one thing, where this is so of its parts.
use Rattle.std.proofs.Common.{◌≡◌, ◌⊎◌, ℕ, Bool, List, [], Some, None, refl, sym, ap, ◌∙◌, inl, inr}
use Rattle.std.specs.Prelude.{pos, ◌-ℤ◌}
use Rattle.base_types.specs.declared.place.Position.{Position}
use Rattle.syntax_tree.specs.declared.operator.Infix.{Infix}
use Rattle.syntax_tree.specs.declared.operator.Prefix.{Prefix}
use Rattle.syntax_tree.specs.declared.operator.Quantifier.{Quantifier}
use Rattle.syntax_tree.specs.declared.operator.Comparison.{Comparison as Compared}
use Rattle.syntax_tree.specs.declared.operator.Constant.{Constant}
use Rattle.syntax_tree.specs.declared.expr.QualName.{QualName}
use Rattle.syntax_tree.specs.declared.expr.Decl.{Decl}
use Rattle.syntax_tree.specs.declared.expr.Binding.{Binding}
use Rattle.syntax_tree.specs.declared.expr.Access.{Access}
use Rattle.syntax_tree.specs.declared.expr.Expr.{Expr}
use Rattle.syntax_tree.specs.declared.expr.Expr.TheOpen.{Expr-F}
use Rattle.syntax_tree.specs.declared.expr.Expr.TheVariants as expr
use Rattle.core_tree.specs.declared.operators.Connective.TheVariants as connective
use Rattle.core_tree.specs.declared.operators.TemporalBinary.TheVariants as times
use Rattle.core_tree.specs.Trees.{Term, Claim, Binder, sig, field, number, every, prime, connect, temporal_pair, claim_list, variable_list}
use Rattle.resolve_said.specs.Operators.{Said, a_set, a_formula, Prefixes, ComparesBy, Chooses, Collects, Quantifies}
use Rattle.resolve_said.specs.Locals.{Scope, under_decls}
use Rattle.resolve_said.specs.Said as said
use Rattle.resolve_said.specs.Said.{Standing, NameSays, FieldSays, LiteralSays, constant_of, Says, RowSays, ConjunctsSay, ItemsSay, StepsSay, LetSays, DeclsSay}
use Rattle.resolve_told_literals.specs.Told.{LabelsDiffer}
use Rattle.resolve_laws.specs.Said.{repicked}
use Rattle.resolve_laws.proofs.Layers.{layer-Name, layer-At, layer-Constant, layer-Number, layer-Negative, layer-Literal, layer-Parenthesis, layer-Block, layer-Comprehension, layer-Quantified, layer-Let, layer-Sequence, layer-Implication, layer-Compare, layer-Prefix, layer-Infix, layer-Join, layer-Prime}
use Rattle.resolve_laws.proofs.SaidFunctional.{same_set, same_formula, links_no_and, prefixed_one, compared_one, chooses_one, collects_one, quantifies_one}
use Rattle.resolve_laws.proofs.SaidFine.{Picks, Fine, FineRow, FineItems, FineSteps, FineLet, FineDecls, fine_parenthesis, fine_prime, fine_prefix, fine_row, some_links, fine_join, fine_condition, fine_consequence, fine_other, fine_first, fine_second, fine_left, fine_right, fine_block, fine_let, fine_set, fine_set_bounds, fine_quantified, fine_bounds}
use Rattle.resolve_laws.proofs.SaidViews.{ConstantSays, ConjunctionSays, told, conjunct_end}
use Rattle.resolve_laws.proofs.SaidNames.{name_one, field_one, literal_one, constant_one}

-- a row of other operators is no list of conjuncts
no_both : (at other : Standing) {scope : Scope} {first : Expr} {links : List (Infix × Expr)} {s : Said} {cs : List Claim} → (links ≡ [] → ⊥) → RowSays at scope first links s → ConjunctsSay other scope first links cs → ⊥
no_both at other some (said.first_operand d) conjuncts = some refl
no_both at other some (said.next_operand {e = e} {links = links} {op = op} is row d link) conjuncts = links_no_and (conjunct_end other links op e is conjuncts).joins link

module _ (at : Standing) (picks : Picks) (differ : LabelsDiffer at.sigs) where
  abbrev pub other : Standing
  other = repicked at picks

  -- what each relation says by the other picks is this too
  abbrev pub One : Scope → Expr → Said → Type 0
  One scope e r = (s : Said) → Fine at.picks picks scope e → Says other scope e s → r ≡ s

  abbrev pub RowOne : Scope → Expr → List (Infix × Expr) → Said → Type 0
  RowOne scope first links r = (s : Said) → FineRow at.picks picks scope first links → RowSays other scope first links s → r ≡ s

  abbrev pub ConjunctsOne : Scope → Expr → List (Infix × Expr) → List Claim → Type 0
  ConjunctsOne scope first links cs = (ds : List Claim) → FineRow at.picks picks scope first links → ConjunctsSay other scope first links ds → cs ≡ ds

  abbrev pub ItemsOne : Scope → List Expr → List Claim → Type 0
  ItemsOne scope es cs = (ds : List Claim) → FineItems at.picks picks scope es → ItemsSay other scope es ds → cs ≡ ds

  abbrev pub StepsOne : Scope → Expr → List (Access Expr) → Said → Type 0
  StepsOne scope first steps r = (s : Said) → FineSteps at.picks picks scope first steps → StepsSay other scope first steps s → r ≡ s

  abbrev pub LetsOne : Scope → List (Binding Expr) → Expr → Said → Type 0
  LetsOne scope bs body r = (s : Said) → FineLet at.picks picks scope bs body → LetSays other scope bs body s → r ≡ s

  abbrev pub DeclsOne : Scope → List (Decl Expr) → List Binder → Type 0
  DeclsOne scope ds vs = (ws : List Binder) → FineDecls at.picks picks scope ds → DeclsSay other scope ds ws → vs ≡ ws

  -- Forms without parts.

  pub a_name : (scope : Scope) (e : Expr) (q : QualName) (r : Said) → e ≡ expr.Name q → NameSays at scope q r → One scope e r
  a_name scope e q r is h s fine d = name_one at picks scope e q r s is fine.agree h (told other scope e (Expr-F.Name q) s (layer-Name e q is) d)

  pub a_field : (scope : Scope) (e : Expr) (p : Position) (q : QualName) (f : ℕ) → e ≡ expr.At p q → FieldSays at q f → One scope e (a_set (field f))
  a_field scope e p q f is h s fine d =
      let m = told other scope e (Expr-F.At p q) s (layer-At e p q is) d in
      ap (λ (x : ℕ). a_set (field x)) (field_one at picks scope e p q f m.0 is fine.agree h m.1) ∙ sym m.2

  pub a_word : (scope : Scope) (e : Expr) (p : Position) (w : Constant) (r : Said) → e ≡ expr.Constant p w → ConstantSays at scope w r → One scope e r
  a_word scope e p w r is h s fine d = constant_one at picks scope w r s h (told other scope e (Expr-F.Constant p w) s (layer-Constant e p w is) d)

  pub a_number : (scope : Scope) (e : Expr) (p : Position) (n : ℕ) → e ≡ expr.Number p n → One scope e (a_set (number (pos n) p))
  a_number scope e p n is s fine d = sym (told other scope e (Expr-F.Number p n) s (layer-Number e p n is) d)

  pub a_negative : (scope : Scope) (e : Expr) (p : Position) (n : ℕ) → e ≡ expr.Negative p n → One scope e (a_set (number (pos 0 -ℤ pos n) p))
  a_negative scope e p n is s fine d = sym (told other scope e (Expr-F.Negative p n) s (layer-Negative e p n is) d)

  pub a_literal : (scope : Scope) (e : Expr) (p : Position) (text : List ℕ) (n : ℕ) → e ≡ expr.Literal p text → LiteralSays at text n → One scope e (a_set (sig n))
  a_literal scope e p text n is h s fine d =
      let m = told other scope e (Expr-F.Literal p text) s (layer-Literal e p text is) d in
      ap (λ (x : ℕ). a_set (sig x)) (literal_one at picks text n m.0 differ h m.1) ∙ sym m.2

  -- Forms with one part or two.

  pub in_parentheses : (scope : Scope) (e a : Expr) (p : Position) (r : Said) → e ≡ expr.Parenthesis p a → One scope a r → One scope e r
  in_parentheses scope e a p r is one s fine d = one s (fine_parenthesis at.picks picks scope e a p is fine) (told other scope e (Expr-F.Parenthesis p a) s (layer-Parenthesis e p a is) d)

  pub primed : (scope : Scope) (e a : Expr) (t : Term) → e ≡ expr.Prime a → One scope a (a_set t) → One scope e (a_set (prime t))
  primed scope e a t is one s fine d =
      let m = told other scope e (Expr-F.Prime a) s (layer-Prime e a is) d in
      ap (λ (x : Term). a_set (prime x)) (same_set t m.0 (one (a_set m.0) (fine_prime at.picks picks scope e a is fine) m.1)) ∙ sym m.2

  pub prefixed : (scope : Scope) (e a : Expr) (p : Position) (op : Prefix) (q r : Said) → e ≡ expr.Prefix p op a → Prefixes op q r → One scope a q → One scope e r
  prefixed scope e a p op q r is h one s fine d =
      let m = told other scope e (Expr-F.Prefix p op a) s (layer-Prefix e p op a is) d in
      prefixed_one op q m.0 r s (one m.0 (fine_prefix at.picks picks scope e a p op is fine) m.1) h m.2

  pub an_implication : (scope : Scope) (e a b : Expr) (is_word : Bool) (c f : Claim) → e ≡ expr.Implication is_word a b None → One scope a (a_formula c) → One scope b (a_formula f) → One scope e (a_formula (connect connective.Implies c f))
  an_implication scope e a b is_word c f is one two s fine d =
      let m = told other scope e (Expr-F.Implication is_word a b None) s (layer-Implication e is_word a b None is) d in
      ap (λ (x : Claim). a_formula (connect connective.Implies x f)) (same_formula c m.0 (one (a_formula m.0) (fine_condition at.picks picks scope e a b None is_word is fine) m.2))
      ∙ (ap (λ (x : Claim). a_formula (connect connective.Implies m.0 x)) (same_formula f m.1 (two (a_formula m.1) (fine_consequence at.picks picks scope e a b None is_word is fine) m.3)) ∙ sym m.4)

  pub a_choice : (scope : Scope) (e a b o : Expr) (is_word : Bool) (c : Claim) (q r u : Said) → e ≡ expr.Implication is_word a b (Some o) → Chooses c q r u → One scope a (a_formula c) → One scope b q → One scope o r → One scope e u
  a_choice scope e a b o is_word c q r u is h one two three s fine d =
      let m = told other scope e (Expr-F.Implication is_word a b (Some o)) s (layer-Implication e is_word a b (Some o) is) d in
      chooses_one c m.0 q r m.1 m.2 u s (same_formula c m.0 (one (a_formula m.0) (fine_condition at.picks picks scope e a b (Some o) is_word is fine) m.3))
      (two m.1 (fine_consequence at.picks picks scope e a b (Some o) is_word is fine) m.4) (three m.2 (fine_other at.picks picks scope e a b o is_word is fine) m.5) h m.6

  pub a_sequence : (scope : Scope) (e a b : Expr) (c f : Claim) → e ≡ expr.Sequence a b → One scope a (a_formula c) → One scope b (a_formula f) → One scope e (a_formula (temporal_pair times.Then c f))
  a_sequence scope e a b c f is one two s fine d =
      let m = told other scope e (Expr-F.Sequence a b) s (layer-Sequence e a b is) d in
      ap (λ (x : Claim). a_formula (temporal_pair times.Then x f)) (same_formula c m.0 (one (a_formula m.0) (fine_first at.picks picks scope e a b is fine) m.2))
      ∙ (ap (λ (x : Claim). a_formula (temporal_pair times.Then m.0 x)) (same_formula f m.1 (two (a_formula m.1) (fine_second at.picks picks scope e a b is fine) m.3)) ∙ sym m.4)

  pub a_comparison : (scope : Scope) (e a b : Expr) (op : Compared) (t u : Term) (r : Said) → e ≡ expr.Compare op a b → ComparesBy op t u r → One scope a (a_set t) → One scope b (a_set u) → One scope e r
  a_comparison scope e a b op t u r is h one two s fine d =
      let m = told other scope e (Expr-F.Compare op a b) s (layer-Compare e op a b is) d in
      compared_one op t u m.0 m.1 r s (same_set t m.0 (one (a_set m.0) (fine_left at.picks picks scope e a b op is fine) m.2)) (same_set u m.1 (two (a_set m.1) (fine_right at.picks picks scope e a b op is fine) m.3)) h m.4

  -- Forms with a list.

  by_row : (scope : Scope) (first : Expr) (links : List (Infix × Expr)) (r s : Said) → (links ≡ [] → ⊥) → FineRow at.picks picks scope first links → RowSays at scope first links r → RowOne scope first links r → RowSays other scope first links s ⊎ ConjunctionSays other scope first links s → r ≡ s
  by_row scope first links r s some fine row one (inl d) = one s fine d
  by_row scope first links r s some fine row one (inr d) = absurd (no_both at other some row d.1)

  pub a_row : (scope : Scope) (e first : Expr) (links : List (Infix × Expr)) (r : Said) → e ≡ expr.Infix first links → RowSays at scope first links r → RowOne scope first links r → One scope e r
  a_row scope e first links r is row one s fine d =
      by_row scope first links r s (some_links at.picks picks scope e first links is fine) (fine_row at.picks picks scope e first links is fine) row one (told other scope e (Expr-F.Infix first links) s (layer-Infix e first links is) d)

  by_conjuncts : (scope : Scope) (first : Expr) (links : List (Infix × Expr)) (cs : List Claim) (s : Said) → (links ≡ [] → ⊥) → FineRow at.picks picks scope first links → ConjunctsSay at scope first links cs → ConjunctsOne scope first links cs →
      RowSays other scope first links s ⊎ ConjunctionSays other scope first links s → a_formula (every (claim_list cs)) ≡ s
  by_conjuncts scope first links cs s some fine conjuncts one (inl d) = absurd (no_both other at some d conjuncts)
  by_conjuncts scope first links cs s some fine conjuncts one (inr d) = ap (λ (x : List Claim). a_formula (every (claim_list x))) (one d.0 fine d.1) ∙ sym d.2

  pub a_conjunction : (scope : Scope) (e first : Expr) (links : List (Infix × Expr)) (cs : List Claim) → e ≡ expr.Infix first links → ConjunctsSay at scope first links cs → ConjunctsOne scope first links cs → One scope e (a_formula (every (claim_list cs)))
  a_conjunction scope e first links cs is conjuncts one s fine d =
      by_conjuncts scope first links cs s (some_links at.picks picks scope e first links is fine) (fine_row at.picks picks scope e first links is fine) conjuncts one (told other scope e (Expr-F.Infix first links) s (layer-Infix e first links is) d)

  pub a_join : (scope : Scope) (e first : Expr) (steps : List (Access Expr)) (r : Said) → e ≡ expr.Join first steps → StepsOne scope first steps r → One scope e r
  a_join scope e first steps r is one s fine d = one s (fine_join at.picks picks scope e first steps is fine) (told other scope e (Expr-F.Join first steps) s (layer-Join e first steps is) d)

  pub a_block : (scope : Scope) (e : Expr) (p : Position) (items : List Expr) (cs : List Claim) → e ≡ expr.Block p items → ItemsOne scope items cs → One scope e (a_formula (every (claim_list cs)))
  a_block scope e p items cs is one s fine d =
      let m = told other scope e (Expr-F.Block p items) s (layer-Block e p items is) d in
      ap (λ (x : List Claim). a_formula (every (claim_list x))) (one m.0 (fine_block at.picks picks scope e p items is fine) m.1) ∙ sym m.2

  pub a_let : (scope : Scope) (e body : Expr) (p : Position) (bs : List (Binding Expr)) (has_bar : Bool) (r : Said) → e ≡ expr.Let p bs has_bar body → LetsOne scope bs body r → One scope e r
  a_let scope e body p bs has_bar r is one s fine d = one s (fine_let at.picks picks scope e body p bs has_bar is fine) (told other scope e (Expr-F.Let p bs has_bar body) s (layer-Let e p bs has_bar body is) d)

  pub a_comprehension : (scope : Scope) (e body : Expr) (p : Position) (ds : List (Decl Expr)) (has_bar : Bool) (vs : List Binder) (q r : Said) → e ≡ expr.Comprehension p ds has_bar body → Collects (variable_list vs) q r → DeclsOne scope ds vs →
      One (under_decls scope ds) body q → One scope e r
  a_comprehension scope e body p ds has_bar vs q r is h bounds one s fine d =
      let m = told other scope e (Expr-F.Comprehension p ds has_bar body) s (layer-Comprehension e p ds has_bar body is) d in
      collects_one (variable_list vs) (variable_list m.0) q m.1 r s (ap variable_list (bounds m.0 (fine_set_bounds at.picks picks scope e body p ds has_bar is fine) m.2)) (one m.1 (fine_set at.picks picks scope e body p ds has_bar is fine) m.3) h m.4

  pub a_quantified : (scope : Scope) (e body : Expr) (p : Position) (w : Quantifier) (ds : List (Decl Expr)) (has_bar : Bool) (vs : List Binder) (q r : Said) → e ≡ expr.Quantified p w ds has_bar body → Quantifies (variable_list vs) w q r → DeclsOne scope ds vs →
      One (under_decls scope ds) body q → One scope e r
  a_quantified scope e body p w ds has_bar vs q r is h bounds one s fine d =
      let m = told other scope e (Expr-F.Quantified p w ds has_bar body) s (layer-Quantified e p w ds has_bar body is) d in
      quantifies_one (variable_list vs) (variable_list m.0) w q m.1 r s (ap variable_list (bounds m.0 (fine_bounds at.picks picks scope e body p w ds has_bar is fine) m.2)) (one m.1 (fine_quantified at.picks picks scope e body p w ds has_bar is fine) m.3) h m.4
