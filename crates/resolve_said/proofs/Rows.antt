-- A part more of a row, of a block, of a `let` or of declarations.
use Rattle.std.proofs.Common.{◌≡◌, ◌∙◌, ℕ, ◌+◌, ◌-◌, ◌<◌, ◌≤◌, true, List, [], ◌∷◌, ◌++◌, map, length, take, drop, get_or, sym, ap, subst, arith}
use Rattle.std.proofs.lemmas.List.{drop_all, take_all}
use Rattle.syntax_tree.specs.declared.operator.Infix.{Infix}
use Rattle.syntax_tree.specs.declared.expr.Named.{Named}
use Rattle.syntax_tree.specs.declared.expr.Decl.{Decl}
use Rattle.syntax_tree.specs.declared.expr.Binding.{Binding}
use Rattle.syntax_tree.specs.declared.expr.Access.{Access}
use Rattle.syntax_tree.specs.declared.expr.Expr.{Expr}
use Rattle.core_tree.specs.declared.tree.Formula.{Formula}
use Rattle.core_tree.specs.declared.tree.Variable.{Variable}
use Rattle.core_tree.specs.Trees.{Claim, Term, claim_of, term_of, variable_of}
use Rattle.resolve_said.specs.Locals.{Scope, under_decls, under_values}
use Rattle.resolve_said.specs.Operators.{Said, a_set, a_formula, Links, Lets, Takes, is_and}
use Rattle.resolve_said.specs.Said.{Standing, Says, RowSays, first_operand, next_operand, ConjunctsSay, next_conjunct, ItemsSay, next_item, StepsSay, no_step, ArgumentsSay, no_argument, next_argument, LetSays, let_body, let_value, DeclsSay, next_decl, VariablesSay, next_variable, apart_from}
use Rattle.resolve_said.proofs.Lists.{take_next, drop_next, take_back, take_none, take_whole, map_next, map_parts, take_length}
use Rattle.resolve_said.proofs.Scopes.{values_behind}

module _ (at : Standing) (scope : Scope) where
  -- what one tree says another one says that is the same
  pub seen : {t u : Expr} {s : Said} → t ≡ u → Says at scope t s → Says at scope u s
  seen {s = s} same says = subst (λ (e : Expr). Says at scope e s) same says

  -- rows, from the last operand back
  pub row_whole : (first : Expr) (links : List (Infix × Expr)) (s : Said) → RowSays at scope first (take (length links - 0) links) s → RowSays at scope first links s
  row_whole first links s row = subst (λ (l : List (Infix × Expr)). RowSays at scope first l s) (take_whole links) row

  pub row_start : (first : Expr) (links : List (Infix × Expr)) (step : ℕ) (s : Said) → length links ≤ step → Says at scope first s → RowSays at scope first (take (length links - step) links) s
  row_start first links step s past says = subst (λ (l : List (Infix × Expr)). RowSays at scope first l s) (sym (take_none links step past)) (first_operand says)

  pub row_back : (first : Expr) (links : List (Infix × Expr)) (step place : ℕ) (link : Infix × Expr) (r s u : Said) → step < length links → place ≡ length links - 1 - step → link ≡ get_or links place link →
      Links link.0 r s u → Says at scope link.1 s → RowSays at scope first (take (length links - (step + 1)) links) r → RowSays at scope first (take (length links - step) links) u
  row_back first links step place link r s u inside here same op says row = next_operand (take_back links step place link inside here same) row says op

  pub steps_whole : (first : Expr) (steps : List (Access Expr)) (s : Said) → StepsSay at scope first (take (length steps - 0) steps) s → StepsSay at scope first steps s
  steps_whole first steps s row = subst (λ (l : List (Access Expr)). StepsSay at scope first l s) (take_whole steps) row

  pub steps_start : (first : Expr) (steps : List (Access Expr)) (step : ℕ) (s : Said) → length steps ≤ step → Says at scope first s → StepsSay at scope first (take (length steps - step) steps) s
  steps_start first steps step s past says = subst (λ (l : List (Access Expr)). StepsSay at scope first l s) (sym (take_none steps step past)) (no_step says)

  pub steps_back : (first : Expr) (steps : List (Access Expr)) (step place : ℕ) (one : Access Expr) (r s : Said) → step < length steps → place ≡ length steps - 1 - step → one ≡ get_or steps place one →
      ((f : Expr) (before all : List (Access Expr)) → all ≡ before ++ one ∷ [] → StepsSay at scope f before r → StepsSay at scope f all s) →
      StepsSay at scope first (take (length steps - (step + 1)) steps) r → StepsSay at scope first (take (length steps - step) steps) s
  steps_back first steps step place one r s inside here same more row = more first _ _ (take_back steps step place one inside here same) row

  pub box_whole : (r : Said) (es : List Expr) (s : Said) → ArgumentsSay at scope r (take (length es - 0) es) s → ArgumentsSay at scope r es s
  box_whole r es s row = subst (λ (l : List Expr). ArgumentsSay at scope r l s) (take_whole es) row

  pub box_start : (es : List Expr) (step : ℕ) (s : Said) → length es ≤ step → ArgumentsSay at scope s (take (length es - step) es) s
  box_start es step s past = subst (λ (l : List Expr). ArgumentsSay at scope s l s) (sym (take_none es step past)) no_argument

  pub box_back : (q : Said) (es : List Expr) (step place : ℕ) (e : Expr) (t : Term) (r s : Said) → step < length es → place ≡ length es - 1 - step → e ≡ get_or es place e →
      Takes at.bodies r t s → Says at scope e (a_set t) → ArgumentsSay at scope q (take (length es - (step + 1)) es) r → ArgumentsSay at scope q (take (length es - step) es) s
  box_back q es step place e t r s inside here same takes says row = next_argument (take_back es step place e inside here same) row says takes

  -- conjunctions and blocks, from the first on
  pub conjuncts_next : (first : Expr) (c : Claim) (links : List (Infix × Expr)) (fs : List Formula) (place : ℕ) (link : Infix × Expr) (f : Formula) → place < length links → link ≡ get_or links place link → place < length fs → f ≡ get_or fs place f →
      is_and link.0 ≡ true → Says at scope link.1 (a_formula (claim_of f)) → ConjunctsSay at scope first (take place links) (c ∷ map claim_of (take place fs)) → ConjunctsSay at scope first (take (place + 1) links) (c ∷ map claim_of (take (place + 1) fs))
  conjuncts_next first c links fs place link f inside same within equal op says row =
      next_conjunct link.0 (take_next links place link inside same) (ap (λ z. c ∷ z) (map_next claim_of fs place f within equal)) row op says

  pub conjuncts_end : (first : Expr) (c : Claim) (links : List (Infix × Expr)) (fs : List Formula) (place : ℕ) → length links ≤ place → length fs ≡ length links → ConjunctsSay at scope first (take place links) (c ∷ map claim_of (take place fs)) → ConjunctsSay at scope first links (c ∷ map claim_of fs)
  conjuncts_end first c links fs place past many row =
      subst (λ (l : List Formula). ConjunctsSay at scope first links (c ∷ map claim_of l)) (take_all place fs (omega arith)) (subst (λ (l : List (Infix × Expr)). ConjunctsSay at scope first l (c ∷ map claim_of (take place fs))) (take_all place links past) row)

  pub items_next : (es : List Expr) (fs : List Formula) (place : ℕ) (e : Expr) (f : Formula) → place < length es → e ≡ get_or es place e → place < length fs → f ≡ get_or fs place f →
      Says at scope e (a_formula (claim_of f)) → ItemsSay at scope (take place es) (map claim_of (take place fs)) → ItemsSay at scope (take (place + 1) es) (map claim_of (take (place + 1) fs))
  items_next es fs place e f inside same within equal says row = next_item (take_next es place e inside same) (map_next claim_of fs place f within equal) row says

  pub items_end : (es : List Expr) (fs : List Formula) (place : ℕ) → length es ≤ place → length es ≡ length fs → ItemsSay at scope (take place es) (map claim_of (take place fs)) → ItemsSay at scope es (map claim_of fs)
  items_end es fs place past many row =
      subst (λ (l : List Formula). ItemsSay at scope es (map claim_of l)) (take_all place fs (omega arith)) (subst (λ (l : List Expr). ItemsSay at scope l (map claim_of (take place fs))) (take_all place es past) row)

  -- the variables of one declaration
  pub variables_next : (d : Decl Expr) (vs : List Variable) (place : ℕ) (n : Named) (v : Variable) → place < length d.names → n ≡ get_or d.names place n → place < length vs → v ≡ get_or vs place v →
      Says at scope d.bound (a_set (term_of v.bound)) → v.name ≡ length scope + place → v.apart ≡ apart_from d.is_disjoint place →
      VariablesSay at scope d (take place d.names) (map variable_of (take place vs)) → VariablesSay at scope d (take (place + 1) d.names) (map variable_of (take (place + 1) vs))
  variables_next d vs place n v inside same within equal says number apart row =
      let count : length (take place d.names) ≡ place = take_length d.names place (omega arith) in
      next_variable n (variable_of v) (take_next d.names place n inside same) (map_next variable_of vs place v within equal) row says
      (number ∙ ap (λ k. length scope + k) (sym count)) (apart ∙ ap (apart_from d.is_disjoint) (sym count))

  pub variables_end : (d : Decl Expr) (vs : List Variable) (place : ℕ) → length vs ≤ place → length vs ≡ length d.names → VariablesSay at scope d (take place d.names) (map variable_of (take place vs)) → VariablesSay at scope d d.names (map variable_of vs)
  variables_end d vs place past many row =
      subst (λ (l : List Variable). VariablesSay at scope d d.names (map variable_of l)) (take_all place vs past) (subst (λ (l : List Named). VariablesSay at scope d l (map variable_of (take place vs))) (take_all place d.names (omega arith)) row)

  -- declarations
  pub decls_next : (ds : List (Decl Expr)) (vs own : List Variable) (place from : ℕ) (d : Decl Expr) → place < length ds → d ≡ get_or ds place d → take (from + length own) vs ≡ take from vs ++ own →
      VariablesSay at (under_decls scope (take place ds)) d d.names (map variable_of own) → DeclsSay at scope (take place ds) (map variable_of (take from vs)) → DeclsSay at scope (take (place + 1) ds) (map variable_of (take (from + length own) vs))
  decls_next ds vs own place from d inside same parts says row =
      next_decl (take_next ds place d inside same) (ap (map variable_of) parts ∙ map_parts variable_of (take from vs) own) row says

  pub decls_end : (ds : List (Decl Expr)) (vs : List Variable) (place from : ℕ) → length ds ≤ place → from ≡ length vs → DeclsSay at scope (take place ds) (map variable_of (take from vs)) → DeclsSay at scope ds (map variable_of vs)
  decls_end ds vs place from past whole row =
      subst (λ (l : List Variable). DeclsSay at scope ds (map variable_of l)) (take_all from vs (omega arith)) (subst (λ (l : List (Decl Expr)). DeclsSay at scope l (map variable_of (take from vs))) (take_all place ds past) row)

-- how many names there are under those of a `let`
pub values_count : (scope : Scope) (bs : List (Binding Expr)) → length (under_values scope bs) ≡ length scope + length bs
values_count scope [] = omega arith
values_count scope (b ∷ bs) = values_count (b.name ∷ scope) bs ∙ omega arith

module _ (at : Standing) (scope : Scope) (body : Expr) where
  pub let_next : (bs : List (Binding Expr)) (place n : ℕ) (b : Binding Expr) (t : Term) (r s : Said) → place < length bs → b ≡ get_or bs place b → n ≡ length scope + place → Lets n t r s →
      Says at (under_values scope (take place bs)) b.value (a_set t) → LetSays at (under_values scope (take (place + 1) bs)) (drop (place + 1) bs) body r → LetSays at (under_values scope (take place bs)) (drop place bs) body s
  let_next bs place n b t r s inside same number op says row =
      let count : n ≡ length (under_values scope (take place bs)) = number ∙ ap (λ k. length scope + k) (sym (take_length bs place (omega arith))) ∙ sym (values_count scope (take place bs)) in
      let_value (drop_next bs place b inside same) says
      (subst (λ (sc : Scope). LetSays at sc (drop (place + 1) bs) body r) (ap (under_values scope) (take_next bs place b inside same) ∙ values_behind scope (take place bs) b) row)
      (subst (λ (m : ℕ). Lets m t r s) count op)

  pub let_end : (bs : List (Binding Expr)) (place : ℕ) (s : Said) → length bs ≤ place → Says at (under_values scope bs) body s → LetSays at (under_values scope (take place bs)) (drop place bs) body s
  let_end bs place s past says =
      subst (λ (l : List (Binding Expr)). LetSays at (under_values scope l) (drop place bs) body s) (sym (take_all place bs past))
      (subst (λ (l : List (Binding Expr)). LetSays at (under_values scope bs) l body s) (sym (drop_all place bs past)) (let_body says))
