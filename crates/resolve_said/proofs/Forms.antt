-- What a form of the text says, from what its parts say.
use Rattle.std.proofs.Common.{◌≡◌, ◌∙◌, ℕ, ◌+◌, ◌-◌, ◌<◌, Bool, List, [], ◌∷◌, ◌++◌, map, length, take, get_or, Option, Some, None, sym, ap, subst, arith}
use Rattle.base_types.specs.declared.place.Position.{Position}
use Rattle.syntax_tree.specs.declared.operator.Infix.{Infix}
use Rattle.syntax_tree.specs.declared.operator.Quantifier.{Quantifier}
use Rattle.syntax_tree.specs.declared.expr.Decl.{Decl}
use Rattle.syntax_tree.specs.declared.expr.Binding.{Binding}
use Rattle.syntax_tree.specs.declared.expr.Access.{Access}
use Rattle.syntax_tree.specs.declared.expr.Access.TheVariants as access
use Rattle.syntax_tree.specs.declared.expr.Expr.{Expr}
use Rattle.syntax_tree.specs.declared.expr.Expr.TheVariants as expr
use Rattle.core_tree.specs.declared.operators.Connective.TheVariants as connective
use Rattle.core_tree.specs.declared.operators.TemporalBinary.TheVariants as times
use Rattle.core_tree.specs.declared.tree.Formula.{Formula}
use Rattle.core_tree.specs.declared.tree.Variable.{Variable}
use Rattle.core_tree.specs.Trees.{Term, Claim, claim_of, variable_of, prime, every, connect, temporal_pair, claim_list, variable_list}
use Rattle.resolve_said.specs.Locals.{Scope, under_decls}
use Rattle.resolve_said.specs.Operators.{Said, a_set, a_formula, Takes, Chooses, Collects, Quantifies}
use Rattle.resolve_said.specs.Said.{Standing, Says, RowSays, ConjunctsSay, ItemsSay, StepsSay, ArgumentsSay, LetSays, DeclsSay, primed, a_row, a_conjunction, a_join, an_implication, a_choice, a_sequence, a_block, a_let, a_comprehension, a_quantified, dot, box}
use Rattle.resolve_said.proofs.Lists.{take_next}

module _ (at : Standing) (scope : Scope) (e : Expr) (s : Said) where
  said_as : (r : Said) → s ≡ r → Says at scope e r → Says at scope e s
  said_as r same says = subst (λ (x : Said). Says at scope e x) (sym same) says

  pub prime_case : (a b : Expr) (t : Term) → e ≡ expr.Prime a → b ≡ a → s ≡ a_set (prime t) → Says at scope b (a_set t) → Says at scope e s
  prime_case a b t is same said says = said_as _ said (primed is (subst (λ (x : Expr). Says at scope x (a_set t)) same says))

  pub block_case : (p : Position) (items es : List Expr) (fs : List Formula) → e ≡ expr.Block p items → es ≡ items → s ≡ a_formula (every (claim_list (map claim_of fs))) → ItemsSay at scope es (map claim_of fs) → Says at scope e s
  block_case p items es fs is same said says = said_as _ said (a_block is (subst (λ (x : List Expr). ItemsSay at scope x (map claim_of fs)) same says))

  pub conjunction_case : (first f : Expr) (links ls : List (Infix × Expr)) (cs : List Claim) → e ≡ expr.Infix first links → ls ≡ links → s ≡ a_formula (every (claim_list cs)) → ConjunctsSay at scope f ls cs → f ≡ first → Says at scope e s
  conjunction_case first f links ls cs is same said says first_is = said_as _ said (a_conjunction is (subst (λ (x : Expr). ConjunctsSay at scope x links cs) first_is (subst (λ (x : List (Infix × Expr)). ConjunctsSay at scope f x cs) same says)))

  pub row_case : (first f : Expr) (links ls : List (Infix × Expr)) → e ≡ expr.Infix first links → ls ≡ links → f ≡ first → RowSays at scope f ls s → Says at scope e s
  row_case first f links ls is same first_is says = a_row is (subst (λ (x : Expr). RowSays at scope x links s) first_is (subst (λ (x : List (Infix × Expr)). RowSays at scope f x s) same says))

  pub join_case : (first f : Expr) (steps ss : List (Access Expr)) → e ≡ expr.Join first steps → ss ≡ steps → f ≡ first → StepsSay at scope f ss s → Says at scope e s
  join_case first f steps ss is same first_is says = a_join is (subst (λ (x : Expr). StepsSay at scope x steps s) first_is (subst (λ (x : List (Access Expr)). StepsSay at scope f x s) same says))

  pub let_case : (p : Position) (bindings bs : List (Binding Expr)) (has_bar : Bool) (body b : Expr) → e ≡ expr.Let p bindings has_bar body → bs ≡ bindings → b ≡ body → LetSays at scope bs b s → Says at scope e s
  let_case p bindings bs has_bar body b is same body_is says = a_let is (subst (λ (x : Expr). LetSays at scope bindings x s) body_is (subst (λ (x : List (Binding Expr)). LetSays at scope x b s) same says))

  pub implication_case : (w : Bool) (a b x y : Expr) (o : Option Expr) (c d : Claim) → e ≡ expr.Implication w a b o → o ≡ None → x ≡ a → y ≡ b → s ≡ a_formula (connect connective.Implies c d) → Says at scope x (a_formula c) → Says at scope y (a_formula d) → Says at scope e s
  implication_case w a b x y o c d is none ex ey said first second =
      said_as _ said (an_implication (is ∙ ap (expr.Implication w a b) none) (subst (λ (z : Expr). Says at scope z (a_formula c)) ex first) (subst (λ (z : Expr). Says at scope z (a_formula d)) ey second))

  pub choice_case : (w : Bool) (a b o : Expr) (x y z : Expr) (p : Option Expr) (c : Claim) (r u : Said) → e ≡ expr.Implication w a b p → p ≡ Some o → x ≡ a → y ≡ b → z ≡ o →
      Says at scope x (a_formula c) → Says at scope y r → Says at scope z u → Chooses c r u s → Says at scope e s
  choice_case w a b o x y z p c r u is some ex ey ez first second third op =
      a_choice (is ∙ ap (expr.Implication w a b) some) (subst (λ (q : Expr). Says at scope q (a_formula c)) ex first) (subst (λ (q : Expr). Says at scope q r) ey second) (subst (λ (q : Expr). Says at scope q u) ez third) op

  pub sequence_case : (a b x y : Expr) (c d : Claim) → e ≡ expr.Sequence a b → x ≡ a → y ≡ b → s ≡ a_formula (temporal_pair times.Then c d) → Says at scope x (a_formula c) → Says at scope y (a_formula d) → Says at scope e s
  sequence_case a b x y c d is ex ey said first second =
      said_as _ said (a_sequence is (subst (λ (z : Expr). Says at scope z (a_formula c)) ex first) (subst (λ (z : Expr). Says at scope z (a_formula d)) ey second))

  pub comprehension_case : (p : Position) (decls ds : List (Decl Expr)) (has_bar : Bool) (body b : Expr) (vs : List Variable) (r : Said) → e ≡ expr.Comprehension p decls has_bar body → ds ≡ decls → b ≡ body → DeclsSay at scope ds (map variable_of vs) →
      Says at (under_decls scope ds) b r → Collects (variable_list (map variable_of vs)) r s → Says at scope e s
  comprehension_case p decls ds has_bar body b vs r is same body_is says inner op =
      a_comprehension is (subst (λ (x : List (Decl Expr)). DeclsSay at scope x (map variable_of vs)) same says)
      (subst (λ (x : Expr). Says at (under_decls scope decls) x r) body_is (subst (λ (x : List (Decl Expr)). Says at (under_decls scope x) b r) same inner)) op

  pub quantified_case : (p : Position) (w : Quantifier) (decls ds : List (Decl Expr)) (has_bar : Bool) (body b : Expr) (vs : List Variable) (r : Said) → e ≡ expr.Quantified p w decls has_bar body → ds ≡ decls → b ≡ body → DeclsSay at scope ds (map variable_of vs) →
      Says at (under_decls scope ds) b r → Quantifies (variable_list (map variable_of vs)) w r s → Says at scope e s
  quantified_case p w decls ds has_bar body b vs r is same body_is says inner op =
      a_quantified is (subst (λ (x : List (Decl Expr)). DeclsSay at scope x (map variable_of vs)) same says)
      (subst (λ (x : Expr). Says at (under_decls scope decls) x r) body_is (subst (λ (x : List (Decl Expr)). Says at (under_decls scope x) b r) same inner)) op

module _ (at : Standing) (scope : Scope) (first : Expr) (steps : List (Access Expr)) where
  pub dot_case : (place : ℕ) (one : Access Expr) (a : Expr) (t : Term) (r s : Said) → place < length steps → one ≡ get_or steps place one → one ≡ access.Dot a → Takes at.bodies r t s → Says at scope a r → StepsSay at scope first (take place steps) (a_set t) → StepsSay at scope first (take (place + 1) steps) s
  dot_case place one a t r s inside here is takes says row = dot (take_next steps place one inside here ∙ ap (λ z. take place steps ++ z ∷ []) is) row says takes

  pub box_case : (place : ℕ) (one : Access Expr) (es xs : List Expr) (r s : Said) → place < length steps → one ≡ get_or steps place one → one ≡ access.Bracket es → xs ≡ es → ArgumentsSay at scope r xs s → StepsSay at scope first (take place steps) r → StepsSay at scope first (take (place + 1) steps) s
  box_case place one es xs r s inside here is same says row = box (take_next steps place one inside here ∙ ap (λ z. take place steps ++ z ∷ []) is) row (subst (λ (x : List Expr). ArgumentsSay at scope r x s) same says)

  pub steps_turn : (step : ℕ) (r s : Said) → step < length steps → ((f : Expr) → StepsSay at scope f (take (length steps - 1 - step) steps) r → StepsSay at scope f (take (length steps - 1 - step + 1) steps) s) →
      StepsSay at scope first (take (length steps - (step + 1)) steps) r → StepsSay at scope first (take (length steps - step) steps) s
  steps_turn step r s inside more row =
      let less : length steps - (step + 1) ≡ length steps - 1 - step = omega arith in
      let all : length steps - 1 - step + 1 ≡ length steps - step = omega arith in
      subst (λ (n : ℕ). StepsSay at scope first (take n steps) s) all (more first (subst (λ (n : ℕ). StepsSay at scope first (take n steps) r) less row))
