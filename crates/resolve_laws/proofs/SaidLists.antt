-- What a row, the items of a block, a join, a `let` and declarations say is one thing, where this is so of what they have.
use Rattle.std.proofs.Common.{◌≡◌, ℕ, ◌+◌, List, [], ◌∷◌, ◌++◌, length, refl, sym, ap, subst, ◌∙◌}
use Rattle.syntax_tree.specs.declared.operator.Infix.{Infix}
use Rattle.syntax_tree.specs.declared.expr.Named.{Named}
use Rattle.syntax_tree.specs.declared.expr.Decl.{Decl}
use Rattle.syntax_tree.specs.declared.expr.Binding.{Binding}
use Rattle.syntax_tree.specs.declared.expr.Access.{Access}
use Rattle.syntax_tree.specs.declared.expr.Access.TheVariants as access
use Rattle.syntax_tree.specs.declared.expr.Expr.{Expr}
use Rattle.core_tree.specs.Trees.{Term, Claim, Binder}
use Rattle.resolve_said.specs.Operators.{Said, a_set, a_formula, Takes, Links, Lets}
use Rattle.resolve_said.specs.Locals.{Scope, under_decls}
use Rattle.resolve_said.specs.Said.{Standing, apart_from, ArgumentsSay, VariablesSay}
use Rattle.resolve_told_literals.specs.Told.{LabelsDiffer}
use Rattle.resolve_laws.proofs.SaidFunctional.{same_set, same_formula, links_one, taken_one, lets_one}
use Rattle.resolve_laws.proofs.SaidFine.{Picks, Fine, FineItems, row_before, row_end as row_last, items_before, items_end, steps_before, decls_before, let_behind}
use Rattle.resolve_laws.proofs.SaidListed.{has_last}
use Rattle.resolve_laws.proofs.SaidViews.{row_first, row_end, conjunct_first, conjunct_end, items_first, item_end, steps_first, step_end, arguments_first, argument_end}
use Rattle.resolve_laws.proofs.SaidBound.{let_first, let_front, decls_first, decl_end, variables_first, variable_end}
use Rattle.resolve_laws.proofs.SaidCases.{other, One, RowOne, ConjunctsOne, ItemsOne, StepsOne, LetsOne, DeclsOne}

same_end : {A : Type 0} (xs ys zs : List A) (x y : A) → xs ≡ ys → x ≡ y → zs ≡ ys ++ y ∷ [] → xs ++ x ∷ [] ≡ zs
same_end xs ys zs x y p q is = ap (λ (l : List _). l ++ x ∷ []) p ∙ (ap (λ (z : _). ys ++ z ∷ []) q ∙ sym is)

same_binder : (v w : Binder) → v.name ≡ w.name → v.apart ≡ w.apart → v.bound ≡ w.bound → v ≡ w
same_binder v w name apart bound =
    let make : ℕ → ℕ → Term → Binder = λ n a b. record { name = n; apart = a; bound = b } in
    ap (λ (n : ℕ). make n v.apart v.bound) name ∙ (ap (λ (a : ℕ). make w.name a v.bound) apart ∙ ap (λ (b : Term). make w.name w.apart b) bound)

module _ (at : Standing) (picks : Picks) (differ : LabelsDiffer at.sigs) where
  abbrev there : Standing
  there = other at picks differ

  -- Rows.

  pub first_operand : (scope : Scope) (first : Expr) (r : Said) → One at picks differ scope first r → RowOne at picks differ scope first [] r
  first_operand scope first r one s fine d = one s fine.head (row_first there refl d)

  pub next_operand : (scope : Scope) (first e : Expr) (links all : List (Infix × Expr)) (op : Infix) (q r u : Said) → all ≡ links ++ (op, e) ∷ [] → Links op q r u → RowOne at picks differ scope first links q → One at picks differ scope e r → RowOne at picks differ scope first all u
  next_operand scope first e links all op q r u is link row one s fine d =
      let m = row_end there links op e is d in
      links_one q r m.before m.operand u s (row m.before (row_before at.picks picks scope first e links all op is fine) m.row) (one m.operand (row_last at.picks picks scope first e links all op is fine) m.says) link m.link

  pub first_conjunct : (scope : Scope) (first : Expr) (c : Claim) → One at picks differ scope first (a_formula c) → ConjunctsOne at picks differ scope first [] (c ∷ [])
  first_conjunct scope first c one ds fine d =
      let m = conjunct_first there refl d in
      ap (λ (x : Claim). x ∷ []) (same_formula c m.0 (one (a_formula m.0) fine.head m.1)) ∙ sym m.2

  pub next_conjunct : (scope : Scope) (first e : Expr) (links all : List (Infix × Expr)) (op : Infix) (bs cs : List Claim) (c : Claim) → all ≡ links ++ (op, e) ∷ [] → cs ≡ bs ++ c ∷ [] → ConjunctsOne at picks differ scope first links bs → One at picks differ scope e (a_formula c) →
      ConjunctsOne at picks differ scope first all cs
  next_conjunct scope first e links all op bs cs c is ends rest one ds fine d =
      let m = conjunct_end there links op e is d in
      ends ∙ same_end bs m.before ds c m.last (rest m.before (row_before at.picks picks scope first e links all op is fine) m.rest) (same_formula c m.last (one (a_formula m.last) (row_last at.picks picks scope first e links all op is fine) m.says)) m.whole

  -- Items of a block.

  pub no_item : (scope : Scope) → ItemsOne at picks differ scope [] []
  no_item scope ds fine d = sym (items_first there refl d)

  pub next_item : (scope : Scope) (e : Expr) (es all : List Expr) (bs cs : List Claim) (c : Claim) → all ≡ es ++ e ∷ [] → cs ≡ bs ++ c ∷ [] → ItemsOne at picks differ scope es bs → One at picks differ scope e (a_formula c) → ItemsOne at picks differ scope all cs
  next_item scope e es all bs cs c is ends rest one ds fine d =
      let m = item_end there es e is d in
      ends ∙ same_end bs m.before ds c m.last (rest m.before (items_before at.picks picks scope e es all is fine) m.rest) (same_formula c m.last (one (a_formula m.last) (items_end at.picks picks scope e es all is fine) m.says)) m.whole

  -- Joins.

  abbrev pub ArgumentsOne : Scope → Said → List Expr → Said → Type 0
  ArgumentsOne scope q es r = (s : Said) → FineItems at.picks picks scope es → ArgumentsSay there scope q es s → r ≡ s

  pub no_step : (scope : Scope) (first : Expr) (r : Said) → One at picks differ scope first r → StepsOne at picks differ scope first [] r
  no_step scope first r one s fine d = one s fine.head (steps_first there refl d)

  pub dot : (scope : Scope) (first e : Expr) (steps all : List (Access Expr)) (t : Term) (q r : Said) → all ≡ steps ++ access.Dot e ∷ [] → Takes at.bodies q t r → StepsOne at picks differ scope first steps (a_set t) → One at picks differ scope e q → StepsOne at picks differ scope first all r
  dot scope first e steps all t q r is takes rest one s fine d =
      let m = step_end there steps (access.Dot e) is d in
      taken_one at.bodies q m.1 t m.0 r s (one m.1 (fine.dots e (has_last steps all (access.Dot e) is)) m.3) (same_set t m.0 (rest (a_set m.0) (steps_before at.picks picks scope first (access.Dot e) steps all is fine) m.2)) takes m.4

  pub box : (scope : Scope) (first : Expr) (steps all : List (Access Expr)) (es : List Expr) (q r : Said) → all ≡ steps ++ access.Bracket es ∷ [] → StepsOne at picks differ scope first steps q → ArgumentsOne scope q es r → StepsOne at picks differ scope first all r
  box scope first steps all es q r is rest arguments s fine d =
      let m = step_end there steps (access.Bracket es) is d in
      let same = rest m.0 (steps_before at.picks picks scope first (access.Bracket es) steps all is fine) m.1 in
      arguments s (fine.boxes es (has_last steps all (access.Bracket es) is)) (subst (λ (z : Said). ArgumentsSay there scope z es s) (sym same) m.2)

  pub no_argument : (scope : Scope) (q : Said) → ArgumentsOne scope q [] q
  no_argument scope q s fine d = arguments_first there refl d

  pub next_argument : (scope : Scope) (e : Expr) (es all : List Expr) (t : Term) (p q r : Said) → all ≡ es ++ e ∷ [] → Takes at.bodies q t r → ArgumentsOne scope p es q → One at picks differ scope e (a_set t) → ArgumentsOne scope p all r
  next_argument scope e es all t p q r is takes rest one s fine d =
      let m = argument_end there es e is d in
      taken_one at.bodies q m.before t m.term r s (rest m.before (items_before at.picks picks scope e es all is fine) m.rest) (same_set t m.term (one (a_set m.term) (items_end at.picks picks scope e es all is fine) m.says)) takes m.takes

  -- The names of a `let`.

  pub let_body : (scope : Scope) (body : Expr) (r : Said) → One at picks differ scope body r → LetsOne at picks differ scope [] body r
  let_body scope body r one s fine d = one s fine.inner (let_first there refl d)

  pub let_value : (scope : Scope) (body : Expr) (b : Binding Expr) (bs all : List (Binding Expr)) (t : Term) (q r : Said) → all ≡ b ∷ bs → Lets (length scope) t q r → One at picks differ scope b.value (a_set t) → LetsOne at picks differ (b.name ∷ scope) bs body q →
      LetsOne at picks differ scope all body r
  let_value scope body b bs all t q r is lets one rest s fine d =
      let m = let_front there b bs is d in
      lets_one (length scope) t m.term q m.inner r s (same_set t m.term (one (a_set m.term) (fine.values [] bs b is) m.value)) (rest m.inner (let_behind at.picks picks scope body b bs all is fine) m.rest) lets m.lets

  -- Declarations.

  abbrev pub VariablesOne : Scope → Decl Expr → List Named → List Binder → Type 0
  VariablesOne scope d ns vs = (ws : List Binder) → Fine at.picks picks scope d.bound → VariablesSay there scope d ns ws → vs ≡ ws

  pub no_decl : (scope : Scope) → DeclsOne at picks differ scope [] []
  no_decl scope ws fine d = sym (decls_first there refl d)

  pub next_decl : (scope : Scope) (c : Decl Expr) (ds all : List (Decl Expr)) (vs ws us : List Binder) → all ≡ ds ++ c ∷ [] → us ≡ vs ++ ws → DeclsOne at picks differ scope ds vs → VariablesOne (under_decls scope ds) c c.names ws → DeclsOne at picks differ scope all us
  next_decl scope c ds all vs ws us is ends rest one xs fine d =
      let m = decl_end there ds c is d in
      ends ∙ (ap (λ (l : List Binder). l ++ ws) (rest m.before (decls_before at.picks picks scope c ds all is fine) m.rest)
      ∙ (ap (λ (l : List Binder). m.before ++ l) (one m.last (fine ds [] c is) m.variables) ∙ sym m.whole))

  pub no_variable : (scope : Scope) (d : Decl Expr) → VariablesOne scope d [] []
  no_variable scope d ws fine v = sym (variables_first there refl v)

  pub next_variable : (scope : Scope) (d : Decl Expr) (ns all : List Named) (n : Named) (v : Binder) (vs ws : List Binder) → all ≡ ns ++ n ∷ [] → ws ≡ vs ++ v ∷ [] → v.name ≡ length scope + length ns → v.apart ≡ apart_from d.is_disjoint (length ns) → VariablesOne scope d ns vs →
      One at picks differ scope d.bound (a_set v.bound) → VariablesOne scope d all ws
  next_variable scope d ns all n v vs ws is ends named apart rest one xs fine x =
      let m = variable_end there ns n is x in
      ends ∙ same_end vs m.before xs v m.last (rest m.before fine m.rest) (same_binder v m.last (named ∙ sym m.numbered) (apart ∙ sym m.apart) (same_set v.bound m.last.bound (one (a_set m.last.bound) fine m.says))) m.whole
