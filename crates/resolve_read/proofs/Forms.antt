-- What a form of the text is as a part of its root, from what its parts are; and which formulas are read so.
use Rattle.std.proofs.Common.{◌≡◌, ◌∙◌, ℕ, Bool, false, List, [], ◌∷◌, ◌++◌, Option, Some, None, IfSome, codes, sym, ap, subst}
use Rattle.base_types.specs.declared.place.Position.{Position}
use Rattle.syntax_tree.specs.declared.operator.Infix.{Infix}
use Rattle.syntax_tree.specs.declared.operator.Prefix.{Prefix}
use Rattle.syntax_tree.specs.declared.operator.Quantifier.{Quantifier}
use Rattle.syntax_tree.specs.declared.operator.Comparison.{Comparison}
use Rattle.syntax_tree.specs.declared.operator.Constant.{Constant}
use Rattle.syntax_tree.specs.declared.operator.Constant.TheVariants as constant
use Rattle.syntax_tree.specs.declared.operator.Multiplicity.{Multiplicity as Word}
use Rattle.syntax_tree.specs.declared.expr.QualName.{QualName}
use Rattle.syntax_tree.specs.declared.expr.Decl.{Decl}
use Rattle.syntax_tree.specs.declared.expr.Binding.{Binding}
use Rattle.syntax_tree.specs.declared.expr.Access.{Access}
use Rattle.syntax_tree.specs.declared.expr.Expr.{Expr}
use Rattle.syntax_tree.specs.declared.expr.Expr.TheVariants as expr
use Rattle.resolve_types.specs.declared.columns.Columns.{Columns}
use Rattle.resolve_readings.specs.Meanings.{integers}
use Rattle.resolve_readings.specs.Readings.{Choice}
use Rattle.resolve_readings.specs.declared.meaning.Meaning.{Meaning}
use Rattle.resolve_readings.specs.declared.meaning.What.TheVariants as what
use Rattle.resolve_readings.specs.declared.part.Unary.{Unary}
use Rattle.resolve_readings.specs.declared.part.Unary.TheVariants as unary
use Rattle.resolve_readings.specs.declared.part.Binary.{Binary}
use Rattle.resolve_readings.specs.declared.part.Binary.TheVariants as binary
use Rattle.resolve_readings.specs.declared.part.RootPlace.{RootPlace}
use Rattle.resolve_readings.specs.declared.part.RootPlace.TheVariants as place
use Rattle.resolve_rules.specs.Candidates.{set_of}
use Rattle.resolve_rules.specs.Forms.{word_of, between, compared_by, IsTest, IsLogical, IsSum}
use Rattle.resolve_rules.specs.Prepared.{Tree, name, known, single, pair, tree_of, no_columns, under}
use Rattle.resolve_read.specs.declared.draft.Draft.{Draft}
use Rattle.resolve_read.specs.At.{At, Scope, type_of, with_decls, with_values}
use Rattle.resolve_read.specs.Candidates.{constant_type, Picked, PicksField}
use Rattle.resolve_read.specs.Reads.{ReadAs, product_with, Reads, RowReads, StepsRead, BoundReads, RootReads, DeclsRead, ValuesRead, IsRead, AreRead, LinksRead, a_name, a_field, this, a_constant, a_number, a_negative, a_literal, a_row, a_join, a_choice, a_let, a_comprehension, a_sum, root, bound, a_block, a_sequence, an_implication, a_branching, a_comparison, a_test, a_prefix, a_logical_row, a_formula_let, a_quantified}

module _ (at : At) (scope : Scope) where
  -- what one tree is, another one is that is the same
  pub seen : {e f : Expr} {t : Tree} {choice : Choice} → e ≡ f → Reads at scope e t choice → Reads at scope f t choice
  seen {t = t} {choice = choice} same reads = subst (λ (x : Expr). Reads at scope x t choice) same reads

  pub seen_read : {e f : Expr} → e ≡ f → IsRead at scope e → IsRead at scope f
  seen_read same is = subst (λ (x : Expr). IsRead at scope x) same is

  -- an operator on one operand
  pub single_case : (e x : Expr) (op : Unary) (found made : Option Draft) → ((t : Tree) (choice : Choice) → Reads at scope x t choice → Reads at scope e (single op t) choice) →
      IfSome found (λ d. Reads at scope x (tree_of d.part) d.choice) → IfSome made (λ d. (i : Draft) × (found ≡ Some i) × (tree_of d.part ≡ single op (tree_of i.part)) × (d.choice ≡ i.choice)) →
      IfSome made (λ d. Reads at scope e (tree_of d.part) d.choice)
  single_case e x op found None form inner is = tt
  single_case e x op found (Some d) form inner is =
      let reads : Reads at scope x (tree_of is.0.part) is.0.choice = subst (λ (o : Option Draft). IfSome o (λ d. Reads at scope x (tree_of d.part) d.choice)) is.1 inner in
      subst (λ (t : Tree). Reads at scope e t d.choice) (sym is.2) (subst (λ (c : Choice). Reads at scope e (single op (tree_of is.0.part)) c) (sym is.3) (form (tree_of is.0.part) is.0.choice reads))

module _ (at : At) (scope : Scope) (e : Expr) (t : Tree) (choice : Choice) where
  read_so : (u : Tree) (c : Choice) → t ≡ u → choice ≡ c → Reads at scope e u c → Reads at scope e t choice
  read_so u c same is reads = subst (λ (x : Tree). Reads at scope e x choice) (sym same) (subst (λ (d : Choice). Reads at scope e u d) (sym is) reads)

  pub name_case : (q : QualName) (ms : List Meaning) (n : ℕ) → e ≡ expr.Name q → Picked at scope q ms n → t ≡ name ms → choice ≡ n ∷ [] → Reads at scope e t choice
  name_case q ms n is picked tree_is choice_is = read_so _ _ tree_is choice_is (a_name is picked)

  pub field_case : (p : Position) (q : QualName) (ms : List Meaning) (n : ℕ) → e ≡ expr.At p q → PicksField at q ms n → t ≡ name ms → choice ≡ n ∷ [] → Reads at scope e t choice
  field_case p q ms n is picked tree_is choice_is = read_so _ _ tree_is choice_is (a_field is picked)

  pub this_case : (p : Position) (w : Constant) (b c : Columns) → e ≡ expr.Constant p w → w ≡ constant.This → type_of (codes "this") scope ≡ Some b → c ≡ b → t ≡ name (set_of c false ∷ []) → choice ≡ 0 ∷ [] → Reads at scope e t choice
  this_case p w b c is word type same tree_is choice_is =
      read_so _ _ tree_is choice_is (this (is ∙ ap (expr.Constant p) word) (type ∙ ap Some (sym same)))

  pub constant_case : (p : Position) (w : Constant) (c : Columns) → e ≡ expr.Constant p w → constant_type at w ≡ Some c → t ≡ known (set_of c false) → choice ≡ [] → Reads at scope e t choice
  constant_case p w c is type tree_is choice_is = read_so _ _ tree_is choice_is (a_constant is type)

  pub number_case : (p : Position) (n : ℕ) (c : Columns) → e ≡ expr.Number p n → c ≡ integers → t ≡ known (set_of c false) → choice ≡ [] → Reads at scope e t choice
  number_case p n c is type tree_is choice_is = read_so _ _ (tree_is ∙ ap (λ (b : Columns). known (set_of b false)) type) choice_is (a_number is)

  pub negative_case : (p : Position) (n : ℕ) (c : Columns) → e ≡ expr.Negative p n → c ≡ integers → t ≡ known (set_of c false) → choice ≡ [] → Reads at scope e t choice
  negative_case p n c is type tree_is choice_is = read_so _ _ (tree_is ∙ ap (λ (b : Columns). known (set_of b false)) type) choice_is (a_negative is)

  pub literal_case : (p : Position) (text : List ℕ) (c : Columns) → e ≡ expr.Literal p text → constant_type at constant.String ≡ Some c → t ≡ known (set_of c false) → choice ≡ [] → Reads at scope e t choice
  literal_case p text c is type tree_is choice_is = read_so _ _ tree_is choice_is (a_literal is type)

  pub row_case : (first f : Expr) (links ls : List (Infix × Expr)) → e ≡ expr.Infix first links → f ≡ first → ls ≡ links → RowReads at scope f ls t choice → Reads at scope e t choice
  row_case first f links ls is first_is same reads = a_row is (subst (λ (x : Expr). RowReads at scope x links t choice) first_is (subst (λ (x : List (Infix × Expr)). RowReads at scope f x t choice) same reads))

  pub join_case : (first f : Expr) (steps ss : List (Access Expr)) → e ≡ expr.Join first steps → f ≡ first → ss ≡ steps → StepsRead at scope f ss t choice → Reads at scope e t choice
  join_case first f steps ss is first_is same reads = a_join is (subst (λ (x : Expr). StepsRead at scope x steps t choice) first_is (subst (λ (x : List (Access Expr)). StepsRead at scope f x t choice) same reads))

  pub choice_case : (w : Bool) (c a b x y z : Expr) (o : Option Expr) (u v : Tree) (g h : Choice) → e ≡ expr.Implication w c a o → o ≡ Some b → x ≡ c → y ≡ a → z ≡ b →
      IsRead at scope x → Reads at scope y u g → Reads at scope z v h → t ≡ pair binary.Choose u v → choice ≡ g ++ h → Reads at scope e t choice
  choice_case w c a b x y z o u v g h is some ex ey ez condition first second tree_is choice_is =
      read_so _ _ tree_is choice_is (a_choice (is ∙ ap (expr.Implication w c a) some) (seen_read at scope ex condition) (seen at scope ey first) (seen at scope ez second))

  pub let_case : (p : Position) (bindings bs : List (Binding Expr)) (has_bar : Bool) (body b : Expr) (types ts : List Columns) (u : Tree) (g : Choice) → e ≡ expr.Let p bindings has_bar body → bs ≡ bindings → b ≡ body → ts ≡ types →
      ValuesRead at scope bs types → Reads at (with_values scope bs ts) b u g → t ≡ under bs u → choice ≡ g → Reads at scope e t choice
  let_case p bindings bs has_bar body b types ts u g is same body_is types_are values reads tree_is choice_is =
      read_so _ _ (tree_is ∙ ap (λ (x : List (Binding Expr)). under x u) same) choice_is (a_let is (subst (λ (x : List (Binding Expr)). ValuesRead at scope x types) same values)
      (subst (λ (x : Expr). Reads at (with_values scope bindings types) x u g) body_is
      (subst (λ (x : List (Binding Expr)). Reads at (with_values scope x types) b u g) same (subst (λ (x : List Columns). Reads at (with_values scope bs x) b u g) types_are reads))))

  pub comprehension_case : (p : Position) (decls ds : List (Decl Expr)) (has_bar : Bool) (body b : Expr) (types ts us : List Columns) (c : Columns) → e ≡ expr.Comprehension p decls has_bar body → ds ≡ decls → b ≡ body → ts ≡ types → us ≡ types →
      DeclsRead at scope ds types → IsRead at (with_decls scope ds ts) b → c ≡ product_with at.types.typing.lines no_columns ds us → t ≡ known (set_of c false) → choice ≡ [] → Reads at scope e t choice
  comprehension_case p decls ds has_bar body b types ts us c is same body_is types_are also decls_read inner product tree_is choice_is =
      let columns : c ≡ product_with at.types.typing.lines no_columns decls types = product ∙ ap (λ (x : List Columns). product_with at.types.typing.lines no_columns ds x) also ∙ ap (λ (x : List (Decl Expr)). product_with at.types.typing.lines no_columns x types) same in
      read_so _ _ (tree_is ∙ ap (λ (x : Columns). known (set_of x false)) columns) choice_is (a_comprehension is (subst (λ (x : List (Decl Expr)). DeclsRead at scope x types) same decls_read)
      (subst (λ (x : Expr). IsRead at (with_decls scope decls types) x) body_is
      (subst (λ (x : List (Decl Expr)). IsRead at (with_decls scope x types) b) same (subst (λ (x : List Columns). IsRead at (with_decls scope ds x) b) types_are inner))))

  pub sum_case : (p : Position) (w : Quantifier) (decls ds : List (Decl Expr)) (has_bar : Bool) (body b : Expr) (types ts : List Columns) (m : Meaning) (c : Columns) → e ≡ expr.Quantified p w decls has_bar body → ds ≡ decls → b ≡ body → ts ≡ types → IsSum w →
      DeclsRead at scope ds types → RootReads at (with_decls scope ds ts) (place.Columns 1) b m → c ≡ integers → t ≡ known (set_of c false) → choice ≡ [] → Reads at scope e t choice
  sum_case p w decls ds has_bar body b types ts m c is same body_is types_are sums decls_read inner type tree_is choice_is =
      read_so _ _ (tree_is ∙ ap (λ (x : Columns). known (set_of x false)) type) choice_is (a_sum is sums (subst (λ (x : List (Decl Expr)). DeclsRead at scope x types) same decls_read)
      (subst (λ (x : Expr). RootReads at (with_decls scope decls types) (place.Columns 1) x m) body_is
      (subst (λ (x : List (Decl Expr)). RootReads at (with_decls scope x types) (place.Columns 1) b m) same (subst (λ (x : List Columns). RootReads at (with_decls scope ds x) (place.Columns 1) b m) types_are inner))))

-- formulas
module _ (at : At) (scope : Scope) (e : Expr) where
  pub block_case : (p : Position) (items es : List Expr) → e ≡ expr.Block p items → es ≡ items → AreRead at scope es → IsRead at scope e
  block_case p items es is same are = a_block is (subst (λ (x : List Expr). AreRead at scope x) same are)

  pub sequence_case : (a b x y : Expr) → e ≡ expr.Sequence a b → x ≡ a → y ≡ b → IsRead at scope x → IsRead at scope y → IsRead at scope e
  sequence_case a b x y is ex ey first second = a_sequence is (seen_read at scope ex first) (seen_read at scope ey second)

  pub implication_case : (w : Bool) (a b x y : Expr) (o : Option Expr) → e ≡ expr.Implication w a b o → o ≡ None → x ≡ a → y ≡ b → IsRead at scope x → IsRead at scope y → IsRead at scope e
  implication_case w a b x y o is none ex ey first second = an_implication (is ∙ ap (expr.Implication w a b) none) (seen_read at scope ex first) (seen_read at scope ey second)

  pub branching_case : (w : Bool) (c a b x y z : Expr) (o : Option Expr) → e ≡ expr.Implication w c a o → o ≡ Some b → x ≡ c → y ≡ a → z ≡ b → IsRead at scope x → IsRead at scope y → IsRead at scope z → IsRead at scope e
  branching_case w c a b x y z o is some ex ey ez condition first second =
      a_branching (is ∙ ap (expr.Implication w c a) some) (seen_read at scope ex condition) (seen_read at scope ey first) (seen_read at scope ez second)

  pub comparison_case : (op : Comparison) (a b x y : Expr) (t u v : Tree) (g h k : Choice) (by : Binary) (m : Meaning) → e ≡ expr.Compare op a b → x ≡ a → y ≡ b → Reads at scope x t g → Reads at scope y u h → by ≡ compared_by op.comparator op.word →
      v ≡ pair by t u → k ≡ g ++ h → ReadAs at.types.typing (single (unary.Fits place.Formula) v) k m → IsRead at scope e
  comparison_case op a b x y t u v g h k by m is ex ey first second word tree_is choice_is reads =
      a_comparison is (seen at scope ex first) (seen at scope ey second)
      (subst (λ (c : Choice). ReadAs at.types.typing (single (unary.Fits place.Formula) (pair (compared_by op.comparator op.word) t u)) c m) choice_is
      (subst (λ (s : Tree). ReadAs at.types.typing (single (unary.Fits place.Formula) s) k m) (tree_is ∙ ap (λ (o : Binary). pair o t u) word) reads))

  pub test_case : (p : Position) (op : Prefix) (a x : Expr) (m : Meaning) → e ≡ expr.Prefix p op a → x ≡ a → IsTest op → RootReads at scope place.Value x m → IsRead at scope e
  test_case p op a x m is same test reads = a_test is test (subst (λ (y : Expr). RootReads at scope place.Value y m) same reads)

  pub prefix_case : (p : Position) (op : Prefix) (a x : Expr) → e ≡ expr.Prefix p op a → x ≡ a → IsLogical op → IsRead at scope x → IsRead at scope e
  prefix_case p op a x is same logical inner = a_prefix is logical (seen_read at scope same inner)

  pub logical_row_case : (first f : Expr) (links ls : List (Infix × Expr)) → e ≡ expr.Infix first links → f ≡ first → ls ≡ links → (op : Infix) × (a : Expr) × (rest : List (Infix × Expr)) × (ls ≡ (op, a) ∷ rest) × (between op ≡ None) →
      IsRead at scope f → LinksRead at scope ls → IsRead at scope e
  logical_row_case first f links ls is first_is same row begun reads =
      a_logical_row (is ∙ ap (expr.Infix first) (sym same ∙ row.3)) row.4 (seen_read at scope first_is begun) (subst (λ (x : List (Infix × Expr)). LinksRead at scope x) row.3 reads)

  pub formula_let_case : (p : Position) (bindings bs : List (Binding Expr)) (has_bar : Bool) (body b : Expr) (types ts : List Columns) → e ≡ expr.Let p bindings has_bar body → bs ≡ bindings → b ≡ body → ts ≡ types →
      ValuesRead at scope bs types → IsRead at (with_values scope bs ts) b → IsRead at scope e
  formula_let_case p bindings bs has_bar body b types ts is same body_is types_are values inner =
      a_formula_let is (subst (λ (x : List (Binding Expr)). ValuesRead at scope x types) same values)
      (subst (λ (x : Expr). IsRead at (with_values scope bindings types) x) body_is
      (subst (λ (x : List (Binding Expr)). IsRead at (with_values scope x types) b) same (subst (λ (x : List Columns). IsRead at (with_values scope bs x) b) types_are inner)))

  pub quantified_case : (p : Position) (w : Quantifier) (decls ds : List (Decl Expr)) (has_bar : Bool) (body b : Expr) (types ts : List Columns) → e ≡ expr.Quantified p w decls has_bar body → ds ≡ decls → b ≡ body → ts ≡ types → (IsSum w → ⊥) →
      DeclsRead at scope ds types → IsRead at (with_decls scope ds ts) b → IsRead at scope e
  quantified_case p w decls ds has_bar body b types ts is same body_is types_are no_sum decls_read inner =
      a_quantified is no_sum (subst (λ (x : List (Decl Expr)). DeclsRead at scope x types) same decls_read)
      (subst (λ (x : Expr). IsRead at (with_decls scope decls types) x) body_is
      (subst (λ (x : List (Decl Expr)). IsRead at (with_decls scope x types) b) same (subst (λ (x : List Columns). IsRead at (with_decls scope ds x) b) types_are inner)))

-- roots
module _ (at : At) (scope : Scope) (e : Expr) where
  pub root_case : (w : RootPlace) (t : Tree) (choice : Choice) (m : Meaning) → Reads at scope e t choice → ReadAs at.types.typing (single (unary.Fits w) t) choice m → RootReads at scope w e m
  root_case w t choice m reads means = root reads means

  pub bound_case : (word : Option Word) (w : _) (c : Columns) → w ≡ word_of word → (m : Meaning) × RootReads at scope (place.Bound w) e m × (m.what ≡ what.Set c) → BoundReads at scope word e c
  bound_case word w c same (m, reads, is) = bound (subst (λ v. RootReads at scope (place.Bound v) e m) same reads) is
