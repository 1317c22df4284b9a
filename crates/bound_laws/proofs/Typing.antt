-- The type of an expression has a row for each of its tuples, where it calls no function and names only fields whose tuples have rows.
use Rattle.std.proofs.Common.{◌≡◌, inl, inr, ℕ, ◌+◌, ◌<◌, ◌≤◌, List, [], ◌∷◌, length, slice_get, ℤ, refl, sym, ap, ◌∙◌, subst, arith}
use Rattle.std.proofs.lemmas.List.{length-map}
use Rattle.base_types.specs.declared.place.Position.{Position}
use Rattle.core_tree.specs.declared.operators.RelationOp.{RelationOp}
use Rattle.core_tree.specs.declared.operators.RelationOp.TheVariants.{Union, Difference, Intersection, Join, Override, LeftRestrict, RightRestrict}
use Rattle.core_tree.specs.declared.operators.UnaryRelation.{UnaryRelation}
use Rattle.core_tree.specs.declared.model.Model.{Model}
use Rattle.core_tree.specs.Trees.{Term, Variables, sig, field, name, univ, iden, empty, int, combine, product, unary, prime, choose_term, comprehension, number, count, arithmetic, sum_over, let_term, call_term, no_variables, more_variables}
use Rattle.core_tree.specs.Columns.{Columns, IsFew, no_columns, with_columns, IsRightTerm}
use Rattle.core_tree.specs.Models.{NoFunction, shapes_of}
use Rattle.core_tree.specs.Types.{TypeRows, NameRows, no_rows, with_rows, rows_or_none, variable_rows, result_rows, type_of}
use Rattle.core_meaning.specs.declared.scopes.SigScope.{SigScope}
use Rattle.core_meaning.specs.declared.scopes.Scopes.{Scopes}
use Rattle.core_meaning.specs.Integers.{wrap, result_of}
use Rattle.core_meaning.specs.Sequence.{LassoValue}
use Rattle.core_meaning.specs.World.{InRelation, atom_of}
use Rattle.core_meaning.specs.Operators.{Tuples}
use Rattle.core_meaning.specs.Meaning.{Names, no_names, with_name, atom, Holds, Picked}
use Rattle.core_meaning.specs.Called.{bodies_of}
use Rattle.core_meaning.specs.Kept.{world_of}
use Rattle.core_meaning.specs.Satisfied.{InTermAt}
use Rattle.core_laws.proofs.Climbs.{get_there}
use Rattle.core_laws.proofs.Held.{IsGiven}
use Rattle.core_laws.proofs.Rows.{InRows, rows_left, rows_right, rows_pair}
use Rattle.core_laws.proofs.Terms.{NamesHave, names_more, atom_rows, IsTyped, term_typed}
use Rattle.bound_laws.specs.Placed.{IsTermBelow, AreVariablesBelow}

-- no field at all
abbrev NoField : ℕ → Type 0
NoField g = ⊥

one_is_few : IsFew 1
one_is_few = (omega arith, omega arith)

two_are_few : IsFew 2
two_are_few = (omega arith, omega arith)

-- two names
abbrev two_columns : ℕ → Columns
two_columns n = with_columns (with_columns no_columns 1 n) 0 n

abbrev two_rows : TypeRows → TypeRows → NameRows
two_rows a b = with_rows (with_rows no_rows 1 b) 0 a

abbrev two_names : (ℕ → Tuples) → (ℕ → Tuples) → Names
two_names A B = with_name (with_name no_names 1 B) 0 A

module _ (model : Model) (scopes : Scopes) (lasso : LassoValue) (given : IsGiven model scopes lasso) where
  abbrev In : TypeRows → List ℕ → Type 0
  In rows t = InRows model scopes lasso rows t

  abbrev pub Have : NameRows → Names → Type 0
  Have rows names = NamesHave model scopes lasso given rows names

  abbrev pub Typed : ℕ → Type 0
  Typed g = IsTyped model scopes lasso given g

  pub nothing : Have no_rows no_names
  nothing x j t none = elim none [ ]

  -- ---- expressions without fields

  abbrev Right : Term → Columns → Type 0
  Right e columns = IsRightTerm (shapes_of model) NoField NoFunction e columns

  by_right : (e : Term) (columns : Columns) (rows : NameRows) (names : Names) → Right e columns → Have rows names → (i : ℕ) (t : List ℕ) → InTermAt model scopes lasso e names i t → In (type_of model e rows) t
  by_right e columns rows names right have i t has = term_typed model scopes lasso given NoField NoField (λ g none other. elim none [ ]) e columns rows names right right have i t has

  combine_right : (op : RelationOp) → (n : ℕ) × Right (combine op (name 0) (name 1)) (two_columns n)
  combine_right Union = (1, ((1, refl, one_is_few), (1, refl, one_is_few), refl, one_is_few))
  combine_right Difference = (1, ((1, refl, one_is_few), (1, refl, one_is_few), refl, one_is_few))
  combine_right Intersection = (1, ((1, refl, one_is_few), (1, refl, one_is_few), refl, one_is_few))
  combine_right Override = (1, ((1, refl, one_is_few), (1, refl, one_is_few), refl, one_is_few))
  combine_right Join = (2, ((2, refl, two_are_few), (2, refl, two_are_few), omega arith, two_are_few))
  combine_right LeftRestrict = (1, ((1, refl, one_is_few), (1, refl, one_is_few), refl, one_is_few))
  combine_right RightRestrict = (1, ((1, refl, one_is_few), (1, refl, one_is_few), refl, one_is_few))

  combine_typed : (op : RelationOp) (a b : Term) (rows : NameRows) (names : Names) →
      ((j : ℕ) (u : List ℕ) → InTermAt model scopes lasso a names j u → In (type_of model a rows) u) →
      ((j : ℕ) (u : List ℕ) → InTermAt model scopes lasso b names j u → In (type_of model b rows) u) →
      (i : ℕ) (t : List ℕ) → InTermAt model scopes lasso (combine op a b) names i t → In (type_of model (combine op a b) rows) t
  combine_typed op a b rows names of_a of_b i t has =
      let A : ℕ → Tuples = λ j u. InTermAt model scopes lasso a names j u in
      let B : ℕ → Tuples = λ j u. InTermAt model scopes lasso b names j u in
      let (n, right) = combine_right op in
      let one = names_more model scopes lasso given no_rows no_names 1 (type_of model b rows) B nothing of_b in
      let both = names_more model scopes lasso given (with_rows no_rows 1 (type_of model b rows)) (with_name no_names 1 B) 0 (type_of model a rows) A one of_a in
      by_right (combine op (name 0) (name 1)) (two_columns n) (two_rows (type_of model a rows) (type_of model b rows)) (two_names A B) right both i t has

  unary_typed : (op : UnaryRelation) (a : Term) (rows : NameRows) (names : Names) →
      ((j : ℕ) (u : List ℕ) → InTermAt model scopes lasso a names j u → In (type_of model a rows) u) →
      (i : ℕ) (t : List ℕ) → InTermAt model scopes lasso (unary op a) names i t → In (type_of model (unary op a) rows) t
  unary_typed op a rows names of_a i t has =
      let A : ℕ → Tuples = λ j u. InTermAt model scopes lasso a names j u in
      let one = names_more model scopes lasso given no_rows no_names 0 (type_of model a rows) A nothing of_a in
      by_right (unary op (name 0)) (with_columns no_columns 0 2) (with_rows no_rows 0 (type_of model a rows)) (with_name no_names 0 A) ((2, refl, two_are_few), refl) one i t has

  -- an integer
  number_typed : (z : ℤ) (rows : NameRows) (t : List ℕ) → t ≡ atom_of (world_of scopes lasso) z ∷ [] → In (type_of model int rows) t
  number_typed z rows t is =
      let place : Position = record { «module» = 0; line = 0; column = 0 } in
      by_right (number z place) no_columns no_rows no_names tt nothing 0 t is

  -- ---- expressions over known fields

  module _ (known : ℕ) (few : known ≤ length model.fields) (typed : (g : ℕ) → g < known → Typed g) where
    field_typed : (g : ℕ) → g < known → (i : ℕ) (t : List ℕ) → InRelation (world_of scopes lasso) (length (world_of scopes lasso).top + g) i t → In (rows_or_none (slice_get model.fields g)) t
    field_typed g low i t has =
        let (f, there) = get_there model.fields g (omega (arith, low, few)) in
        let same : length (world_of scopes lasso).top ≡ length model.sigs = length-map scopes.numbers (λ (s : SigScope). s.top) ∙ given.rightly.count in
        subst (λ rs. In rs t) (sym (ap rows_or_none there)) (typed g low f there i t (subst (λ n. InRelation (world_of scopes lasso) (n + g) i t) same has))

    mutual
      pub below_typed : (e : Term) (rows : NameRows) (names : Names) → IsTermBelow (length model.sigs) known e → Have rows names → (i : ℕ) (t : List ℕ) → InTermAt model scopes lasso e names i t → In (type_of model e rows) t
      below_typed (sig s) rows names below have i t has = by_right (sig s) no_columns rows names below have i t has
      below_typed (field g) rows names below have i t has = field_typed g below i t has
      below_typed (name x) rows names below have i t has = have x i t has
      below_typed univ rows names below have i t has = by_right univ no_columns rows names tt have i t has
      below_typed iden rows names below have i t has = by_right iden no_columns rows names tt have i t has
      below_typed empty rows names below have i t has = elim has [ ]
      below_typed int rows names below have i t has = by_right int no_columns rows names tt have i t has
      below_typed (combine op a b) rows names below have i t has = combine_typed op a b rows names (λ j u h. below_typed a rows names below.0 have j u h) (λ j u h. below_typed b rows names below.1 have j u h) i t has
      below_typed (product a m n b) rows names below have i t (s, u, first, second, is) =
          subst (In (type_of model (product a m n b) rows)) (sym is) (rows_pair model scopes lasso (type_of model a rows) (type_of model b rows) s u (below_typed a rows names below.0 have i s first) (below_typed b rows names below.1 have i u second))
      below_typed (unary op a) rows names below have i t has = unary_typed op a rows names (λ j u h. below_typed a rows names below have j u h) i t has
      below_typed (prime a) rows names below have i t has = below_typed a rows names below have (i + 1) t has
      below_typed (choose_term f a b) rows names below have i t (inl has) = rows_left model scopes lasso (type_of model a rows) (type_of model b rows) t (below_typed a rows names below.1 have i t has.1)
      below_typed (choose_term f a b) rows names below have i t (inr has) = rows_right model scopes lasso (type_of model a rows) (type_of model b rows) t (below_typed b rows names below.2 have i t has.1)
      below_typed (comprehension vs f) rows names below have i t has = picked_typed vs (λ inner. Holds (world_of scopes lasso) (bodies_of (world_of scopes lasso) model.bodies) f inner i) rows names below.0 have i [] t has
      below_typed (number z place) rows names below have i t is = number_typed z rows t is
      below_typed (count a) rows names below have i t (z, is_count, is) = number_typed z rows t is
      below_typed (arithmetic op a b) rows names below have i t (x, y, first, second, is) = number_typed (wrap scopes.bits (result_of op x y)) rows t is
      below_typed (sum_over vs a) rows names below have i t (z, is_sum, is) = number_typed z rows t is
      below_typed (let_term x a b) rows names below have i t has =
          below_typed b (with_rows rows x (type_of model a rows)) (with_name names x (λ j. InTermAt model scopes lasso a names j)) below.1
          (names_more model scopes lasso given rows names x (type_of model a rows) (λ j. InTermAt model scopes lasso a names j) have (λ j u h. below_typed a rows names below.0 have j u h)) i t has
      below_typed (call_term body es) rows names below have i t has = elim below [ ]

      picked_typed : (vs : Variables) (Passes : Names → Type 0) (rows : NameRows) (names : Names) → AreVariablesBelow (length model.sigs) known vs → Have rows names → (i : ℕ) (earlier t : List ℕ) →
          Picked (world_of scopes lasso) (bodies_of (world_of scopes lasso) model.bodies) vs Passes names i earlier t → In (variable_rows model.sigs model.fields (result_rows model) vs rows) t
      picked_typed no_variables Passes rows names below have i earlier t (is, passes) = subst (In ([] ∷ [])) (sym is) ([], inl refl, tt)
      picked_typed (more_variables x apart e rest) Passes rows names below have i earlier t (a, u, is, among, different, others) =
          let bound = type_of model e rows in
          let first = below_typed e rows names below.0 have i (a ∷ []) among in
          let further = picked_typed rest Passes (with_rows rows x bound) (with_name names x (atom a)) below.1 (names_more model scopes lasso given rows names x bound (atom a) have (atom_rows model scopes lasso given bound a first)) i (a ∷ earlier) u others in
          subst (In (variable_rows model.sigs model.fields (result_rows model) (more_variables x apart e rest) rows)) (sym is) (rows_pair model scopes lasso bound (variable_rows model.sigs model.fields (result_rows model) rest (with_rows rows x bound)) (a ∷ []) u first further)
