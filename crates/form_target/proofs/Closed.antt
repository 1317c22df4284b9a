-- The formulas are formulas of the model, and have no free names.
use Rattle.std.proofs.Common.{◌≡◌, ◌↔◌, ◌∙◌, ℕ, zero, suc, ◌+◌, ◌-◌, ◌<◌, ◌≤◌, List, [], ◌∷◌, ◌++◌, map, length, get_or, slice_index, All, Contains, Option, Some, None, IfSome, slice_get, refl, sym, ap, subst, arith}
use Rattle.std.proofs.lemmas.List.{length-map, get_or-map}
use Rattle.std.proofs.lemmas.List.Elements.{All-contains, All-head, All-nil}
use Rattle.std.proofs.lemmas.Option.{slice_get_within, get_or_from_slice_get}
use Rattle.core_tree.specs.declared.model.Model.{Model}
use Rattle.core_tree.specs.declared.model.Sig.{Sig}
use Rattle.core_tree.specs.declared.model.SigKind.TheVariants.{Extends, Subset}
use Rattle.core_tree.specs.declared.model.Column.{Column}
use Rattle.core_tree.specs.declared.model.Column.TheVariants.{Sig as SigColumn, Int as IntColumn}
use Rattle.core_tree.specs.declared.model.Field.{Field}
use Rattle.core_tree.specs.declared.model.FieldBound.{FieldBound}
use Rattle.core_tree.specs.declared.operators.RelationOp.{RelationOp}
use Rattle.core_tree.specs.declared.operators.RelationOp.TheVariants.{Union, Intersection, Join, LeftRestrict}
use Rattle.core_tree.specs.declared.operators.Quantity.{Quantity}
use Rattle.core_tree.specs.declared.operators.Quantity.TheVariants.{No}
use Rattle.core_tree.specs.Trees.{Term, Terms, Variables, Claim, Claims, sig, field, name, univ, iden, empty, int, combine, product, unary, prime, choose_term, comprehension, number, count, arithmetic, sum_over, let_term, call_term, no_terms, more_terms, no_variables, more_variables, inside, equal, within, test, compare, negation, every, connect, choose_claim, for_all, counted, temporal, temporal_pair, let_claim, call_claim, no_claims, more_claims, term_of, claim_of}
use Rattle.core_tree.specs.Columns.{Signature, Shapes, Columns, no_columns, with_columns, or_zero, combined, columns_in, variables_count, with_variables, result_columns, IsFew, CanBound, IsRightTerm, IsRightClaim, AreRightVariables, AreRightArguments, AreRightClaims}
use Rattle.core_tree.specs.Models.{parents_of, IsParent, shapes_of, AnyField, AnyBody, NoFunction, this_column, IsRightFormula, IsRightSig, IsRightField, IsModel}
use Rattle.form_target.specs.Unions.{column_term, IsUnion, of_none, of_one, of_both}
use Rattle.form_target.specs.Added.{IsDeclaredField}
use Rattle.form_target.proofs.Lists.{all_left, all_right}

-- what may name less may name more
module _ (shapes : Shapes) (P Q : ℕ → Type 0) (F G : Signature → Type 0) (more_fields : (k : ℕ) → P k → Q k) (more_bodies : (s : Signature) → F s → G s) where
  mutual
    term_weaker : (e : Term) (names : Columns) → IsRightTerm shapes P F e names → IsRightTerm shapes Q G e names
    term_weaker (sig s) names h = h
    term_weaker (field k) names h = (h.0, h.1, more_fields k h.2)
    term_weaker (name x) names h = h
    term_weaker univ names h = tt
    term_weaker iden names h = tt
    term_weaker empty names h = tt
    term_weaker int names h = tt
    term_weaker (combine op a b) names h = (term_weaker a names h.0, term_weaker b names h.1, h.2, h.3)
    term_weaker (product a m n b) names h = (term_weaker a names h.0, term_weaker b names h.1, h.2)
    term_weaker (unary op a) names h = (term_weaker a names h.0, h.1)
    term_weaker (prime a) names h = term_weaker a names h
    term_weaker (choose_term f a b) names h = (claim_weaker f names h.0, term_weaker a names h.1, term_weaker b names h.2, h.3)
    term_weaker (comprehension vs f) names h = (variables_weaker vs names h.0, h.1, claim_weaker f (with_variables shapes vs names) h.2)
    term_weaker (number n place) names h = tt
    term_weaker (count a) names h = term_weaker a names h
    term_weaker (arithmetic op a b) names h = (term_weaker a names h.0, h.1, term_weaker b names h.2, h.3)
    term_weaker (sum_over vs a) names h = (variables_weaker vs names h.0, term_weaker a (with_variables shapes vs names) h.1, h.2)
    term_weaker (let_term x a b) names h = (term_weaker a names h.0, term_weaker b (with_columns names x (columns_in shapes a names)) h.1)
    term_weaker (call_term body es) names (s, at, may, result, args) = (s, at, more_bodies s may, result, arguments_weaker es names s.parameters args)

    variables_weaker : (vs : Variables) (names : Columns) → AreRightVariables shapes P F vs names → AreRightVariables shapes Q G vs names
    variables_weaker no_variables names h = tt
    variables_weaker (more_variables x apart e rest) names h = (term_weaker e names h.0, h.1, variables_weaker rest (with_columns names x 1) h.2)

    arguments_weaker : (es : Terms) (names : Columns) (ns : List ℕ) → AreRightArguments shapes P F es names ns → AreRightArguments shapes Q G es names ns
    arguments_weaker no_terms names [] h = tt
    arguments_weaker no_terms names (n ∷ ns) h = absurd h
    arguments_weaker (more_terms e rest) names [] h = absurd h
    arguments_weaker (more_terms e rest) names (n ∷ ns) h = (term_weaker e names h.0, h.1, arguments_weaker rest names ns h.2)

    claim_weaker : (f : Claim) (names : Columns) → IsRightClaim shapes P F f names → IsRightClaim shapes Q G f names
    claim_weaker (inside a b) names h = (term_weaker a names h.0, term_weaker b names h.1, h.2)
    claim_weaker (equal a b) names h = (term_weaker a names h.0, term_weaker b names h.1, h.2)
    claim_weaker (within a m b) names h = (term_weaker a names h.0, term_weaker b names h.1, h.2, h.3)
    claim_weaker (test q a) names h = term_weaker a names h
    claim_weaker (compare op a b) names h = (term_weaker a names h.0, h.1, term_weaker b names h.2, h.3)
    claim_weaker (negation f) names h = claim_weaker f names h
    claim_weaker (every fs) names h = claims_weaker fs names h
    claim_weaker (connect op f g) names h = (claim_weaker f names h.0, claim_weaker g names h.1)
    claim_weaker (choose_claim f g k) names h = (claim_weaker f names h.0, claim_weaker g names h.1, claim_weaker k names h.2)
    claim_weaker (for_all vs f) names h = (variables_weaker vs names h.0, claim_weaker f (with_variables shapes vs names) h.1)
    claim_weaker (counted q vs f) names h = (variables_weaker vs names h.0, claim_weaker f (with_variables shapes vs names) h.1)
    claim_weaker (temporal op f) names h = claim_weaker f names h
    claim_weaker (temporal_pair op f g) names h = (claim_weaker f names h.0, claim_weaker g names h.1)
    claim_weaker (let_claim x e f) names h = (term_weaker e names h.0, claim_weaker f (with_columns names x (columns_in shapes e names)) h.1)
    claim_weaker (call_claim body es) names (s, at, may, result, args) = (s, at, more_bodies s may, result, arguments_weaker es names s.parameters args)

    claims_weaker : (fs : Claims) (names : Columns) → AreRightClaims shapes P F fs names → AreRightClaims shapes Q G fs names
    claims_weaker no_claims names h = tt
    claims_weaker (more_claims f rest) names h = (claim_weaker f names h.0, claims_weaker rest names h.1)

-- a right term has one to nine columns
module _ (shapes : Shapes) (P : ℕ → Type 0) (F : Signature → Type 0) where
  few : (e : Term) (names : Columns) → IsRightTerm shapes P F e names → IsFew (columns_in shapes e names)
  few (sig s) names h = (omega arith, omega arith)
  few (field k) names h = h.1
  few (name x) names (n, at, small) = subst (λ o. IsFew (or_zero o)) (sym at) small
  few univ names h = (omega arith, omega arith)
  few iden names h = (omega arith, omega arith)
  few empty names h = (omega arith, omega arith)
  few int names h = (omega arith, omega arith)
  few (combine op a b) names h = h.3
  few (product a m n b) names h = h.2
  few (unary op a) names h = (omega arith, omega arith)
  few (prime a) names h = few a names h
  few (choose_term f a b) names h = few a names h.1
  few (comprehension vs f) names h = h.1
  few (number n place) names h = (omega arith, omega arith)
  few (count a) names h = (omega arith, omega arith)
  few (arithmetic op a b) names h = (omega arith, omega arith)
  few (sum_over vs a) names h = (omega arith, omega arith)
  few (let_term x a b) names h = few b (with_columns names x (columns_in shapes a names)) h.1
  few (call_term body es) names (s, at, may, (n, is, small), args) = subst (λ o. IsFew (result_columns o)) (sym at) (subst (λ o. IsFew (or_zero o)) (sym is) small)

module _ (model : Model) where
  abbrev Right : Term → Columns → Type 0
  Right e names = IsRightTerm (shapes_of model) AnyField AnyBody e names

  abbrev columns_of : Term → Columns → ℕ
  columns_of e names = columns_in (shapes_of model) e names

  one_few : (n : ℕ) → n ≡ 1 → IsFew n
  one_few n e = (omega (arith, e), omega (arith, e))

  pub sig_there : (s : ℕ) (d : Sig) → slice_get model.sigs s ≡ Some d → s < length model.sigs
  sig_there s d at = slice_get_within model.sigs s d at

  -- columns
  column_right : (c : Column) (names : Columns) → IsParent (length model.sigs) c → Right (column_term c) names
  column_right (SigColumn s) names h = h
  column_right IntColumn names h = tt

  column_one : (c : Column) (names : Columns) → columns_of (column_term c) names ≡ 1
  column_one (SigColumn s) names = refl
  column_one IntColumn names = refl

  union_one : (cs : List Column) (e : Term) → IsUnion cs e → (names : Columns) → columns_of e names ≡ 1
  union_one _ _ of_none names = refl
  union_one _ _ (of_one c) names = column_one c names
  union_one _ _ (of_both l r a b u v) names = union_one l a u names

  union_right : (cs : List Column) (e : Term) → IsUnion cs e → (names : Columns) → All (IsParent (length model.sigs)) cs → Right e names
  union_right _ _ of_none names all = tt
  union_right _ _ (of_one c) names all = column_right c names (All-head (IsParent (length model.sigs)) c [] all)
  union_right _ _ (of_both l r a b u v) names all = (
    union_right l a u names (all_left (IsParent (length model.sigs)) l r all),
    union_right r b v names (all_right (IsParent (length model.sigs)) l r all),
    union_one l a u names ∙ sym (union_one r b v names),
    one_few (columns_of a names) (union_one l a u names),
  )

  pub inside_closed : (s : ℕ) (cs : List Column) (e : Term) → s < length model.sigs → IsUnion cs e → All (IsParent (length model.sigs)) cs → IsRightFormula model (inside (sig s) e) no_columns
  inside_closed s cs e lt u all = (lt, union_right cs e u no_columns all, sym (union_one cs e u no_columns))

  pub shared_closed : (l r : List Column) (a b : Term) → IsUnion l a → IsUnion r b → All (IsParent (length model.sigs)) l → All (IsParent (length model.sigs)) r → IsRightFormula model (test No (combine Intersection a b)) no_columns
  shared_closed l r a b u v left right = (union_right l a u no_columns left, union_right r b v no_columns right, union_one l a u no_columns ∙ sym (union_one r b v no_columns), one_few (columns_of a no_columns) (union_one l a u no_columns))

  pub right_sig : IsModel model → (s : ℕ) (d : Sig) → slice_get model.sigs s ≡ Some d → IsRightSig model d
  right_sig good s d at = subst (IsRightSig model) (get_or_from_slice_get model.sigs s d d at) (good.sigs s d (sig_there s d at))

  pub for_each_closed : (s : ℕ) (f : Claim) → s < length model.sigs → IsRightFormula model f this_column → IsRightFormula model (for_all (more_variables 0 0 (sig s) no_variables) f) no_columns
  for_each_closed s f lt h = ((lt, refl, tt), h)

  -- fields
  abbrev all_columns : List ℕ
  all_columns = map (λ (g : Field). g.columns) model.fields

  field_columns : (k : ℕ) (f : Field) → slice_get model.fields k ≡ Some f → slice_index all_columns k ≡ f.columns
  field_columns k f at =
      let lt = slice_get_within model.fields k f at in
      get_or-map (λ (g : Field). g.columns) model.fields k f 0 lt ∙ ap (λ (g : Field). g.columns) (get_or_from_slice_get model.fields k f f at)

  field_there : (k : ℕ) (f : Field) → slice_get model.fields k ≡ Some f → k < length all_columns
  field_there k f at = subst (λ n. k < n) (sym (length-map model.fields (λ (g : Field). g.columns))) (slice_get_within model.fields k f at)

  field_few : IsModel model → (k : ℕ) (f : Field) → slice_get model.fields k ≡ Some f → IsFew (slice_index all_columns k)
  field_few good k f at = subst IsFew (sym (field_columns k f at)) (good.fields k f at).columns

  field_right : IsModel model → (k : ℕ) (f : Field) → slice_get model.fields k ≡ Some f → (names : Columns) → Right (field k) names
  field_right good k f at names = (field_there k f at, field_few good k f at, tt)

  pub fields_closed : IsModel model → (k m : ℕ) (f g : Field) → slice_get model.fields k ≡ Some f → slice_get model.fields m ≡ Some g → f.columns ≡ g.columns → IsRightFormula model (test No (combine Intersection (field k) (field m))) no_columns
  fields_closed good k m f g atk atm same = (field_right good k f atk no_columns, field_right good m g atm no_columns, field_columns k f atk ∙ same ∙ sym (field_columns m g atm), field_few good k f atk)

  owner_there : IsModel model → (k s : ℕ) (f : Field) → slice_get model.fields k ≡ Some f → f.owner ≡ Some s → s < length model.sigs
  owner_there good k s f at owner = subst (λ o. IfSome o (λ n. n < length model.sigs)) owner (good.fields k f at).owner

  pub owned_closed : (k s : ℕ) (d : FieldBound) → IsDeclaredField model k s d → IsModel model → IsRightFormula model (inside (field k) (combine LeftRestrict (sig s) (field k))) no_columns
  owned_closed k s d (f, at, owner, said) good =
      let there = field_right good k f at no_columns in
      (there, (owner_there good k s f at owner, there, refl, field_few good k f at), refl)

  -- the bound of a field
  bound_right : (k : ℕ) (d : FieldBound) (f : Field) → slice_get model.fields k ≡ Some f → f.declared ≡ Some d → IsModel model → Right (term_of d.bound.expr) this_column
  bound_right k d f at said good =
      let there = subst (λ o. IfSome o (λ (b : FieldBound). IsRightTerm (shapes_of model) (λ g. good.order g < good.order k) NoFunction (term_of b.bound.expr) this_column × CanBound b.bound.multiplicity (columns_of (term_of b.bound.expr) this_column))) said (good.fields k f at).bound in
      term_weaker (shapes_of model) (λ g. good.order g < good.order k) AnyField NoFunction AnyBody (λ g x. tt) (λ g x. tt) (term_of d.bound.expr) this_column there.0

  bound_word : (k : ℕ) (d : FieldBound) (f : Field) → slice_get model.fields k ≡ Some f → f.declared ≡ Some d → IsModel model → CanBound d.bound.multiplicity (columns_of (term_of d.bound.expr) this_column)
  bound_word k d f at said good =
      let there = subst (λ o. IfSome o (λ (b : FieldBound). IsRightTerm (shapes_of model) (λ g. good.order g < good.order k) NoFunction (term_of b.bound.expr) this_column × CanBound b.bound.multiplicity (columns_of (term_of b.bound.expr) this_column))) said (good.fields k f at).bound in
      there.1

  bound_width : (k : ℕ) (d : FieldBound) (f : Field) → slice_get model.fields k ≡ Some f → f.declared ≡ Some d → IsModel model → columns_of (term_of d.bound.expr) this_column + 1 ≡ f.columns
  bound_width k d f at said good = subst (λ o. IfSome o (λ (b : FieldBound). columns_of (term_of b.bound.expr) this_column + 1 ≡ f.columns)) said (good.fields k f at).width

  joined : (a b n : ℕ) → a ≡ 1 → b ≡ n → 2 ≤ n → n ≤ 9 → (3 ≤ a + b) × IsFew (a + b - 2) × (a + b - 2 ≡ n - 1)
  joined a b n one two low high = (omega (arith, one, two, low), (omega (arith, one, two, low), omega (arith, one, two, high)), omega (arith, one, two, low))

  less_few : (c n : ℕ) → c ≡ n - 1 → 2 ≤ n → n ≤ 9 → IsFew c
  less_few c n is low high = (omega (arith, is, low), omega (arith, is, high))

  one_less : (c n : ℕ) → c + 1 ≡ n → n - 1 ≡ c
  one_less c n is = omega (arith, is)

  abbrev value_term : ℕ → ℕ → Term
  value_term x k = combine Join (name x) (field k)

  value_right : IsModel model → (k x : ℕ) (f : Field) (names : Columns) → slice_get model.fields k ≡ Some f → names x ≡ Some 1 → 2 ≤ f.columns → f.columns ≤ 9 → Right (value_term x k) names
  value_right good k x f names at there low high =
      let size = joined (or_zero (names x)) (slice_index all_columns k) f.columns (ap or_zero there) (field_columns k f at) low high in
      ((1, there, (omega arith, omega arith)), field_right good k f at names, size.0, size.1)

  value_columns : (k x : ℕ) (f : Field) (names : Columns) → slice_get model.fields k ≡ Some f → names x ≡ Some 1 → 2 ≤ f.columns → f.columns ≤ 9 → columns_of (value_term x k) names ≡ f.columns - 1
  value_columns k x f names at there low high = (joined (or_zero (names x)) (slice_index all_columns k) f.columns (ap or_zero there) (field_columns k f at) low high).2

  at_least_two : (c n : ℕ) → 1 ≤ c → c + 1 ≡ n → 2 ≤ n
  at_least_two c n low is = omega (arith, low, is)

  wide : (k : ℕ) (d : FieldBound) (f : Field) → slice_get model.fields k ≡ Some f → f.declared ≡ Some d → IsModel model → 2 ≤ f.columns
  wide k d f at said good =
      let small = few (shapes_of model) AnyField AnyBody (term_of d.bound.expr) this_column (bound_right k d f at said good) in
      at_least_two (columns_of (term_of d.bound.expr) this_column) f.columns small.0 (bound_width k d f at said good)

  not_wide : (k : ℕ) (f : Field) → slice_get model.fields k ≡ Some f → IsModel model → f.columns ≤ 9
  not_wide k f at good = (good.fields k f at).columns.1

  pub bounded_closed : (k s : ℕ) (d : FieldBound) → IsDeclaredField model k s d → IsModel model → IsRightFormula model (for_all (more_variables 0 0 (sig s) no_variables) (within (value_term 0 k) d.bound.multiplicity (term_of d.bound.expr))) no_columns
  bounded_closed k s d (f, at, owner, said) good =
      let low = wide k d f at said good in
      let high = not_wide k f at good in
      let same : columns_of (value_term 0 k) this_column ≡ columns_of (term_of d.bound.expr) this_column = value_columns k 0 f this_column at refl low high ∙ one_less (columns_of (term_of d.bound.expr) this_column) f.columns (bound_width k d f at said good) in
      for_each_closed s (within (value_term 0 k) d.bound.multiplicity (term_of d.bound.expr)) (owner_there good k s f at owner) (value_right good k 0 f this_column at refl low high, bound_right k d f at said good, same, bound_word k d f at said good)

  pub apart_values_closed : (k s : ℕ) (d : FieldBound) → IsDeclaredField model k s d → IsModel model → IsRightFormula model (for_all (more_variables 0 0 (sig s) (more_variables 1 1 (sig s) no_variables)) (test No (combine Intersection (value_term 0 k) (value_term 1 k)))) no_columns
  apart_values_closed k s d (f, at, owner, said) good =
      let low = wide k d f at said good in
      let high = not_wide k f at good in
      let lt = owner_there good k s f at owner in
      let one = value_columns k 0 f (with_columns this_column 1 1) at refl low high in
      let two = value_columns k 1 f (with_columns this_column 1 1) at refl low high in (
        (lt, refl, (lt, refl, tt)),
        (
          value_right good k 0 f (with_columns this_column 1 1) at refl low high,
          value_right good k 1 f (with_columns this_column 1 1) at refl low high,
          one ∙ sym two,
          less_few (columns_of (value_term 0 k) (with_columns this_column 1 1)) f.columns one low high,
        ),
      )
