-- What the walk over an expression says at the end of each of its forms.
use Rattle.std.proofs.Common.{◌≡◌, ℕ, List, length, map, Option, Some, Result, IfOk, IfSome, sym, ◌∙◌, subst, Vec, Box, Global}
use Rattle.core_tree.specs.declared.model.Model.{Model}
use Rattle.core_tree.specs.declared.model.Sig.{Sig as ModelSig}
use Rattle.core_tree.specs.declared.operators.RelationOp.{RelationOp}
use Rattle.core_tree.specs.declared.operators.UnaryRelation.{UnaryRelation}
use Rattle.core_tree.specs.declared.operators.Multiplicity.{Multiplicity}
use Rattle.core_tree.specs.declared.tree.Variable.{Variable}
use Rattle.core_tree.specs.declared.tree.Formula.{Formula}
use Rattle.core_tree.specs.declared.tree.Expr.{Expr, Name, Combine, Product, Unary, Prime, Choose, Comprehension, Let}
use Rattle.core_tree.specs.Trees.{Term, term_of, claim_of, variable_of, variable_list, let_term}
use Rattle.core_tree.proofs.RowLemmas.{comprehension_is}
use Rattle.core_tree.specs.Types.{TypeRows, NameRows, with_rows, sig_rows, typed_as, type_of}
use Rattle.resolve_type_check.specs.declared.names.NamedRows.{NamedRows}
use Rattle.resolve_type_check.specs.Same.{SameRows}
use Rattle.resolve_type_check.specs.Names.{names_of, IsTypeOf, IsTypeOfVariables}
use Rattle.resolve_type_check.specs.Forms.{Typed, Combines, Multiplies, Chooses, Applies}
use Rattle.resolve_type_check.proofs.Results.{if_ok, if_some}
use Rattle.resolve_type_check.proofs.Monotone.{same_from, same_then}
use Rattle.resolve_type_check.proofs.Typing.{let_typed}

-- the rows of a sig that an expression names
pub sig_typed : (sigs there : List ModelSig) (s : ℕ) (rows : TypeRows) → there ≡ sigs → SameRows rows (sig_rows there (length there) (typed_as there s)) → SameRows rows (sig_rows sigs (length sigs) (typed_as sigs s))
sig_typed sigs there s rows e is = subst (λ (l : List ModelSig). SameRows rows (sig_rows l (length l) (typed_as l s))) e is

module _ (model : Model) (names : NameRows) where
  pub fixed_end : {y : Expr} (x : Expr) (rows all : TypeRows) → x ≡ y → ((n : NameRows) → type_of model (term_of y) n ≡ rows) → all ≡ rows → IsTypeOf model (term_of x) names all
  fixed_end {y = y} x rows all e is same = subst (λ (z : Expr). IsTypeOf model (term_of z) names all) (sym e) (λ n p. same_from all (type_of model (term_of y) n) (same ∙ sym (is n)))

  pub same_end : {y : Expr} (x : Expr) (rows all : TypeRows) → x ≡ y → ((n : NameRows) → type_of model (term_of y) n ≡ rows) → SameRows all rows → IsTypeOf model (term_of x) names all
  same_end {y = y} x rows all e is same = subst (λ (z : Expr). IsTypeOf model (term_of z) names all) (sym e) (λ n p. same_then all rows (type_of model (term_of y) n) same (same_from rows (type_of model (term_of y) n) (sym (is n))))

  pub name_end : (x : Expr) (k : ℕ) (all : TypeRows) → x ≡ Name k → all ≡ names k → IsTypeOf model (term_of x) names all
  name_end x k all e same = subst (λ (z : Expr). IsTypeOf model (term_of z) names all) (sym e) (λ n p. same_then all (names k) (n k) (same_from all (names k) same) (p.at k))

  moved : (x y : Expr) (o : Option TypeRows) → x ≡ y → Typed model (term_of x) names o → Typed model (term_of y) names o
  moved x y o e t = subst (λ (z : Expr). Typed model (term_of z) names o) e t

  module _ {E : Type 0} (x : Expr) (r : Result (Option TypeRows) E) where
    pub prime_end : (a : Box Expr Global) (da : Expr) → x ≡ Prime a → da ≡ a.value → IfOk r (Typed model (term_of da) names) → IfOk r (Typed model (term_of x) names)
    prime_end a da e ea h = if_ok r (Typed model (term_of da) names) (Typed model (term_of x) names) (λ o t. moved (Prime a) x o (sym e) (moved da a.value o ea t)) h

    pub unary_end : (op : UnaryRelation) (a : Box Expr Global) (da : Expr) (first : Option TypeRows) → x ≡ Unary op a → da ≡ a.value → Typed model (term_of da) names first → IfOk r (Applies model op first) → IfOk r (Typed model (term_of x) names)
    unary_end op a da first e ea ta h = if_ok r (Applies model op first) (Typed model (term_of x) names) (λ o f. moved (Unary op a) x o (sym e) (f (term_of a.value) names (moved da a.value first ea ta))) h

    module _ (a b : Box Expr Global) (da db : Expr) (first second : Option TypeRows) (ea : da ≡ a.value) (eb : db ≡ b.value) (ta : Typed model (term_of da) names first) (tb : Typed model (term_of db) names second) where
      pub combine_end : (op : RelationOp) → x ≡ Combine op a b → IfOk r (Combines model op first second) → IfOk r (Typed model (term_of x) names)
      combine_end op e h = if_ok r (Combines model op first second) (Typed model (term_of x) names) (λ o f. moved (Combine op a b) x o (sym e) (f (term_of a.value) (term_of b.value) names (moved da a.value first ea ta) (moved db b.value second eb tb))) h

      pub product_end : (k l : Multiplicity) → x ≡ Product a k l b → IfOk r (Multiplies model first second) → IfOk r (Typed model (term_of x) names)
      product_end k l e h = if_ok r (Multiplies model first second) (Typed model (term_of x) names) (λ o f. moved (Product a k l b) x o (sym e) (f (term_of a.value) (term_of b.value) k l names (moved da a.value first ea ta) (moved db b.value second eb tb))) h

      pub choose_end : (g : Box Formula Global) → x ≡ Choose g a b → IfOk r (Chooses model first second) → IfOk r (Typed model (term_of x) names)
      choose_end g e h = if_ok r (Chooses model first second) (Typed model (term_of x) names) (λ o f. moved (Choose g a b) x o (sym e) (f (claim_of g.value) (term_of a.value) (term_of b.value) names (moved da a.value first ea ta) (moved db b.value second eb tb))) h

    pub variables_end : (v : Vec Variable Global) (g : Box Formula Global) (vs : List Variable) → x ≡ Comprehension v g → vs ≡ v.items → IfOk r (λ o. IfSome o (IsTypeOfVariables model (variable_list (map variable_of vs)) names)) → IfOk r (Typed model (term_of x) names)
    variables_end v g vs e is h = if_ok r (λ o. IfSome o (IsTypeOfVariables model (variable_list (map variable_of vs)) names)) (Typed model (term_of x) names)
        (λ o t. moved (Comprehension v g) x o (sym e)
        (subst (λ (t : Term). Typed model t names o) (sym (comprehension_is v g))
        (subst (λ (l : List Variable). IfSome o (IsTypeOfVariables model (variable_list (map variable_of l)) names)) is t))) h

  pub let_end : {E : Type 0} (x : Expr) (r : Result (Option TypeRows) E) (k : ℕ) (a b : Box Expr Global) (da db : Expr) (first : Option TypeRows) (rows : TypeRows) (inner : List NamedRows) → x ≡ Let k a b → da ≡ a.value → db ≡ b.value → first ≡ Some rows → Typed model (term_of da) names first → names_of inner ≡ with_rows names k rows → IfOk r (Typed model (term_of db) (names_of inner)) → IfOk r (Typed model (term_of x) names)
  let_end x r k a b da db first rows inner e ea eb is ta same h =
      let value : IsTypeOf model (term_of a.value) names rows = subst (λ (o : Option TypeRows). IfSome o (IsTypeOf model (term_of a.value) names)) is (moved da a.value first ea ta) in
      if_ok r (Typed model (term_of db) (names_of inner)) (Typed model (term_of x) names)
      (λ o t. moved (Let k a b) x o (sym e) (if_some o (IsTypeOf model (term_of db) (names_of inner)) (IsTypeOf model (let_term k (term_of a.value) (term_of b.value)) names)
      (λ all u. let_typed model names k (term_of a.value) (term_of b.value) rows all (names_of inner) value same (subst (λ (z : Expr). IsTypeOf model (term_of z) (names_of inner) all) eb u)) t)) h
