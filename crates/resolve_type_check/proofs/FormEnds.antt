-- What the forms of expressions make of the types of their parts, at the end of a call.
use Rattle.std.proofs.Common.{◌≡◌, ◌++◌, Option, Some, None, IfSome, ap₂, ◌∙◌, subst}
use Rattle.core_tree.specs.declared.model.Model.{Model}
use Rattle.core_tree.specs.declared.operators.RelationOp.{RelationOp}
use Rattle.core_tree.specs.declared.operators.UnaryRelation.{UnaryRelation}
use Rattle.core_tree.specs.Trees.{Term, unary}
use Rattle.core_tree.specs.Types.{TypeRows, NameRows, combined_rows, row_pairs}
use Rattle.resolve_type_check.specs.Same.{SameRows}
use Rattle.resolve_type_check.specs.Closed.{Turns}
use Rattle.resolve_type_check.specs.Names.{IsTypeOf}
use Rattle.resolve_type_check.specs.Forms.{Typed, Combines, Multiplies, Chooses, Applies}
use Rattle.resolve_type_check.proofs.Typing.{combined_typed, product_typed, either_typed, turned_typed}

module _ (model : Model) where
  given : (x : Term) (names : NameRows) (o : Option TypeRows) (a : TypeRows) → o ≡ Some a → Typed model x names o → IsTypeOf model x names a
  given x names o a e t = subst (λ (p : Option TypeRows). IfSome p (IsTypeOf model x names)) e t

  module _ (first second : Option TypeRows) (a b sa sb all : TypeRows) (e : first ≡ Some a) (f : second ≡ Some b) (ea : sa ≡ a) (eb : sb ≡ b) where
    pub combines_end : (op : RelationOp) → SameRows all (combined_rows model.sigs op sa sb) → Combines model op first second (Some all)
    combines_end op s x y names ta tb = combined_typed model names op x y a b all (given x names first a e ta) (given y names second b f tb) (subst (λ r. SameRows all (combined_rows model.sigs op r b)) ea (subst (λ r. SameRows all (combined_rows model.sigs op sa r)) eb s))

    pub multiplies_end : all ≡ row_pairs sa sb → Multiplies model first second (Some all)
    multiplies_end s x y m n names ta tb = product_typed model names m n x y a b all (given x names first a e ta) (given y names second b f tb) (s ∙ ap₂ row_pairs ea eb)

    pub chooses_end : SameRows all (sa ++ sb) → Chooses model first second (Some all)
    chooses_end s g x y names ta tb = either_typed model names g x y a b all (given x names first a e ta) (given y names second b f tb) (subst (λ r. SameRows all (r ++ b)) ea (subst (λ r. SameRows all (sa ++ r)) eb s))

  turn_one : (op : UnaryRelation) (rows : Option TypeRows) (a sa all : TypeRows) → rows ≡ Some a → sa ≡ a → Turns model.sigs op sa all → (x : Term) (names : NameRows) → Typed model x names rows → IsTypeOf model (unary op x) names all
  turn_one op rows a sa all e ea t x names ta = turned_typed model names op x a all (given x names rows a e ta) (subst (λ r. Turns model.sigs op r all) ea t)

  pub applies_end : (op : UnaryRelation) (rows : Option TypeRows) (a sa : TypeRows) (made : Option TypeRows) → rows ≡ Some a → sa ≡ a → IfSome made (Turns model.sigs op sa) → Applies model op rows made
  applies_end op rows a sa (Some all) e ea t x names ta = turn_one op rows a sa all e ea t x names ta
  applies_end op rows a sa None e ea t x names ta = tt
