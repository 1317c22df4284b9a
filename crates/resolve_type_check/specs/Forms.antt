-- What the forms of expressions make of the types of their parts, where these have any.
use Rattle.std.specs.Prelude.{Option, IfSome}
use Rattle.core_tree.specs.declared.model.Model.{Model}
use Rattle.core_tree.specs.declared.operators.RelationOp.{RelationOp}
use Rattle.core_tree.specs.declared.operators.UnaryRelation.{UnaryRelation}
use Rattle.core_tree.specs.declared.operators.Multiplicity.{Multiplicity}
use Rattle.core_tree.specs.Trees.{Term, Claim, combine, product, choose_term, unary}
use Rattle.core_tree.specs.Types.{TypeRows, NameRows}
use Rattle.resolve_type_check.specs.Names.{IsTypeOf}

abbrev pub Typed : Model → Term → NameRows → Option TypeRows → Type 0
Typed model e names rows = IfSome rows (IsTypeOf model e names)

abbrev pub Combines : Model → RelationOp → Option TypeRows → Option TypeRows → Option TypeRows → Type 0
Combines model op a b made = (x y : Term) (names : NameRows) → Typed model x names a → Typed model y names b → Typed model (combine op x y) names made

abbrev pub Multiplies : Model → Option TypeRows → Option TypeRows → Option TypeRows → Type 0
Multiplies model a b made = (x y : Term) (m n : Multiplicity) (names : NameRows) → Typed model x names a → Typed model y names b → Typed model (product x m n y) names made

abbrev pub Chooses : Model → Option TypeRows → Option TypeRows → Option TypeRows → Type 0
Chooses model a b made = (f : Claim) (x y : Term) (names : NameRows) → Typed model x names a → Typed model y names b → Typed model (choose_term f x y) names made

abbrev pub Applies : Model → UnaryRelation → Option TypeRows → Option TypeRows → Type 0
Applies model op a made = (x : Term) (names : NameRows) → Typed model x names a → Typed model (unary op x) names made
