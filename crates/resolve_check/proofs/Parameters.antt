-- Parameters one after the other.
use Rattle.std.proofs.Common.{◌≡◌, ℕ, zero, suc, ◌+◌, ◌<◌, ◌≤◌, Bool, true, false, eqb, if◌then◌else◌, List, [], ◌∷◌, ◌++◌, map, take, length, get_or, Option, Some, None, slice_get, refl, sym, ap, ◌∙◌, subst, arith, eqb-true, inl, inr}
use Rattle.core_tree.specs.declared.model.Model.{Model}
use Rattle.core_tree.specs.declared.model.Parameter.{Parameter}
use Rattle.core_tree.specs.declared.model.Body.{Body}
use Rattle.core_tree.specs.declared.model.BodyForm.{BodyForm}
use Rattle.core_tree.specs.declared.model.BodyForm.TheVariants.{Test, Term as Value}
use Rattle.core_tree.specs.Trees.{term_of}
use Rattle.core_tree.specs.Columns.{Signature, Shapes, Columns, no_columns, with_columns, columns_in}
use Rattle.core_tree.specs.Models.{parameter_columns, named_columns, plain_shapes, parameters_of, result_of, signature_of, shapes_of, AnyField, IsRightBound, AreRightParameters}
use Rattle.resolve_check.specs.Parameters.{names_behind, result_under, signature_under}

-- what the first says, else the second
abbrev or_else : Option ℕ → Option ℕ → Option ℕ
or_else (Some n) o = Some n
or_else None o = o

named_below : (ns : List ℕ) (k y : ℕ) → y < k → named_columns ns k y ≡ None
named_below [] k y lt = refl
named_below (n ∷ ns) k y lt = by (eqb y k) refl (named_below ns (suc k) y (omega (arith, lt)))
  where
    by : (b : Bool) → eqb y k ≡ b → named_columns ns (suc k) y ≡ None → (if b then Some n else named_columns ns (suc k) y) ≡ None
    by true e rest = let same = eqb-true y k e in absurd (omega (arith, lt, same))
    by false e rest = rest

choose : (b : Bool) (n : ℕ) (o rest : Option ℕ) → (b ≡ true → o ≡ None) → or_else o (if b then Some n else rest) ≡ or_else (if b then Some n else o) rest
choose true n o rest none = ap (λ p. or_else p (Some n)) (none refl)
choose false n o rest none = refl

module _ (shapes : Shapes) where
  behind_names : (ps : List Parameter) (k : ℕ) (names : Columns) (y : ℕ) → names_behind shapes ps k names y ≡ or_else (named_columns (parameter_columns shapes ps k names) k y) (names y)
  behind_names [] k names y = refl
  behind_names (p ∷ ps) k names y =
      behind_names ps (suc k) (with_columns names k (columns_in shapes (term_of p.bound.expr) names)) y
      ∙ choose (eqb y k) (columns_in shapes (term_of p.bound.expr) names) (named_columns (parameter_columns shapes ps (suc k) (with_columns names k (columns_in shapes (term_of p.bound.expr) names))) (suc k) y) (names y)
      (λ e. named_below (parameter_columns shapes ps (suc k) (with_columns names k (columns_in shapes (term_of p.bound.expr) names))) (suc k) y (let same = eqb-true y k e in omega (arith, same)))

  or_none : (o : Option ℕ) → or_else o None ≡ o
  or_none None = refl
  or_none (Some n) = refl

  -- the names behind parameters are the parameters as names
  pub behind_are_named : (ps : List Parameter) → names_behind shapes ps 0 no_columns ≡ named_columns (parameter_columns shapes ps 0 no_columns) 0
  behind_are_named ps = λ i y. (behind_names ps 0 no_columns y ∙ or_none (named_columns (parameter_columns shapes ps 0 no_columns) 0 y)) i

abbrev made : Model → Body → Option ℕ → Signature
made model body r = record { parameters = parameters_of model body; result = r; rank = body.rank }

module _ (model : Model) where
  result_same : (form : BodyForm) (names : Columns) → result_under (plain_shapes model) form names ≡ result_of model form names
  result_same (Test f) names = refl
  result_same (Value e bound) names = refl

  pub signature_same : (body : Body) → signature_under (plain_shapes model) body ≡ signature_of model body
  signature_same body = ap (made model body) (ap (result_under (plain_shapes model) body.form) (behind_are_named (plain_shapes model) body.parameters) ∙ result_same body.form (named_columns (parameters_of model body) 0))

  pub signatures_same : (bodies : List Body) → map (signature_under (plain_shapes model)) bodies ≡ map (signature_of model) bodies
  signatures_same [] = refl
  signatures_same (b ∷ bs) = ap (λ s. s ∷ map (signature_under (plain_shapes model)) bs) (signature_same b) ∙ ap (λ ss. signature_of model b ∷ ss) (signatures_same bs)

  -- bounds that are right one by one, behind the parameters before them
  pub right_by_places : (ps : List Parameter) (k : ℕ) (names : Columns) → ((i : ℕ) (p : Parameter) → slice_get ps i ≡ Some p → IsRightBound model AnyField p.bound (names_behind (plain_shapes model) (take i ps) k names)) → AreRightParameters model ps k names
  right_by_places [] k names each = tt
  right_by_places (p ∷ ps) k names each = (each 0 p refl, right_by_places ps (suc k) (with_columns names k (columns_in (plain_shapes model) (term_of p.bound.expr) names)) (λ i q at. each (suc i) q at))
