-- Parameters as names, one after the other.
use Rattle.std.proofs.Common.{◌≡◌, ℕ, suc, false, ◌+◌, ◌<◌, ◌≤◌, List, [], ◌∷◌, ◌++◌, map, take, length, get_or, Option, Some, None, IfSome, slice_get, refl, sym, ap, ap₂, ◌∙◌, subst, append_assoc, arith}
use Rattle.std.proofs.lemmas.List.{take_more, map-append, length-take-le, append-nil}
use Rattle.std.proofs.lemmas.Option.{get_or_from_slice_get}
use Rattle.core_tree.specs.declared.model.Model.{Model}
use Rattle.core_tree.specs.declared.model.Parameter.{Parameter}
use Rattle.core_tree.specs.declared.model.Body.{Body}
use Rattle.core_tree.specs.declared.model.Field.{Field}
use Rattle.core_tree.specs.Trees.{Term, term_of}
use Rattle.core_tree.specs.Columns.{Signature, Shapes, Columns, no_columns, with_columns, columns_in}
use Rattle.core_tree.specs.Models.{parameter_columns, parameters_of, named_columns, plain_shapes, shapes_of, signature_of, AnyField, IsRightBound, AreRightParameters}
use Rattle.resolve_check.specs.declared.names.Named.{Named}
use Rattle.resolve_check.specs.declared.shape.Shape.{Shape}
use Rattle.resolve_check.specs.declared.shape.BodyShape.{BodyShape}
use Rattle.resolve_check.specs.declared.shape.Limits.{Limits}
use Rattle.resolve_check.specs.declared.shape.Calls.TheVariants.{Any}
use Rattle.resolve_check.specs.Names.{names_of}
use Rattle.resolve_check.specs.Fits.{shapes_in, signature_in, columns_at}
use Rattle.resolve_check.specs.Parameters.{names_behind, named_next, named_after, result_under, signature_under, IsParameter}
use Rattle.resolve_check.proofs.NameLists.{over_more, whole}
use Rattle.resolve_check.proofs.Falling.{front_more}
use Rattle.resolve_check.proofs.Right.{columns_from}
use Rattle.resolve_check.proofs.Parameters.{behind_are_named, signatures_same, right_by_places}

-- what is said of the value in a `Some`
pub some_of : {X : Type 0} (P : X → Type 0) (o : Option X) (x : X) → o ≡ Some x → IfSome o P → P x
some_of {X = X} P o x is h = subst (λ (p : Option X). IfSome p P) is h

abbrev pub plain_limits : Limits
plain_limits = record { below = None; calls = Any; look = false }

pub plain_end : (shape : Shape) (limits : Limits) (t : Term) (names : Columns) (o : Option ℕ) → o ≡ columns_at shape limits t names → IfSome o (λ n. n ≡ columns_in (shapes_in shape) t names)
plain_end shape limits t names None e = tt
plain_end shape limits t names (Some n) e = sym (columns_from shape limits t names n (sym e))

abbrev named_with : ℕ → ℕ → Named
named_with x c = record { name = x; columns = c }

module _ (shapes : Shapes) where
  pub named_is : (names : List Named) (k : ℕ) (p : Parameter) (n : ℕ) (m : Named) → m ≡ record { name = k; columns = n } → n ≡ columns_in shapes (term_of p.bound.expr) (names_of names) → m ≡ named_next shapes names k p
  named_is names k p n m is e = is ∙ ap (named_with k) e

  after_last : (ps : List Parameter) (p : Parameter) (k n : ℕ) (ns : List Named) → n ≡ k + length ps → named_after shapes (ps ++ p ∷ []) k ns ≡ named_after shapes ps k ns ++ named_next shapes (named_after shapes ps k ns) n p ∷ []
  after_last [] p k n ns e = let same : k ≡ n = omega (arith, e) in ap (λ j. ns ++ named_next shapes ns j p ∷ []) same
  after_last (q ∷ ps) p k n ns e = after_last ps p (suc k) n (ns ++ named_next shapes ns k q ∷ []) (omega (arith, e))

  named_more : (l : List Parameter) (i : ℕ) (d : Parameter) → i < length l → named_after shapes (take (i + 1) l) 0 [] ≡ named_after shapes (take i l) 0 [] ++ named_next shapes (named_after shapes (take i l) 0 []) i (get_or l i d) ∷ []
  named_more l i d lt =
      let e : length (take i l) ≡ i = length-take-le i l (omega arith) in
      ap (λ ps. named_after shapes ps 0 []) (take_more l i d lt) ∙ after_last (take i l) (get_or l i d) 0 i [] (omega (arith, e))

  pub named_step : (l : List Parameter) (i : ℕ) (g : Parameter) (names : List Named) (m : Named) (more : List Named) → i < length l → g ≡ get_or l i g → names ≡ named_after shapes (take i l) 0 [] → m ≡ named_next shapes names i g → more ≡ names ++ m ∷ [] → more ≡ named_after shapes (take (i + 1) l) 0 []
  named_step l i g names m more lt item are is made =
      made ∙ ap₂ (λ (ns : List Named) (n : Named). ns ++ n ∷ []) are (is ∙ ap₂ (λ (ns : List Named) (p : Parameter). named_next shapes ns i p) are item) ∙ sym (named_more l i g lt)

  pub named_all : (l : List Parameter) (i : ℕ) → length l ≤ i → named_after shapes (take i l) 0 [] ≡ named_after shapes l 0 []
  named_all l i le = ap (λ ps. named_after shapes ps 0 []) (whole l i le)

  pub behind_of : (ps : List Parameter) (k : ℕ) (ns : List Named) → names_of (named_after shapes ps k ns) ≡ names_behind shapes ps k (names_of ns)
  behind_of [] k ns = refl
  behind_of (p ∷ ps) k ns = behind_of ps (suc k) (ns ++ named_next shapes ns k p ∷ []) ∙ ap (names_behind shapes ps (suc k)) (over_more ns no_columns (named_next shapes ns k p))

  abbrev widths : List Named → List ℕ
  widths ns = map (λ (n : Named). n.columns) ns

  columns_of : (ps : List Parameter) (k : ℕ) (ns : List Named) → widths (named_after shapes ps k ns) ≡ widths ns ++ parameter_columns shapes ps k (names_of ns)
  columns_of [] k ns = sym (append-nil (widths ns))
  columns_of (p ∷ ps) k ns =
      columns_of ps (suc k) (ns ++ named_next shapes ns k p ∷ [])
      ∙ ap₂ (λ (a : List ℕ) (f : Columns). a ++ parameter_columns shapes ps (suc k) f) (map-append (λ (n : Named). n.columns) ns (named_next shapes ns k p ∷ [])) (over_more ns no_columns (named_next shapes ns k p))
      ∙ append_assoc (widths ns) (columns_in shapes (term_of p.bound.expr) (names_of ns) ∷ []) (parameter_columns shapes ps (suc k) (with_columns (names_of ns) k (columns_in shapes (term_of p.bound.expr) (names_of ns))))

  abbrev made : List ℕ → Option ℕ → ℕ → Signature
  made columns result rank = record { parameters = columns; result = result; rank = rank }

  pub signature_is : (body : Body) (names : List Named) (columns : List ℕ) (result : Option ℕ) → names ≡ named_after shapes body.parameters 0 [] → columns ≡ map (λ (n : Named). n.columns) names → result ≡ result_under shapes body.form (names_of names) → made columns result body.rank ≡ signature_under shapes body
  signature_is body names columns result are ec er =
      ap₂ (λ (c : List ℕ) (r : Option ℕ). made c r body.rank) (ec ∙ ap widths are ∙ columns_of body.parameters 0 []) (er ∙ ap (result_under shapes body.form) (ap names_of are ∙ behind_of body.parameters 0 []))

  -- bounds that are right one by one
  pub right_step : (model : Model) (ps : List Parameter) (i : ℕ) (g : Parameter) (names : List Named) (m : Named) → g ≡ get_or ps i g → names ≡ named_after shapes (take i ps) 0 [] → IsParameter model shapes names i g m → ((k : ℕ) (p : Parameter) → k < i → slice_get ps k ≡ Some p → IsRightBound model AnyField p.bound (names_of (named_after shapes (take k ps) 0 []))) → (k : ℕ) (p : Parameter) → k < i + 1 → slice_get ps k ≡ Some p → IsRightBound model AnyField p.bound (names_of (named_after shapes (take k ps) 0 []))
  right_step model ps i g names m item are is before =
      front_more (λ k p. IsRightBound model AnyField p.bound (names_of (named_after shapes (take k ps) 0 []))) ps i before (λ x at.
      let same : g ≡ x = item ∙ get_or_from_slice_get ps i x g at in
      subst (λ (q : Parameter). IsRightBound model AnyField q.bound (names_of (named_after shapes (take i ps) 0 []))) same (subst (λ (ns : List Named). IsRightBound model AnyField g.bound (names_of ns)) are is.right))

module _ (model : Model) (plain : Shape) (same : shapes_in plain ≡ plain_shapes model) where
  pub bodies_same : (all : List BodyShape) (bodies : List Body) → map signature_in all ≡ map (signature_under (shapes_in plain)) bodies → map signature_in all ≡ map (signature_of model) bodies
  bodies_same all bodies e = e ∙ ap (λ s. map (signature_under s) bodies) same ∙ signatures_same model bodies

  abbrev made_shapes : ℕ → List ℕ → List Signature → Shapes
  made_shapes sigs fields bodies = record { sigs = sigs; fields = fields; bodies = bodies }

  pub shape_is : (n : ℕ) (fields : List ℕ) (declared : List Field) (all : List BodyShape) (bodies : List Body) → n ≡ length model.sigs → fields ≡ map (λ (f : Field). f.columns) declared → declared ≡ model.fields → map signature_in all ≡ map (signature_under (shapes_in plain)) bodies → bodies ≡ model.bodies → made_shapes n fields (map signature_in all) ≡ shapes_of model
  shape_is n fields declared all bodies en ef ed ea eb =
      ap (λ x. made_shapes x fields (map signature_in all)) en
      ∙ ap (λ x. made_shapes (length model.sigs) x (map signature_in all)) (ef ∙ ap (map (λ (f : Field). f.columns)) ed)
      ∙ ap (made_shapes (length model.sigs) (map (λ (f : Field). f.columns) model.fields)) (bodies_same all bodies ea ∙ ap (map (signature_of model)) eb)

  pub named_same : (body : Body) (names : List Named) → names ≡ named_after (shapes_in plain) body.parameters 0 [] → names_of names ≡ named_columns (parameters_of model body) 0
  named_same body names e = ap names_of e ∙ behind_of (shapes_in plain) body.parameters 0 [] ∙ ap (λ s. names_behind s body.parameters 0 no_columns) same ∙ behind_are_named (plain_shapes model) body.parameters

  pub parameters_right : (ps : List Parameter) → ((k : ℕ) (p : Parameter) → slice_get ps k ≡ Some p → IsRightBound model AnyField p.bound (names_of (named_after (shapes_in plain) (take k ps) 0 []))) → AreRightParameters model ps 0 no_columns
  parameters_right ps each =
      right_by_places model ps 0 no_columns (λ k p at.
      subst (λ s. IsRightBound model AnyField p.bound (names_behind s (take k ps) 0 no_columns)) same (subst (IsRightBound model AnyField p.bound) (behind_of (shapes_in plain) (take k ps) 0 []) (each k p at)))

  pub columns_same : (body : Body) (names : List Named) (columns : List ℕ) → names ≡ named_after (shapes_in plain) body.parameters 0 [] → columns ≡ map (λ (n : Named). n.columns) names → columns ≡ parameters_of model body
  columns_same body names columns are ec =
      ec ∙ ap (widths (shapes_in plain)) are ∙ columns_of (shapes_in plain) body.parameters 0 [] ∙ ap (λ s. parameter_columns s body.parameters 0 no_columns) same
