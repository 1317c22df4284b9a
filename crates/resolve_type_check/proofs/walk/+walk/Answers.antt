use Rattle.std.proofs.Common.{◌≡◌, [], ◌∷◌, List, length, Option, IfOk, IfSome, refl, ap, ap₂, ◌∙◌, subst}
use Rattle.core_tree.specs.declared.model.Sig.{Sig as ModelSig}
use Rattle.core_tree.specs.declared.model.Column.TheVariants.{Int as IntColumn}
use Rattle.core_tree.specs.Trees.{term_of}
use Rattle.core_tree.specs.Types.{TypeRows, with_rows, sig_rows, typed_as, top_rows, row_pairs, rows_or_none}
use Rattle.std.specs.List.{slice_get}
use Rattle.resolve_type_check.specs.declared.names.NamedRows.{NamedRows}
use Rattle.resolve_type_check.specs.Names.{names_of, IsTypeOf}
use Rattle.resolve_type_check.specs.Forms.{Typed}
use Rattle.resolve_type_check.proofs.Typing.{so_far_more}
use Rattle.resolve_type_check.proofs.WalkEnds.{sig_typed, fixed_end, same_end, name_end, prime_end, unary_end, combine_end, product_end, choose_end, variables_end, let_end}
use Rattle.resolve_type_check.proofs.walk.+walk.Goals as goal

pub type_of-returns-in_ok-rows_of_named-in-Sig : goal.type_of-returns-in_ok-rows_of_named-in-Sig
type_of-returns-in_ok-rows_of_named-in-Sig t c =
    let sigs = c.args.model.now.sigs in
    same_end c.args.model.now (names_of c.args.names.now) c.args.expr.now (sig_rows sigs (length sigs) (typed_as sigs c.in-Sig.sig)) c.in_ok-rows_of_named-in-Sig.field-0 c.in-Sig.is (λ n. refl)
    (sig_typed sigs c.as_slice-sigs.result.now c.in-Sig.sig c.in_ok-rows_of_named-in-Sig.field-0 c.as_slice-sigs.ensures c.in_ok-rows_of_named-in-Sig.ensures)

pub type_of-returns-in_ok-rows_of_field-in-Field : goal.type_of-returns-in_ok-rows_of_field-in-Field
type_of-returns-in_ok-rows_of_field-in-Field t c = fixed_end c.args.model.now (names_of c.args.names.now) c.args.expr.now (rows_or_none (slice_get c.args.model.now.fields c.in-Field.field)) c.in_ok-rows_of_field-in-Field.field-0 c.in-Field.is (λ n. refl) c.in_ok-rows_of_field-in-Field.ensures

pub type_of-returns-in_ok-rows_copy-in-Name : goal.type_of-returns-in_ok-rows_copy-in-Name
type_of-returns-in_ok-rows_copy-in-Name t c = name_end c.args.model.now (names_of c.args.names.now) c.args.expr.now c.in-Name.name c.in_ok-rows_copy-in-Name.field-0 c.in-Name.is (c.in_ok-rows_copy-in-Name.ensures ∙ c.look_up.ensures)

pub type_of-returns-in_ok-rows_of_tops-in-Univ : goal.type_of-returns-in_ok-rows_of_tops-in-Univ
type_of-returns-in_ok-rows_of_tops-in-Univ t c =
    let rows = λ (l : List ModelSig). top_rows l 0 in
    fixed_end c.args.model.now (names_of c.args.names.now) c.args.expr.now (rows c.args.model.now.sigs) c.in_ok-rows_of_tops-in-Univ.field-0 c.in-Univ.is (λ n. refl) (c.in_ok-rows_of_tops-in-Univ.ensures ∙ ap rows c.as_slice-sigs.ensures)

pub type_of-returns-in_ok-pairs_of_tops-in-Iden : goal.type_of-returns-in_ok-pairs_of_tops-in-Iden
type_of-returns-in_ok-pairs_of_tops-in-Iden t c =
    let rows = λ (l : List ModelSig). row_pairs (top_rows l 0) (top_rows l 0) in
    fixed_end c.args.model.now (names_of c.args.names.now) c.args.expr.now (rows c.args.model.now.sigs) c.in_ok-pairs_of_tops-in-Iden.field-0 c.in-Iden.is (λ n. refl) (c.in_ok-pairs_of_tops-in-Iden.ensures ∙ ap rows c.as_slice-sigs.ensures)

pub type_of-returns-in-Empty : goal.type_of-returns-in-Empty
type_of-returns-in-Empty t c = fixed_end c.args.model.now (names_of c.args.names.now) c.args.expr.now [] c.new.result c.in-Empty.is (λ n. refl) c.new.ensures

pub type_of-returns-in_ok-int_rows-in-Int : goal.type_of-returns-in_ok-int_rows-in-Int
type_of-returns-in_ok-int_rows-in-Int t c = fixed_end c.args.model.now (names_of c.args.names.now) c.args.expr.now ((IntColumn ∷ []) ∷ []) c.in_ok-int_rows-in-Int.field-0 c.in-Int.is (λ n. refl) c.in_ok-int_rows-in-Int.ensures

pub type_of-returns-in_ok-int_rows-in-Number : goal.type_of-returns-in_ok-int_rows-in-Number
type_of-returns-in_ok-int_rows-in-Number t c = fixed_end c.args.model.now (names_of c.args.names.now) c.args.expr.now ((IntColumn ∷ []) ∷ []) c.in_ok-int_rows-in-Number.field-0 c.in-Number.is (λ n. refl) c.in_ok-int_rows-in-Number.ensures

pub type_of-returns-in_ok-int_rows-in-Count : goal.type_of-returns-in_ok-int_rows-in-Count
type_of-returns-in_ok-int_rows-in-Count t c = fixed_end c.args.model.now (names_of c.args.names.now) c.args.expr.now ((IntColumn ∷ []) ∷ []) c.in_ok-int_rows-in-Count.field-0 c.in-Count.is (λ n. refl) c.in_ok-int_rows-in-Count.ensures

pub type_of-returns-in_ok-int_rows-in-Arithmetic : goal.type_of-returns-in_ok-int_rows-in-Arithmetic
type_of-returns-in_ok-int_rows-in-Arithmetic t c = fixed_end c.args.model.now (names_of c.args.names.now) c.args.expr.now ((IntColumn ∷ []) ∷ []) c.in_ok-int_rows-in-Arithmetic.field-0 c.in-Arithmetic.is (λ n. refl) c.in_ok-int_rows-in-Arithmetic.ensures

pub type_of-returns-in_ok-int_rows-in-Sum : goal.type_of-returns-in_ok-int_rows-in-Sum
type_of-returns-in_ok-int_rows-in-Sum t c = fixed_end c.args.model.now (names_of c.args.names.now) c.args.expr.now ((IntColumn ∷ []) ∷ []) c.in_ok-int_rows-in-Sum.field-0 c.in-Sum.is (λ n. refl) c.in_ok-int_rows-in-Sum.ensures

pub type_of-returns-in-Prime : goal.type_of-returns-in-Prime
type_of-returns-in-Prime t c = prime_end c.args.model.now (names_of c.args.names.now) c.args.expr.now c.type_of-in-Prime.result c.in-Prime.a c.deref-in-Prime.result.now c.in-Prime.is c.deref-in-Prime.ensures c.type_of-in-Prime.ensures

pub type_of-returns-in_ok-type_of-in-Combine-2 : goal.type_of-returns-in_ok-type_of-in-Combine-2
type_of-returns-in_ok-type_of-in-Combine-2 t c = combine_end c.args.model.now (names_of c.args.names.now) c.args.expr.now c.combine_types.result c.in-Combine.a c.in-Combine.b c.deref.result.now c.deref-in-Combine.result.now c.in_ok-type_of-in-Combine.field-0 c.in_ok-type_of-in-Combine-2.field-0 c.deref.ensures c.deref-in-Combine.ensures c.in_ok-type_of-in-Combine.ensures c.in_ok-type_of-in-Combine-2.ensures c.in-Combine.op c.in-Combine.is c.combine_types.ensures

pub type_of-returns-in_ok-type_of-in-Product-2 : goal.type_of-returns-in_ok-type_of-in-Product-2
type_of-returns-in_ok-type_of-in-Product-2 t c = product_end c.args.model.now (names_of c.args.names.now) c.args.expr.now c.product_types.result c.in-Product.a c.in-Product.b c.deref-in-Product.result.now c.deref-in-Product-2.result.now c.in_ok-type_of-in-Product.field-0 c.in_ok-type_of-in-Product-2.field-0 c.deref-in-Product.ensures c.deref-in-Product-2.ensures c.in_ok-type_of-in-Product.ensures c.in_ok-type_of-in-Product-2.ensures c.in-Product.field-1 c.in-Product.field-2 c.in-Product.is c.product_types.ensures

pub type_of-returns-in_ok-type_of-in-Choose-2 : goal.type_of-returns-in_ok-type_of-in-Choose-2
type_of-returns-in_ok-type_of-in-Choose-2 t c = choose_end c.args.model.now (names_of c.args.names.now) c.args.expr.now c.either_types.result c.in-Choose.a c.in-Choose.b c.deref-in-Choose.result.now c.deref-in-Choose-2.result.now c.in_ok-type_of-in-Choose.field-0 c.in_ok-type_of-in-Choose-2.field-0 c.deref-in-Choose.ensures c.deref-in-Choose-2.ensures c.in_ok-type_of-in-Choose.ensures c.in_ok-type_of-in-Choose-2.ensures c.in-Choose.field-0 c.in-Choose.is c.either_types.ensures

pub type_of-returns-in_ok-type_of-in-Unary : goal.type_of-returns-in_ok-type_of-in-Unary
type_of-returns-in_ok-type_of-in-Unary t c = unary_end c.args.model.now (names_of c.args.names.now) c.args.expr.now c.turn_types.result c.in-Unary.op c.in-Unary.a c.deref-in-Unary.result.now c.in_ok-type_of-in-Unary.field-0 c.in-Unary.is c.deref-in-Unary.ensures c.in_ok-type_of-in-Unary.ensures c.turn_types.ensures

pub type_of-returns-in-Comprehension : goal.type_of-returns-in-Comprehension
type_of-returns-in-Comprehension t c = variables_end c.args.model.now (names_of c.args.names.now) c.args.expr.now c.type_of_variables.result c.in-Comprehension.variables c.in-Comprehension.field-1 c.as_slice.result.now c.in-Comprehension.is c.as_slice.ensures.value c.type_of_variables.ensures

pub type_of-returns-in_ok-inner-in-Some : goal.type_of-returns-in_ok-inner-in-Some
type_of-returns-in_ok-inner-in-Some t c =
    let named : names_of c.in_ok-inner-in-Some.inner ≡ with_rows (names_of c.args.names.now) c.in-Let.name c.in-Some.rows = ap names_of c.in_ok-inner-in-Some.ensures ∙ ap (λ (r : TypeRows). with_rows (names_of c.args.names.now) c.in-Let.name r) c.as_slice-in-Some.ensures in
    let_end c.args.model.now (names_of c.args.names.now) c.args.expr.now c.type_of-in-Some.result c.in-Let.name c.in-Let.a c.in-Let.b c.deref-in-Let.result.now c.deref-in-Some.result.now c.in_ok-type_of-in-Let.field-0 c.in-Some.rows c.in_ok-inner-in-Some.inner c.in-Let.is c.deref-in-Let.ensures c.deref-in-Some.ensures c.in-Some.is c.in_ok-type_of-in-Let.ensures named
    (subst (λ (l : List NamedRows). IfOk c.type_of-in-Some.result (Typed c.args.model.now (term_of c.deref-in-Some.result.now) (names_of l))) c.as_slice-in-Some-2.ensures c.type_of-in-Some.ensures)

pub type_of_variables-loop-variable-preserved : goal.type_of_variables-loop-variable-preserved
type_of_variables-loop-variable-preserved t c =
    let model = c.args.model.now in
    let v = c.variable-item.result in
    let bound = subst (λ (l : List NamedRows). IsTypeOf model (term_of v.bound) (names_of l) c.in-Some.rows) c.as_slice.ensures (subst (λ (o : Option TypeRows). IfSome o (IsTypeOf model (term_of v.bound) (names_of c.as_slice.result.now))) c.in-Some.is c.in_ok-type_of.ensures) in
    let made : c.in_ok-all-in-Some.all ≡ row_pairs c.loop-variable.all c.in-Some.rows = c.in_ok-all-in-Some.ensures ∙ ap₂ row_pairs c.as_slice-in-Some.ensures c.as_slice-in-Some-2.ensures in
    let named : names_of c.in_ok-inner-in-Some.inner ≡ with_rows (names_of c.loop-variable.inner) v.name c.in-Some.rows = ap names_of c.in_ok-inner-in-Some.ensures ∙ ap₂ (λ (l : List NamedRows) (r : TypeRows). with_rows (names_of l) v.name r) c.as_slice-in-Some-3.ensures c.as_slice-in-Some-4.ensures in
    so_far_more model c.args.list.now c.loop-variable.variable-index v (names_of c.args.names.now) (names_of c.loop-variable.inner) (names_of c.in_ok-inner-in-Some.inner) c.loop-variable.all c.in-Some.rows c.in_ok-all-in-Some.all c.loop-variable-test.true c.variable-item.is c.loop-variable.invariant bound made named
