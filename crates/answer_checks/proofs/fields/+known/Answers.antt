use Rattle.std.proofs.Common.{◌≤◌, List, length, IfOk, refl, subst, arith}
use Rattle.std.proofs.lemmas.Option.{slice_get_read}
use Rattle.core_tree.specs.Trees.{claim_of}
use Rattle.resolve_type_check.specs.declared.names.NamedRows.{NamedRows}
use Rattle.resolve_type_check.specs.Names.{names_of}
use Rattle.bound_laws.specs.Placed.{Places}
use Rattle.answer_checks.proofs.Placings.{places_more, places_all, within_places, let_end, every_places, counted_end}
use Rattle.answer_checks.proofs.fields.+known.Goals as goal

pub known_after-returns-in-Within : goal.known_after-returns-in-Within
known_after-returns-in-Within t c =
    rw c.in-Within.is (within_places c.args.model.now c.in-Within.place c.in-Within.field-1 c.in-Within.bound c.deref.result.now c.deref-in-Within.result.now (names_of c.args.names.now) c.args.known c.after_bound.result c.deref.ensures c.deref-in-Within.ensures c.after_bound.ensures)

pub known_after-returns-in_ok-inner-in-Let : goal.known_after-returns-in_ok-inner-in-Let
known_after-returns-in_ok-inner-in-Let t c =
    rw c.in-Let.is (let_end c.args.model.now c.in-Let.name c.in-Let.e c.in-Let.f c.deref-in-Let.result.now c.deref-in-Let-2.result.now (names_of c.args.names.now) c.args.known c.known_in-in-Let.result c.in_ok-inner-in-Let.inner c.deref-in-Let.ensures c.deref-in-Let-2.ensures c.in_ok-inner-in-Let.ensures c.known_in-in-Let.ensures)

pub known_after-returns-in-Inside : goal.known_after-returns-in-Inside
known_after-returns-in-Inside t c = rw c.in-Inside.is refl

pub known_after-returns-in-Equal : goal.known_after-returns-in-Equal
known_after-returns-in-Equal t c = rw c.in-Equal.is refl

pub known_after-returns-in-Test : goal.known_after-returns-in-Test
known_after-returns-in-Test t c = rw c.in-Test.is refl

pub known_after-returns-in-Compare : goal.known_after-returns-in-Compare
known_after-returns-in-Compare t c = rw c.in-Compare.is refl

pub known_after-returns-in-Not : goal.known_after-returns-in-Not
known_after-returns-in-Not t c = rw c.in-Not.is refl

pub known_after-returns-in-Connect : goal.known_after-returns-in-Connect
known_after-returns-in-Connect t c = rw c.in-Connect.is refl

pub known_after-returns-in-Choose : goal.known_after-returns-in-Choose
known_after-returns-in-Choose t c = rw c.in-Choose.is refl

pub known_after-returns-in-ForAll : goal.known_after-returns-in-ForAll
known_after-returns-in-ForAll t c = rw c.in-ForAll.is refl

pub known_after-returns-in-Temporal : goal.known_after-returns-in-Temporal
known_after-returns-in-Temporal t c = rw c.in-Temporal.is refl

pub known_after-returns-in-TemporalPair : goal.known_after-returns-in-TemporalPair
known_after-returns-in-TemporalPair t c = rw c.in-TemporalPair.is refl

pub known_after-returns-in-Call : goal.known_after-returns-in-Call
known_after-returns-in-Call t c = rw c.in-Call.is refl

pub known_after-returns-in-Every : goal.known_after-returns-in-Every
known_after-returns-in-Every t c = rw c.in-Every.is (every_places c.args.model.now c.in-Every.list c.deref-in-Every.result.now (names_of c.args.names.now) c.args.known c.known_after_all.result c.deref-in-Every.ensures.value c.known_after_all.ensures)

pub known_after-returns-in_ok-inner-in-Counted : goal.known_after-returns-in_ok-inner-in-Counted
known_after-returns-in_ok-inner-in-Counted t c =
    rw c.in-Counted.is (counted_end c.args.model.now c.in-Counted.quantity c.in-Counted.list c.deref-in-Counted.result.now c.in-Counted.f c.deref-in-Counted-2.result.now (names_of c.args.names.now) c.args.known c.known_in.result c.in_ok-inner-in-Counted.inner c.deref-in-Counted.ensures.value c.deref-in-Counted-2.ensures c.in_ok-inner-in-Counted.ensures c.known_in.ensures)

pub known_after_all-loop-formula-init : goal.known_after_all-loop-formula-init
known_after_all-loop-formula-init t c = refl

pub known_after_all-loop-formula-preserved : goal.known_after_all-loop-formula-preserved
known_after_all-loop-formula-preserved t c =
    let xs = c.args.list.now in
    let x = c.formula-item.result in
    places_more c.args.model.now xs c.loop-formula.formula-index x (names_of c.args.names.now) c.args.known c.loop-formula.to c.in_ok-to.to (slice_get_read xs (length xs) c.loop-formula.formula-index x refl c.loop-formula-test.true c.formula-item.is) c.loop-formula.invariant c.in_ok-to.ensures

pub known_after_all-returns : goal.known_after_all-returns
known_after_all-returns t c =
    let high : length c.args.list.now ≤ c.loop-formula.formula-index = omega (arith, c.loop-formula-test.false) in
    places_all c.args.model.now c.args.list.now c.loop-formula.formula-index (names_of c.args.names.now) c.args.known c.loop-formula.to high c.loop-formula.invariant

pub known_in-returns-in-None : goal.known_in-returns-in-None
known_in-returns-in-None t c = rw c.in-None.is refl

pub known_in-returns-in-Some : goal.known_in-returns-in-Some
known_in-returns-in-Some t c = rw c.in-Some.is (subst (λ (l : List NamedRows). IfOk c.known_after.result (Places c.args.model.now (claim_of c.args.formula.now) (names_of l) c.args.known)) c.as_slice.ensures c.known_after.ensures)
