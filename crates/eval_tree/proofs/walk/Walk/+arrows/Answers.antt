use Rattle.std.proofs.Common.{◌↔◌, ◌++◌, ◌∙◌, Some, IsTrue, sym, ap, inl, inr, arith}
use Rattle.core_tree.specs.Trees.{term_of}
use Rattle.core_tuples.specs.Sets.{In}
use Rattle.core_window.proofs.SameLemmas.{same_trans}
use Rattle.eval_steps.specs.Judged.{scope_names, FitsAfter, FitsBefore, GoesAfter, GoesBefore}
use Rattle.eval_tree.proofs.FoundLemmas.{if_ok_to, said_true, said_false}
use Rattle.eval_tree.proofs.ListCases.{arrow_fails, arrow_fits, fits_yes, read_set}
use Rattle.eval_tree.proofs.FitsLaw.{tuples_none, tuples_more, tuples_all, tuples_fail, after_any, before_any, after_is, before_is, goes_yes, goes_no}
use Rattle.eval_tree.proofs.walk.Walk.+arrows.Goals as goal

pub fits-returns-then-not-after : goal.fits-returns-then-not-after
fits-returns-then-not-after g t c =
    arrow_fails c.args.self.now.judge.now (scope_names c.args.self.now.judge.now c.args.scope.now) c.args.position (term_of c.args.bound.now) (term_of c.in-Sides.a.now) (term_of c.in-Sides.b.now) _ _ (rw c.in-Sides.is at c.arrow_of.ensures) (λ t. In t c.args.set.now) (said_false c.in_ok-after-in-Sides.after c.in_ok-after-in-Sides.ensures c.if-not-after.true)

pub fits-returns-else-not-after : goal.fits-returns-else-not-after
fits-returns-else-not-after g t c =
    arrow_fits c.args.self.now.judge.now (scope_names c.args.self.now.judge.now c.args.scope.now) c.args.position (term_of c.args.bound.now) (term_of c.in-Sides.a.now) (term_of c.in-Sides.b.now) _ _ (rw c.in-Sides.is at c.arrow_of.ensures) (λ t. In t c.args.set.now) (said_true c.in_ok-after-in-Sides.after c.in_ok-after-in-Sides.ensures c.if-not-after.false) _ c.fits_before.result c.fits_before.ensures

pub fits-returns-in-Other : goal.fits-returns-in-Other
fits-returns-in-Other g t c =
    fits_yes c.args.self.now.judge.now (scope_names c.args.self.now.judge.now c.args.scope.now) c.args.position (term_of c.args.bound.now) (rw c.in-Other.is at c.arrow_of.ensures) (λ t. In t c.args.set.now)

pub each_after-loop-place-init : goal.each_after-loop-place-init
each_after-loop-place-init g t c =
    tuples_none (GoesAfter c.args.self.now.judge.now c.args.word (term_of c.args.other.now) (scope_names c.args.self.now.judge.now c.args.scope.now) c.args.position (λ u. In u c.args.set.now)) c.args.sides.now.tuples

pub each_after-returns-then-not-may : goal.each_after-returns-then-not-may
each_after-returns-then-not-may g t c =
    tuples_fail (GoesAfter c.args.self.now.judge.now c.args.word (term_of c.args.other.now) (scope_names c.args.self.now.judge.now c.args.scope.now) c.args.position (λ u. In u c.args.set.now)) c.args.sides.now.tuples c.loop-place.place c.numbers-numbers.result.now (omega arith) (c.tuple-tuple.ensures ∙ ap Some (sym c.numbers-numbers.ensures)) (goes_no c.args.self.now.judge.now c.args.word (term_of c.args.other.now) (scope_names c.args.self.now.judge.now c.args.scope.now) c.args.position c.in_ok-rest.rest (λ u. In (c.numbers-numbers.result.now ++ u) c.args.set.now) c.in_ok-rest.ensures (inl (said_false c.has_multiplicity-may.result c.has_multiplicity-may.ensures c.if-not-may.true)))

pub each_after-returns-then-not-fits : goal.each_after-returns-then-not-fits
each_after-returns-then-not-fits g t c =
    tuples_fail (GoesAfter c.args.self.now.judge.now c.args.word (term_of c.args.other.now) (scope_names c.args.self.now.judge.now c.args.scope.now) c.args.position (λ u. In u c.args.set.now)) c.args.sides.now.tuples c.loop-place.place c.numbers-numbers.result.now (omega arith) (c.tuple-tuple.ensures ∙ ap Some (sym c.numbers-numbers.ensures)) (goes_no c.args.self.now.judge.now c.args.word (term_of c.args.other.now) (scope_names c.args.self.now.judge.now c.args.scope.now) c.args.position c.in_ok-rest.rest (λ u. In (c.numbers-numbers.result.now ++ u) c.args.set.now) c.in_ok-rest.ensures (inr (said_false c.in_ok-fits.fits c.in_ok-fits.ensures c.if-not-fits.true)))

pub each_after-loop-place-preserved : goal.each_after-loop-place-preserved
each_after-loop-place-preserved g t c =
    tuples_more (GoesAfter c.args.self.now.judge.now c.args.word (term_of c.args.other.now) (scope_names c.args.self.now.judge.now c.args.scope.now) c.args.position (λ u. In u c.args.set.now)) c.args.sides.now.tuples c.loop-place.place c.numbers-numbers.result.now c.loop-place.invariant (omega arith) (c.tuple-tuple.ensures ∙ ap Some (sym c.numbers-numbers.ensures)) (goes_yes c.args.self.now.judge.now c.args.word (term_of c.args.other.now) (scope_names c.args.self.now.judge.now c.args.scope.now) c.args.position c.in_ok-rest.rest (λ u. In (c.numbers-numbers.result.now ++ u) c.args.set.now) c.in_ok-rest.ensures (said_true c.has_multiplicity-may.result c.has_multiplicity-may.ensures c.if-not-may.false) (said_true c.in_ok-fits.fits c.in_ok-fits.ensures c.if-not-fits.false))

pub each_after-returns : goal.each_after-returns
each_after-returns g t c =
    tuples_all (GoesAfter c.args.self.now.judge.now c.args.word (term_of c.args.other.now) (scope_names c.args.self.now.judge.now c.args.scope.now) c.args.position (λ u. In u c.args.set.now)) c.args.sides.now.tuples c.loop-place.place (omega arith) c.loop-place.invariant

pub fits_after-returns-then-not-some : goal.fits_after-returns-then-not-some
fits_after-returns-then-not-some g t c =
    after_any c.args.self.now.judge.now (term_of c.args.side.now) c.args.word (term_of c.args.other.now) (scope_names c.args.self.now.judge.now c.args.scope.now) c.args.position (λ u. In u c.args.set.now) (sym c.asks-some.ensures ∙ c.if-not-some.true)

pub fits_after-returns : goal.fits_after-returns
fits_after-returns g t c =
    if_ok_to _ (λ b. IsTrue b ↔ FitsAfter c.args.self.now.judge.now (term_of c.args.side.now) c.args.word (term_of c.args.other.now) (scope_names c.args.self.now.judge.now c.args.scope.now) c.args.position (λ u. In u c.args.set.now)) (λ b k. same_trans k (after_is c.args.self.now.judge.now (term_of c.args.side.now) c.args.word (term_of c.args.other.now) (scope_names c.args.self.now.judge.now c.args.scope.now) c.args.position (λ u. In u c.args.set.now) c.set_of-sides.result.now (read_set c.args.self.now.judge.now (scope_names c.args.self.now.judge.now c.args.scope.now) c.args.position c.args.side.now c.in_ok-found.found c.in_ok-found.ensures c.set_of-sides.result.now c.set_of-sides.ensures))) c.each_after.result c.each_after.ensures

pub each_before-loop-place-init : goal.each_before-loop-place-init
each_before-loop-place-init g t c =
    tuples_none (GoesBefore c.args.self.now.judge.now c.args.word (term_of c.args.other.now) (scope_names c.args.self.now.judge.now c.args.scope.now) c.args.position (λ u. In u c.args.set.now)) c.args.sides.now.tuples

pub each_before-returns-then-not-may : goal.each_before-returns-then-not-may
each_before-returns-then-not-may g t c =
    tuples_fail (GoesBefore c.args.self.now.judge.now c.args.word (term_of c.args.other.now) (scope_names c.args.self.now.judge.now c.args.scope.now) c.args.position (λ u. In u c.args.set.now)) c.args.sides.now.tuples c.loop-place.place c.numbers-numbers.result.now (omega arith) (c.tuple-tuple.ensures ∙ ap Some (sym c.numbers-numbers.ensures)) (goes_no c.args.self.now.judge.now c.args.word (term_of c.args.other.now) (scope_names c.args.self.now.judge.now c.args.scope.now) c.args.position c.in_ok-rest.rest (λ u. In (u ++ c.numbers-numbers.result.now) c.args.set.now) c.in_ok-rest.ensures (inl (said_false c.has_multiplicity-may.result c.has_multiplicity-may.ensures c.if-not-may.true)))

pub each_before-returns-then-not-fits : goal.each_before-returns-then-not-fits
each_before-returns-then-not-fits g t c =
    tuples_fail (GoesBefore c.args.self.now.judge.now c.args.word (term_of c.args.other.now) (scope_names c.args.self.now.judge.now c.args.scope.now) c.args.position (λ u. In u c.args.set.now)) c.args.sides.now.tuples c.loop-place.place c.numbers-numbers.result.now (omega arith) (c.tuple-tuple.ensures ∙ ap Some (sym c.numbers-numbers.ensures)) (goes_no c.args.self.now.judge.now c.args.word (term_of c.args.other.now) (scope_names c.args.self.now.judge.now c.args.scope.now) c.args.position c.in_ok-rest.rest (λ u. In (u ++ c.numbers-numbers.result.now) c.args.set.now) c.in_ok-rest.ensures (inr (said_false c.in_ok-fits.fits c.in_ok-fits.ensures c.if-not-fits.true)))

pub each_before-loop-place-preserved : goal.each_before-loop-place-preserved
each_before-loop-place-preserved g t c =
    tuples_more (GoesBefore c.args.self.now.judge.now c.args.word (term_of c.args.other.now) (scope_names c.args.self.now.judge.now c.args.scope.now) c.args.position (λ u. In u c.args.set.now)) c.args.sides.now.tuples c.loop-place.place c.numbers-numbers.result.now c.loop-place.invariant (omega arith) (c.tuple-tuple.ensures ∙ ap Some (sym c.numbers-numbers.ensures)) (goes_yes c.args.self.now.judge.now c.args.word (term_of c.args.other.now) (scope_names c.args.self.now.judge.now c.args.scope.now) c.args.position c.in_ok-rest.rest (λ u. In (u ++ c.numbers-numbers.result.now) c.args.set.now) c.in_ok-rest.ensures (said_true c.has_multiplicity-may.result c.has_multiplicity-may.ensures c.if-not-may.false) (said_true c.in_ok-fits.fits c.in_ok-fits.ensures c.if-not-fits.false))

pub each_before-returns : goal.each_before-returns
each_before-returns g t c =
    tuples_all (GoesBefore c.args.self.now.judge.now c.args.word (term_of c.args.other.now) (scope_names c.args.self.now.judge.now c.args.scope.now) c.args.position (λ u. In u c.args.set.now)) c.args.sides.now.tuples c.loop-place.place (omega arith) c.loop-place.invariant

pub fits_before-returns-then-not-some : goal.fits_before-returns-then-not-some
fits_before-returns-then-not-some g t c =
    before_any c.args.self.now.judge.now (term_of c.args.side.now) c.args.word (term_of c.args.other.now) (scope_names c.args.self.now.judge.now c.args.scope.now) c.args.position (λ u. In u c.args.set.now) (sym c.asks-some.ensures ∙ c.if-not-some.true)

pub fits_before-returns : goal.fits_before-returns
fits_before-returns g t c =
    if_ok_to _ (λ b. IsTrue b ↔ FitsBefore c.args.self.now.judge.now (term_of c.args.side.now) c.args.word (term_of c.args.other.now) (scope_names c.args.self.now.judge.now c.args.scope.now) c.args.position (λ u. In u c.args.set.now)) (λ b k. same_trans k (before_is c.args.self.now.judge.now (term_of c.args.side.now) c.args.word (term_of c.args.other.now) (scope_names c.args.self.now.judge.now c.args.scope.now) c.args.position (λ u. In u c.args.set.now) c.set_of-sides.result.now (read_set c.args.self.now.judge.now (scope_names c.args.self.now.judge.now c.args.scope.now) c.args.position c.args.side.now c.in_ok-found.found c.in_ok-found.ensures c.set_of-sides.result.now c.set_of-sides.ensures))) c.each_before.result c.each_before.ensures
