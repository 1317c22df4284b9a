use Rattle.std.proofs.Common.{arith, ◌≡◌, ◌≤◌, ◌+◌, ◌-◌, ◌++◌, ◌||◌, Bool, ℕ, List, All, length, drop, ap, sym, subst, ◌∙◌, length-append, length-drop, take_all}
use Rattle.std.specs.List.{list_any}
use Rattle.std.proofs.lemmas.List.Elements.{All-push}
use Rattle.core_tuples.specs.Index.{IsNumber, FitsIndex}
use Rattle.core_tuples.proofs.JoinLaw.{all_here, any_step, any_push, slice_from}
use Rattle.core_tuples.proofs.joins.add_row.Goals as goal

pub loop-tuple-preserved : goal.loop-tuple-preserved
loop-tuple-preserved c =
    let before = c.loop-tuple.invariant in
    let row = c.args.row.now in
    let i = c.loop-tuple.tuple-index in
    let u = c.tuple-item.result in
    let skip = c.args.skip in
    let head = c.args.head.now in
    let made : c.new.result ≡ head ++ drop skip u = c.new.ensures ∙ c.in_ok-tuple.ensures ∙ ap (λ (s : List ℕ). head ++ s) (slice_from skip c.numbers.result.now) ∙ ap (λ (s : List ℕ). head ++ drop skip s) c.numbers.ensures.same in
    let fits : FitsIndex (head ++ drop skip u) = all_here (λ t. FitsIndex (head ++ drop skip t)) row i u c.requires.fits c.loop-tuple-test.true c.tuple-item.is in
    record {
      columns = λ k old wide. rw c.in_ok-push.ensures.items (All-push (λ t. length t ≡ k) c.loop-tuple.all.items c.new.result (before.columns k old wide)
          (ap (λ (t : List ℕ). length t) made ∙ length-append head (drop skip u) ∙ ap (λ n. length head + n) (length-drop skip u) ∙ all_here (λ t. length head + (length t - skip) ≡ k) row i u wide c.loop-tuple-test.true c.tuple-item.is));
      numbers = λ old. rw c.in_ok-push.ensures.items (All-push (λ t. All IsNumber t) c.loop-tuple.all.items c.new.result (before.numbers old) (subst (λ (t : List ℕ). All IsNumber t) (sym made) fits.numbers));
      tests = λ p. any_step (λ t. p (head ++ drop skip t)) row i u _ _ _ _
          (ap (list_any p) c.in_ok-push.ensures.items ∙ any_push p c.loop-tuple.all.items c.new.result) (before.tests p) (ap p made) c.loop-tuple-test.true c.tuple-item.is;
    }

pub returns-clause-tests : goal.returns-clause-tests
returns-clause-tests c = λ (p : List ℕ → Bool).
    let over : length c.args.row.now ≤ c.loop-tuple.tuple-index = omega arith in
    c.loop-tuple.invariant.tests p ∙ ap (λ (ts : List (List ℕ)). list_any p c.args.all.now.items || list_any (λ t. p (c.args.head.now ++ drop c.args.skip t)) ts) (take_all c.loop-tuple.tuple-index c.args.row.now over)
