use Rattle.std.proofs.Common.{arith, ◌≡◌, ◌≤◌, ◌+◌, ◌++◌, ℕ, List, All, length, ap, sym, subst, ◌∙◌, take_all}
use Rattle.std.specs.List.{list_any}
use Rattle.core_tuples.specs.Sets.{IsPaired, is_same}
use Rattle.core_tuples.specs.Merged.{any_paired}
use Rattle.core_tuples.proofs.JoinLaw.{any_more, glued_columns, tuple_fits, paired_means}
use Rattle.core_tuples.proofs.JustLaw.{gathered_made}
use Rattle.core_tuples.proofs.joins.product.Goals as goal

pub loop-tuple-preserved : goal.loop-tuple-preserved
loop-tuple-preserved c =
    let a = c.args.a.now in
    let b = c.args.b.now in
    let n = c.numbers.result.now in
    let s = c.tuple-item.result in
    let left = c.keyed-left.result.now in
    let right = c.keyed-right.result.now in
    let fits = tuple_fits a left c.loop-tuple.tuple-index s n c.keyed-left.ensures.set c.keyed-left.ensures.all c.loop-tuple-test.true c.tuple-item.is c.numbers.ensures.same in
    record {
      columns = c.in_ok-add_row.ensures.columns (a.arity + b.arity) c.loop-tuple.invariant.columns
          (glued_columns n 0 b.arity (a.arity + b.arity) right (subst (λ (es : List (List ℕ)). All (λ t. length t ≡ b.arity) es) (sym c.keyed-right.ensures.all) c.keyed-right.ensures.set.columns)
          (omega (arith, fits.0)));
      numbers = c.in_ok-add_row.ensures.numbers c.loop-tuple.invariant.numbers;
      tests = λ p. any_more (λ t. list_any (λ u. p (t ++ u)) right) left c.loop-tuple.tuple-index s _ _ _
          (c.in_ok-add_row.ensures.tests p) (c.loop-tuple.invariant.tests p)
          (ap (λ (t : List ℕ). list_any (λ u. p (t ++ u)) right) c.numbers.ensures.same)
          c.loop-tuple-test.true c.tuple-item.is;
    }

pub returns : goal.returns
returns c =
    let a = c.args.a.now in
    let b = c.args.b.now in
    let left = c.keyed-left.result.now in
    let right = c.keyed-right.result.now in
    let over : length left ≤ c.loop-tuple.tuple-index = omega arith in
    gathered_made c.set_of.result (c.arity.result + c.arity-2.result) (a.arity + b.arity) c.loop-tuple.all.items (IsPaired a b) (λ p. any_paired p a.tuples b.tuples)
    (ap (λ (m : ℕ). m + c.arity-2.result) c.arity.ensures.columns ∙ ap (λ (m : ℕ). a.arity + m) c.arity-2.ensures.columns)
    c.set_of.ensures.arity c.set_of.ensures.truth
    (λ t. c.loop-tuple.invariant.tests (λ y. is_same y t) ∙ ap (λ (xs : List (List ℕ)). any_paired (λ y. is_same y t) xs right) (take_all c.loop-tuple.tuple-index left over ∙ c.keyed-left.ensures.all) ∙ ap (λ (ys : List (List ℕ)). any_paired (λ y. is_same y t) a.tuples ys) c.keyed-right.ensures.all)
    (λ t. paired_means a b t)
