use Rattle.std.proofs.Common.{arith, ◌≡◌, ◌≤◌, ◌+◌, ◌-◌, ◌++◌, ◌&&◌, eqb, ℕ, List, All, length, drop, take, get_or, ap, sym, subst, ◌∙◌, length-take, take_all}
use Rattle.std.specs.List.{list_any}
use Rattle.std.proofs.lemmas.List.Elements.{All-take}
use Rattle.core_tuples.specs.Index.{IsNumber}
use Rattle.core_tuples.specs.Sets.{IsJoined, is_same}
use Rattle.core_tuples.specs.Merged.{last_of, front_of, any_joined}
use Rattle.core_tuples.proofs.JoinLaw.{any_more, part_all, glued_fits, glued_columns, tuple_fits, joined_means}
use Rattle.core_tuples.proofs.JustLaw.{gathered_made}
use Rattle.core_tuples.proofs.joins.join.Goals as goal

pub add_row-requires-clause-fits : goal.add_row-requires-clause-fits
add_row-requires-clause-fits c =
    let a = c.args.a.now in
    let b = c.args.b.now in
    let n = c.numbers-numbers.result.now in
    let right = c.keyed-right.result.now in
    let row = c.row_of-row.result.now in
    let fits = tuple_fits a c.keyed-left.result.now c.loop-tuple.tuple-index c.tuple-item.result n c.keyed-left.ensures.set c.keyed-left.ensures.all c.loop-tuple-test.true c.tuple-item.is c.numbers-numbers.ensures.same in
    glued_fits (take (length n - 1) n) 1 b.arity row (All-take IsNumber (length n - 1) n fits.1)
    (part_all (λ t. length t ≡ b.arity) row right c.row_of-row.ensures.part (subst (λ (es : List (List ℕ)). All (λ t. length t ≡ b.arity) es) (sym c.keyed-right.ensures.all) c.keyed-right.ensures.set.columns))
    (part_all (λ t. All IsNumber t) row right c.row_of-row.ensures.part (subst (λ (es : List (List ℕ)). All (λ t. All IsNumber t) es) (sym c.keyed-right.ensures.all) c.keyed-right.ensures.set.numbers))
    (omega (arith, length-take (length n - 1) n, fits.0))

pub loop-tuple-preserved : goal.loop-tuple-preserved
loop-tuple-preserved c =
    let a = c.args.a.now in
    let b = c.args.b.now in
    let n = c.numbers-numbers.result.now in
    let s = c.tuple-item.result in
    let left = c.keyed-left.result.now in
    let right = c.keyed-right.result.now in
    let row = c.row_of-row.result.now in
    let fits = tuple_fits a left c.loop-tuple.tuple-index s n c.keyed-left.ensures.set c.keyed-left.ensures.all c.loop-tuple-test.true c.tuple-item.is c.numbers-numbers.ensures.same in
    let least = c.keyed-left.ensures.set.least in
    let least' = c.keyed-right.ensures.set.least in
    record {
      columns = c.in_ok-add_row.ensures.columns (a.arity + b.arity - 2) c.loop-tuple.invariant.columns
          (glued_columns (take (length n - 1) n) 1 b.arity (a.arity + b.arity - 2) row
          (part_all (λ t. length t ≡ b.arity) row right c.row_of-row.ensures.part (subst (λ (es : List (List ℕ)). All (λ t. length t ≡ b.arity) es) (sym c.keyed-right.ensures.all) c.keyed-right.ensures.set.columns))
          (omega (arith, length-take (length n - 1) n, fits.0)));
      numbers = c.in_ok-add_row.ensures.numbers c.loop-tuple.invariant.numbers;
      tests = λ p. any_more (λ t. list_any (λ u. eqb (get_or u 0 0) (last_of t) && p (front_of t ++ drop 1 u)) right) left c.loop-tuple.tuple-index s _ _ _
          (c.in_ok-add_row.ensures.tests p) (c.loop-tuple.invariant.tests p)
          (c.row_of-row.ensures.tests (λ u. p (front_of n ++ drop 1 u)) ∙ ap (λ (t : List ℕ). list_any (λ u. eqb (get_or u 0 0) (last_of t) && p (front_of t ++ drop 1 u)) right) c.numbers-numbers.ensures.same)
          c.loop-tuple-test.true c.tuple-item.is;
    }

pub returns : goal.returns
returns c =
    let a = c.args.a.now in
    let b = c.args.b.now in
    let left = c.keyed-left.result.now in
    let right = c.keyed-right.result.now in
    let over : length left ≤ c.loop-tuple.tuple-index = omega arith in
    gathered_made c.set_of.result (c.arity.result + c.arity-2.result - 2) (a.arity + b.arity - 2) c.loop-tuple.all.items (IsJoined a b) (λ p. any_joined p a.tuples b.tuples)
    (ap (λ (m : ℕ). m + c.arity-2.result - 2) c.arity.ensures.columns ∙ ap (λ (m : ℕ). a.arity + m - 2) c.arity-2.ensures.columns)
    c.set_of.ensures.arity c.set_of.ensures.truth
    (λ t. c.loop-tuple.invariant.tests (λ y. is_same y t) ∙ ap (λ (xs : List (List ℕ)). any_joined (λ y. is_same y t) xs right) (take_all c.loop-tuple.tuple-index left over ∙ c.keyed-left.ensures.all) ∙ ap (λ (ys : List (List ℕ)). any_joined (λ y. is_same y t) a.tuples ys) c.keyed-right.ensures.all)
    (λ t. joined_means a b t c.keyed-left.ensures.set c.keyed-right.ensures.set)
