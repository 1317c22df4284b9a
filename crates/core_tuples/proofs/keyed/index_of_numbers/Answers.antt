use Rattle.std.proofs.Common.{◌≡◌, ◌<◌, ◌+◌, ◌*◌, arith, ap, sym, ◌∙◌, take, get_or}
use Rattle.core_tuples.specs.Index.{index_of}
use Rattle.core_tuples.proofs.IndexLaw.{prefix_small, prefix_more}
use Rattle.core_tuples.proofs.keyed.index_of_numbers.Goals as goal

pub overflow_mul-index : goal.overflow_mul-index
overflow_mul-index c = let b = prefix_small c.args.numbers.now c.loop-number.number-index c.requires c.loop-number-test.true in omega arith

pub overflow_add-index : goal.overflow_add-index
overflow_add-index c =
    let b = prefix_small c.args.numbers.now c.loop-number.number-index c.requires c.loop-number-test.true in
    let n : get_or c.args.numbers.now c.loop-number.number-index 0 < 16384 = c.requires.numbers c.loop-number.number-index 0 c.loop-number-test.true in
    omega (arith, c.from.ensures)

pub loop-number-preserved : goal.loop-number-preserved
loop-number-preserved c =
    let i = c.loop-number.number-index in
    let ns = c.args.numbers.now in
    let before : c.loop-number.index ≡ index_of (take i ns) = c.loop-number.invariant in
    ap (λ n. n * 16384 + c.from.result) before ∙ ap (λ n. index_of (take i ns) * 16384 + n) c.from.ensures ∙ sym (prefix_more ns i c.loop-number-test.true)
