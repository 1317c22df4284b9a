use Rattle.std.proofs.Common.{◌+◌, ◌∷◌, [], ℕ, List, length, ap, ◌∙◌, length-append, arith}
use Rattle.bmc_places.proofs.LoopSetLaws.{numbers_more, numbers_all}
use Rattle.bmc_places.proofs.rounds.numbers_next.Goals as goal

pub loop-place-init : goal.loop-place-init
loop-place-init c = record {
  long = ap (λ (s : List ℕ). length s) c.new-numbers.ensures.items;
  numbers = λ i j lt at. absurd (omega (arith, lt));
}

pub loop-place-preserved : goal.loop-place-preserved
loop-place-preserved c =
    let before = c.loop-place.invariant in
    let k = c.number_next-number.result in
    record {
      long = ap (λ (s : List ℕ). length s) c.in_ok-push.ensures.items ∙ length-append c.loop-place.numbers.items (k ∷ []) ∙ ap (λ (n : ℕ). n + 1) before.long;
      numbers = numbers_more c.args.row.now c.args.next.now c.args.given c.loop-place.numbers.items c.push.new.self.items k c.loop-place.place c.in_ok-push.ensures.items before.long before.numbers c.number_next-number.ensures;
    }

pub returns : goal.returns
returns c = numbers_all c.args.row.now c.args.next.now c.args.given c.loop-place.numbers.items c.loop-place.place (omega (arith, c.loop-place-test.false)) c.loop-place.invariant.numbers
