use Rattle.std.proofs.Common.{◌≡◌, drop}
use Rattle.load_state.specs.Keys.{answer_in}
use Rattle.load_state.proofs.loading.answer_to.Given as goal

abbrev pub invariant-loop-answer : goal.invariant-loop-answer
invariant-loop-answer l = answer_in l.asked l.name ≡ answer_in (drop l.answer-index l.asked) l.name
