use Rattle.std.proofs.Common.{◌∙◌, refl, sym, arith}
use Rattle.bmc_places.proofs.RestLaws.{behind_some, behind_none, short_behind}
use Rattle.bmc_places.proofs.rests.behind_numbers.Goals as goal

pub returns-then-all-numbers-clause-none : goal.returns-then-all-numbers-clause-none
returns-then-all-numbers-clause-none c = λ u e. short_behind c.numbers-all.result.now c.args.numbers.now u (omega (arith, c.if-all-numbers.true)) (c.numbers-all.ensures ∙ e)

pub returns-then-not-same-clause-none : goal.returns-then-not-same-clause-none
returns-then-not-same-clause-none c = λ u e. behind_none c.numbers-all.result.now c.args.numbers.now _ u _ refl c.split_at.ensures.front (sym c.same_numbers-same.ensures ∙ c.if-not-same.true) (c.numbers-all.ensures ∙ e)

pub returns-clause-some : goal.returns-clause-some
returns-clause-some c = sym c.numbers-all.ensures ∙ behind_some c.numbers-all.result.now c.args.numbers.now _ _ c.in_ok-rest.rest _ c.split_at.ensures.front c.split_at.ensures.back (sym c.same_numbers-same.ensures ∙ c.if-not-same.false) c.in_ok-rest.ensures
