use Rattle.std.proofs.Common.{Bool, ap, sym, ◌∙◌, refl}
use Rattle.bound_definitions.specs.Places.{place_if}
use Rattle.bound_definitions.specs.Rules.{in_root}
use Rattle.bound_scopes.proofs.Ranges.{at_least, at_most}
use Rattle.bound_scopes.proofs.limits.in_range.Goals as goal

pub returns-in-None-clause-ok : goal.returns-in-None-clause-ok
returns-in-None-clause-ok c = rw c.in-None.is refl

pub returns-else-is_outside-clause-range : goal.returns-else-is_outside-clause-range
returns-else-is_outside-clause-range c =
    (at_least c.in-Some.entry.number c.args.greatest (sym c.is_outside.ensures ∙ c.if-is_outside.false), at_most c.in-Some.entry.number c.args.greatest (sym c.is_outside.ensures ∙ c.if-is_outside.false))

pub returns-else-is_outside-clause-ok : goal.returns-else-is_outside-clause-ok
returns-else-is_outside-clause-ok c = rw c.in-Some.is (ap (λ (b : Bool). place_if b (in_root c.in-Some.entry.place)) (sym c.is_outside.ensures ∙ c.if-is_outside.false))

pub returns-then-is_outside-clause-refused : goal.returns-then-is_outside-clause-refused
returns-then-is_outside-clause-refused c =
    (in_root c.in-Some.entry.place, rw c.in-Some.is (ap (λ (b : Bool). place_if b (in_root c.in-Some.entry.place)) (sym c.is_outside.ensures ∙ c.if-is_outside.true)), c.refused.ensures)
